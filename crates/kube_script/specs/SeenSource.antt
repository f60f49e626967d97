-- Pages, events and steps as they are held, seen as plain data.
use Rattle.std.specs.Prelude.{List, [], ◌∷◌, Some, option_map, Result}
use Rattle.kube_meta.specs.Reading.{ObjectData}
use Rattle.kube_meta.specs.declared.poll.Polled.TheVariants.{Ready}
use Rattle.kube_model.specs.Raw.{RawAnswer, GivesBookmark}
use Rattle.kube_model.specs.declared.error.ApiError.{ApiError}
use Rattle.kube_api.specs.Answers.{next_answer}
use Rattle.kube_api.specs.Sequences.{steps_of}
use Rattle.kube_api.specs.TestScript.{Step}
use Rattle.kube_api.specs.declared.event.Bookmark as bookmarks
use Rattle.kube_api.specs.declared.event.WatchEvent.{WatchEvent}
use Rattle.kube_api.specs.declared.sequence.SequenceStep.{SequenceStep}
use Rattle.kube_script.specs.declared.source.PageMeta as page_meta
use Rattle.kube_script.specs.declared.source.BookmarkMeta as bookmark_meta
use Rattle.kube_script.specs.declared.source.EventType as held
use Rattle.kube_script.specs.declared.source.EventType.TheVariants as types
use Rattle.kube_script.specs.Script.{PageMeta, BookmarkMeta, EventType, IsAdded, IsModified, IsDeleted, IsBookmark, IsError, IsFault}

abbrev pub seen_page_meta : page_meta.PageMeta → PageMeta
seen_page_meta m = record { version = option_map (λ t. t) m.version; token = option_map (λ t. t) m.token }

abbrev pub seen_bookmark_meta : bookmark_meta.BookmarkMeta → BookmarkMeta
seen_bookmark_meta m = record { version = m.version; annotations = m.annotations }

abbrev pub seen_bookmark : bookmarks.Bookmark → RawAnswer ObjectData
seen_bookmark b = GivesBookmark b.version b.annotations

abbrev pub seen_type : held.EventType → EventType
seen_type types.Added = IsAdded
seen_type types.Modified = IsModified
seen_type types.Deleted = IsDeleted
seen_type types.Bookmark = IsBookmark
seen_type types.Error = IsError
seen_type types.Fault = IsFault

abbrev pub seen_event : Result (WatchEvent ObjectData) ApiError → RawAnswer ObjectData
seen_event e = next_answer (Ready (Some e))

abbrev pub seen_step : SequenceStep ObjectData → List (Step ObjectData)
seen_step s = steps_of (s ∷ [])
