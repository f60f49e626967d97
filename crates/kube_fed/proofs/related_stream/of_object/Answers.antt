use Rattle.std.proofs.Common.{Some, [], ◌∷◌, map, sym, ap, ◌∙◌, append-nil}
use Rattle.kube_turn.specs.Views.{message_of}
use Rattle.kube_fed.proofs.related_stream.of_object.Goals as goal

pub returns-in-Ok-clause-streamed : goal.returns-in-Ok-clause-streamed
returns-in-Ok-clause-streamed g c =
    let made = c.mapped.ensures in
    let part = map (message_of g.K.Resource.type_of) c.in-Ok.requests in
    record {
      call = ap (λ x. x.call) made;
      answer = ap (λ x. Some x.answer) made;
      items = ap (λ x. x.items) made;
      error = ap (λ x. x.error) made;
      parts = part ∷ [];
      mapped = (c.in-Ok.ensures.mapped, tt);
      requests = ap (λ x. x.requests) made ∙ sym (append-nil part);
    }
