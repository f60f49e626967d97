-- Bytes that went to a sink one piece after another.
use Rattle.std.proofs.Common.{◌≡◌, ℕ, ◌+◌, ◌-◌, ◌≤◌, append-nil, List, [], ◌++◌, Option, Some, None, refl, sym, append_assoc, arith, take, drop, length, length-drop}
use Rattle.std.proofs.lemmas.List.{take_all}
use Rattle.std.proofs.Math.Seq.{take-add}
use Rattle.std.specs.Io.KnownBytes.{Appends, Keeps}

-- what follows the first m of the bytes, as a slice
slice_from : (m : ℕ) (xs : List ℕ) → take (length xs - m) (drop m xs) ≡ drop m xs
slice_from m xs = take_all (length xs - m) (drop m xs) (rw (length-drop m xs) (omega arith))

pub written_then : (a b c : Option (List ℕ)) (m n : ℕ) (xs : List ℕ) → Appends a b (take m xs) → Appends b c (take n (take (length xs - m) (drop m xs))) → Appends a c (take (m + n) xs)
written_then None b c m n xs h k = tt
written_then (Some a) None c m n xs h k = absurd h
written_then (Some a) (Some b) None m n xs h k = absurd k
written_then (Some a) (Some b) (Some c) m n xs h k =
    rw (k, h, take-add m n xs, slice_from m xs) (append_assoc a (take m xs) (take n (drop m xs)))

pub within : (m n : ℕ) (xs : List ℕ) → m ≤ length xs → n ≤ length (take (length xs - m) (drop m xs)) → m + n ≤ length xs
within m n xs h k =
    let e : n ≤ length xs - m = rw (slice_from m xs, length-drop m xs) at k in omega arith

pub none_written : (a : Option (List ℕ)) → Appends a a []
none_written None = tt
none_written (Some a) = sym (append-nil a)

pub both_written : (a b c : Option (List ℕ)) (xs ys : List ℕ) → Appends a b xs → Appends b c ys → Appends a c (xs ++ ys)
both_written None b c xs ys h k = tt
both_written (Some a) None c xs ys h k = absurd h
both_written (Some a) (Some b) None xs ys h k = absurd k
both_written (Some a) (Some b) (Some c) xs ys h k = rw (k, h) (append_assoc a xs ys)

pub still_written : (a b c : Option (List ℕ)) (xs : List ℕ) → Appends a b xs → Keeps b c → Appends a c xs
still_written None b c xs h k = tt
still_written (Some a) None c xs h k = absurd h
still_written (Some a) (Some b) None xs h k = absurd k
still_written (Some a) (Some b) (Some c) xs h k = rw (k, h) refl
