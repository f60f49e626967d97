-- Bytes that were taken one piece after another.
use Rattle.std.proofs.Common.{◌≡◌, ℕ, ◌+◌, ◌≤◌, ◌<◌, IfSome, subst, List, ◌++◌, Option, Some, None, refl, sym, append_assoc, take, length, length-append, Bool, true, if◌then◌else◌}
use Rattle.std.proofs.lemmas.List.{take-append-le, length-take-le}
use Rattle.std.specs.Io.KnownBytes.{Consumes}

pub taken_then : (a b c : Option (List ℕ)) (xs ys : List ℕ) → Consumes a b xs → Consumes b c ys → Consumes a c (xs ++ ys)
taken_then None b c xs ys h k = tt
taken_then (Some a) None c xs ys h k = absurd h
taken_then (Some a) (Some b) None xs ys h k = absurd k
taken_then (Some a) (Some b) (Some c) xs ys h k = rw (h, k) (sym (append_assoc xs ys c))

-- the bytes with the first n of a buffer's behind them, as they stand where the buffer is a part of a longer one
pub grown_by : (ok : Bool) (n : ℕ) (old buf rest new : List ℕ) → ok ≡ true → n ≤ length buf → new ≡ (if ok then old ++ take n (buf ++ rest) else old) → new ≡ old ++ take n buf
grown_by ok n old buf rest new o h e = rw (e, o, take-append-le n buf rest h) refl

pub more_taken : (a b c : Option (List ℕ)) (ok : Bool) (n : ℕ) (old buf rest new : List ℕ) → Consumes a b old → Consumes b c (take n buf) → ok ≡ true → n ≤ length buf → new ≡ (if ok then old ++ take n (buf ++ rest) else old) → Consumes a c new
more_taken a b c ok n old buf rest new h k o l e = rw (grown_by ok n old buf rest new o l e) (taken_then a b c old (take n buf) h k)

pub length_grown : (ok : Bool) (n : ℕ) (old buf rest new : List ℕ) → ok ≡ true → n ≤ length buf → new ≡ (if ok then old ++ take n (buf ++ rest) else old) → length new ≡ length old + n
length_grown ok n old buf rest new o l e = rw (grown_by ok n old buf rest new o l e, length-append old (take n buf), length-take-le n buf l) refl

-- what holds of bytes that are those that were left holds of those that were left
pub of_left : (left : Option (List ℕ)) (v : List ℕ) (P : List ℕ → Type 0) → IfSome left (λ bytes. v ≡ bytes) → P v → IfSome left P
of_left None v P e h = tt
of_left (Some bytes) v P e h = subst P e h

pub of_longer : (left : Option (List ℕ)) (n : ℕ) (P : List ℕ → Type 0) → IfSome left (λ bytes. n < length bytes) → ((bytes : List ℕ) → n < length bytes → P bytes) → IfSome left P
of_longer None n P e h = tt
of_longer (Some bytes) n P e h = h bytes e
