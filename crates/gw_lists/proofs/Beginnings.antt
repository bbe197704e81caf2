-- Beginnings of lists.
use Rattle.std.proofs.Common.{◌≡◌, ℕ, zero, suc, ◌≤◌, List, [], ◌∷◌, ◌++◌, length, Some, slice_get, refl, ap, sym, ◌∙◌, arith, append_assoc, length-append}
use Rattle.std.proofs.lemmas.List.{append-nil}
use mathlib.Core.List.{IsPrefix}
use Rattle.gw_lists.specs.Lists.{BeginsWith}

-- The kit's word says the same.
pub begins_with-prefix : {A : Type 0} (xs ys : List A) → IsPrefix xs ys → BeginsWith xs ys
begins_with-prefix xs ys p = (p.0, sym p.1)

pub begins_with-self : {A : Type 0} (xs : List A) → BeginsWith xs xs
begins_with-self xs = ([], sym (append-nil xs))

pub begins_with-trans : {A : Type 0} (xs ys zs : List A) → BeginsWith xs ys → BeginsWith ys zs → BeginsWith xs zs
begins_with-trans xs ys zs p q = (p.0 ++ q.0, q.1 ∙ (ap (λ w. w ++ q.0) p.1 ∙ append_assoc xs p.0 q.0))

-- Of two beginnings of one list the shorter begins the longer.
pub begins_with-shorter : {A : Type 0} (xs ys zs : List A) → BeginsWith xs zs → BeginsWith ys zs → length xs ≤ length ys → BeginsWith xs ys
begins_with-shorter [] ys zs p q le = (ys, refl)
begins_with-shorter (x ∷ xs) [] zs p q le = absurd (omega arith)
begins_with-shorter (x ∷ xs) (y ∷ ys) [] p q le = absurd (cc (p.1))
begins_with-shorter (x ∷ xs) (y ∷ ys) (z ∷ zs) p q le =
    let heads : x ≡ y = cc (p.1, q.1) in
    let rest = begins_with-shorter xs ys zs (p.0, cc (p.1)) (q.0, cc (q.1)) (omega arith) in
    (rest.0, cc (heads, rest.1))

-- A beginning as long as the whole is the whole.
pub begins_with-whole : {A : Type 0} (xs ys : List A) → BeginsWith xs ys → length ys ≤ length xs → xs ≡ ys
begins_with-whole [] [] p le = refl
begins_with-whole [] (y ∷ ys) p le = absurd (omega arith)
begins_with-whole (x ∷ xs) [] p le = absurd (cc (p.1))
begins_with-whole (x ∷ xs) (y ∷ ys) p le =
    let rest = begins_with-whole xs ys (p.0, cc (p.1)) (omega arith) in cc (p.1, rest)

pub begins_with-length : {A : Type 0} (xs ys : List A) → BeginsWith xs ys → length xs ≤ length ys
begins_with-length xs ys p = omega (arith, ap length p.1 ∙ length-append xs p.0)

-- What stands in a beginning stands in the whole, at the same place.
pub begins_with-get : {A : Type 0} (xs ys : List A) (k : ℕ) (x : A) → BeginsWith xs ys → slice_get xs k ≡ Some x → slice_get ys k ≡ Some x
begins_with-get [] ys k x p h = absurd cc
begins_with-get (y ∷ xs) [] k x p h = absurd (cc (p.1))
begins_with-get (y ∷ xs) (z ∷ ys) zero x p h = cc (p.1, h)
begins_with-get (y ∷ xs) (z ∷ ys) (suc k) x p h = begins_with-get xs ys k x (p.0, cc (p.1)) h
