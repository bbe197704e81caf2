-- The front holds a request already, or the only one is known.
use Rattle.std.proofs.Common.{◌≡◌, ◌<◌, ◌==◌, [], ◌∷◌, false, true, length, List, refl, sym, arith}
use Rattle.std.proofs.lemmas.Bool.{eqb-true}
use Rattle.gw_frames.specs.model.Requests.{Request}
use Rattle.gw_requests.proofs.Requests.{too_early, request_by}
use Rattle.gw_requests.proofs.request.whole_request.Goals as goal

some_of : (requests : List Request) → false ≡ (length requests == 0) → 0 < length requests
some_of [] e = cc
some_of (q ∷ requests) e = omega arith

none_of : (requests : List Request) → true ≡ (length requests == 0) → requests ≡ []
none_of [] e = refl
none_of (q ∷ requests) e = absurd (omega (arith, eqb-true (length (q ∷ requests)) 0 (sym e)))

pub returns-then-not-is_empty : goal.returns-then-not-is_empty
returns-then-not-is_empty c =
    too_early _ _ _ c.in-Some.ensures.cases.0 c.in_ok-requests.field-0.items c.in_ok-requests.ensures
    (some_of c.in_ok-requests.field-0.items (rw c.as_slice.ensures.value at c.if-not-is_empty.ensures))

pub returns : goal.returns
returns c =
    let none = none_of c.in_ok-requests.field-0.items (rw c.as_slice.ensures.value at c.if-not-is_empty.ensures) in
    request_by _ _ _ c.in-Some.ensures.cases.0 c.only.result _ (rw none at c.in_ok-requests.ensures) c.in_ok-requests-2.ensures
    c.only.ensures.some c.only.ensures.none
