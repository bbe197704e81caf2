-- The served listeners of a Gateway, one after the other.
use Rattle.std.proofs.Common.{◌≡◌, ◌∙◌, ap, refl, ℕ, ◌+◌, ◌<◌, length, List, [], ◌∷◌, ◌++◌, Bool, true, false, ◌&&◌, ◌==◌, drop, map, get_or, add-one, append_assoc}
use Rattle.std.specs.Prelude.{filter, if◌then◌else◌}
use Rattle.std.specs.List.{enumerate_from}
use Rattle.std.proofs.Math.Seq.{drop-cons}
use Rattle.gw_text.specs.model.Doors.{Door}
use Rattle.gw_text.specs.model.Gateways.{Gateway, Listener}
use Rattle.gw_text.specs.model.Listeners.{gateway_state, listener_state}
use Rattle.gw_rows.specs.model.DoorRows.{is_served, served_by, served_listener}

-- what holds besides may be left out
pub holds_too : (a here b : Bool) → here ≡ true → (a && b) ≡ (a && here && b)
holds_too true here b is = rw is refl
holds_too false here b is = refl

one_more : {X Y : Type 0} (p : X → Bool) (f : X → Y) (x : X) (xs : List X) (b : Bool) → b ≡ p x →
    (if b then f x ∷ [] else []) ++ map f (filter p xs) ≡ map f (filter p (x ∷ xs))
one_more p f x xs true is = rw (← is) refl
one_more p f x xs false is = rw (← is) refl

next : {X : Type 0} (xs : List X) (i : ℕ) (x : X) → i < length xs → x ≡ get_or xs i x →
    (i, x) ∷ enumerate_from (i + 1) (drop (i + 1) xs) ≡ enumerate_from i (drop i xs)
next xs i x within is = rw (drop-cons xs i x within, ← is, add-one) refl

-- one item more is done, where it is among those that are taken
pub filtered_more : {X Y : Type 0} (p : ℕ × X → Bool) (f : ℕ × X → Y) (done : List Y) (xs : List X) (i : ℕ) (x : X) (b : Bool) (all : List Y) →
    i < length xs → x ≡ get_or xs i x → b ≡ p (i, x) → done ++ map f (filter p (enumerate_from i (drop i xs))) ≡ all →
    (done ++ (if b then f (i, x) ∷ [] else [])) ++ map f (filter p (enumerate_from (i + 1) (drop (i + 1) xs))) ≡ all
filtered_more p f done xs i x b all within is taken before =
    rw append_assoc
    (ap (λ t. done ++ t) (one_more p f (i, x) (enumerate_from (i + 1) (drop (i + 1) xs)) b taken ∙ ap (λ t. map f (filter p t)) (next xs i x within is))
    ∙ before)

never : (a here b : Bool) → here ≡ false → (a && here && b) ≡ false
never true here b is = rw is refl
never false here b is = refl

none_taken : {X : Type 0} (p : X → Bool) (xs : List X) → ((x : X) → p x ≡ false) → filter p xs ≡ []
none_taken p [] none = refl
none_taken p (x ∷ xs) none = rw (none x) (none_taken p xs none)

-- a Gateway that isn't programmed serves nothing
pub none_served : (doors : List Door) (door : Door) (g : Gateway) → (gateway_state doors g).programmed.truth ≡ false → served_by doors door g ≡ []
unfolding served_by
none_served doors door g off =
    ap (map (λ (p : ℕ × Listener). served_listener p.0 p.1))
    (none_taken (λ (p : ℕ × Listener). is_served doors door g p.0 p.1) (enumerate_from 0 g.listeners)
    (λ p. never (p.1.port == door.port) (gateway_state doors g).programmed.truth (listener_state doors g p.0 p.1).programmed.truth off))
