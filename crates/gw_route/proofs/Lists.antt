-- Tests over lists whose items are seen in another way.
use Rattle.std.proofs.Common.{◌≡◌, List, [], ◌∷◌, Bool, refl, map}
use Rattle.std.specs.List.{list_any}

-- Some item as it is seen passes the test where some item passes the test of what is seen.
pub list_any_map : {X Y : Type 0} (p : X → Bool) (h : Y → X) (ys : List Y) → list_any p (map h ys) ≡ list_any (λ y. p (h y)) ys
list_any_map p h [] = refl
list_any_map p h (y ∷ ys) = rw (list_any_map p h ys) refl
