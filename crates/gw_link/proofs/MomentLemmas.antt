-- A clock over several calls.
use Rattle.std.proofs.Common.{◌≡◌, ℤ, List, [], ◌∷◌, drop, Option, Some, None, option_map}
use Rattle.gw_link.specs.Moments.{Ticks}

-- Each call uses up one moment, where there is one.
pub Ticks-drop : (before : Option (List ℤ)) (now : ℤ) (after : Option (List ℤ)) → Ticks before now after → after ≡ option_map (λ moments. drop 1 moments) before
Ticks-drop None now after ticked = ticked
Ticks-drop (Some []) now after ticked = ticked
Ticks-drop (Some (moment ∷ moments)) now after ticked = ticked.1
