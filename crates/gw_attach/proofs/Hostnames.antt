-- What a hostname meets of a list.
use Rattle.std.proofs.Common.{◌≡◌, List, [], ◌∷◌, Some, refl, length, ◌<◌, arith}
use Rattle.std.specs.List.{list_any}
use Rattle.gw_text.specs.model.Hostnames.{Host, meets, meets_some}

-- A list that isn't empty is met by what meets one of it.
pub meets_given : (h : Host) (hosts : List Host) → 0 < length hosts → meets_some (Some h) hosts ≡ list_any (meets h) hosts
meets_given h [] given = absurd (omega arith)
meets_given h (x ∷ hosts) given = refl
