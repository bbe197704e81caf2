-- What is printed has no floats.
use Rattle.std.proofs.Common.{◌≡◌, ℕ, false, Option, Some, None, refl, codes}
use Rattle.serde_json.specs.Data.{Members, number, unsigned}
use Rattle.serde_json.specs.Written.{has_float}
use Rattle.gw_json.proofs.Floats.{HasNoFloat, HasNoFloat-nil, HasNoFloat-member, HasNoFloat-put}
use Rattle.gw_text.specs.model.Hostnames.{Host}
use Rattle.gw_rows.specs.model.Rows.{Row}
use Rattle.gw_admin_texts.specs.model.Listings.{row_data, with_hostname, with_listener, with_route}

listener_has_none : (row : Row) (ms : Members) → HasNoFloat ms → HasNoFloat (with_listener row ms)
listener_has_none row ms none = HasNoFloat-put _ _ refl none

route_has_none : (row : Row) (ms : Members) → HasNoFloat ms → HasNoFloat (with_route row ms)
route_has_none row ms none = HasNoFloat-put _ _ refl (HasNoFloat-put _ _ refl (HasNoFloat-put _ _ refl none))

hostname_has_none : (hostname : Option Host) (ms : Members) → HasNoFloat ms → HasNoFloat (with_hostname hostname ms)
hostname_has_none None ms none = none
hostname_has_none (Some h) ms none = HasNoFloat-put _ _ refl none

pub row_has_no_float : (door : ℕ) (row : Row) → has_float (row_data door row) ≡ false
unfolding row_data
row_has_no_float door row =
    (hostname_has_none row.hostname _ (route_has_none row _ (listener_has_none row _ (HasNoFloat-member {k = codes "door"} {d = number (unsigned door)} refl HasNoFloat-nil)))).none
