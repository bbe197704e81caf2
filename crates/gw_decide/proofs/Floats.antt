-- What is printed has no floats.
use Rattle.std.proofs.Common.{◌≡◌, ℕ, List, false, Option, Some, None, refl}
use Rattle.serde_json.specs.Data.{Members}
use Rattle.serde_json.specs.Written.{has_float}
use Rattle.gw_json.proofs.Floats.{items_have_float-map, HasNoFloat, HasNoFloat-nil, HasNoFloat-member, HasNoFloat-put}
use Rattle.gw_decide.specs.ExplainText.{backend_data, backends_data, verdict_data, with_listener, with_redirect, with_row, with_verdict}
use Rattle.gw_decide.specs.model.Verdicts.{Verdict, not_found, redirect, nothing, choose, redirect_in}
use Rattle.gw_frames.specs.model.Requests.{Request}
use Rattle.gw_rows.specs.model.Rows.{Row, ServedListener}
use Rattle.gw_text.specs.model.Filters.{Redirect}
use Rattle.gw_text.specs.model.Plans.{Backend}

backends_have_none : (backends : List Backend) → has_float (backends_data backends) ≡ false
backends_have_none backends = items_have_float-map backend_data backends (λ b. refl)

row_has_none : (row : Row) (ms : Members) → HasNoFloat ms → HasNoFloat (with_row row ms)
row_has_none row ms none = HasNoFloat-put _ _ refl (HasNoFloat-put _ _ refl (HasNoFloat-put _ _ refl none))

redirect_has_none : (r : Option Redirect) (row : Row) (q : Request) (ms : Members) → HasNoFloat ms → HasNoFloat (with_redirect r row q ms)
redirect_has_none None row q ms none = none
redirect_has_none (Some r) row q ms none = HasNoFloat-put _ _ refl (HasNoFloat-put _ _ refl none)

members_have_none : (verdict : Verdict) (q : Request) (ms : Members) → HasNoFloat ms → HasNoFloat (with_verdict verdict q ms)
members_have_none not_found q ms none = none
members_have_none (redirect row) q ms none = redirect_has_none (redirect_in row.plan) row q (with_row row ms) (row_has_none row ms none)
members_have_none (nothing row) q ms none = row_has_none row ms none
members_have_none (choose row) q ms none = HasNoFloat-put _ _ (backends_have_none row.plan.backends) (row_has_none row ms none)

listener_has_none : (listener : Option ServedListener) (ms : Members) → HasNoFloat ms → HasNoFloat (with_listener listener ms)
listener_has_none None ms none = none
listener_has_none (Some l) ms none = HasNoFloat-put _ _ refl none

pub verdict_has_no_float : (verdict : Verdict) (listener : Option ServedListener) (q : Request) (front : ℕ) → has_float (verdict_data verdict listener q front) ≡ false
unfolding verdict_data
verdict_has_no_float verdict listener q front =
    (members_have_none verdict q _ (listener_has_none listener _ (HasNoFloat-member refl (HasNoFloat-member refl HasNoFloat-nil)))).none
