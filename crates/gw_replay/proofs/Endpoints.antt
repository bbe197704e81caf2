-- What is forwarded has an endpoint, and nothing else has one.
use Rattle.std.proofs.Common.{◌≡◌, ℕ, List, Option, Some, None, refl}
use Rattle.std.specs.Option.{option_map_or}
use Rattle.gw_answers.specs.declared.books.Books.{Books}
use Rattle.gw_answers.specs.model.Decisions.{Action, Chosen, Decision, forwards, replies, by_backend, by_endpoint, by_state, by_verdict, decision_of, picked_backend, picked_endpoint, redirected, replied, routed}
use Rattle.gw_decide.specs.model.Verdicts.{Verdict, not_found, redirect, nothing, choose, redirect_in, verdict_of}
use Rattle.gw_frames.specs.model.Requests.{Request}
use Rattle.gw_replies.specs.declared.fault.FaultName.TheVariants.{NoBackend}
use Rattle.gw_rows.specs.model.Rows.{Row, Rows}
use Rattle.gw_text.specs.model.Addresses.{Socket}
use Rattle.gw_text.specs.model.Filters.{Redirect}
use Rattle.gw_text.specs.model.Plans.{Backend}
use Rattle.gw_text.specs.model.References.{BackendState, invalid_kind, not_permitted, not_found as no_service, bad_protocol, no_endpoints, ready}

abbrev pub HasEndpoint : Action → Option Socket → Type 0
HasEndpoint (replies code location fault) endpoint = endpoint ≡ None
HasEndpoint (forwards to bytes edits) endpoint = endpoint ≡ Some to

abbrev Fits : Decision → Type 0
Fits d = HasEndpoint d.action d.chosen.endpoint

fits_endpoint : (chosen : Chosen) (row : Row) (q : Request) (b : Backend) (to : Option Socket) → chosen.endpoint ≡ None → Fits (by_endpoint chosen row q b to)
fits_endpoint chosen row q b None none = none
fits_endpoint chosen row q b (Some to) none = refl

fits_state : (chosen : Chosen) (row : Row) (q : Request) (books : Books) (b : Backend) (state : BackendState) → chosen.endpoint ≡ None → Fits (by_state chosen row q books b state)
fits_state chosen row q books b invalid_kind none = none
fits_state chosen row q books b not_permitted none = none
fits_state chosen row q books b no_service none = none
fits_state chosen row q books b bad_protocol none = none
fits_state chosen row q books b no_endpoints none = none
fits_state chosen row q books b (ready sockets) none = fits_endpoint chosen row q b (picked_endpoint b sockets books) none

fits_backend : (chosen : Chosen) (row : Row) (q : Request) (books : Books) (b : Option Backend) → chosen.endpoint ≡ None → Fits (by_backend chosen row q books b)
fits_backend chosen row q books None none = none
fits_backend chosen row q books (Some b) none =
    fits_state (record chosen { backend = Some (record { key = b.key; port = b.port }) }) row q books b b.state none

fits_redirect : (chosen : Chosen) (row : Row) (q : Request) (r : Option Redirect) → chosen.endpoint ≡ None
    → Fits (option_map_or (redirected chosen row q) r (replied chosen 500 (Some NoBackend)))
fits_redirect chosen row q None none = none
fits_redirect chosen row q (Some r) none = none

fits_verdict : (listener : Option (List ℕ)) (q : Request) (books : Books) (v : Verdict) → Fits (by_verdict listener q books v)
fits_verdict listener q books not_found = refl
fits_verdict listener q books (redirect row) = fits_redirect (routed listener row) row q (redirect_in row.plan) refl
fits_verdict listener q books (nothing row) = refl
fits_verdict listener q books (choose row) = fits_backend (routed listener row) row q books (picked_backend row books) refl

pub has_endpoint : (rows : Rows) (q : Request) (books : Books) → HasEndpoint (decision_of rows q books).action (decision_of rows q books).chosen.endpoint
unfolding decision_of
has_endpoint rows q books = fits_verdict _ q books (verdict_of rows q)
