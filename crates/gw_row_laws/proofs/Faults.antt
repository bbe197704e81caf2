-- Which fault a reply names, by what was drawn.
use Rattle.std.proofs.Common.{◌≡◌, ◌↔◌, ℕ, Bool, true, false, if◌then◌else◌, List, is_some, refl, sym, ap, subst, Option, Some, None}
use Rattle.std.specs.Option.{option_map, option_map_or}
use Rattle.gw_answers.specs.declared.books.Books.{Books}
use Rattle.gw_answers.specs.model.Decisions.{Action, picked_backend}
use Rattle.gw_decide.specs.model.Verdicts.{Verdict, not_found, redirect, nothing, choose, redirect_in, sends_nothing, verdict_by, verdict_of}
use Rattle.gw_frames.specs.model.Requests.{Request}
use Rattle.gw_match.specs.model.Choice.{row_at}
use Rattle.gw_replies.specs.declared.fault.FaultName.{FaultName}
use Rattle.gw_replies.specs.declared.fault.FaultName.TheVariants.{NoBackend, NoEndpoints}
use Rattle.gw_row_laws.proofs.Deciding.{decisions}
use Rattle.gw_row_laws.specs.Drawing.{IsByState, IsByVerdict, IsSentNowhere, action_of, drawn_by, fault_of, state_drawn}
use Rattle.gw_row_laws.specs.Tabled.{rows_after}
use Rattle.gw_rows.specs.model.Rows.{Row, Rows}
use Rattle.gw_store.specs.declared.event.Entry.{Entry}
use Rattle.gw_text.specs.model.Doors.{Door}
use Rattle.gw_text.specs.model.Plans.{Backend}
use Rattle.gw_text.specs.model.References.{BackendState, invalid_kind, not_permitted, not_found as no_service, bad_protocol, no_endpoints, ready}

-- the fault of a state alone
fault_by : (state : BackendState) (action : Action) → IsByState state action → (fault_of action ≡ Some NoEndpoints) ↔ (state ≡ no_endpoints)
fault_by invalid_kind action is = let named = ap fault_of is in ((λ e. absurd (cc)), (λ e. absurd (cc)))
fault_by not_permitted action is = let named = ap fault_of is in ((λ e. absurd (cc)), (λ e. absurd (cc)))
fault_by no_service action is = let named = ap fault_of is in ((λ e. absurd (cc)), (λ e. absurd (cc)))
fault_by bad_protocol action is = let named = ap fault_of is in ((λ e. absurd (cc)), (λ e. absurd (cc)))
fault_by no_endpoints action is = ((λ e. refl), (λ e. ap fault_of is))
fault_by (ready sockets) action is = let named = ap fault_of is.4 in ((λ e. absurd (cc)), (λ e. absurd (cc)))

by_drawn : (row : Row) (books : Books) (b : Backend) → picked_backend row books ≡ Some b → (fault : Option FaultName)
    → (fault ≡ Some NoEndpoints) ↔ (b.state ≡ no_endpoints) → (fault ≡ Some NoEndpoints) ↔ (option_map (λ (c : Backend). c.state) (picked_backend row books) ≡ Some no_endpoints)
by_drawn row books b drawn fault law =
    subst (λ (found : Option Backend). (fault ≡ Some NoEndpoints) ↔ (option_map (λ (c : Backend). c.state) found ≡ Some no_endpoints)) (sym drawn)
    ((λ e. ap Some (law.0 e)), (λ e. law.1 (cc)))

no_endpoints_by : (verdict : Verdict) (books : Books) (action : Action) → IsByVerdict verdict books action
    → (fault_of action ≡ Some NoEndpoints) ↔ (option_map (λ (b : Backend). b.state) (drawn_by verdict books) ≡ Some no_endpoints)
no_endpoints_by not_found books action is = let named = ap fault_of is in ((λ e. absurd (cc)), (λ e. absurd (cc)))
no_endpoints_by (redirect row) books action is = let named = ap fault_of is.2 in ((λ e. absurd (cc)), (λ e. absurd (cc)))
no_endpoints_by (nothing row) books action is = let named = ap fault_of is in ((λ e. absurd (cc)), (λ e. absurd (cc)))
no_endpoints_by (choose row) books action is = by_drawn row books is.0 is.1 (fault_of action) (fault_by is.0.state action is.3)

pub no_endpoints_exactly : (doors : List Door) (controller : List ℕ) (changes : List Entry) (door : ℕ) (q : Request) (books : Books)
    → (fault_of (action_of (rows_after doors controller changes door) q books) ≡ Some NoEndpoints)
    ↔ (state_drawn (rows_after doors controller changes door) q books ≡ Some no_endpoints)
no_endpoints_exactly doors controller changes door q books =
    no_endpoints_by (verdict_of (rows_after doors controller changes door) q) books _ (decisions doors controller changes door q books)

-- a state names another fault than that nothing is sent
other_fault : (state : BackendState) (action : Action) → IsByState state action → fault_of action ≡ Some NoBackend → ⊥
other_fault invalid_kind action is e = let named = ap fault_of is in cc
other_fault not_permitted action is e = let named = ap fault_of is in cc
other_fault no_service action is e = let named = ap fault_of is in cc
other_fault bad_protocol action is e = let named = ap fault_of is in cc
other_fault no_endpoints action is e = let named = ap fault_of is in cc
other_fault (ready sockets) action is e = let named = ap fault_of is.4 in cc

nothing_if : (row served : Row) (t u : Bool) → sends_nothing row.plan ≡ u → (if t then redirect row else (if u then nothing row else choose row)) ≡ nothing served
    → sends_nothing served.plan ≡ true
nothing_if row served true u is e = absurd (cc)
nothing_if row served false true is e = let same : row ≡ served = cc in subst (λ (r : Row). sends_nothing r.plan ≡ true) same is
nothing_if row served false false is e = absurd (cc)

nothing_by : (row : Option Row) (served : Row) → option_map_or verdict_by row not_found ≡ nothing served → sends_nothing served.plan ≡ true
nothing_by None served e = absurd (cc)
nothing_by (Some row) served e = nothing_if row served (is_some (redirect_in row.plan)) (sends_nothing row.plan) refl e

sent_nowhere : (rows : Rows) (q : Request) (row : Row) → verdict_of rows q ≡ nothing row → sends_nothing row.plan ≡ true
unfolding verdict_of
sent_nowhere rows q row e = nothing_by (row_at rows q) row e

named_by : (verdict : Verdict) (books : Books) (action : Action) → IsByVerdict verdict books action → fault_of action ≡ Some NoBackend → (row : Row) × (verdict ≡ nothing row)
named_by not_found books action is e = let named = ap fault_of is in absurd (cc)
named_by (redirect row) books action is e = let named = ap fault_of is.2 in absurd (cc)
named_by (nothing row) books action is e = (row, refl)
named_by (choose row) books action is e = absurd (other_fault is.0.state action is.3 e)

named_where : (verdict : Verdict) (books : Books) (action : Action) → IsByVerdict verdict books action → (row : Row) → verdict ≡ nothing row → fault_of action ≡ Some NoBackend
named_where verdict books action is row e = let at : IsByVerdict (nothing row) books action = subst (λ (v : Verdict). IsByVerdict v books action) e is in ap fault_of at

pub no_backend_exactly : (doors : List Door) (controller : List ℕ) (changes : List Entry) (door : ℕ) (q : Request) (books : Books)
    → (fault_of (action_of (rows_after doors controller changes door) q books) ≡ Some NoBackend) ↔ IsSentNowhere (rows_after doors controller changes door) q
no_backend_exactly doors controller changes door q books =
    let rows = rows_after doors controller changes door in
    let is = decisions doors controller changes door q books in (
      (λ e. let found = named_by (verdict_of rows q) books _ is e in (found.0, found.1, sent_nowhere rows q found.0 found.1)),
      (λ nowhere. named_where (verdict_of rows q) books _ is nowhere.0 nowhere.1),
    )
