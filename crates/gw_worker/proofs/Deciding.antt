-- What a worker decides.
use Rattle.std.proofs.Common.{◌≡◌, ℕ, List, false, Option, Some, None, ap, refl, sym, subst, ◌∙◌, inl, inr, get_or, option_map}
use Rattle.std.specs.Option.{option_map_or}
use Rattle.std.proofs.Math.Logic.{∥∥₁_elim}
use Rattle.std.specs.Coded.{Coded, Coded-set, codes}
use Rattle.gw_match.specs.model.Choice.{listener_at}
use Rattle.gw_match.specs.model.Telling.{Stands, Tables, tables_of, world_after}
use Rattle.gw_store.specs.declared.event.Entry.{Entry}
use Rattle.gw_text.specs.model.Doors.{Door}
use Rattle.gw_answers.specs.Left.{AreLeft}
use Rattle.gw_answers.specs.declared.books.Books.{Books}
use Rattle.gw_answers.specs.model.Decisions.{Action, Chosen, forwards, replies, by_backend, by_endpoint, by_state, by_verdict, decision_of, picked_backend, redirected, replied, routed}
use Rattle.gw_decide.specs.model.Verdicts.{Verdict, not_found, redirect, nothing, choose, redirect_in, verdict_of}
use Rattle.gw_frames.specs.model.Requests.{Request}
use Rattle.gw_replies.specs.declared.fault.FaultName.{FaultName}
use Rattle.gw_replies.specs.declared.fault.FaultName.TheVariants.{NoBackend}
use Rattle.gw_rows.specs.model.Rows.{Row, Rows}
use Rattle.gw_snap.specs.Lists.{Book}
use Rattle.gw_text.specs.model.Addresses.{Socket}
use Rattle.gw_text.specs.model.Filters.{Redirect}
use Rattle.gw_text.specs.model.Plans.{Backend}
use Rattle.gw_text.specs.model.References.{BackendState, invalid_kind, not_permitted, not_found as no_service, bad_protocol, no_endpoints, ready}
use Rattle.gw_worker.specs.Exchanges.{is_call_fault}
use Rattle.gw_worker.specs.Workers.{Decides, IsLeftBy, handled_by}
use Rattle.gw_worker.specs.model.Workers.{Pass, Worker}
use Rattle.gw_worker.specs.model.Sessions.{Place, no_rows, rows_after}

coded_rows : Coded Rows
coded_rows = hlevel codes

rows_seen : (t : Tables) (p : Place) (seen : List Entry) → ∥ Stands t seen ∥₁ → t.doors ≡ p.doors → t.controller ≡ p.controller
    → get_or t.tables p.door no_rows ≡ rows_after p seen
rows_seen t p seen stands doors controller = ∥∥₁_elim stands (Coded-set coded_rows _ _)
    (λ s. ap (λ (l : List Rows). get_or l p.door no_rows)
    (s.tables ∙ ap (λ (d : List Door). tables_of d t.controller (world_after seen)) doors ∙ ap (λ (c : List ℕ). tables_of p.doors c (world_after seen)) controller))

-- the table of a door has the rows of the world after all that the pass has seen
pub table_is : (t : Tables) (table : Rows) (door : ℕ) (p : Place) (seen : List Entry) (before after : List Door × List ℕ)
    → ∥ Stands t seen ∥₁ → table ≡ get_or t.tables door no_rows → (t.doors, t.controller) ≡ after → after ≡ before → before.0 ≡ p.doors
    → before.1 ≡ p.controller → p.door ≡ door → table ≡ rows_after p seen
table_is t table door p seen before after stands is value fixed doors controller at =
    is ∙ ap (λ (d : ℕ). get_or t.tables d no_rows) (sym at)
    ∙ rows_seen t p seen stands
    (ap (λ (x : List Door × List ℕ). x.0) (value ∙ fixed) ∙ doors)
    (ap (λ (x : List Door × List ℕ). x.1) (value ∙ fixed) ∙ controller)

-- a pass that reads, or may have been refused
pub only_read : (a b : Pass) → b.fixed ≡ a.fixed → b.book ≡ a.book → b.ahead ≡ a.ahead → b ≡ record a { seen = b.seen; refused = b.refused }
only_read a b fixed book ahead =
    ap (λ (f : List Door × List ℕ). record b { fixed = f }) fixed
    ∙ ap (λ (k : Book). record b { fixed = a.fixed; book = k }) book
    ∙ ap (λ (n : ℕ). record b { fixed = a.fixed; book = a.book; ahead = n }) ahead

pub only_seen : (a b : Pass) → b.fixed ≡ a.fixed → b.book ≡ a.book → b.ahead ≡ a.ahead → b.refused ≡ a.refused → b ≡ record a { seen = b.seen }
only_seen a b fixed book ahead refused =
    only_read a b fixed book ahead ∙ ap (λ (n : ℕ). record a { seen = b.seen; refused = n }) refused

-- a request was decided, and nothing came of it
pub left_behind : (p : Place) (before after : Worker) (q : Request) → Decides p before after q (handled_by before after) → IsLeftBy p before after q
left_behind p before after q d = record {
  pass = d.pass ∙ ap (λ (n : ℕ). record before.pass { seen = after.pass.seen; refused = n }) (sym (ap (λ (s : Pass). s.refused) d.pass));
  later = d.later;
  books = subst (λ (b : Books). AreLeft before.books b after.books) d.counted (record { backends = inr (inl refl); endpoints = inr (inl refl) });
}

-- A reply of this program's own has no fault of a call.
abbrev IsOwn : Action → Type 0
IsOwn (replies code location fault) = is_call_fault fault ≡ false
IsOwn (forwards to bytes edits) = Unit {0}

own_endpoint : (chosen : Chosen) (row : Row) (q : Request) (b : Backend) (to : Option Socket) → IsOwn (by_endpoint chosen row q b to).action
own_endpoint chosen row q b None = refl
own_endpoint chosen row q b (Some to) = tt

own_state : (chosen : Chosen) (row : Row) (q : Request) (books : Books) (b : Backend) (s : BackendState) → IsOwn (by_state chosen row q books b s).action
own_state chosen row q books b invalid_kind = refl
own_state chosen row q books b not_permitted = refl
own_state chosen row q books b no_service = refl
own_state chosen row q books b bad_protocol = refl
own_state chosen row q books b no_endpoints = refl
own_state chosen row q books b (ready sockets) = own_endpoint chosen row q b _

own_backend : (chosen : Chosen) (row : Row) (q : Request) (books : Books) (b : Option Backend) → IsOwn (by_backend chosen row q books b).action
own_backend chosen row q books None = refl
own_backend chosen row q books (Some b) = own_state _ row q books b b.state

own_verdict : (listener : Option (List ℕ)) (q : Request) (books : Books) (v : Verdict) → IsOwn (by_verdict listener q books v).action
own_verdict listener q books not_found = refl
own_verdict listener q books (redirect row) = by_redirect (redirect_in row.plan)
  where
    by_redirect : (r : Option Redirect) → IsOwn (option_map_or (redirected (routed listener row) row q) r (replied (routed listener row) 500 (Some NoBackend))).action
    by_redirect None = refl
    by_redirect (Some r) = refl
own_verdict listener q books (nothing row) = refl
own_verdict listener q books (choose row) = own_backend (routed listener row) row q books (picked_backend row books)

pub own_fault : (rows : Rows) (q : Request) (books : Books) (code : ℕ) (location : Option (List ℕ)) (fault : Option FaultName)
    → (decision_of rows q books).action ≡ replies code location fault → is_call_fault fault ≡ false
unfolding decision_of
own_fault rows q books code location fault is = subst IsOwn is (own_verdict (option_map (λ l. l.name) (listener_at rows.listeners q.host)) q books (verdict_of rows q))
