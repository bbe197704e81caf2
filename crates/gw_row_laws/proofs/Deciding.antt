-- What is done about a request goes by the state of the backend that is drawn for it.
use Rattle.std.proofs.Common.{◌≡◌, ℕ, ◌+◌, ◌*◌, ◌<◌, Bool, true, false, cond, ◌&&◌, ◌==◌, if◌then◌else◌, inl, inr, List, [], ◌∷◌, filter, find, is_some, length, map, replicate, sum, refl, sym, ap, subst, ◌∙◌, arith, Option, Some, None, true≢false}
use Rattle.std.proofs.lemmas.Bool.{cases_eq, eq-eqb}
use Rattle.std.proofs.lemmas.List.{length-map, length-replicate}
use Rattle.std.proofs.lemmas.List.Elements.{All-contains, All-filter, All-head, All-tail}
use Rattle.std.proofs.lemmas.List.Folds.{sum_by-replicate}
use Rattle.std.proofs.lemmas.List.Sums.{sum_by-cons}
use Rattle.std.proofs.lemmas.Option.{get_or_from_slice_get, slice_get_within}
use Rattle.std.specs.Prelude.{All, Contains, IfSome, IsSome}
use Rattle.std.specs.List.{list_all, slice_get}
use Rattle.std.specs.Option.{option_map, option_map_or}
use Rattle.gw_answers.specs.declared.books.Books.{Books}
use Rattle.gw_answers.specs.model.Decisions.{Chosen, backend_choice, by_backend, by_endpoint, by_state, by_verdict, decision_of, endpoint_choice, item_at, picked_backend, picked_endpoint, redirected, replied, routed}
use Rattle.gw_decide.specs.model.Verdicts.{not_found, redirect, nothing, choose, redirect_in, sends_nothing, verdict_by, verdict_of}
use Rattle.gw_frames.specs.model.Requests.{Request}
use Rattle.gw_replies.specs.declared.fault.FaultName.TheVariants.{NoBackend}
use Rattle.gw_match.specs.model.Choice.{fits_at, listener_at, row_at}
use Rattle.gw_row_laws.proofs.Existing.{draw_exists, item_exists}
use Rattle.gw_row_laws.proofs.Ready.{AreReady, ready_backends}
use Rattle.gw_row_laws.specs.Drawing.{HasSocketsIfReady, IsByState, IsByVerdict, IsRedirected, IsSentTo, action_of}
use Rattle.gw_row_laws.specs.Tabled.{rows_after}
use Rattle.gw_rows.specs.model.Precedence.{precedence}
use Rattle.gw_rows.specs.model.Rows.{Row, Rows, ServedListener, foremost}
use Rattle.gw_store.specs.declared.event.Entry.{Entry}
use Rattle.gw_text.specs.model.Addresses.{Socket}
use Rattle.gw_text.specs.model.Chains.{◌>>=◌}
use Rattle.gw_text.specs.model.Doors.{Door}
use Rattle.gw_text.specs.model.Filters.{Redirect}
use Rattle.gw_text.specs.model.Plans.{Backend}
use Rattle.gw_text.specs.model.References.{BackendState, invalid_kind, not_permitted, not_found as no_service, bad_protocol, no_endpoints, ready}

-- an item that a place has is one of the list
contained : {T : Type 0} (items : List T) (i : ℕ) (x : T) → slice_get items i ≡ Some x → Contains items x
contained items i x e = (i, slice_get_within items i x e, get_or_from_slice_get items i x x e)

-- a weight above 0 is drawn
weighted : (backends : List Backend) → list_all (λ b. b.weight == 0) backends ≡ false → 0 < sum (map (λ b. b.weight) backends)
weighted [] e = absurd (true≢false e)
weighted (b ∷ backends) e =
    let total : sum (b.weight ∷ map (λ b. b.weight) backends) ≡ b.weight + sum (map (λ b. b.weight) backends) = sum_by-cons (λ x. x) b.weight (map (λ b. b.weight) backends) in
    elim (cases_eq b.weight 0) [
      | inl none ↦ (
          let here : (b.weight == 0) ≡ true = eq-eqb b.weight 0 none in
          let rest : list_all (λ b. b.weight == 0) backends ≡ false = sym (ap (λ (t : Bool). t && list_all (λ b. b.weight == 0) backends) here) ∙ e in
          let some : 0 < sum (map (λ b. b.weight) backends) = weighted backends rest in
          omega (arith, total, some))
      | inr some ↦ omega (arith, total, some)
    ]

-- The backend that is drawn where a weight is above 0, and that it is one of the rule's.
pub backend_drawn : (row : Row) (books : Books) → sends_nothing row.plan ≡ false → (b : Backend) × (picked_backend row books ≡ Some b) × Contains row.plan.backends b
backend_drawn row books some =
    let drawn = draw_exists (backend_choice row) books.backends (weighted row.plan.backends some) in
    let within : drawn.0 < length row.plan.backends = subst (λ (n : ℕ). drawn.0 < n) (length-map row.plan.backends (λ b. b.weight)) drawn.1 in
    let found = item_exists row.plan.backends drawn.0 within in
    (found.0, ap (item_at row.plan.backends) drawn.2 ∙ found.1, contained row.plan.backends drawn.0 found.0 found.1)

-- The endpoint that is drawn where there is a socket, and that it is one of them.
pub endpoint_drawn : (b : Backend) (sockets : List Socket) (books : Books) → 0 < length sockets → (to : Socket) × (picked_endpoint b sockets books ≡ Some to) × Contains sockets to
endpoint_drawn b sockets books some =
    let total : sum (replicate (length sockets) 1) ≡ length sockets * 1 = sum_by-replicate (λ x. x) (length sockets) 1 in
    let drawn = draw_exists (endpoint_choice b sockets) books.endpoints (omega (arith, total, some)) in
    let within : drawn.0 < length sockets = subst (λ (n : ℕ). drawn.0 < n) (length-replicate (length sockets) 1) drawn.1 in
    let found = item_exists sockets drawn.0 within in
    (found.0, ap (item_at sockets) drawn.2 ∙ found.1, contained sockets drawn.0 found.0 found.1)

there_is : {T : Type 0} (o : Option T) (x : T) → o ≡ Some x → IsSome o
there_is o x e = ap is_some e

pub some_backend : (row : Row) (books : Books) → sends_nothing row.plan ≡ false → IsSome (picked_backend row books)
some_backend row books some = let drawn = backend_drawn row books some in there_is (picked_backend row books) drawn.0 drawn.1

pub some_endpoint : (b : Backend) (sockets : List Socket) (books : Books) → 0 < length sockets → IsSome (picked_endpoint b sockets books)
some_endpoint b sockets books some = let drawn = endpoint_drawn b sockets books some in there_is (picked_endpoint b sockets books) drawn.0 drawn.1

sent : (chosen : Chosen) (row : Row) (q : Request) (b : Backend) (sockets : List Socket) (picked : Option Socket) (to : Socket) → picked ≡ Some to → Contains sockets to
    → IsSentTo sockets (by_endpoint chosen row q b picked).action
sent chosen row q b sockets picked to e held =
    subst (λ (p : Option Socket). IsSentTo sockets (by_endpoint chosen row q b p).action) (sym e) (to, _, _, held, refl)

by_a_state : (chosen : Chosen) (row : Row) (q : Request) (books : Books) (b : Backend) (state : BackendState) → ((sockets : List Socket) → state ≡ ready sockets → 0 < length sockets)
    → IsByState state (by_state chosen row q books b state).action
by_a_state chosen row q books b invalid_kind some = refl
by_a_state chosen row q books b not_permitted some = refl
by_a_state chosen row q books b no_service some = refl
by_a_state chosen row q books b bad_protocol some = refl
by_a_state chosen row q books b no_endpoints some = refl
by_a_state chosen row q books b (ready sockets) some =
    let drawn = endpoint_drawn b sockets books (some sockets refl) in
    sent chosen row q b sockets (picked_endpoint b sockets books) drawn.0 drawn.1 drawn.2

by_choice : (listener : Option (List ℕ)) (row : Row) (q : Request) (books : Books) → AreReady row → sends_nothing row.plan ≡ false
    → IsByVerdict (choose row) books (by_verdict listener q books (choose row)).action
by_choice listener row q books all some =
    let drawn = backend_drawn row books some in
    let b : Backend = drawn.0 in
    let chosen : Chosen = record (routed listener row) { backend = Some (record { key = b.key; port = b.port }) } in
    let is_ready : HasSocketsIfReady b = All-contains HasSocketsIfReady row.plan.backends b all drawn.2 in
    let done : IsByState b.state (by_backend (routed listener row) row q books (picked_backend row books)).action =
    subst (λ (p : Option Backend). IsByState b.state (by_backend (routed listener row) row q books p).action) (sym drawn.1)
    (by_a_state chosen row q books b b.state is_ready) in
    (b, drawn.1, drawn.2, done)

by_redirect : (listener : Option (List ℕ)) (row : Row) (q : Request) (books : Books) (found : Option Redirect) → is_some found ≡ true
    → IsRedirected (option_map_or (redirected (routed listener row) row q) found (replied (routed listener row) 500 (Some NoBackend))).action
by_redirect listener row q books None e = absurd (true≢false (sym e))
by_redirect listener row q books (Some r) e = (_, _, refl)

by_row : (listener : Option (List ℕ)) (row : Row) (q : Request) (books : Books) → AreReady row
    → IsByVerdict (verdict_by row) books (by_verdict listener q books (verdict_by row)).action
by_row listener row q books all = first (is_some (redirect_in row.plan)) refl
  where
    then_nothing : (t : Bool) → sends_nothing row.plan ≡ t
        → IsByVerdict (if t then nothing row else choose row) books (by_verdict listener q books (if t then nothing row else choose row)).action
    then_nothing true e = refl
    then_nothing false e = by_choice listener row q books all e

    first : (t : Bool) → is_some (redirect_in row.plan) ≡ t
        → IsByVerdict (if t then redirect row else (if sends_nothing row.plan then nothing row else choose row)) books
        (by_verdict listener q books (if t then redirect row else (if sends_nothing row.plan then nothing row else choose row))).action
    first true e = by_redirect listener row q books (redirect_in row.plan) e
    first false e = then_nothing (sends_nothing row.plan) refl

-- what holds of all holds of the one that is found
found_among : {T : Type 0} (P : T → Type 0) (test : T → Bool) (items : List T) → All P items → IfSome (find test items) P
found_among P test [] all = tt
found_among P test (x ∷ items) all = by (test x) (found_among P test items (All-tail P x items all))
  where
    by : (t : Bool) → IfSome (find test items) P → IfSome (cond t (Some x) (find test items)) P
    by true later = All-head P x items all
    by false later = later

row_among : (P : Row → Type 0) (rows : Rows) (q : Request) → All P rows.rows → IfSome (row_at rows q) P
unfolding row_at
row_among P rows q all = by (listener_at rows.listeners q.host)
  where
    by : (l : Option ServedListener) → IfSome (l >>= λ l. foremost precedence (filter (fits_at l q) rows.rows)) P
    by None = tt
    by (Some l) = found_among P _ (filter (fits_at l q) rows.rows) (All-filter (fits_at l q) P rows.rows all)

decided : (rows : Rows) (q : Request) (books : Books) → All AreReady rows.rows → IsByVerdict (verdict_of rows q) books (action_of rows q books)
unfolding decision_of verdict_of
decided rows q books all = by (row_at rows q) (row_among AreReady rows q all)
  where
    name : Option (List ℕ)
    name = option_map (λ l. l.name) (listener_at rows.listeners q.host)

    by : (row : Option Row) → IfSome row AreReady
        → IsByVerdict (option_map_or verdict_by row not_found) books (by_verdict name q books (option_map_or verdict_by row not_found)).action
    by None ready_is = refl
    by (Some row) ready_is = by_row name row q books ready_is

pub decisions : (doors : List Door) (controller : List ℕ) (changes : List Entry) (door : ℕ) (q : Request) (books : Books)
    → IsByVerdict (verdict_of (rows_after doors controller changes door) q) books (action_of (rows_after doors controller changes door) q books)
decisions doors controller changes door q books =
    decided (rows_after doors controller changes door) q books (ready_backends doors controller changes door)
