-- What comes of a piece.
use Rattle.std.proofs.Common.{◌≡◌, ◌∙◌, ℕ, ◌<◌, ◌≤◌, Bool, List, [], ◌∷◌, ◌++◌, length, map, set, drop, Some, refl, sym, subst, ap, arith, append_assoc, length-append, slice_get, get_or, ◌==◌}
use Rattle.std.proofs.lemmas.List.{length-map}
use Rattle.std.proofs.lemmas.Option.{slice_get-get_or}
use Rattle.gw_answers.specs.model.ServedRows.{ServedRow}
use Rattle.gw_frames.specs.model.Requests.{Request, ended}
use Rattle.gw_link.specs.Exchanges.{Exchange}
use Rattle.gw_link.specs.UpstreamLaws.{IsKept, kept_by}
use Rattle.gw_link.specs.Upstreams.{Becomes, Refuses, UpstreamState}
use Rattle.gw_link.specs.declared.order.Order.{Order}
use Rattle.gw_link.specs.declared.order.UpstreamCall.{UpstreamCall}
use Rattle.gw_text.specs.model.Addresses.{Socket}
use Rattle.gw_link.proofs.ScriptLemmas.{AreScripted, scripted_by}
use Rattle.gw_answers.specs.declared.books.Books.{Books}
use Rattle.gw_lists.proofs.Beginnings.{begins_with-length, begins_with-self, begins_with-trans, begins_with-whole}
use Rattle.gw_snap.specs.Lists.{BeginsWith, Book, Seen}
use Rattle.gw_store.specs.declared.event.Entry.{Entry}
use Rattle.gw_text.specs.model.Doors.{Door}
use Rattle.gw_worker.proofs.Linking.{calm, ended_served}
use Rattle.gw_worker.proofs.Parts.{rows_append}
use Rattle.gw_worker.proofs.Turning.{settled}
use Rattle.gw_worker.specs.Conns.{AreServed, AreWhole, IsAllOf, IsServing, StandsFor}
use Rattle.gw_worker.specs.Flows.{Flows, Outside, Served, Took, outside}
use Rattle.gw_worker.specs.Workers.{Decided, Decides, IsAt}
use Rattle.gw_worker.specs.declared.conn.Conn.{Conn}
use Rattle.gw_worker.specs.declared.serve.Flow.{Flow}
use Rattle.gw_worker.specs.declared.serve.Flow.TheVariants as flows
use Rattle.gw_worker.specs.model.Workers.{Worker}
use Rattle.gw_worker.specs.model.Sessions.{Handled, Part, Place, a_close, a_cut, a_refused, a_request, a_wait, rows_of, step_of}
use Rattle.gw_replay.specs.Lines.{end_text, rows_text, written_text}
use Rattle.gw_replay.specs.Replays.{AreDecidedBy, Client as Plain, Serves, Site, State, place_at}
use Rattle.gw_replay.specs.States.{AreBackends, HasSeen, IsClient, Keeps, ending_of, site_of}
use Rattle.gw_conns.specs.Standing.{IsServedBy, conn_of}
use Rattle.gw_conns.specs.declared.connection.Connection.{Connection}
use Rattle.gw_conns.proofs.Standing.{serving_of, stands_for}
use Rattle.gw_replay.specs.declared.replay.Client.{Client}
use Rattle.gw_replay.specs.declared.replay.Replay.{Replay}
use Rattle.gw_replay.specs.Pairs.{paired_text}
use Rattle.gw_replay.proofs.Answering.{all_answered}
use Rattle.gw_replay.proofs.Keeping.{picks_at, seen_at}
use Rattle.gw_replay.proofs.Pairing.{all_paired}

seen_then : (p : Place) (q : Request) (h : Handled) (a m : Worker) → Decides p a m q h → m.pass.seen ≡ h.changes
seen_then p q h a m d = ap (λ (x : Seen Entry (List Door × List ℕ)). x.seen) d.pass

-- what a pass has seen only grows
pub decided_later : (p : Place) (parts : List Part) (a b : Worker) → Decided p a b parts → BeginsWith a.pass.seen b.pass.seen
decided_later p [] a b d = subst (λ (w : Worker). BeginsWith a.pass.seen w.pass.seen) (sym d) (begins_with-self a.pass.seen)
decided_later p (a_request q h ∷ parts) a b d =
    begins_with-trans a.pass.seen d.0.pass.seen b.pass.seen
    (subst (λ (list : List Entry). BeginsWith a.pass.seen list) (sym (seen_then p q h a d.0 d.1.0)) d.1.0.later) (decided_later p parts d.0 b d.1.1)
decided_later p (a_wait ∷ parts) a b d = decided_later p parts a b d
decided_later p (a_refused code ∷ parts) a b d = decided_later p parts a b d
decided_later p (a_close ∷ parts) a b d = decided_later p parts a b d
decided_later p (a_cut ∷ parts) a b d = decided_later p parts a b d

-- where it has seen what is published, and no more, each request was decided by that
decided_by : (p : Place) (parts : List Part) (list : List Entry) (a b : Worker) → BeginsWith list a.pass.seen → length b.pass.seen ≤ length list → Decided p a b parts
    → AreDecidedBy p list a.books b.books parts
decided_by p [] list a b before most d = ap (λ (w : Worker). w.books) d
decided_by p (a_request q h ∷ parts) list a b before most d =
    let then : BeginsWith list h.changes = begins_with-trans list a.pass.seen h.changes before d.1.0.later in
    let first : BeginsWith list d.0.pass.seen = subst (λ (l : List Entry). BeginsWith list l) (sym (seen_then p q h a d.0 d.1.0)) then in
    let later : length d.0.pass.seen ≤ length b.pass.seen = begins_with-length d.0.pass.seen b.pass.seen (decided_later p parts d.0 b d.1.1) in
    let same : list ≡ d.0.pass.seen = begins_with-whole list d.0.pass.seen first (omega (arith, later, most)) in (
      sym (same ∙ seen_then p q h a d.0 d.1.0),
      d.1.0.books,
      subst (λ (books : Books). AreDecidedBy p list books b.books parts) d.1.0.counted (decided_by p parts list d.0 b first most d.1.1),
    )
decided_by p (a_wait ∷ parts) list a b before most d = decided_by p parts list a b before most d
decided_by p (a_refused code ∷ parts) list a b before most d = decided_by p parts list a b before most d
decided_by p (a_close ∷ parts) list a b before most d = decided_by p parts list a b before most d
decided_by p (a_cut ∷ parts) list a b before most d = decided_by p parts list a b before most d

whole_behind : (p : Place) (xs ys : List Part) → AreWhole p (xs ++ ys) → AreWhole p ys
whole_behind p [] ys whole = whole
whole_behind p (x ∷ xs) ys whole = whole_behind p xs ys whole.1

-- all that came is served
pub are_served : (p : Place) (conn : Conn) (bytes : List ℕ) (over : Bool) (parts : List Part) (text : List ℕ) (flow : Flow) → StandsFor conn p bytes parts text
    → Flows bytes over parts flow → (flow ≡ flows.More → IsServing conn) → AreServed p conn.rows parts text
are_served p conn bytes over parts text flows.More stands flow serving =
    settled conn.stage p conn.rows parts text (calm conn.stage (serving refl).reading) stands.serves
are_served p conn bytes over parts text (flows.Ended why) stands flow serving = ended_served conn.stage p conn.rows parts text why stands.serves flow.1

ends_so : (bytes : List ℕ) (over : Bool) (parts : List Part) (flow : Flow) → Flows bytes over parts flow → ended (map step_of parts) ≡ ending_of flow
ends_so bytes over parts flows.More flow = flow.1
ends_so bytes over parts (flows.Ended why) flow = flow.1

all_of : (bytes : List ℕ) (over : Bool) (parts : List Part) (flow : Flow) → Flows bytes over parts flow → IsAllOf bytes over parts
all_of bytes over parts flows.More flow = flow.0
all_of bytes over parts (flows.Ended why) flow = flow.0

-- what is behind the first items
drop_first : {A : Type 0} (xs ys : List A) → drop (length xs) (xs ++ ys) ≡ ys
drop_first [] ys = refl
drop_first (x ∷ xs) ys = drop_first xs ys

some_same : {A : Type 0} (x y : A) → Some x ≡ Some y → x ≡ y
some_same x y e = cc

-- the worker of a connection
pub worker_within : {R : Type 0} (r : Replay R) (s : State) (c : Client) (plain : Plain) → Keeps r s → IsClient (site_of r) (length s.workers) c plain → c.worker < length r.workers.items
worker_within r s c plain k client = omega (arith, client.within, ap length k.workers, length-map r.workers.items (λ (v : Worker). v.books))

pub worker_at : {R : Type 0} (r : Replay R) (s : State) (c : Client) (plain : Plain) (w : Worker) → Keeps r s → IsClient (site_of r) (length s.workers) c plain → w ≡ get_or r.workers.items c.worker w
    → slice_get r.workers.items c.worker ≡ Some w
worker_at r s c plain w k client at = slice_get-get_or r.workers.items c.worker w (worker_within r s c plain k client) ∙ ap Some (sym at)

pub picks_there : {R : Type 0} (r : Replay R) (s : State) (c : Client) (plain : Plain) (w : Worker) → Keeps r s → IsClient (site_of r) (length s.workers) c plain → w ≡ get_or r.workers.items c.worker w
    → slice_get s.workers plain.worker ≡ Some w.books
picks_there r s c plain w k client at =
    subst (λ (n : ℕ). slice_get s.workers n ≡ Some w.books) client.worker
    (subst (λ (ws : List Books). slice_get ws c.worker ≡ Some w.books) k.workers (picks_at r.workers.items c.worker w (worker_at r s c plain w k client at)))

pub worker_seen : {R : Type 0} (r : Replay R) (s : State) (c : Client) (plain : Plain) (w : Worker) → Keeps r s → IsClient (site_of r) (length s.workers) c plain → w ≡ get_or r.workers.items c.worker w
    → HasSeen s.published (r.controller.doors, r.controller.controller) r.controller.book w
worker_seen r s c plain w k client at =
    subst (λ (list : List Entry). HasSeen list (r.controller.doors, r.controller.controller) r.controller.book w) k.published
    (seen_at r.controller.published (r.controller.doors, r.controller.controller) r.controller.book r.workers.items c.worker w k.learnt (worker_at r s c plain w k client at))

pub is_at : (site : Site) (door : ℕ) (seen : List Entry) (book : Book) (w : Worker) → HasSeen seen (site.doors, site.controller) book w → IsAt w (place_at site door)
is_at site door seen book w has = record {
  doors = ap (λ (f : List Door × List ℕ). f.0) has.of.fixed_is;
  controller = ap (λ (f : List Door × List ℕ). f.1) has.of.fixed_is;
}

pub door_there : {R : Type 0} (r : Replay R) (s : State) (c : Client) (plain : Plain) (w : Worker) → Keeps r s → IsClient (site_of r) (length s.workers) c plain → w ≡ get_or r.workers.items c.worker w
    → (conn_of c.conn).door < length w.pass.fixed.0
door_there r s c plain w k client at =
    subst (λ (n : ℕ). n < length w.pass.fixed.0) (sym (stands_for c.conn (place_at (site_of r) plain.door) plain.bytes plain.parts plain.text client.ready client.stands).door)
    (subst (λ (doors : List Door). plain.door < length doors) (sym (ap (λ (f : List Door × List ℕ). f.0) (worker_seen r s c plain w k client at).of.fixed_is)) client.door)

-- the rows so far
pub rows_before : (site : Site) (workers : ℕ) (c : Client) (plain : Plain) → IsClient site workers c plain → (conn_of c.conn).rows ≡ rows_of (place_at site plain.door) plain.parts
rows_before site workers c plain client =
    (settled (conn_of c.conn).stage (place_at site plain.door) (conn_of c.conn).rows plain.parts plain.text (calm (conn_of c.conn).stage (serving_of c.conn client.ready).reading)
    (stands_for c.conn (place_at site plain.door) plain.bytes plain.parts plain.text client.ready client.stands).serves).rows_are

-- a piece was taken
pub record Taken (site : Site) (book : Book) (piece : List ℕ) (s : State) (c : Plain) (before after : Worker) (conn : Conn) (flow : Flow) (told0 told : List ℕ) (backends0 backends : UpstreamState) : Type 0 where
  pub nothing : told0 ≡ []
  pub told_so : AreBackends backends0 s.orders
  pub worker : slice_get s.workers c.worker ≡ Some before.books
  pub seen : HasSeen s.published (site.doors, site.controller) book before
  pub most : length after.pass.seen ≤ length s.published
  pub fixed : after.pass.fixed ≡ before.pass.fixed
  pub of : after.pass.book ≡ before.pass.book
  pub served : Served (Refuses backends0 backends) (place_at site c.door) before after conn (c.bytes ++ piece) (length piece == 0) c.parts c.text (outside (Some told0) (Some backends0.exchanges) backends0.calls.faults) (outside (Some told) (Some backends.exchanges) backends.calls.faults) flow
  pub serving : flow ≡ flows.More → IsServing conn

module _ {site : Site} {book : Book} {piece : List ℕ} {s : State} {c : Plain} {before after : Worker} {conn : Conn} {flow : Flow} {told0 told : List ℕ} {backends0 backends : UpstreamState}
    (v : Taken site book piece s c before after conn flow told0 told backends0 backends) where
  abbrev p : Place
  p = place_at site c.door

  abbrev t : Took (Refuses backends0 backends) p before after conn (c.bytes ++ piece) c.parts c.text (outside (Some told0) (Some backends0.exchanges) backends0.calls.faults) (outside (Some told) (Some backends.exchanges) backends.calls.faults)
  t = v.served.took

  served : AreServed p conn.rows (c.parts ++ t.more) (c.text ++ t.wrote)
  served = are_served p conn (c.bytes ++ piece) (length piece == 0) (c.parts ++ t.more) (c.text ++ t.wrote) flow t.stands v.served.flows v.serving

  -- the connection, and what stands behind it
  abbrev pub client_after : Plain
  client_after = record c { bytes = c.bytes ++ piece; parts = c.parts ++ t.more; text = c.text ++ t.wrote }

  abbrev pub state_after : State
  state_after = record s {
    workers = set s.workers c.worker after.books;
    statuses = s.statuses ++ map (λ row. row.status) (rows_of p t.more);
  }

  abbrev pub text_after : List ℕ → ℕ → List ℕ
  text_after name line = rows_text name line p t.more ++ written_text name line t.wrote ++ end_text name line (ending_of flow)

  exchanges_are : backends.exchanges ≡ backends0.exchanges ++ t.met
  exchanges_are = some_same backends.exchanges (backends0.exchanges ++ t.met) t.told

  pub serves_so : (line : ℕ) (name : List ℕ) → Becomes backends0 backends → backends.starved ≡ backends0.starved → Serves p line name c client_after piece (ending_of flow) s state_after (text_after name line)
  serves_so line name becomes starved = record {
    before = before.books;
    after = after.books;
    more = t.more;
    wrote = t.wrote;
    worker = v.worker;
    all = all_of (c.bytes ++ piece) (length piece == 0) (c.parts ++ t.more) flow v.served.flows;
    ends = ends_so (c.bytes ++ piece) (length piece == 0) (c.parts ++ t.more) flow v.served.flows;
    decided = decided_by p t.more s.published before after v.seen.seen v.most t.decided;
    answered = all_answered s.orders backends0 backends p t.more t.met v.told_so (starved ∙ v.told_so.ample) (whole_behind p c.parts t.more served.whole)
        (subst (λ (orders : List Order). AreScripted orders t.met) v.told_so.orders_are (scripted_by backends0 backends t.met becomes v.told_so.some exchanges_are))
        t.exchanged t.refused;
    wrote_is = served.text_is;
    client = refl;
    state = refl;
    text_is = refl;
  }

  -- the backends behind it
  pub backends_so : Becomes backends0 backends → backends.starved ≡ backends0.starved → AreBackends backends s.orders
  backends_so becomes starved =
      let kept : IsKept backends0 backends = kept_by backends0 backends becomes in
      record {
        orders_are = kept.orders ∙ v.told_so.orders_are;
        some = subst (λ (n : ℕ). 0 < n) (sym kept.most) v.told_so.some;
        unlisted = kept.fails ∙ v.told_so.unlisted;
        ample = starved ∙ v.told_so.ample;
      }

  -- what was written, exchanged, and kept of it
  pub wrote_so : told ≡ t.wrote
  wrote_so = some_same told (told0 ++ t.wrote) t.written ∙ ap (λ (l : List ℕ). l ++ t.wrote) v.nothing

  pub met_so : drop (length backends0.exchanges) backends.exchanges ≡ t.met
  met_so = ap (drop (length backends0.exchanges)) exchanges_are ∙ drop_first backends0.exchanges t.met

  pub met_longer : length backends0.exchanges ≤ length backends.exchanges
  met_longer = omega (arith, ap length exchanges_are ∙ length-append backends0.exchanges t.met)

  rows_are : conn.rows ≡ rows_of p c.parts ++ rows_of p t.more
  rows_are = served.rows_are ∙ rows_append p c.parts t.more

  pub rows_so : (rows : List ServedRow) → rows ≡ rows_of p c.parts → drop (length rows) conn.rows ≡ rows_of p t.more
  rows_so rows is = ap (λ (n : ℕ). drop n conn.rows) (ap length is) ∙ ap (drop (length (rows_of p c.parts))) rows_are ∙ drop_first (rows_of p c.parts) (rows_of p t.more)

  pub rows_longer : (rows : List ServedRow) → rows ≡ rows_of p c.parts → length rows ≤ length conn.rows
  rows_longer rows is = omega (arith, ap length is, ap length rows_are ∙ length-append (rows_of p c.parts) (rows_of p t.more))

  pub whole_so : AreWhole p t.more
  whole_so = whole_behind p c.parts t.more served.whole

  pub has_so : HasSeen s.published (site.doors, site.controller) book after
  has_so = record {
    seen = begins_with-trans s.published before.pass.seen after.pass.seen v.seen.seen (decided_later p t.more before after t.decided);
    of = record { fixed_is = v.fixed ∙ v.seen.of.fixed_is; book_is = v.of ∙ v.seen.of.book_is };
  }

  -- the lines of its rows
  pub paired_so : (line : ℕ) (name : List ℕ) (rows : List ServedRow) (met : List Exchange) → rows ≡ rows_of p t.more → met ≡ t.met → paired_text name line rows met ≡ rows_text name line p t.more
  paired_so line name rows met rows_is met_is =
      ap (λ (r : List ServedRow). paired_text name line r met) rows_is ∙ ap (paired_text name line (rows_of p t.more)) met_is ∙ all_paired name line p t.more t.met whole_so t.exchanged

-- three texts, one behind the other
pub printed_all : (t0 t1 t2 t3 a b c : List ℕ) → t1 ≡ t0 ++ a → t2 ≡ t1 ++ b → t3 ≡ t2 ++ c → t3 ≡ t0 ++ ((a ++ b) ++ c)
printed_all t0 t1 t2 t3 a b c first second third =
    third ∙ ap (λ (x : List ℕ). x ++ c) (second ∙ ap (λ (x : List ℕ). x ++ b) first) ∙ ap (λ (x : List ℕ). x ++ c) (append_assoc t0 a b) ∙ append_assoc t0 (a ++ b) c

-- a worker whose pass is as it was
pub same_worker : (a b : Worker) → b.pass.seen ≡ a.pass.seen → b.pass.fixed ≡ a.pass.fixed → b.pass.book ≡ a.pass.book → b.pass.refused ≡ a.pass.refused → b.pass.ahead ≡ a.pass.ahead → b.books ≡ a.books → b ≡ a
same_worker a b seen fixed book refused ahead books =
    ap (λ (l : List Entry). record b { pass = record b.pass { seen = l } }) seen
    ∙ ap (λ (f : List Door × List ℕ). record b { pass = record b.pass { seen = a.pass.seen; fixed = f } }) fixed
    ∙ ap (λ (k : Book). record b { pass = record b.pass { seen = a.pass.seen; fixed = a.pass.fixed; book = k } }) book
    ∙ ap (λ (n : ℕ). record b { pass = record b.pass { seen = a.pass.seen; fixed = a.pass.fixed; book = a.pass.book; refused = n } }) refused
    ∙ ap (λ (n : ℕ). record b { pass = record a.pass { ahead = n } }) ahead
    ∙ ap (λ (k : Books). record { pass = a.pass; books = k }) books

-- what was served by it
pub served_as : {refuses : UpstreamCall → Socket → Type 0} {p : Place} {before a b : Worker} {conn : Connection} {bytes : List ℕ} {over : Bool} {parts : List Part} {text : List ℕ} {o o' : Outside} {flow : Flow} → b ≡ a
    → IsServedBy refuses p before a conn bytes over parts text o o' flow → IsServedBy refuses p before b conn bytes over parts text o o' flow
served_as {refuses} {p} {before} {a} {b} {conn} {bytes} {over} {parts} {text} {o} {o'} {flow} same served =
    subst (λ (w : Worker). IsServedBy refuses p before w conn bytes over parts text o o' flow) (sym same) served
