-- What stays as it is.
use Rattle.std.proofs.Common.{◌≡◌, ◌∙◌, ℕ, zero, suc, ◌+◌, ◌<◌, Bool, true, false, cond, List, [], ◌∷◌, ◌++◌, length, map, replicate, set, get_or, Option, Some, None, String, Global, refl, sym, subst, ap, arith, slice_get, bytes_eq}
use Rattle.std.specs.Prelude.{⊤}
use Rattle.std.specs.Map.{update}
use Rattle.std.specs.BTreeMap.{BTreeMap, IsEmpty, get_by_text}
use Rattle.std.proofs.lemmas.List.{length-set}
use Rattle.gw_answers.specs.declared.books.Books.{Books}
use Rattle.gw_hub.specs.Control.{Control}
use Rattle.gw_link.specs.Upstreams.{UpstreamState}
use Rattle.gw_link.specs.declared.order.Order.{Order}
use Rattle.gw_lists.proofs.Beginnings.{begins_with-self}
use Rattle.gw_snap.specs.Lists.{Book, Seen, copies, fresh}
use Rattle.gw_store.specs.declared.event.Entry.{Entry}
use Rattle.gw_text.specs.model.Doors.{Door}
use Rattle.gw_worker.specs.model.Workers.{Worker}
use Rattle.gw_json.specs.Lines.{line_of}
use Rattle.gw_replay.specs.Lines.{totals_data}
use Rattle.gw_replay.specs.Replays.{Client as Plain, Site, State, no_picks, totals_text, with_order}
use Rattle.gw_replay.specs.States.{AreBackends, HasSeen, HaveLearnt, HaveSeen, IsOf, Keeps, Matches, picks_of, site_of, worker_over}
use Rattle.gw_replay.specs.declared.replay.Client.{Client}
use Rattle.gw_replay.specs.declared.replay.Replay.{Replay}

abbrev Fixed : Type 0
Fixed = List Door × List ℕ

-- two controllers of the same opening, with the same published
pub same_opening : (c d : Control) (ws : List Worker) → c.published ≡ d.published → c.doors ≡ d.doors → c.controller ≡ d.controller → c.book ≡ d.book → HaveLearnt d ws → HaveLearnt c ws
same_opening c d ws published doors controller book have =
    subst (λ (list : List Entry). HaveSeen list (c.doors, c.controller) c.book ws) (sym published)
    (subst (λ (x : List Door). HaveSeen d.published (x, c.controller) c.book ws) (sym doors)
    (subst (λ (x : List ℕ). HaveSeen d.published (d.doors, x) c.book ws) (sym controller)
    (subst (λ (b : Book). HaveSeen d.published (d.doors, d.controller) b ws) (sym book) have)))

pub same_site : {R : Type 0} (old new : Replay R) → new.controller.doors ≡ old.controller.doors → new.controller.controller ≡ old.controller.controller → site_of new ≡ site_of old
same_site old new doors controller =
    ap (λ (x : List Door). record { doors = x; controller = new.controller.controller }) doors
    ∙ ap (λ (x : List ℕ). record { doors = old.controller.doors; controller = x }) controller

pub same_clients : (site other : Site) (size : ℕ) (f : List ℕ → Option Client) (g : List ℕ → Option Plain) → other ≡ site → ((name : List ℕ) → Matches site size (f name) (g name)) → (name : List ℕ) → Matches other size (f name) (g name)
same_clients site other size f g same all name = subst (λ (s : Site). Matches s size (f name) (g name)) (sym same) (all name)

-- a line is refused
pub keeps_refused : {R : Type 0} (old new : Replay R) (s : State) → new ≡ record old { text = new.text; refused = new.refused } → new.refused ≡ old.refused + 1 → Keeps old s
    → Keeps new (record s { refused = s.refused + 1 })
keeps_refused {R} old new s is counted k = subst (λ (r : Replay R). Keeps r (record s { refused = s.refused + 1 })) (sym is) (record {
  changes = k.changes;
  published = k.published;
  learnt = k.learnt;
  workers = k.workers;
  clients = k.clients;
  backends = k.backends;
  statuses = k.statuses;
  refused = counted ∙ ap (λ n. n + 1) k.refused;
  skipped = k.skipped;
})

-- the worker of a number
pub seen_at : (list : List Entry) (fixed : Fixed) (book : Book) (workers : List Worker) (n : ℕ) (w : Worker) → HaveSeen list fixed book workers → slice_get workers n ≡ Some w → HasSeen list fixed book w
seen_at list fixed book [] n w have is = absurd (cc is)
seen_at list fixed book (v ∷ workers) zero w have is = subst (λ (o : Option Worker). SomeHasSeen o) is have.0
  where
    SomeHasSeen : Option Worker → Type 0
    SomeHasSeen None = ⊤
    SomeHasSeen (Some w) = HasSeen list fixed book w
seen_at list fixed book (v ∷ workers) (suc n) w have is = seen_at list fixed book workers n w have.1 is

-- one worker that has seen as much
pub seen_set : (list : List Entry) (fixed : Fixed) (book : Book) (workers : List Worker) (n : ℕ) (w : Worker) → HaveSeen list fixed book workers → HasSeen list fixed book w → HaveSeen list fixed book (set workers n w)
seen_set list fixed book [] n w have has = tt
seen_set list fixed book (v ∷ workers) zero w have has = (has, have.1)
seen_set list fixed book (v ∷ workers) (suc n) w have has = (have.0, seen_set list fixed book workers n w have.1 has)

-- workers over passes of which nobody has seen anything
pub seen_nothing : (fixed : Fixed) (book : Book) (n : ℕ) → HaveSeen [] fixed book (map worker_over (copies n (fresh fixed book)))
seen_nothing fixed book zero = tt
seen_nothing fixed book (suc n) = (record { seen = begins_with-self []; of = record { fixed_is = refl; book_is = refl } }, seen_nothing fixed book n)

pub picked_nothing : (pass : Seen Entry Fixed) (n : ℕ) → picks_of (map worker_over (copies n pass)) ≡ replicate n no_picks
picked_nothing pass zero = refl
picked_nothing pass (suc n) = ap (λ (xs : List Books). no_picks ∷ xs) (picked_nothing pass n)

-- the picks of a worker of a number
pub picks_at : (workers : List Worker) (n : ℕ) (w : Worker) → slice_get workers n ≡ Some w → slice_get (picks_of workers) n ≡ Some w.books
picks_at [] n w is = absurd (cc is)
picks_at (v ∷ workers) zero w is = some_picks v w is
  where
    some_picks : (a b : Worker) → Some a ≡ Some b → Some a.books ≡ Some b.books
    some_picks a b e = cc
picks_at (v ∷ workers) (suc n) w is = picks_at workers n w is

pub picks_set : (workers : List Worker) (n : ℕ) (w : Worker) → picks_of (set workers n w) ≡ set (picks_of workers) n w.books
picks_set [] n w = refl
picks_set (v ∷ workers) zero w = refl
picks_set (v ∷ workers) (suc n) w = ap (λ (xs : List Books). v.books ∷ xs) (picks_set workers n w)

-- connections, by their names
pub matches_put : (site : Site) (workers : ℕ) (name : List ℕ) (f : List ℕ → Option Client) (g : List ℕ → Option Plain) (c : Option Client) (plain : Option Plain)
    → ((n : List ℕ) → Matches site workers (f n) (g n)) → Matches site workers c plain
    → (n : List ℕ) → Matches site workers (update bytes_eq f name c n) (update bytes_eq g name plain n)
matches_put site workers name f g c plain all one n = go (bytes_eq name n)
  where
    go : (b : Bool) → Matches site workers (cond b c (f n)) (cond b plain (g n))
    go true = one
    go false = all n

-- one name's, put twice
pub put_twice : {X : Type 0} (name : List ℕ) (f : List ℕ → Option X) (a b : Option X) (n : List ℕ) → update bytes_eq (update bytes_eq f name a) name b n ≡ update bytes_eq f name b n
put_twice name f a b n = go (bytes_eq name n)
  where
    go : (t : Bool) → cond t b (cond t a (f n)) ≡ cond t b (f n)
    go true = refl
    go false = refl

-- a worker of a number has learnt
abbrev pub FirstSeen : ℕ → List Entry → Fixed → Book → List Worker → Type 0
FirstSeen n list fixed book [] = ⊤
FirstSeen zero list fixed book (w ∷ workers) = IsOf fixed book w × FirstSeen zero list fixed book workers
FirstSeen (suc n) list fixed book (w ∷ workers) = HasSeen list fixed book w × FirstSeen n list fixed book workers

pub first_none : (before list : List Entry) (fixed : Fixed) (book : Book) (workers : List Worker) → HaveSeen before fixed book workers → FirstSeen zero list fixed book workers
first_none before list fixed book [] have = tt
first_none before list fixed book (w ∷ workers) have = (have.0.of, first_none before list fixed book workers have.1)

pub first_all : (n : ℕ) (list : List Entry) (fixed : Fixed) (book : Book) (workers : List Worker) → length workers ≡ n → FirstSeen n list fixed book workers → HaveSeen list fixed book workers
first_all n list fixed book [] size have = tt
first_all zero list fixed book (w ∷ workers) size have = absurd (cc size)
first_all (suc n) list fixed book (w ∷ workers) size have = (have.0, first_all n list fixed book workers (omega (arith, size)) have.1)

pub first_at : (n : ℕ) (list : List Entry) (fixed : Fixed) (book : Book) (workers : List Worker) (d : Worker) → n < length workers → FirstSeen n list fixed book workers → IsOf fixed book (get_or workers n d)
first_at n list fixed book [] d within have = absurd (omega (arith, within))
first_at zero list fixed book (w ∷ workers) d within have = have.0
first_at (suc n) list fixed book (w ∷ workers) d within have = first_at n list fixed book workers d (omega (arith, within)) have.1

one_first : (n : ℕ) (list : List Entry) (fixed : Fixed) (book : Book) (workers : List Worker) (w : Worker) → FirstSeen n list fixed book workers → HasSeen list fixed book w → FirstSeen (suc n) list fixed book (set workers n w)
one_first n list fixed book [] w have has = tt
one_first zero list fixed book (v ∷ workers) w have has = (has, have.1)
one_first (suc n) list fixed book (v ∷ workers) w have has = (have.0, one_first n list fixed book workers w have.1 has)

pub first_more : (n : ℕ) (list : List Entry) (fixed : Fixed) (book : Book) (workers : List Worker) (w : Worker) → FirstSeen n list fixed book workers → HasSeen list fixed book w → FirstSeen (n + 1) list fixed book (set workers n w)
first_more n list fixed book workers w have has =
    let next : suc n ≡ n + 1 = omega arith in
    subst (λ (k : ℕ). FirstSeen k list fixed book (set workers n w)) next (one_first n list fixed book workers w have has)

-- a worker with the picks that it had
set_same : (workers : List Worker) (n : ℕ) (d w : Worker) → w.books ≡ (get_or workers n d).books → set (picks_of workers) n w.books ≡ picks_of workers
set_same [] n d w same = refl
set_same (v ∷ workers) zero d w same = ap (λ (b : Books). b ∷ picks_of workers) same
set_same (v ∷ workers) (suc n) d w same = ap (λ (xs : List Books). v.books ∷ xs) (set_same workers n d w same)

pub picks_same : (workers : List Worker) (n : ℕ) (d w : Worker) → w.books ≡ (get_or workers n d).books → picks_of (set workers n w) ≡ picks_of workers
picks_same workers n d w same = picks_set workers n w ∙ set_same workers n d w same

-- a connection was served
pub keeps_served : {R : Type 0} (old new : Replay R) (s : State) (n : ℕ) (w : Worker) (more : List ℕ) → Keeps old s
    → new ≡ record old { workers = new.workers; backends = new.backends; statuses = new.statuses; text = new.text }
    → AreBackends new.backends s.orders → new.workers.items ≡ set old.workers.items n w → HasSeen old.controller.published (old.controller.doors, old.controller.controller) old.controller.book w
    → new.statuses.items ≡ s.statuses ++ more
    → Keeps new (record s { workers = set s.workers n w.books; statuses = s.statuses ++ more })
keeps_served {R} old new s n w more k is backends workers has statuses =
    subst (λ (r : Replay R). Keeps r (record s { workers = set s.workers n w.books; statuses = s.statuses ++ more })) (sym is) (record {
      changes = k.changes;
      published = k.published;
      learnt = subst (λ (ws : List Worker). HaveLearnt old.controller ws) (sym workers)
          (seen_set old.controller.published (old.controller.doors, old.controller.controller) old.controller.book old.workers.items n w k.learnt has);
      workers = ap picks_of workers ∙ picks_set old.workers.items n w ∙ ap (λ (ws : List Books). set ws n w.books) k.workers;
      clients = λ name. subst (λ (size : ℕ). Matches (site_of old) size (get_by_text old.clients name) (s.clients name)) (sym (length-set s.workers n w.books)) (k.clients name);
      backends = backends;
      statuses = statuses;
      refused = k.refused;
      skipped = k.skipped;
    })

-- one thing more was said of backends
pub keeps_ordered : {R : Type 0} (old new : Replay R) (s : State) (order : Order) → Keeps old s → new ≡ record old { backends = new.backends }
    → new.backends ≡ record old.backends { orders = old.backends.orders ++ order ∷ [] } → Keeps new (with_order s order)
keeps_ordered {R} old new s order k is said = subst (λ (r : Replay R). Keeps r (with_order s order)) (sym is) (record {
  changes = k.changes;
  published = k.published;
  learnt = k.learnt;
  workers = k.workers;
  clients = k.clients;
  backends = subst (λ (up : UpstreamState). AreBackends up (s.orders ++ order ∷ [])) (sym said) (record {
    orders_are = ap (λ (list : List Order). list ++ order ∷ []) k.backends.orders_are;
    some = k.backends.some;
    unlisted = k.backends.unlisted;
    ample = k.backends.ample;
  });
  statuses = k.statuses;
  refused = k.refused;
  skipped = k.skipped;
})

-- the connections changed
pub keeps_clients : {R : Type 0} (old new : Replay R) (s : State) (clients : List ℕ → Option Plain) → Keeps old s → new ≡ record old { clients = new.clients }
    → ((name : List ℕ) → Matches (site_of old) (length s.workers) (get_by_text new.clients name) (clients name)) → Keeps new (record s { clients = clients })
keeps_clients {R} old new s clients k is match =
    subst (λ (r : Replay R). Keeps r (record s { clients = clients })) (sym is) (record {
      changes = k.changes;
      published = k.published;
      learnt = k.learnt;
      workers = k.workers;
      clients = match;
      backends = k.backends;
      statuses = k.statuses;
      refused = k.refused;
      skipped = k.skipped;
    })

-- all was published
pub keeps_published : {R : Type 0} (old new : Replay R) (s : State) → Keeps old s
    → new ≡ record old { controller = new.controller; workers = new.workers; text = new.text }
    → site_of new ≡ site_of old → new.controller.changes ≡ old.controller.changes → new.controller.published ≡ old.controller.changes
    → HaveLearnt new.controller new.workers.items → picks_of new.workers.items ≡ picks_of old.workers.items
    → Keeps new (record s { published = s.changes })
keeps_published {R} old new s k is site changes published learnt picks = record {
  changes = changes ∙ k.changes;
  published = published ∙ k.changes;
  learnt = learnt;
  workers = picks ∙ k.workers;
  clients = λ name. subst (λ (m : BTreeMap (String Global) Client). Matches (site_of new) (length s.workers) (get_by_text m name) (s.clients name)) (sym (ap (λ (r : Replay R). r.clients) is))
      (same_clients (site_of old) (site_of new) (length s.workers) (get_by_text old.clients) s.clients site k.clients name);
  backends = subst (λ (up : UpstreamState). AreBackends up s.orders) (sym (ap (λ (r : Replay R). r.backends) is)) k.backends;
  statuses = ap (λ (r : Replay R). r.statuses.items) is ∙ k.statuses;
  refused = ap (λ (r : Replay R). r.refused) is ∙ k.refused;
  skipped = ap (λ (r : Replay R). r.skipped) is ∙ k.skipped;
}

-- the controller took a change, or none
pub keeps_changed : {R : Type 0} (old new : Replay R) (s : State) (changes : List Entry) → Keeps old s → new ≡ record old { controller = new.controller }
    → new.controller.changes ≡ changes → new.controller.published ≡ old.controller.published → new.controller.doors ≡ old.controller.doors
    → new.controller.controller ≡ old.controller.controller → new.controller.book ≡ old.controller.book → Keeps new (record s { changes = changes })
keeps_changed {R} old new s all k is changes published doors controller book =
    subst (λ (r : Replay R). Keeps r (record s { changes = all })) (sym is) (record {
      changes = changes;
      published = published ∙ k.published;
      learnt = same_opening new.controller old.controller old.workers.items published doors controller book k.learnt;
      workers = k.workers;
      clients = same_clients (site_of old) (site_of new) (length s.workers) (get_by_text old.clients) s.clients (same_site old new doors controller) k.clients;
      backends = k.backends;
      statuses = k.statuses;
      refused = k.refused;
      skipped = k.skipped;
    })

-- the last line, by what is kept
pub totals_are : {R : Type 0} (r : Replay R) (s : State) → Keeps r s
    → line_of (totals_data (length r.controller.changes) (length r.controller.published) r.refused r.statuses.items r.skipped) ≡ totals_text s
totals_are r s k = rw (k.changes, k.published, k.refused, k.statuses, k.skipped) refl

-- an event is skipped
pub keeps_skipped : {R : Type 0} (old : Replay R) (n : ℕ) (s : State) → n ≡ old.skipped + 1 → Keeps old s → Keeps (record old { skipped = n }) (record s { skipped = s.skipped + 1 })
keeps_skipped old n s is k = record {
  changes = k.changes;
  published = k.published;
  learnt = k.learnt;
  workers = k.workers;
  clients = k.clients;
  backends = k.backends;
  statuses = k.statuses;
  refused = k.refused;
  skipped = is ∙ ap (λ n. n + 1) k.skipped;
}

-- no connection is open
pub none_there : (m : BTreeMap (String Global) Client) (name : List ℕ) → IsEmpty m → get_by_text m name ≡ None
none_there m name empty = rw empty refl

pub no_client : (site : Site) (workers : ℕ) (o : Option Client) → o ≡ None → Matches site workers o None
no_client site workers None none = tt
no_client site workers (Some c) none = absurd (cc none)
