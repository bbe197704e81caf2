-- What one line does.
use Rattle.std.proofs.Common.{◌≡◌, ◌∙◌, ℕ, ℤ, ◌+◌, ◌-◌, arith, replicate, take, List, [], ◌∷◌, ◌++◌, append-nil, length, string_bytes, Bool, true, false, cond, IfErr, IsErrAnd, Option, Some, None, Result, Ok, Err, String, Global, refl, sym, subst, ap, bytes_eq, is_some, OnOk}
use Rattle.std.proofs.lemmas.List.{length-map, take_all}
use Rattle.std.proofs.lemmas.Slice.Eq.{bytes_eq-Decides}
use Rattle.std.specs.Bool.{Decides}
use Rattle.std.specs.BTreeMap.{get_by_text}
use Rattle.std.specs.Map.{update}
use Rattle.gw_frames.specs.declared.ended.Ended.{Ended}
use Rattle.gw_hub.specs.Control.{Comes}
use Rattle.gw_resolve.specs.declared.outcome.Outcome.{Outcome}
use Rattle.gw_resolve.specs.declared.outcome.Outcome.TheVariants.{Accepted, Skipped}
use Rattle.gw_link.specs.Moments.{Ticks}
use Rattle.gw_script.specs.Scripts.{step_of}
use Rattle.gw_script.specs.Steps.{Step}
use Rattle.gw_script.specs.declared.refusal.StepRefusal.{StepRefusal}
use Rattle.gw_script.specs.declared.refusal.StepRefusal.TheVariants.{NotStep, TooLong, NoMemory as OutOfMemory}
use Rattle.gw_script.specs.Readings.{IsStep}
use Rattle.gw_json.specs.Refusals.{refusal_number, refusal_path}
use Rattle.gw_json.specs.declared.refusal.Refusal.{Refusal}
use Rattle.gw_match.specs.model.Telling.{world_after}
use Rattle.gw_store.specs.Events.{Read, answer}
use Rattle.gw_store.specs.SeenEvents.{seen_event}
use Rattle.gw_store.specs.declared.event.Entry.{Entry}
use Rattle.gw_worker.specs.model.Sessions.{Place}
use Rattle.gw_worker.specs.model.Workers.{Worker}
use Rattle.gw_replay.specs.Replays.{Client as Plain, Begins, EventDone, IsNoStep, IsRefused, Sends, Serves, Site, State}
use Rattle.gw_replay.specs.States.{Does, DoesInTurn, IsClient, Keeps, Matches, site_of, skipped_after}
use Rattle.gw_replay.specs.declared.replay.Client.{Client}
use Rattle.gw_replay.specs.declared.replay.Replay.{Replay}
use Rattle.gw_replay.proofs.Keeping.{keeps_changed, keeps_clients, keeps_skipped, matches_put, same_site}

-- what was done, said otherwise
pub does_so : {R : Type 0} {P Q : State → State → List ℕ → Type 0} (old new : Replay R) → ((s s' : State) (text : List ℕ) → Keeps old s → P s s' text → Q s s' text) → Does P old new → Does Q old new
does_so old new weaker d = record {
  site = d.site;
  did = λ s k. record {
    state = (d.did s k).state;
    text = (d.did s k).text;
    does_so = weaker s (d.did s k).state (d.did s k).text k (d.did s k).does_so;
    keeps = (d.did s k).keeps;
    printed = (d.did s k).printed;
  };
}

-- a step without a moment
pub without_moment : {R : Type 0} {P : State → State → List ℕ → Type 0} {Q : List ℤ → State → State → List ℕ → Type 0} (told : Option (List ℤ)) (old new : Replay R)
    → ((s s' : State) (text : List ℕ) → Keeps old s → P s s' text → Q [] s s' text) → Does P old new → DoesInTurn Q told told old new
without_moment told old new weaker d = record { moments = []; in_turn = refl; done = does_so old new weaker d }

-- a step with one
pub with_moment : {R : Type 0} {P : State → State → List ℕ → Type 0} {Q : List ℤ → State → State → List ℕ → Type 0} (before after : Option (List ℤ)) (now : ℤ) (old new : Replay R) → Ticks before now after
    → ((s s' : State) (text : List ℕ) → Keeps old s → P s s' text → Q (now ∷ []) s s' text) → Does P old new → DoesInTurn Q before after old new
with_moment before after now old new ticks weaker d = record { moments = now ∷ []; in_turn = (after, (ticks, refl)); done = does_so old new weaker d }

-- the same with each moment
pub turns_so : {R : Type 0} {P Q : List ℤ → State → State → List ℕ → Type 0} (before after : Option (List ℤ)) (old new : Replay R)
    → ((moments : List ℤ) (s s' : State) (text : List ℕ) → Keeps old s → P moments s s' text → Q moments s s' text) → DoesInTurn P before after old new → DoesInTurn Q before after old new
turns_so before after old new weaker d = record { moments = d.moments; in_turn = d.in_turn; done = does_so old new (weaker d.moments) d.done }

-- a name that has no open connection, and one that has
pub unmatched : (site : Site) (workers : ℕ) (o : Option Plain) → Matches site workers None o → o ≡ None
unmatched site workers None match = refl
unmatched site workers (Some plain) match = absurd match

pub matched : (site : Site) (workers : ℕ) (c : Client) (o : Option Plain) → Matches site workers (Some c) o → (plain : Plain) × ((o ≡ Some plain) × IsClient site workers c plain)
matched site workers c None match = absurd match
matched site workers c (Some plain) match = (plain, (refl, match))

pub some_matched : (site : Site) (workers : ℕ) (o : Option Client) (p : Option Plain) → Matches site workers o p → (c : Client) → o ≡ Some c → (plain : Plain) × ((p ≡ Some plain) × IsClient site workers c plain)
some_matched site workers o p match c is = matched site workers c p (subst (λ (x : Option Client). Matches site workers x p) is match)

pub none_matched : (site : Site) (workers : ℕ) (o : Option Client) (p : Option Plain) → Matches site workers o p → o ≡ None → p ≡ None
none_matched site workers o p match is = unmatched site workers p (subst (λ (x : Option Client). Matches site workers x p) is match)

-- what came of a piece says nothing of other connections
pub serves_among : (p : Place) (line : ℕ) (name : List ℕ) (c c' : Plain) (piece : List ℕ) (ending : Option Ended) (s s2 : State) (f : List ℕ → Option Plain) (text : List ℕ)
    → Serves p line name c c' piece ending (record s { clients = f }) s2 text → Serves p line name c c' piece ending s (record s2 { clients = s.clients }) text
serves_among p line name c c' piece ending s s2 f text v = record {
  before = v.before;
  after = v.after;
  more = v.more;
  wrote = v.wrote;
  worker = v.worker;
  all = v.all;
  ends = v.ends;
  decided = v.decided;
  answered = v.answered;
  wrote_is = v.wrote_is;
  client = v.client;
  state = ap (λ (x : State). record x { clients = s.clients }) v.state;
  text_is = v.text_is;
}

-- a line that is no step
pub no_step : {R : Type 0} (old new : Replay R) (n : ℕ) (name : List ℕ) (worker door : ℕ) (there : (s : State) → Keeps old s → (plain : Plain) × (s.clients name ≡ Some plain))
    → Does (λ s s' text. IsNoStep n s s' text) old new → Does (λ s s' text. Begins n name worker door (s.clients name) s s' text) old new
no_step old new n name worker door there d =
    does_so old new (λ s s' text k no. subst (λ (o : Option Plain). Begins n name worker door o s s' text) (sym (there s k).1) no) d

pub nobody : {R : Type 0} (old new : Replay R) (site : Site) (n : ℕ) (name piece : List ℕ) (nothing : (s : State) → Keeps old s → s.clients name ≡ None)
    → Does (λ s s' text. IsNoStep n s s' text) old new → Does (λ s s' text. Sends site n name piece (s.clients name) s s' text) old new
nobody old new site n name piece nothing d =
    does_so old new (λ s s' text k no. subst (λ (o : Option Plain). Sends site n name piece o s s' text) (sym (nothing s k)) no) d

-- a result that says what else holds of it
pub on_named : {T E N X Y : Type 0} (r : Result T E) → OnOk r N → (N → OnOk r X) → (N → X → Y) → OnOk r Y
on_named (Ok x) named does weaker = weaker named (does named)
on_named (Err e) named does weaker = tt

-- an event's answer is the controller's
by_changes : {R : Type 0} (old : Replay R) (s : State) (n : ℕ) (now : ℤ) (event : List ℕ) (r : Result Read Refusal) (s' : State) (text : List ℕ) → Keeps old s → answer (world_after old.controller.changes) event ≡ r
    → EventDone n now r s s' text → EventDone n now (answer (world_after s.changes) event) s s' text
by_changes old s n now event r s' text k is done =
    subst (λ (x : Result Read Refusal). EventDone n now x s s' text) (sym (ap (λ (list : List Entry). answer (world_after list) event) (sym k.changes) ∙ is)) done

-- an event that is taken, or is no change
event_done : {R : Type 0} (old mid : Replay R) (n : ℕ) (now : ℤ) (event : List ℕ) (outcome : Outcome) → mid ≡ record old { controller = mid.controller }
    → Comes (answer (world_after old.controller.changes) event) now outcome old.controller.changes mid.controller.changes
    → mid.controller.published ≡ old.controller.published → mid.controller.doors ≡ old.controller.doors
    → mid.controller.controller ≡ old.controller.controller → mid.controller.book ≡ old.controller.book
    → Does (λ s s' text. EventDone n now (answer (world_after s.changes) event) s s' text) old (record mid { skipped = skipped_after outcome mid.skipped })
event_done old mid n now event Accepted is came published doors controller book = record {
  site = same_site old mid doors controller;
  did = λ s k. record {
    state = record s { changes = s.changes ++ came.0 ∷ [] };
    text = [];
    does_so = by_changes old s n now event _ (record s { changes = s.changes ++ came.0 ∷ [] }) [] k came.1.0
        (came.0, (ap (λ (at : ℤ). record { event = seen_event came.0.event; at = at }) came.1.1, refl, refl));
    keeps = keeps_changed old mid s (s.changes ++ came.0 ∷ []) k is (came.1.2 ∙ ap (λ (list : List Entry). list ++ came.0 ∷ []) k.changes) published doors controller book;
    printed = ap (λ (r : Replay _). string_bytes r.text) is ∙ sym (append-nil _);
  };
}
event_done old mid n now event Skipped is came published doors controller book = record {
  site = same_site old mid doors controller;
  did = λ s k. record {
    state = record s { skipped = s.skipped + 1 };
    text = [];
    does_so = by_changes old s n now event _ (record s { skipped = s.skipped + 1 }) [] k came.0 (refl, refl);
    keeps = keeps_skipped mid (mid.skipped + 1) s refl (keeps_changed old mid s s.changes k is (came.1 ∙ k.changes) published doors controller book);
    printed = ap (λ (r : Replay _). string_bytes r.text) is ∙ sym (append-nil _);
  };
}

pub event_came : {R : Type 0} (old mid new : Replay R) (n : ℕ) (now : ℤ) (event : List ℕ) (outcome : Outcome) → mid ≡ record old { controller = mid.controller }
    → new ≡ record mid { skipped = skipped_after outcome mid.skipped }
    → Comes (answer (world_after old.controller.changes) event) now outcome old.controller.changes mid.controller.changes
    → mid.controller.published ≡ old.controller.published → mid.controller.doors ≡ old.controller.doors
    → mid.controller.controller ≡ old.controller.controller → mid.controller.book ≡ old.controller.book
    → Does (λ s s' text. EventDone n now (answer (world_after s.changes) event) s s' text) old new
event_came {R} old mid new n now event outcome is counted came published doors controller book =
    subst (λ (r : Replay R). Does (λ s s' text. EventDone n now (answer (world_after s.changes) event) s s' text) old r) (sym counted)
    (event_done old mid n now event outcome is came published doors controller book)

-- what was done behind a call that changed nothing that is kept
pub does_behind : {R : Type 0} {P : State → State → List ℕ → Type 0} (old mid new : Replay R) → site_of mid ≡ site_of old → mid.text ≡ old.text → ((s : State) → Keeps old s → Keeps mid s) → Does P mid new → Does P old new
does_behind old mid new site text kept d = record {
  site = d.site ∙ site;
  did = λ s k. let x = d.did s (kept s k) in record {
    state = x.state;
    text = x.text;
    does_so = x.does_so;
    keeps = x.keeps;
    printed = x.printed ∙ ap (λ (t : String Global). string_bytes t ++ x.text) text;
  };
}

-- an event that is refused
pub refused_event : {R : Type 0} (old mid new : Replay R) (n : ℕ) (now : ℤ) (event : List ℕ) (e : Refusal) → mid ≡ record old { controller = mid.controller }
    → mid.controller.changes ≡ old.controller.changes → mid.controller.published ≡ old.controller.published → mid.controller.doors ≡ old.controller.doors
    → mid.controller.controller ≡ old.controller.controller → mid.controller.book ≡ old.controller.book → answer (world_after old.controller.changes) event ≡ Err e
    → Does (λ s s' text. IsRefused n (refusal_number e) (refusal_path e) s s' text) mid new
    → Does (λ s s' text. EventDone n now (answer (world_after s.changes) event) s s' text) old new
refused_event {R} old mid new n now event e is changes published doors controller book fails d =
    does_so old new (λ s s' text k no. by_changes old s n now event _ s' text k fails no)
    (does_behind old mid new (same_site old mid doors controller) (ap (λ (r : Replay R). r.text) is)
    (λ s k. keeps_changed old mid s s.changes k is (changes ∙ k.changes) published doors controller book) d)

-- a line that is no step is refused so
pub said_err : (said : Result Step StepRefusal) (e : StepRefusal) → IsStep said (Err e) → (e ≡ OutOfMemory → ⊥) → said ≡ Err e
said_err said NotStep is named = is
said_err said TooLong is named = is
said_err said OutOfMemory is named = absurd (named refl)

pub not_some : {X : Type 0} (o : Option X) → is_some o ≡ false → o ≡ None
not_some None e = refl
not_some (Some x) e = absurd (cc e)

-- a connection is taken out of the map
pub taken_away : {R : Type 0} (old new : Replay R) (s : State) (name : List ℕ) → Keeps old s → new ≡ record old { clients = new.clients }
    → ((n : List ℕ) → get_by_text new.clients n ≡ update bytes_eq (get_by_text old.clients) name None n)
    → Keeps new (record s { clients = update bytes_eq s.clients name None })
taken_away old new s name k is gone = keeps_clients old new s (update bytes_eq s.clients name None) k is (λ n.
    subst (λ (o : Option Client). Matches (site_of old) (length s.workers) o (update bytes_eq s.clients name None n)) (sym (gone n))
    (matches_put (site_of old) (length s.workers) name (get_by_text old.clients) s.clients None None k.clients tt n))

-- what a line says where there are so many workers and doors
pub said_there : (w w' d d' : ℕ) (line : List ℕ) (said : Result Step StepRefusal) → w ≡ w' → d ≡ d' → step_of w d line ≡ said → step_of w' d' line ≡ said
said_there w w' d d' line said workers doors is = sym (ap (λ (n : ℕ). step_of n d line) workers ∙ ap (λ (n : ℕ). step_of w' n line) doors) ∙ is

-- how many workers there are
pub workers_are : {R : Type 0} (r : Replay R) (s : State) (n : ℕ) → Keeps r s → n ≡ length r.workers.items → n ≡ length s.workers
workers_are r s n k is = is ∙ sym (length-map r.workers.items (λ (w : Worker). w.books)) ∙ ap length k.workers

-- a connection is open
pub there_some : (site : Site) (size : ℕ) (o : Option Client) (p : Option Plain) → Matches site size o p → is_some o ≡ true → (plain : Plain) × (p ≡ Some plain)
there_some site size None p match e = absurd (cc e)
there_some site size (Some c) None match e = absurd match
there_some site size (Some c) (Some plain) match e = (plain, refl)

-- what isn't there is taken out
pub nothing_taken : (site : Site) (size : ℕ) (name n : List ℕ) (f : List ℕ → Option Client) (g : List ℕ → Option Plain) → g name ≡ None → Matches site size (f n) (g n)
    → Matches site size (update bytes_eq f name None n) (g n)
nothing_taken site size name n f g none match = go (bytes_eq name n) (bytes_eq-Decides name n)
  where
    go : (b : Bool) → Decides b (name ≡ n) → Matches site size (cond b None (f n)) (g n)
    go true d = subst (λ (o : Option Plain). Matches site size None o) (sym (ap g (sym (d.0 refl)) ∙ none)) tt
    go false d = match

-- an error that is handed on
pub err_so : {T E : Type 0} (r : Result T E) (e : E) (P : E → Type 0) → IsErrAnd r (λ x. x ≡ e) → P e → IfErr r P
err_so (Ok t) e P is p = tt
err_so (Err x) e P is p = subst P (sym is) p

-- a text with so many `x` behind it
pub filled_by : (xs ys : List ℕ) (len size fill : ℕ) → len ≡ length xs → size ≡ len + fill → ys ≡ take size xs ++ replicate (size - len) 120 → ys ≡ xs ++ replicate fill 120
filled_by xs ys len size fill whole is e =
    let more : size - len ≡ fill = omega (arith, is) in
    e ∙ ap (λ (l : List ℕ). l ++ replicate (size - len) 120) (take_all size xs (omega (arith, is, whole))) ∙ ap (λ (n : ℕ). xs ++ replicate n 120) more
