-- What a link's bytes make of a connection.
use Rattle.std.proofs.Common.{◌≡◌, ◌+◌, ◌≤◌, ℕ, Bool, true, List, [], ◌++◌, map, length, take, Option, Some, ap, refl, sym, subst, ◌∙◌, arith, append-nil, append_assoc, IfSome, ◌==◌}
use Rattle.gw_answers.specs.model.ServedRows.{ServedRow}
use Rattle.gw_frames.specs.Inlets.{StandsFor as InletStandsFor}
use Rattle.gw_frames.specs.declared.ended.Ended.{Ended}
use Rattle.gw_frames.specs.model.Requests.{Step, ended}
use Rattle.gw_link.specs.Exchanges.{Exchange}
use Rattle.gw_link.specs.declared.order.UpstreamCall.{UpstreamCall}
use Rattle.gw_message_laws.specs.declared.requests.TheConstants.{MOST_OPEN_BYTES}
use Rattle.gw_text.specs.model.Addresses.{Socket}
use Rattle.gw_worker.specs.declared.serve.TheConstants.{MOST_PIECE}
use Rattle.gw_link.proofs.KeptLemmas.{takes_kept}
use Rattle.gw_link.specs.Pieces.{Gives, IsAtEnd, Keeps, Takes}
use Rattle.gw_exchange.proofs.Receiving.{empty_of}
use Rattle.gw_lists.proofs.Beginnings.{begins_with-self}
use Rattle.std.proofs.lemmas.List.{length-take-le}
use Rattle.gw_worker.specs.declared.serve.Flow.TheVariants as flows
use Rattle.gw_worker.proofs.Going.{served_then, took_and_broke, took_then}
use Rattle.gw_worker.proofs.Turning.{settled, took_none}
use Rattle.gw_worker.specs.Conns.{AreServed, IsFed, IsSettled, Serves, StandsFor}
use Rattle.gw_worker.specs.Exchanges.{HasRisenBy, TellsAll, call_faults}
use Rattle.gw_worker.specs.Flows.{BrokeOff, Outside, Served, Took, outside}
use Rattle.gw_worker.specs.Links.{HasBroken, HasServed, Ran, Stopped}
use Rattle.gw_worker.specs.declared.conn.Conn.{Conn}
use Rattle.gw_worker.specs.declared.conn.Stage.{Stage}
use Rattle.gw_worker.specs.declared.conn.Stage.TheVariants.{Reading, Asking, Answered, Ended as IsEnded}
use Rattle.gw_worker.specs.model.Workers.{Worker}
use Rattle.gw_worker.specs.model.Sessions.{Part, Place, step_of}

-- the outside, where a call wrote nothing
pub took_kept : (refuses : UpstreamCall → Socket → Type 0) (p : Place) (a b : Worker) (c : Conn) (bytes : List ℕ) (parts : List Part) (text : List ℕ) (o : Outside) (told told' : Option (List ℕ)) (x : Option (List Exchange)) (f : ℕ)
    → Took refuses p a b c bytes parts text o (outside told x f) → Keeps told told' → Took refuses p a b c bytes parts text o (outside told' x f)
took_kept refuses p a b c bytes parts text o told told' x f t kept = record {
  more = t.more;
  wrote = t.wrote;
  met = t.met;
  stands = t.stands;
  decided = t.decided;
  exchanged = t.exchanged;
  refused = t.refused;
  written = takes_kept o.written told told' t.wrote t.written kept;
  told = t.told;
  failed = t.failed;
}

-- a connection that is given up where nothing is open
pub broke_settled : (refuses : UpstreamCall → Socket → Type 0) (p : Place) (a b : Worker) (c : Conn) (bytes : List ℕ) (parts : List Part) (text : List ℕ) (o o' : Outside)
    → Took refuses p a b c bytes parts text o o' → IsSettled c.stage → BrokeOff refuses p a b c bytes parts text o o'
broke_settled refuses p a b c bytes parts text o o' t is =
    let served : AreServed p c.rows (parts ++ t.more) (text ++ t.wrote) = settled c.stage p c.rows (parts ++ t.more) (text ++ t.wrote) is t.stands.serves in
    record {
      more = t.more;
      wrote = t.wrote;
      met = t.met;
      further = [];
      middle = b;
      fed = bytes;
      steps = [];
      begins = begins_with-self bytes;
      inlet = subst (λ (l : List Step). InletStandsFor c.inlet bytes l) (sym (append-nil (map step_of (parts ++ t.more)))) t.stands.inlet;
      rows_are = served.rows_are;
      whole = served.whole;
      front = ([], sym served.text_is ∙ sym (append-nil (text ++ t.wrote)));
      decided = t.decided;
      left = (refl, refl);
      exchanged = t.exchanged;
      refused = t.refused;
      written = t.written;
      told = subst (λ (l : List Exchange). TellsAll o.exchanges l o'.exchanges) (sym (append-nil t.met)) t.told;
      failed = t.failed;
    }

-- a connection that ended is served
pub ended_served : (s : Stage) (p : Place) (rows : List ServedRow) (parts : List Part) (text : List ℕ) (why : Ended) → Serves s p rows parts text
    → ended (map step_of parts) ≡ Some why → AreServed p rows parts text
ended_served Reading p rows parts text why serves is = serves.0
ended_served (Asking a) p rows parts text why o is = absurd (cc (sym o.unended ∙ is))
ended_served (Answered a answer) p rows parts text why o is = absurd (cc (sym o.unended ∙ is))
ended_served (IsEnded w) p rows parts text why serves is = serves.0

-- a new connection that ran to its end
pub has_served : (refuses : UpstreamCall → Socket → Type 0) (p : Place) (a b : Worker) (c : Conn) (why : Ended) (left left' : Option (List ℕ)) (o o' : Outside) → Ran refuses p a b c [] [] [] left left' o o' why
    → HasServed refuses p a b c.rows why left left' o o'
has_served refuses p a b c why left left' o o' r =
    let t : Took refuses p a b c ([] ++ r.piece) [] [] o o' = r.served.took in
    let served : AreServed p c.rows t.more t.wrote = ended_served c.stage p c.rows t.more t.wrote why t.stands.serves r.served.flows.1 in
    record {
      bytes = r.piece;
      over = r.over;
      parts = t.more;
      met = t.met;
      taken = r.taken;
      few = r.few;
      came = r.came;
      is_all = r.served.flows.0;
      ends = r.served.flows.1;
      rows_are = served.rows_are;
      whole = served.whole;
      decided = t.decided;
      exchanged = t.exchanged;
      refused = t.refused;
      written = subst (λ (l : List ℕ). Takes o.written l o'.written) served.text_is t.written;
      told = t.told;
      failed = subst (λ (l : List ServedRow). HasRisenBy (call_faults l) o.faults o'.faults) (sym served.rows_are) t.failed;
    }

-- a new connection that was given up
pub has_broken : (refuses : UpstreamCall → Socket → Type 0) (p : Place) (a b : Worker) (c : Conn) (left left' : Option (List ℕ)) (o o' : Outside) → Stopped refuses p a b c [] [] [] left left' o o'
    → HasBroken refuses p a b c.rows left left' o o'
has_broken refuses p a b c left left' o o' s =
    let u : BrokeOff refuses p a b c ([] ++ s.piece) [] [] o o' = s.broke in
    record {
      bytes = s.piece;
      fed = u.fed;
      inlet = c.inlet;
      steps = u.steps;
      parts = u.more;
      front = u.wrote;
      met = u.met;
      further = u.further;
      middle = u.middle;
      taken = s.taken;
      few = s.few;
      begins = u.begins;
      first = u.inlet;
      rows_are = u.rows_are;
      whole = u.whole;
      decided = u.decided;
      left_open = u.left;
      exchanged = u.exchanged;
      refused = u.refused;
      is_front = u.front;
      wrote = u.written;
      told = u.told;
      failed = subst (λ (l : List ServedRow). HasRisenBy (call_faults l) o.faults o'.faults) (sym u.rows_are) u.failed;
    }

-- before the first bytes
pub took_first : (refuses : UpstreamCall → Socket → Type 0) (p : Place) (w : Worker) (c : Conn) (bytes : List ℕ) (parts : List Part) (text : List ℕ) (o : Outside) → StandsFor c p bytes parts text
    → Took refuses p w w c (bytes ++ []) parts text o o
took_first refuses p w c bytes parts text o s =
    took_none refuses p w c (bytes ++ []) parts text o (subst (λ (b : List ℕ). StandsFor c p b parts text) (sym (append-nil bytes)) s)

pub fed_first : (c : Conn) (bytes : List ℕ) → IsFed c bytes → IsFed c (bytes ++ [])
fed_first c bytes fed = (fed.0, subst (λ (b : List ℕ). InletStandsFor c.inlet b fed.0) (sym (append-nil bytes)) fed.1)

pub calm : (s : Stage) → s ≡ Reading → IsSettled s
calm s is = subst IsSettled (sym is) tt

-- no bytes are the end
pub empty_size : (n : ℕ) (buffer : List ℕ) → n ≤ length buffer → (length (take n buffer) == 0) ≡ true → n ≡ 0
empty_size n buffer within is =
    let none : length (take n buffer) ≡ 0 = ap length (empty_of (take n buffer) is) in
    omega (arith, none, length-take-le n buffer within)

-- bytes and further ones
pub ran_on : (one two wider : UpstreamCall → Socket → Type 0) (p : Place) (a b c : Worker) (x y : Conn) (bytes first second : List ℕ) (over : Bool) (parts : List Part) (text : List ℕ) (left left' : Option (List ℕ)) (o o1 o2 : Outside) (why : Ended)
    → ((call : UpstreamCall) (to : Socket) → one call to → wider call to) → ((call : UpstreamCall) (to : Socket) → two call to → wider call to)
    → (t : Took one p a b x (bytes ++ first) parts text o o1) → Served two p b c y ((bytes ++ first) ++ second) over (parts ++ t.more) (text ++ t.wrote) o1 o2 (flows.Ended why)
    → Gives left (first ++ second) left' → length (first ++ second) ≤ MOST_OPEN_BYTES + MOST_PIECE → (over ≡ true → IfSome left (λ told. IsAtEnd left'))
    → Ran wider p a c y bytes parts text left left' o o2 why
ran_on one two wider p a b c x y bytes first second over parts text left left' o o1 o2 why still later t s taken few came = record {
  piece = first ++ second;
  over = over;
  taken = taken;
  few = few;
  came = came;
  served = subst (λ (l : List ℕ). Served wider p a c y l over parts text o o2 (flows.Ended why)) (append_assoc bytes first second)
      (served_then one two wider p a b c x y (bytes ++ first) ((bytes ++ first) ++ second) over parts text o o1 o2 (flows.Ended why) still later t (record { took = s.took; flows = s.flows }));
}

pub stopped_on : (one two wider : UpstreamCall → Socket → Type 0) (p : Place) (a b c : Worker) (x y : Conn) (bytes first second : List ℕ) (parts : List Part) (text : List ℕ) (left left' : Option (List ℕ)) (o o1 o2 : Outside)
    → ((call : UpstreamCall) (to : Socket) → one call to → wider call to) → ((call : UpstreamCall) (to : Socket) → two call to → wider call to)
    → (t : Took one p a b x (bytes ++ first) parts text o o1) → BrokeOff two p b c y ((bytes ++ first) ++ second) (parts ++ t.more) (text ++ t.wrote) o1 o2
    → Gives left (first ++ second) left' → length (first ++ second) ≤ MOST_OPEN_BYTES + MOST_PIECE → Stopped wider p a c y bytes parts text left left' o o2
stopped_on one two wider p a b c x y bytes first second parts text left left' o o1 o2 still later t u taken few = record {
  piece = first ++ second;
  taken = taken;
  few = few;
  broke = subst (λ (l : List ℕ). BrokeOff wider p a c y l parts text o o2) (append_assoc bytes first second)
      (took_and_broke one two wider p a b c x y (bytes ++ first) ((bytes ++ first) ++ second) parts text o o1 o2 still later t u);
}

pub took_on : (one two wider : UpstreamCall → Socket → Type 0) (p : Place) (a b c : Worker) (x y : Conn) (bytes first second : List ℕ) (parts : List Part) (text : List ℕ) (o o1 o2 : Outside)
    → ((call : UpstreamCall) (to : Socket) → one call to → wider call to) → ((call : UpstreamCall) (to : Socket) → two call to → wider call to)
    → (t : Took one p a b x (bytes ++ first) parts text o o1) → Took two p b c y ((bytes ++ first) ++ second) (parts ++ t.more) (text ++ t.wrote) o1 o2
    → Took wider p a c y (bytes ++ (first ++ second)) parts text o o2
took_on one two wider p a b c x y bytes first second parts text o o1 o2 still later t u =
    subst (λ (l : List ℕ). Took wider p a c y l parts text o o2) (append_assoc bytes first second)
    (took_then one two wider p a b c x y (bytes ++ first) ((bytes ++ first) ++ second) parts text o o1 o2 still later t u)

pub fed_more : (c : Conn) (bytes first second : List ℕ) → IsFed c ((bytes ++ first) ++ second) → IsFed c (bytes ++ (first ++ second))
fed_more c bytes first second = subst (IsFed c) (append_assoc bytes first second)
