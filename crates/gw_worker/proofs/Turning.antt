-- What a turn, with the exchange and the reply behind it, makes of a connection.
use Rattle.std.proofs.Common.{◌≡◌, ℕ, ◌+◌, ◌≤◌, inl, inr, Bool, true, false, List, [], ◌∷◌, ◌++◌, map, length, take, drop, Option, Some, None, ap, refl, sym, subst, ◌∙◌, arith, append-nil, append_assoc, cond, IsTrue}
use Rattle.std.proofs.lemmas.List.{take-append-drop}
use Rattle.gw_answers.specs.declared.books.Books.{Books}
use Rattle.gw_answers.specs.model.Decisions.{Action, books_after, decision_of, forwards, replies}
use Rattle.gw_exchange.specs.Exchanged.{IsRefused}
use Rattle.gw_answers.specs.model.Messages.{is_head}
use Rattle.gw_answers.specs.model.ServedRows.{ServedRow, fault_of}
use Rattle.gw_frames.specs.Inlets.{StandsFor as InletStandsFor, is_over}
use Rattle.gw_frames.specs.declared.inlet.Inlet.{Inlet}
use Rattle.gw_frames.specs.model.Requests.{Request, Step, an_ask}
use Rattle.gw_link.proofs.ExchangeLemmas.{change_last-snoc}
use Rattle.gw_link.proofs.PieceLemmas.{Takes-nothing}
use Rattle.gw_link.specs.Exchanges.{Exchange, change_last}
use Rattle.gw_link.specs.Faults.{HasRisen}
use Rattle.gw_link.specs.Pieces.{Takes, TakesPart}
use Rattle.gw_link.specs.declared.order.UpstreamCall.{UpstreamCall}
use Rattle.gw_text.specs.model.Addresses.{Socket}
use Rattle.gw_text.specs.model.Filters.{Edits}
use Rattle.gw_worker.proofs.Deciding.{left_behind, own_fault}
use Rattle.gw_worker.proofs.Exchanging.{AtMostOne, at_most_one}
use Rattle.gw_worker.proofs.Counts.{faults_append}
use Rattle.gw_worker.proofs.Parts.{rows_append, steps_append}
use Rattle.gw_worker.specs.Conns.{AreServed, AreWhole, IsAsking, IsSettled, Serves, StandsFor, with_answer}
use Rattle.gw_worker.specs.Exchanges.{AreRefused, Exchanged, ExchangedBy, HasRisenBy, IsExchanged, RefusedBy, TellsAll, as_given, call_faults, is_call_fault}
use Rattle.gw_worker.specs.Flows.{BrokeOff, IsUnwritten, Meets, Outside, Replied, Took, TookTo, outside}
use Rattle.gw_worker.specs.Turns.{AreUnanswered, Continues, IsExchange, IsStuck, text_of}
use Rattle.gw_worker.specs.Workers.{Decided, Decides, IsUndone, handled_by}
use Rattle.gw_worker.specs.declared.conn.Conn.{Conn}
use Rattle.gw_worker.specs.declared.conn.Stage.{Stage}
use Rattle.gw_worker.specs.declared.conn.Stage.TheVariants.{Reading, Asking, Answered, Ended as IsEnded}
use Rattle.gw_frames.specs.declared.ended.Ended.{Ended}
use Rattle.gw_lists.proofs.Beginnings.{begins_with-self}
use Rattle.gw_snap.specs.Lists.{BeginsWith}
use Rattle.gw_store.specs.declared.event.Entry.{Entry}
use Rattle.gw_worker.specs.declared.serve.Flow.TheVariants as flows
use Rattle.gw_worker.specs.declared.conn.Turn.{Turn}
use Rattle.gw_worker.specs.declared.conn.Turn.TheVariants as turns
use Rattle.gw_worker.specs.model.Workers.{Pass, Worker}
use Rattle.gw_worker.specs.model.Sessions.{Answer, Handled, Part, Place, a_close, a_cut, a_refused, a_request, a_wait, decision_at, row_by, row_of, rows_after, rows_of, step_of, written}

pub tells_itself : (told : Option (List Exchange)) → TellsAll told [] told
tells_itself None = tt
tells_itself (Some told) = ap Some (sym (append-nil told))

-- Requests that no backend answered have no exchange.
none_exchanged : (action : Action) (answer : Option Answer) (head : Bool) → answer ≡ None → ExchangedBy action answer head []
none_exchanged (replies code location fault) answer head none = (none, refl)
none_exchanged (forwards to bytes edits) None head none = refl
none_exchanged (forwards to bytes edits) (Some a) head none = absurd (cc none)

own_exchanged : (p : Place) (parts : List Part) → AreUnanswered parts → Exchanged p parts []
own_exchanged p [] all = refl
own_exchanged p (a_request q h ∷ parts) all =
    ([], ([], (refl, none_exchanged (decision_at p q h).action h.answer (is_head q) all.0, own_exchanged p parts all.1)))
own_exchanged p (a_wait ∷ parts) all = ([], ([], (refl, refl, own_exchanged p parts all)))
own_exchanged p (a_refused code ∷ parts) all = ([], ([], (refl, refl, own_exchanged p parts all)))
own_exchanged p (a_close ∷ parts) all = ([], ([], (refl, refl, own_exchanged p parts all)))
own_exchanged p (a_cut ∷ parts) all = ([], ([], (refl, refl, own_exchanged p parts all)))

-- nor was a call for them refused
own_refused : (refuses : UpstreamCall → Socket → Type 0) (p : Place) (parts : List Part) → AreUnanswered parts → AreRefused refuses p parts
own_refused refuses p [] all = tt
own_refused refuses p (a_request q h ∷ parts) all = (by (decision_at p q h).action h.answer all.0, own_refused refuses p parts all.1)
  where
    by : (action : Action) (answer : Option Answer) → answer ≡ None → RefusedBy refuses action answer
    by (replies code location fault) answer none = tt
    by (forwards to bytes edits) None none = tt
    by (forwards to bytes edits) (Some a) none = absurd (cc none)
own_refused refuses p (a_wait ∷ parts) all = own_refused refuses p parts all
own_refused refuses p (a_refused code ∷ parts) all = own_refused refuses p parts all
own_refused refuses p (a_close ∷ parts) all = own_refused refuses p parts all
own_refused refuses p (a_cut ∷ parts) all = own_refused refuses p parts all

-- Rows of this program's own replies have no fault of a call.
own_row : (p : Place) (q : Request) (h : Handled) (action : Action) (answer : Option Answer) → (decision_at p q h).action ≡ action → answer ≡ None
    → call_faults (row_by (length h.changes) (decision_at p q h).chosen action answer) ≡ 0
own_row p q h (replies code location fault) answer is none =
    let none_more : ◌≡◌ {A = ℕ} (cond (is_call_fault fault) 1 0) 0 = ap (λ (b : Bool). cond b 1 0) (own_fault (rows_after p h.changes) q h.books code location fault is) in
    omega (arith, none_more)
own_row p q h (forwards to bytes edits) None is none = refl
own_row p q h (forwards to bytes edits) (Some a) is none = absurd (cc none)

own_faults : (p : Place) (parts : List Part) → AreUnanswered parts → call_faults (rows_of p parts) ≡ 0
own_faults p [] all = refl
own_faults p (a_request q h ∷ parts) all =
    omega (arith, faults_append (row_of p (a_request q h)) (rows_of p parts), own_row p q h (decision_at p q h).action h.answer refl all.0, own_faults p parts all.1)
own_faults p (a_wait ∷ parts) all = own_faults p parts all
own_faults p (a_refused code ∷ parts) all = own_faults p parts all
own_faults p (a_close ∷ parts) all = own_faults p parts all
own_faults p (a_cut ∷ parts) all = own_faults p parts all

-- a turn that asks no backend
pub took_alone : (refuses : UpstreamCall → Socket → Type 0) (p : Place) (a b : Worker) (c : Conn) (bytes : List ℕ) (parts : List Part) (text : List ℕ) (turn : Turn) (o o' : Outside)
    → Continues p a b c bytes parts text turn → Takes o.written (text_of turn) o'.written → TellsAll o.exchanges [] o'.exchanges → o.faults ≤ o'.faults
    → Took refuses p a b c bytes parts text o o'
took_alone refuses p a b c bytes parts text turn o o' k written told later = record {
  more = k.more;
  wrote = text_of turn;
  met = [];
  stands = k.stands;
  decided = k.decided;
  exchanged = own_exchanged p k.more k.unanswered;
  refused = own_refused refuses p k.more k.unanswered;
  written = written;
  told = told;
  failed = inl (omega (arith, later, own_faults p k.more k.unanswered));
}

pub took_need : (refuses : UpstreamCall → Socket → Type 0) (p : Place) (a b : Worker) (c : Conn) (bytes : List ℕ) (parts : List Part) (text : List ℕ) (o : Outside)
    → Continues p a b c bytes parts text turns.Need → TookTo refuses p a b c bytes (is_over c.inlet) parts text o o (Some flows.More)
unfolding took_alone
took_need refuses p a b c bytes parts text o k = record {
  took = took_alone refuses p a b c bytes parts text turns.Need o o k (Takes-nothing o.written) (tells_itself o.exchanges) (omega arith);
  flows = k.says;
}

pub took_end : (refuses : UpstreamCall → Socket → Type 0) (p : Place) (a b : Worker) (c : Conn) (bytes : List ℕ) (parts : List Part) (text : List ℕ) (why : Ended) (o : Outside)
    → Continues p a b c bytes parts text (turns.Ended why) → TookTo refuses p a b c bytes (is_over c.inlet) parts text o o (Some (flows.Ended why))
unfolding took_alone
took_end refuses p a b c bytes parts text why o k = record {
  took = took_alone refuses p a b c bytes parts text (turns.Ended why) o o k (Takes-nothing o.written) (tells_itself o.exchanges) (omega arith);
  flows = k.says;
}

pub took_write : (refuses : UpstreamCall → Socket → Type 0) (p : Place) (a b : Worker) (c : Conn) (bytes : List ℕ) (parts : List Part) (text more : List ℕ) (told told' : Option (List ℕ)) (x : Option (List Exchange)) (f : ℕ)
    → Continues p a b c bytes parts text (turns.Write more) → Takes told more told' → TookTo refuses p a b c bytes (is_over c.inlet) parts text (outside told x f) (outside told' x f) None
took_write refuses p a b c bytes parts text more told told' x f k written = record {
  took = took_alone refuses p a b c bytes parts text (turns.Write more) (outside told x f) (outside told' x f) k written (tells_itself x) (omega arith);
  flows = tt;
}

-- The request for which a backend is asked, and how it was decided.
record Asks (p : Place) (a b : Worker) (parts : List Part) (to : Socket) (sent : List ℕ) (head : Bool) : Type 0 where
  pub request : Request
  pub handled : Handled
  pub edits : List Edits
  pub action : (decision_at p request handled).action ≡ forwards to sent edits
  pub head_is : head ≡ is_head request
  pub decides : Decides p a b request handled
  pub unanswered : handled.answer ≡ None
  pub parts_are : parts ≡ a_request request handled ∷ []

asks_of : (p : Place) (a b : Worker) (c : Conn) (bytes : List ℕ) (parts : List Part) (text : List ℕ) (to : Socket) (sent : List ℕ) (head : Bool)
    → (k : Continues p a b c bytes parts text (turns.Exchange to sent head)) → Asks p a b k.more to sent head
asks_of p a b c bytes parts text to sent head k =
    let e : IsExchange p k.more to sent head = k.says in
    let d : Decided p a b (a_request e.request e.handled ∷ []) = subst (Decided p a b) e.more_is k.decided in
    let u : AreUnanswered (a_request e.request e.handled ∷ []) = subst AreUnanswered e.more_is k.unanswered in
    record {
      request = e.request;
      handled = e.handled;
      edits = e.edits;
      action = e.action;
      head_is = e.head_is;
      decides = subst (λ (w : Worker). Decides p a w e.request e.handled) (sym d.1.1) d.1.0;
      unanswered = u.0;
      parts_are = e.more_is;
    }

-- the request with the backend's answer
answered_parts : (p : Place) (a b : Worker) (front more : List Part) (to : Socket) (sent : List ℕ) (head : Bool) (answer : Answer) → (k : Asks p a b more to sent head)
    → change_last (with_answer answer) (front ++ more) ≡ front ++ a_request k.request (record k.handled { answer = Some answer }) ∷ []
answered_parts p a b front more to sent head answer k =
    ap (λ (l : List Part). change_last (with_answer answer) (front ++ l)) k.parts_are
    ∙ change_last-snoc (with_answer answer) front (a_request k.request k.handled)

answered_exchanged : (p : Place) (a b : Worker) (more : List Part) (to : Socket) (sent : List ℕ) (head : Bool) (answer : Answer) (met : List Exchange)
    → (k : Asks p a b more to sent head) → IsExchanged to sent head (as_given answer) met
    → Exchanged p (a_request k.request (record k.handled { answer = Some answer }) ∷ []) met
answered_exchanged p a b more to sent head answer met k made =
    let of_head : IsExchanged to sent (is_head k.request) (as_given answer) met = subst (λ (h : Bool). IsExchanged to sent h (as_given answer) met) k.head_is made in
    (met, ([], (sym (append-nil met), subst (λ (x : Action). ExchangedBy x (Some answer) (is_head k.request) met) (sym k.action) of_head, refl)))

answered_refused : (refuses : UpstreamCall → Socket → Type 0) (p : Place) (a b : Worker) (more : List Part) (to : Socket) (sent : List ℕ) (head : Bool) (answer : Answer) → (k : Asks p a b more to sent head)
    → IsRefused refuses to (as_given answer) → AreRefused refuses p (a_request k.request (record k.handled { answer = Some answer }) ∷ [])
answered_refused refuses p a b more to sent head answer k refused =
    (subst (λ (x : Action). RefusedBy refuses x (Some answer)) (sym k.action) refused, tt)

answered_decided : (p : Place) (a b : Worker) (more : List Part) (to : Socket) (sent : List ℕ) (head : Bool) (answer : Answer) → (k : Asks p a b more to sent head)
    → Decided p a b (a_request k.request (record k.handled { answer = Some answer }) ∷ [])
answered_decided p a b more to sent head answer k =
    (b, (record { pass = k.decides.pass; later = k.decides.later; books = k.decides.books; counted = k.decides.counted }, refl))

answered_faults : (p : Place) (a b : Worker) (more : List Part) (to : Socket) (sent : List ℕ) (head : Bool) (answer : Answer) (f f' : ℕ) → (k : Asks p a b more to sent head)
    → f ≤ f' → (IsTrue (is_call_fault (fault_of answer)) → HasRisen f f')
    → HasRisenBy (call_faults (rows_of p (a_request k.request (record k.handled { answer = Some answer }) ∷ []))) f f'
answered_faults p a b more to sent head answer f f' k later cause =
    subst (λ (x : Action). HasRisenBy (call_faults (row_by (length k.handled.changes) (decision_at p k.request k.handled).chosen x (Some answer) ++ [])) f f') (sym k.action)
    (by_fault (is_call_fault (fault_of answer)) cause)
  where
    by_fault : (b : Bool) → (IsTrue b → HasRisen f f') → HasRisenBy (0 + cond b 1 0) f f'
    by_fault false risen = inl (omega (arith, later))
    by_fault true risen = elim (risen refl) [ inl less ↦ inl (omega (arith, less)) | inr last ↦ inr last ]

-- a turn that asks a backend, whose reply is written
pub took_exchange : (refuses : UpstreamCall → Socket → Type 0) (p : Place) (a b : Worker) (c d : Conn) (bytes : List ℕ) (parts : List Part) (text : List ℕ) (to : Socket) (sent : List ℕ) (head : Bool) (answer : Answer)
    (told told' : Option (List ℕ)) (x x' : Option (List Exchange)) (f f' : ℕ)
    → (k : Continues p a b c bytes parts text (turns.Exchange to sent head)) → Meets refuses to sent head answer (outside None x f) (outside None x' f') → f ≤ f'
    → Replied p d bytes (change_last (with_answer answer) (parts ++ k.more)) (text ++ []) told told'
    → TookTo refuses p a b d bytes (is_over d.inlet) parts text (outside told x f) (outside told' x' f') None
took_exchange refuses p a b c d bytes parts text to sent head answer told told' x x' f f' k met later r =
    let e : Asks p a b k.more to sent head = asks_of p a b c bytes parts text to sent head k in
    record {
      took = record {
        more = a_request e.request (record e.handled { answer = Some answer }) ∷ [];
        wrote = r.reply;
        met = met.0;
        stands = subst (λ (l : List Part). StandsFor d p bytes l (text ++ r.reply)) (answered_parts p a b parts k.more to sent head answer e)
            (subst (λ (t : List ℕ). StandsFor d p bytes (change_last (with_answer answer) (parts ++ k.more)) (t ++ r.reply)) (append-nil text) r.stands);
        decided = answered_decided p a b k.more to sent head answer e;
        exchanged = answered_exchanged p a b k.more to sent head answer met.0 e met.1.0;
        refused = answered_refused refuses p a b k.more to sent head answer e met.1.3;
        written = r.written;
        told = met.1.1;
        failed = answered_faults p a b k.more to sent head answer f f' e later met.1.2;
      };
      flows = tt;
    }

-- what is served where nothing is open
pub settled : (s : Stage) (p : Place) (rows : List ServedRow) (parts : List Part) (text : List ℕ) → IsSettled s → Serves s p rows parts text → AreServed p rows parts text
settled Reading p rows parts text is serves = serves.0
settled (Asking a) p rows parts text is serves = absurd is
settled (Answered a answer) p rows parts text is serves = absurd is
settled (IsEnded why) p rows parts text is serves = serves.0

nothing_begins : (text whole : List ℕ) → text ≡ whole → BeginsWith (text ++ []) whole
nothing_begins text whole is = ([], sym is ∙ sym (append-nil text) ∙ sym (append-nil (text ++ [])))

-- nothing came of what was begun
pub broke_before : (refuses : UpstreamCall → Socket → Type 0) (p : Place) (a b : Worker) (c d : Conn) (bytes : List ℕ) (parts : List Part) (text : List ℕ) (o : Outside)
    → StandsFor c p bytes parts text → IsSettled c.stage → d.rows ≡ c.rows → IsStuck p a b d bytes parts → BrokeOff refuses p a b d bytes parts text o o
broke_before refuses p a b c d bytes parts text o s is rows stuck =
    let served : AreServed p c.rows parts text = settled c.stage p c.rows parts text is s.serves in
    let same : parts ≡ parts ++ [] = sym (append-nil parts) in
    record {
      more = [];
      wrote = [];
      met = [];
      further = [];
      middle = a;
      fed = bytes;
      steps = stuck.steps;
      begins = begins_with-self bytes;
      inlet = subst (λ (l : List Part). InletStandsFor d.inlet bytes (map step_of l ++ stuck.steps)) same stuck.inlet;
      rows_are = rows ∙ served.rows_are ∙ ap (rows_of p) same;
      whole = subst (AreWhole p) same served.whole;
      front = nothing_begins text (written p (parts ++ [])) (served.text_is ∙ ap (written p) same);
      decided = refl;
      left = stuck.left;
      exchanged = refl;
      refused = tt;
      written = Takes-nothing o.written;
      told = tells_itself o.exchanges;
      failed = inl (omega arith);
    }

part_begins : (text front whole : List ℕ) (n : ℕ) → text ++ front ≡ whole → BeginsWith (text ++ take n front) whole
part_begins text front whole n is =
    (drop n front, sym is ∙ ap (λ (t : List ℕ). text ++ t) (sym (take-append-drop n front)) ∙ sym (append_assoc text (take n front) (drop n front)))

-- a front of the last text was written
pub broke_written : (refuses : UpstreamCall → Socket → Type 0) (p : Place) (a b : Worker) (d : Conn) (bytes : List ℕ) (parts more : List Part) (text reply : List ℕ) (met : List Exchange) (told told' : Option (List ℕ)) (x x' : Option (List Exchange)) (f f' : ℕ)
    → StandsFor d p bytes (parts ++ more) (text ++ reply) → IsSettled d.stage → Decided p a b more → Exchanged p more met → AreRefused refuses p more → TakesPart told reply told'
    → TellsAll x met x' → HasRisenBy (call_faults (rows_of p more)) f f' → BrokeOff refuses p a b d bytes parts text (outside told x f) (outside told' x' f')
broke_written refuses p a b d bytes parts more text reply met told told' x x' f f' s is decided exchanged refused part tells failed =
    let served : AreServed p d.rows (parts ++ more) (text ++ reply) = settled d.stage p d.rows (parts ++ more) (text ++ reply) is s.serves in
    record {
      more = more;
      wrote = take part.0 reply;
      met = met;
      further = [];
      middle = b;
      fed = bytes;
      steps = [];
      begins = begins_with-self bytes;
      inlet = subst (λ (l : List Step). InletStandsFor d.inlet bytes l) (sym (append-nil (map step_of (parts ++ more)))) s.inlet;
      rows_are = served.rows_are;
      whole = served.whole;
      front = part_begins text reply (written p (parts ++ more)) part.0 served.text_is;
      decided = decided;
      left = (refl, refl);
      exchanged = exchanged;
      refused = refused;
      written = part.1.1;
      told = subst (λ (l : List Exchange). TellsAll x l x') (sym (append-nil met)) tells;
      failed = failed;
    }

pub broke_write : (refuses : UpstreamCall → Socket → Type 0) (p : Place) (a b : Worker) (c : Conn) (bytes : List ℕ) (parts : List Part) (text reply : List ℕ) (told told' : Option (List ℕ)) (x : Option (List Exchange)) (f : ℕ)
    → Continues p a b c bytes parts text (turns.Write reply) → IsSettled c.stage → TakesPart told reply told' → BrokeOff refuses p a b c bytes parts text (outside told x f) (outside told' x f)
broke_write refuses p a b c bytes parts text reply told told' x f k is part =
    broke_written refuses p a b c bytes parts k.more text reply [] told told' x x f f k.stands is k.decided (own_exchanged p k.more k.unanswered) (own_refused refuses p k.more k.unanswered) part (tells_itself x)
    (inl (omega (arith, own_faults p k.more k.unanswered)))

seen_asked : (p : Place) (a b : Worker) (more : List Part) (to : Socket) (sent : List ℕ) (head : Bool) → (k : Asks p a b more to sent head) → b.pass.seen ≡ k.handled.changes
seen_asked p a b more to sent head k = ap (λ (s : Pass). s.seen) k.decides.pass

-- how the request for which a backend is asked was decided
decided_asked : (p : Place) (a b : Worker) (more : List Part) (to : Socket) (sent : List ℕ) (head : Bool) → (k : Asks p a b more to sent head)
    → Decides p a b k.request (handled_by a b)
decided_asked p a b more to sent head k =
    let seen : k.handled.changes ≡ b.pass.seen = sym (seen_asked p a b more to sent head k) in
    record {
      pass = k.decides.pass ∙ ap (λ (l : List Entry). record a.pass { seen = l }) seen;
      later = subst (BeginsWith a.pass.seen) seen k.decides.later;
      books = refl;
      counted = k.decides.counted
          ∙ ap (λ (l : List Entry). books_after (rows_after p l) k.request k.handled.books) seen
          ∙ ap (books_after (rows_after p b.pass.seen) k.request) k.decides.books;
    }

action_asked : (p : Place) (a b : Worker) (more : List Part) (to : Socket) (sent : List ℕ) (head : Bool) → (k : Asks p a b more to sent head)
    → (decision_at p k.request (handled_by a b)).action ≡ forwards to sent k.edits
action_asked p a b more to sent head k =
    ap (λ (l : List Entry). (decision_of (rows_after p l) k.request a.books).action) (seen_asked p a b more to sent head k)
    ∙ ap (λ (books : Books). (decision_of (rows_after p k.handled.changes) k.request books).action) (sym k.decides.books)
    ∙ k.action

-- the request for which a backend was asked once came to nothing
undone_asked : (p : Place) (a b : Worker) (more : List Part) (to : Socket) (sent : List ℕ) (head : Bool) (met : List Exchange) → (k : Asks p a b more to sent head)
    → AtMostOne to sent met → IsUndone p a b k.request met
undone_asked p a b more to sent head met k (inl none) = record { left = left_behind p a b k.request (decided_asked p a b more to sent head k); once = inl none }
undone_asked p a b more to sent head met k (inr (e, (n, (is, at, front)))) = record {
  left = left_behind p a b k.request (decided_asked p a b more to sent head k);
  once = inr (record {
    to = to;
    bytes = sent;
    edits = k.edits;
    exchange = e;
    count = n;
    action = action_asked p a b more to sent head k;
    counted = (decided_asked p a b more to sent head k).counted;
    met_is = is;
    at = at;
    sent = front;
  });
}

unanswered_row : (p : Place) (a b : Worker) (more : List Part) (to : Socket) (sent : List ℕ) (head : Bool) → (k : Asks p a b more to sent head) → rows_of p more ≡ []
unanswered_row p a b more to sent head k =
    ap (rows_of p) k.parts_are
    ∙ ap (λ (x : Action). row_by (length k.handled.changes) (decision_at p k.request k.handled).chosen x k.handled.answer ++ []) k.action
    ∙ ap (λ (x : Option Answer). row_by (length k.handled.changes) (decision_at p k.request k.handled).chosen (forwards to sent k.edits) x ++ []) k.unanswered

-- the rows where a backend is asked
open_rows : (p : Place) (s : Stage) (rows : List ServedRow) (parts : List Part) (text : List ℕ) → IsAsking s → Serves s p rows parts text → rows ≡ rows_of p parts
open_rows p Reading rows parts text is serves = absurd is
open_rows p (Asking a) rows parts text is o =
    o.served.rows_are ∙ sym (append-nil (rows_of p o.front))
    ∙ ap (λ (l : List ServedRow). rows_of p o.front ++ l) (sym none)
    ∙ sym (rows_append p o.front (a_request o.request o.handled ∷ [])) ∙ ap (rows_of p) (sym o.parts_are)
  where
    none : rows_of p (a_request o.request o.handled ∷ []) ≡ []
    none =
        ap (λ (x : Action). row_by (length o.handled.changes) (decision_at p o.request o.handled).chosen x o.handled.answer ++ []) o.asked.action
        ∙ ap (λ (x : Option Answer). row_by (length o.handled.changes) (decision_at p o.request o.handled).chosen (forwards o.asked.to o.asked.bytes a.edits) x ++ []) o.answer_is
open_rows p (Answered a answer) rows parts text is serves = absurd is
open_rows p (IsEnded why) rows parts text is serves = absurd is

-- a backend was asked, and no reply was made
pub broke_asked : (refuses : UpstreamCall → Socket → Type 0) (p : Place) (a b : Worker) (c d e : Conn) (bytes : List ℕ) (parts : List Part) (text : List ℕ) (to : Socket) (sent : List ℕ) (head : Bool)
    (met : List Exchange) (told told' : Option (List ℕ)) (x x' : Option (List Exchange)) (f f' : ℕ)
    → StandsFor c p bytes parts text → IsSettled c.stage → Continues p a b d bytes parts text (turns.Exchange to sent head) → IsAsking d.stage
    → e.rows ≡ d.rows → e.inlet ≡ d.inlet → Takes told [] told' → AtMostOne to sent met → TellsAll x met x' → f ≤ f'
    → BrokeOff refuses p a b e bytes parts text (outside told x f) (outside told' x' f')
broke_asked refuses p a b c d e bytes parts text to sent head met told told' x x' f f' s is k asking rows inlet unwritten once tells later =
    let q : Asks p a b k.more to sent head = asks_of p a b d bytes parts text to sent head k in
    let served : AreServed p c.rows parts text = settled c.stage p c.rows parts text is s.serves in
    let same : parts ≡ parts ++ [] = sym (append-nil parts) in
    record {
      more = [];
      wrote = [];
      met = [];
      further = met;
      middle = a;
      fed = bytes;
      steps = an_ask q.request ∷ [];
      begins = begins_with-self bytes;
      inlet = subst (λ (i : Inlet). InletStandsFor i bytes (map step_of (parts ++ []) ++ an_ask q.request ∷ [])) (sym inlet)
          (subst (λ (l : List Step). InletStandsFor d.inlet bytes l)
          (steps_append parts k.more ∙ ap (λ (l : List Part). map step_of parts ++ map step_of l) q.parts_are
          ∙ ap (λ (l : List Part). map step_of l ++ an_ask q.request ∷ []) same) k.stands.inlet);
      rows_are = rows ∙ open_rows p d.stage d.rows (parts ++ k.more) (text ++ []) asking k.stands.serves
          ∙ rows_append p parts k.more ∙ ap (λ (l : List ServedRow). rows_of p parts ++ l) (unanswered_row p a b k.more to sent head q) ∙ append-nil (rows_of p parts) ∙ ap (rows_of p) same;
      whole = subst (AreWhole p) same served.whole;
      front = nothing_begins text (written p (parts ++ [])) (served.text_is ∙ ap (written p) same);
      decided = refl;
      left = undone_asked p a b k.more to sent head met q once;
      exchanged = refl;
      refused = tt;
      written = unwritten;
      told = tells;
      failed = inl (omega (arith, later));
    }

-- a backend answered, and the reply wasn't written whole
pub broke_reply : (refuses : UpstreamCall → Socket → Type 0) (p : Place) (a b : Worker) (c d e : Conn) (bytes : List ℕ) (parts : List Part) (text : List ℕ) (to : Socket) (sent : List ℕ) (head : Bool) (answer : Answer)
    (told told' : Option (List ℕ)) (x x' : Option (List Exchange)) (f f' : ℕ)
    → StandsFor c p bytes parts text → IsSettled c.stage → (k : Continues p a b d bytes parts text (turns.Exchange to sent head)) → IsAsking d.stage
    → Meets refuses to sent head answer (outside None x f) (outside None x' f') → f ≤ f' → e.inlet ≡ d.inlet
    → IsUnwritten p d e bytes (change_last (with_answer answer) (parts ++ k.more)) (text ++ []) told told'
    → BrokeOff refuses p a b e bytes parts text (outside told x f) (outside told' x' f')
broke_reply refuses p a b c d e bytes parts text to sent head answer told told' x x' f f' s is k asking met later goes (inl none) =
    broke_asked refuses p a b c d e bytes parts text to sent head met.0 told told' x x' f f' s is k asking none.0 goes none.1
    (at_most_one to sent head answer met.0 met.1.0) met.1.1 later
broke_reply refuses p a b c d e bytes parts text to sent head answer told told' x x' f f' s is k asking met later goes (inr some) =
    let q : Asks p a b k.more to sent head = asks_of p a b d bytes parts text to sent head k in
    broke_written refuses p a b e bytes parts (a_request q.request (record q.handled { answer = Some answer }) ∷ []) text some.0 met.0 told told' x x' f f'
    (subst (λ (l : List Part). StandsFor e p bytes l (text ++ some.0)) (answered_parts p a b parts k.more to sent head answer q)
    (subst (λ (t : List ℕ). StandsFor e p bytes (change_last (with_answer answer) (parts ++ k.more)) (t ++ some.0)) (append-nil text) some.1.0))
    some.1.1 (answered_decided p a b k.more to sent head answer q) (answered_exchanged p a b k.more to sent head answer met.0 q met.1.0)
    (answered_refused refuses p a b k.more to sent head answer q met.1.3) some.1.2 met.1.1
    (answered_faults p a b k.more to sent head answer f f' q later met.1.2)

-- nothing was done yet
pub took_none : (refuses : UpstreamCall → Socket → Type 0) (p : Place) (w : Worker) (c : Conn) (bytes : List ℕ) (parts : List Part) (text : List ℕ) (o : Outside) → StandsFor c p bytes parts text
    → Took refuses p w w c bytes parts text o o
took_none refuses p w c bytes parts text o s = record {
  more = [];
  wrote = [];
  met = [];
  stands = subst (λ (l : List Part). StandsFor c p bytes l (text ++ [])) (sym (append-nil parts))
      (subst (λ (t : List ℕ). StandsFor c p bytes parts t) (sym (append-nil text)) s);
  decided = refl;
  exchanged = refl;
  refused = tt;
  written = Takes-nothing o.written;
  told = tells_itself o.exchanges;
  failed = inl (omega arith);
}
