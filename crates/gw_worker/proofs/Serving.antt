-- What comes of one step of a connection's bytes.
use Rattle.std.proofs.Common.{◌≡◌, ℕ, ◌+◌, Bool, List, [], ◌∷◌, ◌++◌, map, length, Option, Some, None, ap, refl, sym, subst, ◌∙◌, arith, append-nil, unwrap_or, Result, Ok, Err, IfOk, OnOk}
use Rattle.gw_answers.specs.model.Decisions.{Action, Chosen, Decision, forwards, replies}
use Rattle.gw_answers.specs.model.Messages.{is_head, reply_of}
use Rattle.gw_answers.specs.model.ServedRows.{ServedRow, fault_of, served_row, status_of}
use Rattle.gw_frames.specs.Inlets.{StandsFor as InletStandsFor, is_over}
use Rattle.gw_frames.specs.declared.ended.Ended.{Ended}
use Rattle.gw_frames.specs.declared.ended.Ended.TheVariants.{Closed}
use Rattle.gw_frames.specs.declared.inlet.Inlet.{Inlet}
use Rattle.gw_frames.specs.model.Requests.{Asks, Request, Step, a_head, an_ask, ended}
use Rattle.gw_link.proofs.ExchangeLemmas.{change_last-snoc}
use Rattle.gw_link.specs.Exchanges.{change_last}
use Rattle.gw_replies.specs.declared.fault.FaultName.{FaultName}
use Rattle.gw_replies.specs.model.Written.{own}
use Rattle.gw_text.specs.model.Addresses.{Socket}
use Rattle.gw_message_laws.proofs.Ends.{all_of_ended, behind_ask}
use Rattle.gw_worker.proofs.Parts.{rows_append, rows_count, steps_append, whole_append, written_append}
use Rattle.gw_worker.specs.Conns.{AreServed, IsAsking, IsOpen, IsReplied, IsWhole, Serves, StandsBehind, StandsFor, with_answer}
use Rattle.gw_worker.specs.Steps.{Came, IsReady}
use Rattle.gw_worker.specs.Turns.{AreUnanswered, Continues, Says, text_of}
use Rattle.gw_worker.specs.Workers.{Decided, Decides}
use Rattle.gw_worker.specs.model.Workers.{Worker}
use Rattle.gw_worker.specs.declared.conn.Asked.{Asked}
use Rattle.gw_worker.specs.declared.conn.Conn.{Conn}
use Rattle.gw_worker.specs.declared.conn.Stage.{Stage}
use Rattle.gw_worker.specs.declared.conn.Stage.TheVariants.{Reading, Asking, Answered, Ended as IsEnded}
use Rattle.gw_worker.specs.declared.conn.Turn.{Turn}
use Rattle.gw_worker.specs.declared.conn.Turn.TheVariants as turns
use Rattle.gw_worker.specs.model.Sessions.{Answer, Handled, Part, Place, a_close, a_cut, a_refused, a_request, a_wait, asks_behind, decision_at, is_last, reply_by, row_by, row_of, rows_of, step_of, written, written_behind}

-- one thing more is served
pub served_more : (p : Place) (rows rows' : List ServedRow) (parts : List Part) (part : Part) (text more : List ℕ) → AreServed p rows parts text
    → rows' ≡ rows ++ row_of p part → more ≡ written_behind p (asks_behind 0 parts) (part ∷ []) → IsWhole p part
    → AreServed p rows' (parts ++ part ∷ []) (text ++ more)
served_more p rows rows' parts part text more s row written whole = record {
  rows_are = row ∙ ap (λ (r : List ServedRow). r ++ row_of p part) s.rows_are
      ∙ sym (rows_append p parts (part ∷ []) ∙ ap (λ (r : List ServedRow). rows_of p parts ++ r) (append-nil (row_of p part)));
  text_is = ap (λ (t : List ℕ). text ++ t) written ∙ ap (λ (t : List ℕ). t ++ written_behind p (asks_behind 0 parts) (part ∷ [])) s.text_is
      ∙ sym (written_append p 0 parts (part ∷ []));
  whole = whole_append p parts (part ∷ []) s.whole (whole, tt);
}

-- the steps with one more
pub inlet_more : (i j : Inlet) (bytes : List ℕ) (parts : List Part) (part : Part) → j ≡ i → InletStandsFor i bytes (map step_of parts ++ step_of part ∷ [])
    → InletStandsFor j bytes (map step_of (parts ++ part ∷ []))
inlet_more i j bytes parts part same stands =
    subst (λ (k : Inlet). InletStandsFor k bytes (map step_of (parts ++ part ∷ []))) (sym same)
    (subst (λ (l : List Step). InletStandsFor i bytes l) (sym (steps_append parts (part ∷ []))) stands)

-- one thing more came, and the connection goes on
pub came_on : (c d : Conn) (p : Place) (bytes : List ℕ) (parts : List Part) (text : List ℕ) (part : Part) (more : List ℕ)
    → StandsBehind c p bytes parts (step_of part) text → d.door ≡ c.door → d.inlet ≡ c.inlet → d.stage ≡ Reading → d.rows ≡ c.rows ++ row_of p part
    → more ≡ written_behind p (asks_behind 0 parts) (part ∷ []) → IsWhole p part → ended (map step_of parts ++ step_of part ∷ []) ≡ None
    → Came p d bytes parts text part (turns.Write more)
came_on c d p bytes parts text part more s door inlet stage rows written whole none = record {
  stands = record {
    door = door ∙ s.door;
    inlet = inlet_more c.inlet d.inlet bytes parts part inlet s.inlet;
    serves = subst (λ (st : Stage). Serves st p d.rows (parts ++ part ∷ []) (text ++ more)) (sym stage)
        (served_more p c.rows d.rows parts part text more s.served rows written whole, ap ended (steps_append parts (part ∷ [])) ∙ none);
  };
  says = tt;
}

-- one thing more came, and the connection ends
pub stands_ended : (c d : Conn) (p : Place) (bytes : List ℕ) (parts : List Part) (text : List ℕ) (part : Part) (more : List ℕ) (why : Ended)
    → StandsBehind c p bytes parts (step_of part) text → d ≡ record c { stage = IsEnded why } → row_of p part ≡ []
    → more ≡ written_behind p (asks_behind 0 parts) (part ∷ []) → IsWhole p part → ended (map step_of parts ++ step_of part ∷ []) ≡ Some why
    → StandsFor d p bytes (parts ++ part ∷ []) (text ++ more)
stands_ended c d p bytes parts text part more why s is row written whole so = subst (λ (k : Conn). StandsFor k p bytes (parts ++ part ∷ []) (text ++ more)) (sym is) (record {
  door = s.door;
  inlet = inlet_more c.inlet c.inlet bytes parts part refl s.inlet;
  serves = (
    served_more p c.rows c.rows parts part text more s.served (sym (append-nil c.rows) ∙ ap (λ (r : List ServedRow). c.rows ++ r) (sym row)) written whole,
    ap ended (steps_append parts (part ∷ [])) ∙ so,
  );
})

pub came_refused : (c d : Conn) (p : Place) (bytes : List ℕ) (parts : List Part) (text : List ℕ) (part : Part) (more : List ℕ) (why : Ended)
    → StandsBehind c p bytes parts (step_of part) text → d ≡ record c { stage = IsEnded why } → row_of p part ≡ []
    → more ≡ written_behind p (asks_behind 0 parts) (part ∷ []) → IsWhole p part → ended (map step_of parts ++ step_of part ∷ []) ≡ Some why
    → Came p d bytes parts text part (turns.Write more)
came_refused c d p bytes parts text part more why s is row written whole so =
    record { stands = stands_ended c d p bytes parts text part more why s is row written whole so; says = tt }

pub came_ended : (c d : Conn) (p : Place) (bytes : List ℕ) (parts : List Part) (text : List ℕ) (part : Part) (why told : Ended) (other : Ended) (ends : Option Ended) (turn : Turn)
    → StandsBehind c p bytes parts (step_of part) text → ends ≡ ended (map step_of parts ++ step_of part ∷ []) → told ≡ unwrap_or ends other
    → d ≡ record c { stage = IsEnded told } → turn ≡ turns.Ended told → row_of p part ≡ []
    → [] ≡ written_behind p (asks_behind 0 parts) (part ∷ []) → IsWhole p part → ended (map step_of parts ++ step_of part ∷ []) ≡ Some why
    → Came p d bytes parts text part turn
came_ended c d p bytes parts text part why told other ends turn s is or after says row written whole so =
    let last : told ≡ why = or ∙ ap (λ (e : Option Ended). unwrap_or e other) (is ∙ so) in
    let after_why : d ≡ record c { stage = IsEnded why } = after ∙ ap (λ (e : Ended). record c { stage = IsEnded e }) last in
    let stands : StandsFor d p bytes (parts ++ part ∷ []) (text ++ []) = stands_ended c d p bytes parts text part [] why s after_why row written whole so in
    let so' : ended (map step_of (parts ++ part ∷ [])) ≡ Some why = ap ended (steps_append parts (part ∷ [])) ∙ so in
    subst (Came p d bytes parts text part) (sym (says ∙ ap turns.Ended last)) (record {
      stands = stands;
      says = (all_of_ended d.inlet bytes (map step_of (parts ++ part ∷ [])) why stands.inlet so', so');
    })

-- a request's number
pub number_is : (p : Place) (rows : List ServedRow) (parts : List Part) (text : List ℕ) → AreServed p rows parts text → length rows + 1 ≡ asks_behind 0 parts + 1
number_is p rows parts text s = omega (arith, ap length s.rows_are, rows_count p 0 parts s.whole)

-- a request with a reply of this program's own
pub came_replied : (c d : Conn) (p : Place) (bytes : List ℕ) (parts : List Part) (text : List ℕ) (q : Request) (h : Handled) (front : ℕ) (e : Decision) (head last : Bool)
    (code : ℕ) (location : Option (List ℕ)) (fault : Option FaultName) → StandsBehind c p bytes parts (an_ask q) text → IsReady p parts q h front e head last
    → (chosen : Chosen) → e ≡ record { chosen = chosen; action = replies code location fault } → c.stage ≡ Reading
    → d ≡ record c { rows = c.rows ++ served_row front chosen code fault ∷ [] }
    → Came p d bytes parts text (a_request q h) (turns.Write (own code location fault last))
came_replied c d p bytes parts text q h front e head last code location fault s r chosen view stage is =
    let acts : (decision_at p q h).action ≡ replies code location fault = ap (λ (x : Decision). x.action) (sym r.decision ∙ view) in
    let chose : chosen ≡ (decision_at p q h).chosen = ap (λ (x : Decision). x.chosen) (sym view ∙ r.decision) in
    came_on c d p bytes parts text (a_request q h) (own code location fault last) s (ap (λ (k : Conn). k.door) is) (ap (λ (k : Conn). k.inlet) is) (ap (λ (k : Conn). k.stage) is ∙ stage)
    (ap (λ (k : Conn). k.rows) is ∙ ap (λ (l : List ServedRow). c.rows ++ l)
    (ap (λ (n : ℕ). served_row n chosen code fault ∷ []) r.front_is
    ∙ ap (λ (x : Chosen). served_row (length h.changes) x code fault ∷ []) chose
    ∙ ap (λ (a : Action). row_by (length h.changes) (decision_at p q h).chosen a h.answer) (sym acts)))
    (ap (own code location fault) r.last_is ∙ sym (append-nil _)
    ∙ ap (λ (a : Action). reply_by a h.answer (is_head q) (is_last (asks_behind 0 parts + 1) q) ++ []) (sym acts))
    (subst (λ (a : Action). IsReplied a h.answer) (sym acts) tt)
    (behind_ask 0 Closed (map step_of parts) q s.unended)

-- a request for which a backend is asked
pub came_asked : (c d : Conn) (p : Place) (bytes : List ℕ) (parts : List Part) (text : List ℕ) (q : Request) (h : Handled) (front : ℕ) (e : Decision) (head last : Bool)
    (to : Socket) (sent : List ℕ) (a : Asked) → StandsBehind c p bytes parts (an_ask q) text → IsReady p parts q h front e head last
    → e ≡ record { chosen = a.chosen; action = forwards to sent a.edits } → a.front ≡ front → a.head ≡ head → a.last ≡ last → d ≡ record c { stage = Asking a }
    → Came p d bytes parts text (a_request q h) (turns.Exchange to sent head)
came_asked c d p bytes parts text q h front e head last to sent a s r view same_front same_head same_last is =
    let acts : (decision_at p q h).action ≡ forwards to sent a.edits = ap (λ (x : Decision). x.action) (sym r.decision ∙ view) in
    subst (λ (k : Conn). Came p k bytes parts text (a_request q h) (turns.Exchange to sent head)) (sym is) (record {
      stands = record {
        door = s.door;
        inlet = inlet_more c.inlet c.inlet bytes parts (a_request q h) refl s.inlet;
        serves = record {
          front = parts;
          request = q;
          handled = h;
          parts_are = refl;
          answer_is = r.unanswered;
          asked = record {
            to = to;
            bytes = sent;
            action = acts;
            chosen = ap (λ (x : Decision). x.chosen) (sym view ∙ r.decision);
            front = same_front ∙ r.front_is;
            head = same_head ∙ r.head_is;
            last = same_last ∙ r.last_is;
          };
          served = record { rows_are = s.served.rows_are; text_is = append-nil text ∙ s.served.text_is; whole = s.served.whole };
          unended = ap ended (steps_append parts (a_request q h ∷ [])) ∙ behind_ask 0 Closed (map step_of parts) q s.unended;
        };
      };
      says = record { request = q; handled = h; edits = a.edits; more_is = refl; action = acts; head_is = r.head_is };
    })

-- the reply for what a backend answered
pub replied : (c d : Conn) (a : Asked) (answer : Answer) (p : Place) (bytes : List ℕ) (parts : List Part) (text : List ℕ) → StandsFor c p bytes parts text
    → c.stage ≡ Answered a answer → d.door ≡ c.door → d.inlet ≡ c.inlet → d.stage ≡ Reading
    → d.rows ≡ c.rows ++ served_row a.front a.chosen (status_of answer) (fault_of answer) ∷ []
    → StandsFor d p bytes parts (text ++ reply_of a.edits answer a.head a.last)
replied c d a answer p bytes parts text s stage door inlet reading rows =
    let o : IsOpen p a (Some answer) c.rows parts text = subst (λ (st : Stage). Serves st p c.rows parts text) stage s.serves in
    let part : Part = a_request o.request o.handled in
    let one : row_of p part ≡ served_row a.front a.chosen (status_of answer) (fault_of answer) ∷ [] =
    ap (λ (x : Action). row_by (length o.handled.changes) (decision_at p o.request o.handled).chosen x o.handled.answer) o.asked.action
    ∙ ap (λ (x : Option Answer). row_by (length o.handled.changes) (decision_at p o.request o.handled).chosen (forwards o.asked.to o.asked.bytes a.edits) x) o.answer_is
    ∙ ap (λ (n : ℕ). served_row n (decision_at p o.request o.handled).chosen (status_of answer) (fault_of answer) ∷ []) (sym o.asked.front)
    ∙ ap (λ (x : Chosen). served_row a.front x (status_of answer) (fault_of answer) ∷ []) (sym o.asked.chosen) in
    let text_is : reply_of a.edits answer a.head a.last ≡ written_behind p (asks_behind 0 o.front) (part ∷ []) =
    ap (λ (b : Bool). reply_of a.edits answer b a.last) o.asked.head
    ∙ ap (reply_of a.edits answer (is_head o.request)) o.asked.last
    ∙ sym (append-nil _)
    ∙ ap (λ (x : Option Answer). reply_by (forwards o.asked.to o.asked.bytes a.edits) x (is_head o.request) (is_last (asks_behind 0 o.front + 1) o.request) ++ []) (sym o.answer_is)
    ∙ ap (λ (x : Action). reply_by x o.handled.answer (is_head o.request) (is_last (asks_behind 0 o.front + 1) o.request) ++ []) (sym o.asked.action) in
    let whole : IsWhole p part =
    subst (λ (x : Action). IsReplied x o.handled.answer) (sym o.asked.action)
    (subst (λ (x : Option Answer). IsReplied (forwards o.asked.to o.asked.bytes a.edits) x) (sym o.answer_is) tt) in
    record {
      door = door ∙ s.door;
      inlet = subst (λ (i : Inlet). InletStandsFor i bytes (map step_of parts)) (sym inlet) s.inlet;
      serves = subst (λ (st : Stage). Serves st p d.rows parts (text ++ reply_of a.edits answer a.head a.last)) (sym reading) (
        subst (λ (l : List Part). AreServed p d.rows l (text ++ reply_of a.edits answer a.head a.last)) (sym o.parts_are)
            (served_more p c.rows d.rows o.front part text (reply_of a.edits answer a.head a.last) o.served (rows ∙ ap (λ (l : List ServedRow). c.rows ++ l) (sym one)) text_is whole),
        o.unended,
      );
    }

steps_answered : (a : Answer) (parts : List Part) → map step_of (change_last (with_answer a) parts) ≡ map step_of parts
steps_answered a [] = refl
steps_answered a (x ∷ []) = ap (λ (s : Step). s ∷ []) (same x)
  where
    same : (part : Part) → step_of (with_answer a part) ≡ step_of part
    same (a_request q h) = refl
    same a_wait = refl
    same (a_refused code) = refl
    same a_close = refl
    same a_cut = refl
steps_answered a (x ∷ (y ∷ parts)) = ap (λ (l : List Step). step_of x ∷ l) (steps_answered a (y ∷ parts))

-- a backend answered
pub answered : (c : Conn) (a : Asked) (answer : Answer) (p : Place) (bytes : List ℕ) (parts : List Part) (text : List ℕ) → StandsFor c p bytes parts text
    → c.stage ≡ Asking a → StandsFor (record c { stage = Answered a answer }) p bytes (change_last (with_answer answer) parts) text
answered c a answer p bytes parts text s stage =
    let o : IsOpen p a None c.rows parts text = subst (λ (st : Stage). Serves st p c.rows parts text) stage s.serves in
    let steps : map step_of (change_last (with_answer answer) parts) ≡ map step_of parts = steps_answered answer parts in
    record {
      door = s.door;
      inlet = subst (λ (l : List Step). InletStandsFor c.inlet bytes l) (sym steps) s.inlet;
      serves = record {
        front = o.front;
        request = o.request;
        handled = record o.handled { answer = Some answer };
        parts_are = ap (change_last (with_answer answer)) o.parts_are ∙ change_last-snoc (with_answer answer) o.front (a_request o.request o.handled);
        answer_is = refl;
        asked = record { to = o.asked.to; bytes = o.asked.bytes; action = o.asked.action; chosen = o.asked.chosen; front = o.asked.front; head = o.asked.head; last = o.asked.last };
        served = o.served;
        unended = ap ended steps ∙ o.unended;
      };
    }

-- further bytes came
pub stands_fed : (c : Conn) (i : Inlet) (p : Place) (bytes bytes' : List ℕ) (parts : List Part) (text : List ℕ) → InletStandsFor i bytes' (map step_of parts)
    → StandsFor c p bytes parts text → StandsFor (record c { inlet = i }) p bytes' parts text
stands_fed c i p bytes bytes' parts text inlet s = record { door = s.door; inlet = inlet; serves = s.serves }

-- it is asked
pub asked_at : (s : Stage) → IsAsking s → (a : Asked) × (s ≡ Asking a)
asked_at Reading is = absurd is
asked_at (Asking a) is = (a, refl)
asked_at (Answered a answer) is = absurd is
asked_at (IsEnded why) is = absurd is

-- a result and what is kept, together
pub ok_by : {T E X : Type 0} {P R : T → Type 0} (r : Result T E) → ((value : T) → P value → X → R value) → IfOk r P → OnOk r X → IfOk r R
ok_by (Ok value) both first second = both value first second
ok_by (Err fault) both first second = tt

-- a request that was decided
pub continues_by : (p : Place) (before after : Worker) (c : Conn) (bytes : List ℕ) (parts : List Part) (text : List ℕ) (q : Request) (h : Handled) (turn : Turn)
    → Came p c bytes parts text (a_request q h) turn → Decides p before after q h → h.answer ≡ None → Continues p before after c bytes parts text turn
continues_by p before after c bytes parts text q h turn came decides none = record {
  more = a_request q h ∷ [];
  stands = came.stands;
  decided = (after, (decides, refl));
  unanswered = (none, tt);
  says = came.says;
}

-- something else that came
pub continues_with : (p : Place) (w : Worker) (c : Conn) (bytes : List ℕ) (parts : List Part) (text : List ℕ) (part : Part) (turn : Turn)
    → Decided p w w (part ∷ []) → AreUnanswered (part ∷ []) → Came p c bytes parts text part turn → Continues p w w c bytes parts text turn
continues_with p w c bytes parts text part turn decided unanswered came =
    record { more = part ∷ []; stands = came.stands; decided = decided; unanswered = unanswered; says = came.says }

-- nothing came
pub continues_alone : (p : Place) (w : Worker) (c : Conn) (bytes : List ℕ) (parts : List Part) (text : List ℕ) (turn : Turn)
    → StandsFor c p bytes parts (text ++ text_of turn) → Says p bytes (is_over c.inlet) parts [] turn → Continues p w w c bytes parts text turn
continues_alone p w c bytes parts text turn stands says = record {
  more = [];
  stands = subst (λ (l : List Part). StandsFor c p bytes l (text ++ text_of turn)) (sym (append-nil parts)) stands;
  decided = refl;
  unanswered = tt;
  says = says;
}

pub ok_with : {T E : Type 0} {P R : T → Type 0} (r : Result T E) → ((value : T) → P value → R value) → IfOk r P → IfOk r R
ok_with (Ok value) more first = more value first
ok_with (Err fault) more first = tt

-- the end is told again
pub ended_again : (w : Worker) (c d : Conn) (why : Ended) (p : Place) (bytes : List ℕ) (parts : List Part) (text : List ℕ) → StandsFor c p bytes parts text
    → c.stage ≡ IsEnded why → d ≡ record c { stage = IsEnded why } → Continues p w w d bytes parts text (turns.Ended why)
ended_again w c d why p bytes parts text s stage is =
    let served : AreServed p c.rows parts text × (ended (map step_of parts) ≡ Some why) = subst (λ (st : Stage). Serves st p c.rows parts text) stage s.serves in
    let same : parts ≡ parts ++ [] = sym (append-nil parts) in
    subst (λ (k : Conn). Continues p w w k bytes parts text (turns.Ended why)) (sym is)
    (continues_alone p w (record c { stage = IsEnded why }) bytes parts text (turns.Ended why)
    (record {
      door = s.door;
      inlet = s.inlet;
      serves = (record { rows_are = served.0.rows_are; text_is = append-nil text ∙ served.0.text_is; whole = served.0.whole }, served.1);
    }) (
      subst (λ (l : List Part). Asks a_head 0 bytes (is_over c.inlet) (map step_of l)) same (all_of_ended c.inlet bytes (map step_of parts) why s.inlet served.1),
      subst (λ (l : List Part). ended (map step_of l) ≡ Some why) same served.1,
    ))
