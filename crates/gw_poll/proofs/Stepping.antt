-- What each step makes of a history.
use Rattle.std.proofs.Common.{◌≡◌, inl, inr, ℕ, ◌+◌, ◌-◌, ◌≤◌, ◌==◌, Bool, true, false, List, [], ◌∷◌, ◌++◌, map, length, take, drop, Option, Some, None, Ok, Err, IfSome, ap, refl, sym, subst, ◌∙◌, append_assoc, append-nil, length-append, arith, take_all}
use Rattle.std.proofs.lemmas.List.{drop-drop, take-append-drop}
use Rattle.gw_answers.specs.model.Decisions.{Action}
use Rattle.gw_answers.specs.model.Messages.{is_head}
use Rattle.gw_answers.specs.model.ServedRows.{ServedRow}
use Rattle.gw_exchange.specs.Exchanged.{Exchanged as ExchangedTo, IsCallFault, IsRefused}
use Rattle.gw_exchange.specs.declared.backend.TheConstants.{MOST_PIECE}
use Rattle.gw_exchange.specs.declared.fault.ExchangeFault.TheVariants.{NoMemory}
use Rattle.gw_frames.specs.Inlets.{StandsFor as InletStandsFor, is_over}
use Rattle.gw_frames.specs.declared.ended.Ended.{Ended}
use Rattle.gw_frames.specs.declared.inlet.Inlet.{Inlet}
use Rattle.gw_frames.specs.model.Requests.{Request, Step, ended}
use Rattle.gw_link.proofs.ExchangeLemmas.{change_last-snoc}
use Rattle.gw_link.proofs.PieceLemmas.{Gives-nothing, Takes-nothing}
use Rattle.gw_link.specs.Exchanges.{Exchange, change_last}
use Rattle.gw_link.specs.Faults.{HasRisen}
use Rattle.gw_link.specs.Pieces.{Gives, IsAtEnd, Keeps, Takes}
use Rattle.gw_link.specs.declared.order.UpstreamCall.{UpstreamCall}
use Rattle.gw_lists.proofs.Beginnings.{begins_with-self}
use Rattle.gw_message_laws.proofs.Ends.{all_of_ended}
use Rattle.gw_message_laws.proofs.Limits.{open_limit}
use Rattle.gw_message_laws.specs.declared.requests.TheConstants.{MOST_OPEN_BYTES}
use Rattle.gw_poll_exchange.specs.Polled.{GoesOn, IsOver, StandsFor as ExchangeStandsFor, TellsOn}
use Rattle.gw_poll_exchange.specs.declared.polled.PolledExchange.{PolledExchange}
use Rattle.gw_replies.specs.declared.fault.BackendFault.TheVariants as faults
use Rattle.gw_snap.specs.Lists.{BeginsWith}
use Rattle.gw_text.specs.model.Addresses.{Socket}
use Rattle.gw_worker.proofs.Parts.{exchanged_append}
use Rattle.gw_worker.proofs.Turning.{settled}
use Rattle.gw_worker.specs.Conns.{AreServed, AreWhole, IsAllOf, IsAsking, IsSettled, Serves, StandsFor, with_answer}
use Rattle.gw_worker.specs.Exchanges.{Exchanged, ExchangedBy, HasRisenBy, IsExchanged, RefusedBy, as_given, call_faults}
use Rattle.gw_worker.specs.Flows.{Outside, outside}
use Rattle.gw_worker.specs.Turns.{Continues, IsExchange, IsStuck, text_of}
use Rattle.gw_worker.specs.declared.conn.Conn.{Conn}
use Rattle.gw_worker.specs.declared.conn.Stage.{Stage as ConnStage}
use Rattle.gw_worker.specs.declared.conn.Stage.TheVariants.{Reading as IsReading, Asking, Answered, Ended as IsEnded}
use Rattle.gw_worker.specs.declared.conn.Turn.{Turn}
use Rattle.gw_worker.specs.declared.conn.Turn.TheVariants as turns
use Rattle.gw_worker.specs.model.Sessions.{Answer, Handled, Part, Place, a_request, decision_at, row_by, rows_of, step_of, written}
use Rattle.gw_worker.specs.model.Workers.{Worker}
use Rattle.gw_poll.proofs.Counting.{faults_answered}
use Rattle.gw_poll.proofs.Going.{went_self}
use Rattle.gw_poll.proofs.Unanswered.{own_exchanged, own_faults, own_refused}
use Rattle.gw_poll.specs.Courses.{Follows, GivesUp, GoesTo, IsReplied, IsUnasked, StageStands, unwritten}
use Rattle.gw_poll.specs.Histories.{History, IsBegun, IsSession, Went, bare, most_read}
use Rattle.gw_poll.specs.declared.course.Course.{Course}
use Rattle.gw_poll.specs.declared.course.Stage.{Stage}
use Rattle.gw_poll.specs.declared.course.Stage.TheVariants.{Turning, Reading, Writing, Exchanging}

-- Where nothing is to be written and no backend is asked.
pub calm : (p : Place) (s : Course) (h : History) → Follows p s h → s.stage ≡ Turning → StandsFor s.conn p h.bytes h.parts h.text × IsUnasked h
calm p s h f is =
    let unasked : IsUnasked h = subst (λ (st : Stage). StageStands st p h) is f.stage in (
      subst (λ (l : List Part). StandsFor s.conn p h.bytes l h.text) (ap (λ (l : List Part). h.parts ++ l) unasked.0 ∙ append-nil h.parts)
          (subst (λ (t : List ℕ). StandsFor s.conn p h.bytes (h.parts ++ h.asked) t) (ap (λ (st : Stage). h.text ++ unwritten st) is ∙ append-nil h.text) f.conn),
      unasked,
    )

-- The history behind a turn that asks no backend.
abbrev pub turned : History → List Part → History
turned h more = record { bytes = h.bytes; over = h.over; parts = h.parts ++ more; met = h.met; asked = []; begun = []; text = h.text }

-- A turn that asks no backend.
pub goes_turn : (p : Place) (a b : Worker) (s s' : Course) (h : History) (turn : Turn) → (f : Follows p s h) → s.stage ≡ Turning
    → (k : Continues p a b s'.conn h.bytes h.parts h.text turn) → unwritten s'.stage ≡ text_of turn → is_over s'.conn.inlet ≡ is_over s.conn.inlet
    → StageStands s'.stage p (turned h k.more) → (refuses : UpstreamCall → Socket → Type 0) (left : Option (List ℕ)) (o : Outside) → GoesTo refuses p a b s' h left left o o
goes_turn p a b s s' h turn f is k text over stage refuses left o =
    let unasked : IsUnasked h = (calm p s h f is).1 in
    record {
      h' = turned h k.more;
      went = record {
        read = [];
        wrote = [];
        came = k.more;
        fresh = k.more;
        bytes_are = sym (append-nil h.bytes);
        few = inl refl;
        text_is = sym (append-nil h.text);
        parts_are = refl;
        taken = Gives-nothing left;
        ends = λ is. inl is;
        written = Takes-nothing o.written;
        fresh_are = ap (map bare) (append-nil k.more) ∙ ap (λ (l : List Part). map bare l ++ map bare k.more) (sym unasked.0);
        decided = k.decided;
        refused = own_refused refuses p k.more k.unanswered;
        met_are = begins_with-self h.met;
        rest = [];
        rest_is = refl;
        told = λ earlier told. told ∙ ap (λ (l : List Exchange). Some (earlier ++ l)) unasked.1;
        failed = inl (omega (arith, own_faults p k.more k.unanswered));
      };
      follows = record {
        conn = subst (λ (l : List Part). StandsFor s'.conn p h.bytes l (h.text ++ unwritten s'.stage)) (sym (append-nil (h.parts ++ k.more)))
            (subst (λ (t : List ℕ). StandsFor s'.conn p h.bytes (h.parts ++ k.more) (h.text ++ t)) (sym text) k.stands);
        over = over ∙ f.over;
        exchanged = subst (Exchanged p (h.parts ++ k.more)) (append-nil h.met) (exchanged_append p h.parts k.more h.met [] f.exchanged (own_exchanged p k.more k.unanswered));
        stage = stage;
      };
    }

-- The history behind a turn that asks a backend.
abbrev pub asking : History → List Part → History
asking h more = record { bytes = h.bytes; over = h.over; parts = h.parts; met = h.met; asked = more; begun = []; text = h.text }

pub goes_asked : (p : Place) (a b : Worker) (s s' : Course) (h : History) (to : Socket) (sent : List ℕ) (head : Bool) (x : PolledExchange) → (f : Follows p s h) → s.stage ≡ Turning
    → (k : Continues p a b s'.conn h.bytes h.parts h.text (turns.Exchange to sent head)) → s'.stage ≡ Exchanging x → is_over s'.conn.inlet ≡ is_over s.conn.inlet
    → x.to ≡ to → x.bytes ≡ sent → x.head ≡ head → ExchangeStandsFor x []
    → (refuses : UpstreamCall → Socket → Type 0) (left : Option (List ℕ)) (o : Outside) → GoesTo refuses p a b s' h left left o o
goes_asked p a b s s' h to sent head x f is k next over same_to same_bytes same_head stands refuses left o =
    let unasked : IsUnasked h = (calm p s h f is).1 in
    record {
      h' = asking h k.more;
      went = record {
        read = [];
        wrote = [];
        came = [];
        fresh = k.more;
        bytes_are = sym (append-nil h.bytes);
        few = inl refl;
        text_is = sym (append-nil h.text);
        parts_are = sym (append-nil h.parts);
        taken = Gives-nothing left;
        ends = λ is. inl is;
        written = Takes-nothing o.written;
        fresh_are = ap (λ (l : List Part). map bare l ++ map bare k.more) (sym unasked.0);
        decided = k.decided;
        refused = tt;
        met_are = begins_with-self h.met;
        rest = [];
        rest_is = refl;
        told = λ earlier told. told ∙ ap (λ (l : List Exchange). Some (earlier ++ l)) unasked.1;
        failed = inl (omega arith);
      };
      follows = record {
        conn = subst (λ (st : Stage). StandsFor s'.conn p h.bytes (h.parts ++ k.more) (h.text ++ unwritten st)) (sym next) k.stands;
        over = over ∙ f.over;
        exchanged = f.exchanged;
        stage = subst (λ (st : Stage). StageStands st p (asking h k.more)) (sym next) (
          subst (λ (t : Socket). IsExchange p k.more t x.bytes x.head) (sym same_to)
              (subst (λ (y : List ℕ). IsExchange p k.more to y x.head) (sym same_bytes)
              (subst (λ (y : Bool). IsExchange p k.more to sent y) (sym same_head) k.says)),
          k.unanswered,
          stands,
        );
      };
    }

-- The connection did nothing, for want of memory or a place.
pub gives_up_stuck : (p : Place) (a b : Worker) (s s' : Course) (h : History) → (f : Follows p s h) → s.stage ≡ Turning → IsSettled s.conn.stage
    → IsStuck p a b s'.conn h.bytes h.parts → s'.conn.rows ≡ s.conn.rows
    → (refuses : UpstreamCall → Socket → Type 0) (left : Option (List ℕ)) (o : Outside) → GivesUp refuses p a b s' h left left o o
gives_up_stuck p a b s s' h f is calmed stuck rows refuses left o =
    let c : StandsFor s.conn p h.bytes h.parts h.text × IsUnasked h = calm p s h f is in
    let served : AreServed p s.conn.rows h.parts h.text = settled s.conn.stage p s.conn.rows h.parts h.text calmed c.0.serves in
    record {
      h' = h;
      broken = record {
        middle = a;
        fed = h.bytes;
        steps = stuck.steps;
        went = went_self refuses p a h left o;
        begins = begins_with-self h.bytes;
        first = subst (λ (l : List Part). InletStandsFor s'.conn.inlet h.bytes (map step_of l ++ stuck.steps)) (sym (ap (λ (l : List Part). h.parts ++ l) c.1.0 ∙ append-nil h.parts)) stuck.inlet;
        left_open = stuck.left;
        rows_are = rows ∙ served.rows_are;
        whole = served.whole;
        exchanged = f.exchanged;
        is_front = ([], sym served.text_is ∙ sym (append-nil h.text));
        begun = inl c.1.1;
      };
    }

-- A part of a text, and what is left of it then.
part_rest : (text : List ℕ) (from to : ℕ) → from ≤ to → take (to - from) (drop from text) ++ drop to text ≡ drop from text
part_rest text from to later =
    let reached : from + (to - from) ≡ to = omega (arith, later) in
    ap (λ (l : List ℕ). take (to - from) (drop from text) ++ l) (sym (drop-drop (to - from) from text ∙ ap (λ n. drop n text) reached))
    ∙ take-append-drop (to - from) (drop from text)

-- The history with further bytes written.
abbrev pub wrote_more : History → List ℕ → History
wrote_more h piece = record { bytes = h.bytes; over = h.over; parts = h.parts; met = h.met; asked = h.asked; begun = h.begun; text = h.text ++ piece }

went_written : (refuses : UpstreamCall → Socket → Type 0) (p : Place) (w : Worker) (h : History) (piece : List ℕ) (left left' told told' : Option (List ℕ)) (x : Option (List Exchange)) (n : ℕ)
    → Keeps left left' → Takes told piece told' → Went refuses p w w h (wrote_more h piece) left left' (outside told x n) (outside told' x n)
went_written refuses p w h piece left left' told told' x n unread takes = record {
  read = [];
  wrote = piece;
  came = [];
  fresh = [];
  bytes_are = sym (append-nil h.bytes);
  few = inl refl;
  text_is = refl;
  parts_are = sym (append-nil h.parts);
  taken = keeps_gives left left' unread;
  ends = λ is. inl is;
  written = takes;
  fresh_are = sym (append-nil (map bare h.asked));
  decided = refl;
  refused = tt;
  met_are = begins_with-self h.met;
  rest = h.begun;
  rest_is = refl;
  told = λ earlier is. is;
  failed = inl (omega arith);
}
  where
    keeps_gives : (left left' : Option (List ℕ)) → Keeps left left' → Gives left [] left'
    keeps_gives None left' kept = tt
    keeps_gives (Some rest) None kept = absurd (cc kept)
    keeps_gives (Some rest) (Some rest') kept = sym kept

-- Further bytes of a text are written.
pub goes_written : (p : Place) (s s' : Course) (h : History) (text : List ℕ) (from to : ℕ) (left left' told told' : Option (List ℕ))
    → Follows p (record s { stage = Writing text from }) h → from ≤ to → s'.conn ≡ s.conn → unwritten s'.stage ≡ drop to text → (IsUnasked h → StageStands s'.stage p (wrote_more h (take (to - from) (drop from text))))
    → Keeps left left' → Takes told (take (to - from) (drop from text)) told'
    → (refuses : UpstreamCall → Socket → Type 0) (w : Worker) (x : Option (List Exchange)) (n : ℕ) → GoesTo refuses p w w s' h left left' (outside told x n) (outside told' x n)
goes_written p s s' h text from to left left' told told' f later conn rest stage unread takes refuses w x n =
    let piece : List ℕ = take (to - from) (drop from text) in
    record {
      h' = wrote_more h piece;
      went = went_written refuses p w h piece left left' told told' x n unread takes;
      follows = record {
        conn = subst (λ (c : Conn). StandsFor c p h.bytes (h.parts ++ h.asked) ((h.text ++ piece) ++ unwritten s'.stage)) (sym conn)
            (subst (λ (t : List ℕ). StandsFor s.conn p h.bytes (h.parts ++ h.asked) t)
            (ap (λ (t : List ℕ). h.text ++ t) (sym (part_rest text from to later)) ∙ sym (append_assoc h.text piece (drop to text)) ∙ ap (λ (t : List ℕ). (h.text ++ piece) ++ t) (sym rest)) f.conn);
        over = ap (λ (c : Conn). is_over c.inlet) conn ∙ f.over;
        exchanged = f.exchanged;
        stage = stage f.stage;
      };
    }

-- A write failed behind further bytes of a text.
pub gives_up_written : (p : Place) (s s' : Course) (h : History) (text : List ℕ) (from to : ℕ) (left left' told told' : Option (List ℕ))
    → Follows p (record s { stage = Writing text from }) h → IsSettled s.conn.stage → from ≤ to → s'.conn ≡ s.conn
    → Keeps left left' → Takes told (take (to - from) (drop from text)) told'
    → (refuses : UpstreamCall → Socket → Type 0) (w : Worker) (x : Option (List Exchange)) (n : ℕ) → GivesUp refuses p w w s' h left left' (outside told x n) (outside told' x n)
gives_up_written p s s' h text from to left left' told told' f calmed later conn unread takes refuses w x n =
    let piece : List ℕ = take (to - from) (drop from text) in
    let parts_are : h.parts ++ h.asked ≡ h.parts = ap (λ (l : List Part). h.parts ++ l) f.stage.0 ∙ append-nil h.parts in
    let stands : StandsFor s.conn p h.bytes h.parts (h.text ++ drop from text) = subst (λ (l : List Part). StandsFor s.conn p h.bytes l (h.text ++ drop from text)) parts_are f.conn in
    let served : AreServed p s.conn.rows h.parts (h.text ++ drop from text) = settled s.conn.stage p s.conn.rows h.parts (h.text ++ drop from text) calmed stands.serves in
    record {
      h' = wrote_more h piece;
      broken = record {
        middle = w;
        fed = h.bytes;
        steps = [];
        went = went_written refuses p w h piece left left' told told' x n unread takes;
        begins = begins_with-self h.bytes;
        first = subst (λ (c : Conn). InletStandsFor c.inlet h.bytes (map step_of (h.parts ++ h.asked) ++ [])) (sym conn)
            (subst (λ (l : List Step). InletStandsFor s.conn.inlet h.bytes l) (sym (append-nil (map step_of (h.parts ++ h.asked)))) f.conn.inlet);
        left_open = (refl, refl);
        rows_are = ap (λ (c : Conn). c.rows) conn ∙ served.rows_are;
        whole = served.whole;
        exchanged = f.exchanged;
        is_front = (drop to text, sym served.text_is ∙ ap (λ (t : List ℕ). h.text ++ t) (sym (part_rest text from to later)) ∙ sym (append_assoc h.text piece (drop to text)));
        begun = inl f.stage.1;
      };
    }

-- The history in which so much is exchanged for the request.
abbrev pub begun_on : History → List Exchange → History
begun_on h met = record { bytes = h.bytes; over = h.over; parts = h.parts; met = h.met; asked = h.asked; begun = met; text = h.text }

went_begun : (refuses : UpstreamCall → Socket → Type 0) (p : Place) (w : Worker) (h : History) (begun' : List Exchange) (left written : Option (List ℕ)) (before after : Option (List Exchange)) (n n' : ℕ)
    → TellsOn h.begun begun' before after → n ≤ n' → Went refuses p w w h (begun_on h begun') left left (outside written before n) (outside written after n')
went_begun refuses p w h begun' left written before after n n' told later = record {
  read = [];
  wrote = [];
  came = [];
  fresh = [];
  bytes_are = sym (append-nil h.bytes);
  few = inl refl;
  text_is = sym (append-nil h.text);
  parts_are = sym (append-nil h.parts);
  taken = Gives-nothing left;
  ends = λ is. inl is;
  written = Takes-nothing written;
  fresh_are = sym (append-nil (map bare h.asked));
  decided = refl;
  refused = tt;
  met_are = begins_with-self h.met;
  rest = begun';
  rest_is = refl;
  told = told;
  failed = inl (omega (arith, later));
}

-- The exchange goes on.
pub goes_exchanging : (p : Place) (s s' : Course) (h : History) (x x' : PolledExchange) (before after : Option (List Exchange)) (n n' : ℕ) (refuses : UpstreamCall → Socket → Type 0) (w : Worker) (left written : Option (List ℕ))
    → Follows p (record s { stage = Exchanging x }) h → s'.conn ≡ s.conn → s'.stage ≡ Exchanging x' → x'.to ≡ x.to → x'.bytes ≡ x.bytes → x'.head ≡ x.head
    → GoesOn x x' h.begun before after → n ≤ n' → GoesTo refuses p w w s' h left left (outside written before n) (outside written after n')
goes_exchanging p s s' h x x' before after n n' refuses w left written f conn next same_to same_bytes same_head g later = record {
  h' = begun_on h g.met';
  went = went_begun refuses p w h g.met' left written before after n n' g.told later;
  follows = record {
    conn = subst (λ (st : Stage). StandsFor s'.conn p h.bytes (h.parts ++ h.asked) (h.text ++ unwritten st)) (sym next)
        (subst (λ (c : Conn). StandsFor c p h.bytes (h.parts ++ h.asked) (h.text ++ [])) (sym conn) f.conn);
    over = ap (λ (c : Conn). is_over c.inlet) conn ∙ f.over;
    exchanged = f.exchanged;
    stage = subst (λ (st : Stage). StageStands st p (begun_on h g.met')) (sym next) (
      subst (λ (t : Socket). IsExchange p h.asked t x'.bytes x'.head) (sym same_to)
          (subst (λ (y : List ℕ). IsExchange p h.asked x.to y x'.head) (sym same_bytes)
          (subst (λ (y : Bool). IsExchange p h.asked x.to x.bytes y) (sym same_head) f.stage.0)),
      f.stage.1,
      g.stands,
    );
  };
}

-- Two lists that end with one item each are alike before it.
snoc_front : (xs ys : List Part) (x y : Part) → xs ++ x ∷ [] ≡ ys ++ y ∷ [] → xs ≡ ys
snoc_front [] [] x y is = refl
snoc_front [] (z ∷ []) x y is = absurd (cc is)
snoc_front [] (z ∷ (v ∷ ys)) x y is = absurd (cc is)
snoc_front (z ∷ []) [] x y is = absurd (cc is)
snoc_front (z ∷ (v ∷ xs)) [] x y is = absurd (cc is)
snoc_front (z ∷ xs) (v ∷ ys) x y is =
    let heads : z ≡ v = cc is in
    let tails : xs ++ x ∷ [] ≡ ys ++ y ∷ [] = cc is in
    ap (λ (w : Part). w ∷ xs) heads ∙ ap (λ (l : List Part). v ∷ l) (snoc_front xs ys x y tails)

-- While a backend is asked, all before the request is served.
asked_served : (p : Place) (st : ConnStage) (rows : List ServedRow) (parts : List Part) (one : Part) (text : List ℕ) → IsAsking st → Serves st p rows (parts ++ one ∷ []) text → AreServed p rows parts text
asked_served p IsReading rows parts one text is serves = absurd is
asked_served p (Asking a) rows parts one text is o =
    subst (λ (l : List Part). AreServed p rows l text) (sym (snoc_front parts o.front one (a_request o.request o.handled) o.parts_are)) o.served
asked_served p (Answered a answer) rows parts one text is serves = absurd is
asked_served p (IsEnded why) rows parts one text is serves = absurd is

-- What was exchanged for an answer.
came_exchanged : (to : Socket) (bytes : List ℕ) (head : Bool) (met : List Exchange) (a : Answer) → ExchangedTo to bytes head (Some []) (Some met) (as_given a) → IsExchanged to bytes head (as_given a) met
came_exchanged to bytes head met (Ok r) made = (made.0, (cc made.1.1, made.1.0, made.1.2))
came_exchanged to bytes head met (Err faults.Open) made = cc made
came_exchanged to bytes head met (Err faults.Send) made = (made.0, (cc made.1.1, made.1.0, made.1.2))
came_exchanged to bytes head met (Err faults.Receive) made = (made.0, (cc made.1.1, made.1.0, made.1.2))
came_exchanged to bytes head met (Err faults.Head) made = (made.0, (cc made.1.1, made.1.0, made.1.2))
came_exchanged to bytes head met (Err faults.Body) made = (made.0, (cc made.1.1, made.1.0, made.1.2))
came_exchanged to bytes head met (Err faults.TooBig) made = (made.0, (cc made.1.1, made.1.0, made.1.2))
came_exchanged to bytes head met (Err faults.Cut) made = (made.0, (cc made.1.1, made.1.0, made.1.2))

-- The history in which the request has its answer.
abbrev pub answered : History → Request → Handled → Answer → List Exchange → History
answered h q hd a met = record {
  bytes = h.bytes;
  over = h.over;
  parts = h.parts ++ a_request q (record hd { answer = Some a }) ∷ [];
  met = h.met ++ met;
  asked = [];
  begun = [];
  text = h.text;
}

-- The exchange is over, and the reply is to be written.
pub goes_answered : (p : Place) (s s' : Course) (h : History) (x : PolledExchange) (a : Answer) (before after : Option (List Exchange)) (n n' : ℕ) (refuses : UpstreamCall → Socket → Type 0) (w : Worker) (left written : Option (List ℕ))
    → Follows p (record s { stage = Exchanging x }) h → IsOver x h.begun before after (as_given a) → (IsCallFault (as_given a) → HasRisen n n') → IsRefused refuses x.to (as_given a) → n ≤ n'
    → IsReplied p s'.conn s'.stage h.bytes (change_last (with_answer a) (h.parts ++ h.asked)) (h.text ++ []) → s'.conn.inlet ≡ s.conn.inlet
    → GoesTo refuses p w w s' h left left (outside written before n) (outside written after n')
goes_answered p s s' h x a before after n n' refuses w left written f over cause refused later r inlet =
    let e : IsExchange p h.asked x.to x.bytes x.head = f.stage.0 in
    let q : Request = e.request in
    let hd : Handled = e.handled in
    let part : Part = a_request q (record hd { answer = Some a }) in
    let last : change_last (with_answer a) (h.parts ++ h.asked) ≡ h.parts ++ part ∷ [] =
    ap (λ (l : List Part). change_last (with_answer a) (h.parts ++ l)) e.more_is ∙ change_last-snoc (with_answer a) h.parts (a_request q hd) in
    let made : IsExchanged x.to x.bytes (is_head q) (as_given a) over.met' =
    subst (λ (b : Bool). IsExchanged x.to x.bytes b (as_given a) over.met') e.head_is (came_exchanged x.to x.bytes x.head over.met' a over.came) in
    let one : Exchanged p (part ∷ []) over.met' =
    (over.met', ([], (sym (append-nil over.met'), subst (λ (y : Action). ExchangedBy y (Some a) (is_head q) over.met') (sym e.action) made, refl))) in
    record {
      h' = answered h q hd a over.met';
      went = record {
        read = [];
        wrote = [];
        came = part ∷ [];
        fresh = [];
        bytes_are = sym (append-nil h.bytes);
        few = inl refl;
        text_is = sym (append-nil h.text);
        parts_are = refl;
        taken = Gives-nothing left;
        ends = λ is. inl is;
        written = Takes-nothing written;
        fresh_are = ap (map bare) (sym e.more_is) ∙ sym (append-nil (map bare h.asked));
        decided = refl;
        refused = (subst (λ (y : Action). RefusedBy refuses y (Some a)) (sym e.action) refused, tt);
        met_are = (over.met', refl);
        rest = over.met';
        rest_is = append-nil (h.met ++ over.met');
        told = over.told;
        failed = subst (λ (y : Action). HasRisenBy (call_faults (row_by (length hd.changes) (decision_at p q hd).chosen y (Some a) ++ [])) n n') (sym e.action)
            (faults_answered (length hd.changes) (decision_at p q hd).chosen x.to x.bytes e.edits a n n' later cause);
      };
      follows = record {
        conn = subst (λ (st : Stage). StandsFor s'.conn p h.bytes ((h.parts ++ part ∷ []) ++ []) (h.text ++ unwritten st)) (sym r.next)
            (subst (λ (l : List Part). StandsFor s'.conn p h.bytes l (h.text ++ r.reply)) (last ∙ sym (append-nil (h.parts ++ part ∷ [])))
            (subst (λ (t : List ℕ). StandsFor s'.conn p h.bytes (change_last (with_answer a) (h.parts ++ h.asked)) (t ++ r.reply)) (append-nil h.text) r.stands));
        over = ap is_over inlet ∙ f.over;
        exchanged = exchanged_append p h.parts (part ∷ []) h.met over.met' f.exchanged one;
        stage = subst (λ (st : Stage). StageStands st p (answered h q hd a over.met')) (sym r.next) (refl, refl);
      };
    }

-- A backend was asked, and no reply was made.
gives_up_asked : (p : Place) (s s' : Course) (h : History) (x : PolledExchange) (met : List Exchange) (before after : Option (List Exchange)) (n n' : ℕ) (refuses : UpstreamCall → Socket → Type 0) (w : Worker) (left written : Option (List ℕ))
    → Follows p (record s { stage = Exchanging x }) h → IsAsking s.conn.stage → s'.conn.rows ≡ s.conn.rows → s'.conn.inlet ≡ s.conn.inlet → TellsOn h.begun met before after → n ≤ n'
    → IsBegun p h.asked met → GivesUp refuses p w w s' h left left (outside written before n) (outside written after n')
gives_up_asked p s s' h x met before after n n' refuses w left written f asking rows inlet told later once =
    let e : IsExchange p h.asked x.to x.bytes x.head = f.stage.0 in
    let stands : StandsFor s.conn p h.bytes (h.parts ++ a_request e.request e.handled ∷ []) h.text =
    subst (λ (l : List Part). StandsFor s.conn p h.bytes (h.parts ++ l) h.text) e.more_is (subst (λ (t : List ℕ). StandsFor s.conn p h.bytes (h.parts ++ h.asked) t) (append-nil h.text) f.conn) in
    let served : AreServed p s.conn.rows h.parts h.text = asked_served p s.conn.stage s.conn.rows h.parts (a_request e.request e.handled) h.text asking stands.serves in
    record {
      h' = begun_on h met;
      broken = record {
        middle = w;
        fed = h.bytes;
        steps = [];
        went = went_begun refuses p w h met left written before after n n' told later;
        begins = begins_with-self h.bytes;
        first = subst (λ (i : Inlet). InletStandsFor i h.bytes (map step_of (h.parts ++ h.asked) ++ [])) (sym inlet)
            (subst (λ (l : List Step). InletStandsFor s.conn.inlet h.bytes l) (sym (append-nil (map step_of (h.parts ++ h.asked)))) f.conn.inlet);
        left_open = (refl, refl);
        rows_are = rows ∙ served.rows_are;
        whole = served.whole;
        exchanged = f.exchanged;
        is_front = ([], sym served.text_is ∙ sym (append-nil h.text));
        begun = once;
      };
    }

whole_sent : (p : Place) (asked : List Part) (to : Socket) (bytes : List ℕ) (head : Bool) (met : List Exchange) (e : Exchange) → IsExchange p asked to bytes head → met ≡ e ∷ [] → e.to ≡ to → e.sent ≡ bytes → IsBegun p asked met
whole_sent p asked to bytes head met e ask is at sent = inr (to, (bytes, (head, (e, (length bytes, (ask, is, at, sent ∙ sym (take_all (length bytes) bytes (omega arith))))))))

-- What is exchanged for an answer is at most one exchange.
once_answered : (p : Place) (asked : List Part) (to : Socket) (bytes : List ℕ) (head : Bool) (met : List Exchange) (a : Answer) → IsExchange p asked to bytes head → IsExchanged to bytes head (as_given a) met → IsBegun p asked met
once_answered p asked to bytes head met (Ok r) ask made = whole_sent p asked to bytes head met made.0 ask made.1.0 made.1.1 made.1.2.0
once_answered p asked to bytes head met (Err faults.Open) ask made = inl made
once_answered p asked to bytes head met (Err faults.Send) ask made = inr (to, (bytes, (head, (made.0, (made.1.2.0, (ask, made.1.0, made.1.1, made.1.2.1.1))))))
once_answered p asked to bytes head met (Err faults.Receive) ask made = whole_sent p asked to bytes head met made.0 ask made.1.0 made.1.1 made.1.2.0
once_answered p asked to bytes head met (Err faults.Head) ask made = whole_sent p asked to bytes head met made.0 ask made.1.0 made.1.1 made.1.2.0
once_answered p asked to bytes head met (Err faults.Body) ask made = whole_sent p asked to bytes head met made.0 ask made.1.0 made.1.1 made.1.2.0
once_answered p asked to bytes head met (Err faults.TooBig) ask made = whole_sent p asked to bytes head met made.0 ask made.1.0 made.1.1 made.1.2.0
once_answered p asked to bytes head met (Err faults.Cut) ask made = whole_sent p asked to bytes head met made.0 ask made.1.0 made.1.1 made.1.2.0

-- A backend answered, and no reply was made.
pub gives_up_unanswered : (p : Place) (s s' : Course) (h : History) (x : PolledExchange) (a : Answer) (before after : Option (List Exchange)) (n n' : ℕ) (refuses : UpstreamCall → Socket → Type 0) (w : Worker) (left written : Option (List ℕ))
    → Follows p (record s { stage = Exchanging x }) h → IsAsking s.conn.stage → s'.conn.rows ≡ s.conn.rows → s'.conn.inlet ≡ s.conn.inlet → IsOver x h.begun before after (as_given a) → n ≤ n'
    → GivesUp refuses p w w s' h left left (outside written before n) (outside written after n')
gives_up_unanswered p s s' h x a before after n n' refuses w left written f asking rows inlet over later =
    gives_up_asked p s s' h x over.met' before after n n' refuses w left written f asking rows inlet over.told later
    (once_answered p h.asked x.to x.bytes x.head over.met' a f.stage.0 (came_exchanged x.to x.bytes x.head over.met' a over.came))

-- A backend was asked, and memory was wanted.
pub gives_up_starved : (p : Place) (s s' : Course) (h : History) (x : PolledExchange) (before after : Option (List Exchange)) (n n' : ℕ) (refuses : UpstreamCall → Socket → Type 0) (w : Worker) (left written : Option (List ℕ))
    → Follows p (record s { stage = Exchanging x }) h → IsAsking s.conn.stage → s'.conn ≡ s.conn → IsOver x h.begun before after (Err NoMemory) → n ≤ n'
    → GivesUp refuses p w w s' h left left (outside written before n) (outside written after n')
gives_up_starved p s s' h x before after n n' refuses w left written f asking conn over later =
    gives_up_asked p s s' h x over.met' before after n n' refuses w left written f asking (ap (λ (c : Conn). c.rows) conn) (ap (λ (c : Conn). c.inlet) conn) over.told later
    (whole_sent p h.asked x.to x.bytes x.head over.met' over.came.0 f.stage.0 (cc over.came.1.1) over.came.1.0 over.came.1.2.0)

-- The history with further bytes read; an empty piece is their end.
abbrev pub read_more : History → List ℕ → History
read_more h piece = record { bytes = h.bytes ++ piece; over = length piece == 0; parts = h.parts; met = h.met; asked = h.asked; begun = h.begun; text = h.text }

went_read : (refuses : UpstreamCall → Socket → Type 0) (p : Place) (w : Worker) (h : History) (piece : List ℕ) (left left' told told' : Option (List ℕ)) (x : Option (List Exchange)) (n : ℕ)
    → length (h.bytes ++ piece) ≤ most_read → Gives left piece left' → ((length piece == 0) ≡ true → IsAtEnd left') → Keeps told told'
    → Went refuses p w w h (read_more h piece) left left' (outside told x n) (outside told' x n)
went_read refuses p w h piece left left' told told' x n few gives ends unwritten = record {
  read = piece;
  wrote = [];
  came = [];
  fresh = [];
  bytes_are = refl;
  few = inr few;
  text_is = sym (append-nil h.text);
  parts_are = sym (append-nil h.parts);
  taken = gives;
  ends = λ is. inr (where_told left (ends is));
  written = keeps_takes told told' unwritten;
  fresh_are = sym (append-nil (map bare h.asked));
  decided = refl;
  refused = tt;
  met_are = begins_with-self h.met;
  rest = h.begun;
  rest_is = refl;
  told = λ earlier is. is;
  failed = inl (omega arith);
}
  where
    where_told : (l : Option (List ℕ)) → IsAtEnd left' → IfSome l (λ rest. IsAtEnd left')
    where_told None is = tt
    where_told (Some rest) is = is

    keeps_takes : (t t' : Option (List ℕ)) → Keeps t t' → Takes t [] t'
    keeps_takes None t' kept = tt
    keeps_takes (Some text) t' kept = kept ∙ ap Some (sym (append-nil text))

-- Where bytes are read, no backend is asked.
hungry : (p : Place) (s : Course) (h : History) → Follows p s h → s.stage ≡ Reading → StandsFor s.conn p h.bytes (h.parts ++ h.asked) h.text × StageStands Reading p h
hungry p s h f is = (
  subst (λ (t : List ℕ). StandsFor s.conn p h.bytes (h.parts ++ h.asked) t) (ap (λ (st : Stage). h.text ++ unwritten st) is ∙ append-nil h.text) f.conn,
  subst (λ (st : Stage). StageStands st p h) is f.stage,
)

-- A connection of which bytes are read hasn't ended, so it has few of them, and a piece more is at most as many as are ever read.
few_read : (p : Place) (s : Course) (h : History) (piece : List ℕ) → Follows p s h → s.stage ≡ Reading → is_over s.conn.inlet ≡ false → length piece ≤ MOST_PIECE → length (h.bytes ++ piece) ≤ most_read
few_read p s h piece f is unfinished small =
    let stands : StageStands Reading p h = (hungry p s h f is).1 in
    let few : length h.bytes ≤ MOST_OPEN_BYTES =
    open_limit h.bytes (map step_of h.parts) (subst (λ (b : Bool). IsAllOf h.bytes b h.parts) (sym f.over ∙ unfinished) stands.1) stands.2 in
    omega (arith, few, small, length-append h.bytes piece)

-- Further bytes are read.
pub goes_read : (p : Place) (s s' : Course) (h : History) (piece : List ℕ) (left left' told told' : Option (List ℕ)) (refuses : UpstreamCall → Socket → Type 0) (w : Worker) (x : Option (List Exchange)) (n : ℕ)
    → Follows p s h → s.stage ≡ Reading → is_over s.conn.inlet ≡ false → length piece ≤ MOST_PIECE → s'.stage ≡ Turning
    → ((parts : List Part) (text : List ℕ) → StandsFor s.conn p h.bytes parts text → StandsFor s'.conn p (h.bytes ++ piece) parts text) → is_over s'.conn.inlet ≡ (length piece == 0)
    → Gives left piece left' → ((length piece == 0) ≡ true → IsAtEnd left') → Keeps told told' → GoesTo refuses p w w s' h left left' (outside told x n) (outside told' x n)
goes_read p s s' h piece left left' told told' refuses w x n f is unfinished small next fed over gives ends unwritten' =
    let c : StandsFor s.conn p h.bytes (h.parts ++ h.asked) h.text × StageStands Reading p h = hungry p s h f is in
    record {
      h' = read_more h piece;
      went = went_read refuses p w h piece left left' told told' x n (few_read p s h piece f is unfinished small) gives ends unwritten';
      follows = record {
        conn = subst (λ (t : List ℕ). StandsFor s'.conn p (h.bytes ++ piece) (h.parts ++ h.asked) t) (sym (ap (λ (st : Stage). h.text ++ unwritten st) next ∙ append-nil h.text)) (fed (h.parts ++ h.asked) h.text c.0);
        over = over;
        exchanged = f.exchanged;
        stage = subst (λ (st : Stage). StageStands st p (read_more h piece)) (sym next) c.1.0;
      };
    }

gives_up_calm : (p : Place) (s s' : Course) (h h' : History) (left left' : Option (List ℕ)) (o o' : Outside) (refuses : UpstreamCall → Socket → Type 0) (w : Worker)
    → Follows p s h → s.stage ≡ Reading → s.conn.stage ≡ IsReading → StandsFor s'.conn p h.bytes (h.parts ++ h.asked) h.text → s'.conn.rows ≡ s.conn.rows
    → Went refuses p w w h h' left left' o o' → BeginsWith h.bytes h'.bytes → h'.parts ≡ h.parts → h'.met ≡ h.met → h'.asked ≡ h.asked → h'.begun ≡ h.begun → h'.text ≡ h.text
    → GivesUp refuses p w w s' h left left' o o'
gives_up_calm p s s' h h' left left' o o' refuses w f is at stands rows went begins parts met asked begun text =
    let c : StandsFor s.conn p h.bytes (h.parts ++ h.asked) h.text × StageStands Reading p h = hungry p s h f is in
    let alone : StandsFor s.conn p h.bytes h.parts h.text = subst (λ (l : List Part). StandsFor s.conn p h.bytes l h.text) (ap (λ (l : List Part). h.parts ++ l) c.1.0.0 ∙ append-nil h.parts) c.0 in
    let served : AreServed p s.conn.rows h.parts h.text = settled s.conn.stage p s.conn.rows h.parts h.text (subst IsSettled (sym at) tt) alone.serves in
    record {
      h' = h';
      broken = record {
        middle = w;
        fed = h.bytes;
        steps = [];
        went = went;
        begins = begins;
        first = subst (λ (l : List Step). InletStandsFor s'.conn.inlet h.bytes l)
            (ap (λ (l : List Part). map step_of l) (ap (λ (l : List Part). l ++ h.asked) (sym parts) ∙ ap (λ (l : List Part). h'.parts ++ l) (sym asked)) ∙ sym (append-nil (map step_of (h'.parts ++ h'.asked)))) stands.inlet;
        left_open = (refl, refl);
        rows_are = rows ∙ served.rows_are ∙ ap (rows_of p) (sym parts);
        whole = subst (AreWhole p) (sym parts) served.whole;
        exchanged = subst (λ (l : List Part). Exchanged p l h'.met) (sym parts) (subst (Exchanged p h.parts) (sym met) f.exchanged);
        is_front = ([], ap (written p) parts ∙ sym served.text_is ∙ sym text ∙ sym (append-nil h'.text));
        begun = inl (begun ∙ c.1.0.1);
      };
    }

-- A read failed.
pub gives_up_unread : (p : Place) (s s' : Course) (h : History) (left left' told told' : Option (List ℕ)) (refuses : UpstreamCall → Socket → Type 0) (w : Worker) (x : Option (List Exchange)) (n : ℕ)
    → Follows p s h → s.stage ≡ Reading → s.conn.stage ≡ IsReading → s'.conn ≡ s.conn → Keeps left left' → Keeps told told'
    → GivesUp refuses p w w s' h left left' (outside told x n) (outside told' x n)
gives_up_unread p s s' h left left' told told' refuses w x n f is at conn unread unwritten' =
    let c : StandsFor s.conn p h.bytes (h.parts ++ h.asked) h.text × StageStands Reading p h = hungry p s h f is in
    gives_up_calm p s s' h (wrote_more h []) left left' (outside told x n) (outside told' x n) refuses w f is at
    (subst (λ (d : Conn). StandsFor d p h.bytes (h.parts ++ h.asked) h.text) (sym conn) c.0) (ap (λ (d : Conn). d.rows) conn)
    (went_written refuses p w h [] left left' told told' x n unread (keeps_takes told told' unwritten')) (begins_with-self h.bytes) refl refl refl refl (append-nil h.text)
  where
    keeps_takes : (t t' : Option (List ℕ)) → Keeps t t' → Takes t [] t'
    keeps_takes None t' kept = tt
    keeps_takes (Some text) t' kept = kept ∙ ap Some (sym (append-nil text))

-- What was read couldn't be kept.
pub gives_up_unfed : (p : Place) (s s' : Course) (h : History) (piece : List ℕ) (left left' told told' : Option (List ℕ)) (refuses : UpstreamCall → Socket → Type 0) (w : Worker) (x : Option (List Exchange)) (n : ℕ)
    → Follows p s h → s.stage ≡ Reading → s.conn.stage ≡ IsReading → is_over s.conn.inlet ≡ false → length piece ≤ MOST_PIECE
    → ((parts : List Part) (text : List ℕ) → StandsFor s.conn p h.bytes parts text → StandsFor s'.conn p h.bytes parts text) → s'.conn.rows ≡ s.conn.rows
    → Gives left piece left' → ((length piece == 0) ≡ true → IsAtEnd left') → Keeps told told' → GivesUp refuses p w w s' h left left' (outside told x n) (outside told' x n)
gives_up_unfed p s s' h piece left left' told told' refuses w x n f is at unfinished small stands rows gives ends unwritten' =
    let c : StandsFor s.conn p h.bytes (h.parts ++ h.asked) h.text × StageStands Reading p h = hungry p s h f is in
    gives_up_calm p s s' h (read_more h piece) left left' (outside told x n) (outside told' x n) refuses w f is at (stands (h.parts ++ h.asked) h.text c.0) rows
    (went_read refuses p w h piece left left' told told' x n (few_read p s h piece f is unfinished small) gives ends unwritten') (piece, refl) refl refl refl refl refl

session_of : (p : Place) (c : Conn) (h : History) (end : Option Ended) → StandsFor c p h.bytes h.parts h.text → IsSettled c.stage → IsUnasked h → Exchanged p h.parts h.met
    → IsAllOf h.bytes h.over h.parts → ended (map step_of h.parts) ≡ end → IsSession p h c.rows end
session_of p c h end s calmed unasked exchanged all ends =
    let served : AreServed p c.rows h.parts h.text = settled c.stage p c.rows h.parts h.text calmed s.serves in
    record {
      is_all = all;
      ends = ends;
      rows_are = served.rows_are;
      whole = served.whole;
      exchanged = exchanged;
      text_is = served.text_is;
      unasked = unasked.0;
      unbegun = unasked.1;
    }

-- Where bytes are read, all that came so far is served.
pub session_reading : (p : Place) (s : Course) (h : History) → Follows p s h → s.stage ≡ Reading → s.conn.stage ≡ IsReading → IsSession p h s.conn.rows None
session_reading p s h f is at =
    let c : StandsFor s.conn p h.bytes (h.parts ++ h.asked) h.text × StageStands Reading p h = hungry p s h f is in
    let alone : StandsFor s.conn p h.bytes h.parts h.text = subst (λ (l : List Part). StandsFor s.conn p h.bytes l h.text) (ap (λ (l : List Part). h.parts ++ l) c.1.0.0 ∙ append-nil h.parts) c.0 in
    session_of p s.conn h None alone (subst IsSettled (sym at) tt) c.1.0 f.exchanged c.1.1 c.1.2

-- Where the connection ended, all is served.
pub session_ended : (p : Place) (s : Course) (h : History) (why : Ended) → Follows p s h → s.stage ≡ Turning → s.conn.stage ≡ IsEnded why → IsSession p h s.conn.rows (Some why)
session_ended p s h why f is at =
    let c : StandsFor s.conn p h.bytes h.parts h.text × IsUnasked h = calm p s h f is in
    let serves : Serves (IsEnded why) p s.conn.rows h.parts h.text = subst (λ (st : ConnStage). Serves st p s.conn.rows h.parts h.text) at c.0.serves in
    session_of p s.conn h (Some why) c.0 (subst IsSettled (sym at) tt) c.1 f.exchanged
    (subst (λ (b : Bool). IsAllOf h.bytes b h.parts) f.over (all_of_ended s.conn.inlet h.bytes (map step_of h.parts) why c.0.inlet serves.1)) serves.1

-- 1 while bytes may come.
abbrev pub not_over : Bool → ℕ
not_over true = 0
not_over false = 1
