-- What one poll of a connection comes to, over a link that held a piece and backends that are at hand.
use Rattle.std.proofs.Common.{◌≡◌, ◌∙◌, ℕ, Bool, true, false, List, [], ◌∷◌, ◌++◌, length, map, Option, Some, None, Ok, Err, refl, sym, ap, subst, append_assoc, append-nil, ◌==◌}
use Rattle.std.proofs.lemmas.Bool.{eqb-true}
use Rattle.std.proofs.lemmas.List.{nil_from_length}
use Rattle.gw_answers.specs.model.Decisions.{Action, forwards, replies}
use Rattle.gw_answers.specs.model.Messages.{is_head}
use Rattle.gw_answers.specs.model.ServedRows.{ServedRow}
use Rattle.gw_frames.specs.Inlets.{IsFuture, StandsFor as InletStandsFor, StillAt, ended_at, is_over}
use Rattle.gw_frames.specs.declared.ended.Ended.{Ended}
use Rattle.gw_frames.specs.declared.inlet.Inlet.{Inlet}
use Rattle.gw_frames.specs.declared.inlet.Stage.{Stage as InletStage}
use Rattle.gw_frames.specs.declared.inlet.Stage.TheVariants as inlets
use Rattle.gw_frames.specs.model.Requests.{Asks, Step, a_head, ended}
use Rattle.gw_link.specs.Exchanges.{Exchange}
use Rattle.gw_link.specs.declared.order.UpstreamCall.{UpstreamCall}
use Rattle.gw_poll.specs.Courses.{Follows, GoesTo, IsIdle, unwritten}
use Rattle.gw_poll.specs.Histories.{History, IsSession, Went, bare}
use Rattle.gw_poll.specs.declared.course.Course.{Course}
use Rattle.gw_replies.specs.declared.fault.BackendFault.TheVariants as faults
use Rattle.gw_text.specs.model.Addresses.{Socket}
use Rattle.gw_worker.specs.Conns.{AreServed, IsAllOf, Serves, StandsFor}
use Rattle.gw_worker.specs.Exchanges.{Exchanged, ExchangedBy, IsExchanged, PartExchanged, as_given}
use Rattle.gw_worker.specs.Flows.{Outside, Served, Took, outside}
use Rattle.gw_worker.specs.Workers.{Decided}
use Rattle.gw_worker.specs.declared.conn.Stage.{Stage}
use Rattle.gw_worker.specs.declared.conn.Stage.TheVariants.{Reading, Asking, Answered, Ended as IsEnded}
use Rattle.gw_worker.specs.declared.serve.Flow.TheVariants as flows
use Rattle.gw_worker.specs.model.Sessions.{Answer, Part, Place, a_close, a_cut, a_refused, a_request, a_wait, decision_at, step_of}
use Rattle.gw_worker.specs.model.Workers.{Worker}
use Rattle.gw_conns.specs.Standing.{history_of}

-- how a request is decided says nothing of its answer
to_bare : (p : Place) (a b : Worker) (parts : List Part) → Decided p a b parts → Decided p a b (map bare parts)
to_bare p a b [] d = d
to_bare p a b (a_request q h ∷ parts) d =
    (d.0, (record { pass = d.1.0.pass; later = d.1.0.later; books = d.1.0.books; counted = d.1.0.counted }, to_bare p d.0 b parts d.1.1))
to_bare p a b (a_wait ∷ parts) d = to_bare p a b parts d
to_bare p a b (a_refused code ∷ parts) d = to_bare p a b parts d
to_bare p a b (a_close ∷ parts) d = to_bare p a b parts d
to_bare p a b (a_cut ∷ parts) d = to_bare p a b parts d

of_bare : (p : Place) (a b : Worker) (parts : List Part) → Decided p a b (map bare parts) → Decided p a b parts
of_bare p a b [] d = d
of_bare p a b (a_request q h ∷ parts) d =
    (d.0, (record { pass = d.1.0.pass; later = d.1.0.later; books = d.1.0.books; counted = d.1.0.counted }, of_bare p d.0 b parts d.1.1))
of_bare p a b (a_wait ∷ parts) d = of_bare p a b parts d
of_bare p a b (a_refused code ∷ parts) d = of_bare p a b parts d
of_bare p a b (a_close ∷ parts) d = of_bare p a b parts d
of_bare p a b (a_cut ∷ parts) d = of_bare p a b parts d

same_decided : (p : Place) (a b : Worker) (xs ys : List Part) → map bare xs ≡ map bare ys → Decided p a b ys → Decided p a b xs
same_decided p a b xs ys same d = of_bare p a b xs (subst (Decided p a b) (sym same) (to_bare p a b ys d))

-- of one answer as much is exchanged
given_size : (to : Socket) (bytes : List ℕ) (head : Bool) (answer : Answer) (m n : List Exchange)
    → IsExchanged to bytes head (as_given answer) m → IsExchanged to bytes head (as_given answer) n → length m ≡ length n
given_size to bytes head (Ok r) m n x y = ap length x.1.0 ∙ sym (ap length y.1.0)
given_size to bytes head (Err faults.Open) m n x y = ap length x ∙ sym (ap length y)
given_size to bytes head (Err faults.Send) m n x y = ap length x.1.0 ∙ sym (ap length y.1.0)
given_size to bytes head (Err faults.Receive) m n x y = ap length x.1.0 ∙ sym (ap length y.1.0)
given_size to bytes head (Err faults.Head) m n x y = ap length x.1.0 ∙ sym (ap length y.1.0)
given_size to bytes head (Err faults.Body) m n x y = ap length x.1.0 ∙ sym (ap length y.1.0)
given_size to bytes head (Err faults.TooBig) m n x y = ap length x.1.0 ∙ sym (ap length y.1.0)
given_size to bytes head (Err faults.Cut) m n x y = ap length x.1.0 ∙ sym (ap length y.1.0)

action_size : (action : Action) (answer : Option Answer) (head : Bool) (m n : List Exchange) → ExchangedBy action answer head m → ExchangedBy action answer head n
    → length m ≡ length n
action_size (replies code location fault) answer head m n x y = ap length x.1 ∙ sym (ap length y.1)
action_size (forwards to bytes edits) None head m n x y = ap length x ∙ sym (ap length y)
action_size (forwards to bytes edits) (Some a) head m n x y = given_size to bytes head a m n x y

part_size : (p : Place) (part : Part) (m n : List Exchange) → PartExchanged p part m → PartExchanged p part n → length m ≡ length n
part_size p (a_request q h) m n x y = action_size (decision_at p q h).action h.answer (is_head q) m n x y
part_size p a_wait m n x y = ap length x ∙ sym (ap length y)
part_size p (a_refused code) m n x y = ap length x ∙ sym (ap length y)
part_size p a_close m n x y = ap length x ∙ sym (ap length y)
part_size p a_cut m n x y = ap length x ∙ sym (ap length y)

-- what stands behind fronts of one length
rests_same : {A : Type 0} (a b c d : List A) → length a ≡ length b → a ++ c ≡ b ++ d → c ≡ d
rests_same [] [] c d size same = same
rests_same [] (y ∷ b) c d size same = absurd (cc size)
rests_same (x ∷ a) [] c d size same = absurd (cc size)
rests_same (x ∷ a) (y ∷ b) c d size same = rests_same a b c d (cc size) (cc same)

-- what was exchanged for what came behind the first parts
exchanged_behind : (p : Place) (xs ys : List Part) (m n : List Exchange) → Exchanged p xs m → Exchanged p (xs ++ ys) (m ++ n) → Exchanged p ys n
exchanged_behind p [] ys m n first both = subst (λ (l : List Exchange). Exchanged p ys (l ++ n)) first both
exchanged_behind p (x ∷ xs) ys m n first both =
    let rest : List Exchange = first.1.0 in
    let same : first.0 ++ (rest ++ n) ≡ both.0 ++ both.1.0
    = sym (append_assoc first.0 rest n) ∙ ap (λ (l : List Exchange). l ++ n) (sym first.1.1.0) ∙ both.1.1.0 in
    let behind : rest ++ n ≡ both.1.0 = rests_same first.0 both.0 (rest ++ n) both.1.0 (part_size p x first.0 both.0 first.1.1.1 both.1.1.1) same in
    exchanged_behind p xs ys rest n first.1.1.2 (subst (λ (l : List Exchange). Exchanged p (xs ++ ys) l) (sym behind) both.1.1.2)

-- an inlet that ended stands for further bytes too
is_done : (s : InletStage) (count : ℕ) (why : Ended) → ended_at s count [] ≡ Some why → (bytes : List ℕ) (over : Bool) (more : List Step) → StillAt s count bytes over more → (next : List ℕ)
    → StillAt s count next over more
is_done inlets.Head count why is bytes over more still next = absurd (cc is)
is_done (inlets.Body o r) count why is bytes over more still next = absurd (cc is)
is_done (inlets.Closing w) count why is bytes over more still next = still
is_done (inlets.Done w) count why is bytes over more still next = still

no_more : (s : InletStage) (count : ℕ) (why : Ended) → ended_at s count [] ≡ Some why → (bytes : List ℕ) (over : Bool) → StillAt s count bytes over []
no_more inlets.Head count why is bytes over = absurd (cc is)
no_more (inlets.Body o r) count why is bytes over = absurd (cc is)
no_more (inlets.Closing w) count why is bytes over = absurd (cc is)
no_more (inlets.Done w) count why is bytes over = refl

ended_inlet : (i : Inlet) (bytes : List ℕ) (steps : List Step) (why : Ended) → InletStandsFor i bytes steps → ended steps ≡ Some why → ended_at i.stage i.count [] ≡ Some why
ended_inlet i bytes steps why stands is = sym (stands.told []) ∙ ap ended (append-nil steps) ∙ is

-- the future of an inlet to which further bytes come before that
later : (a : Bool) (more next : List ℕ) (over : Bool) → (a ≡ true → more ≡ []) → IsFuture a next over → IsFuture a (more ++ next) over
later false more next over none f = tt
later true more next over none f = (ap (λ (l : List ℕ). l ++ next) (none refl) ∙ f.0, f.1)

stands_behind : (i : Inlet) (bytes more : List ℕ) (steps : List Step) (why : Ended) → InletStandsFor i bytes steps → ended steps ≡ Some why → (is_over i ≡ true → more ≡ [])
    → InletStandsFor i (bytes ++ more) steps
stands_behind i bytes more steps why stands is none = record {
  room = stands.room;
  leads = λ next over rest future still.
      subst (λ (b : List ℕ). Asks a_head 0 b over (steps ++ rest)) (sym (append_assoc bytes more next))
      (stands.leads (more ++ next) over rest (later i.over more next over none future)
      (is_done i.stage i.count why (ended_inlet i bytes steps why stands is) (i.buffer ++ next) over rest still (i.buffer ++ (more ++ next))));
  told = stands.told;
}

-- the steps of an inlet that ended are those of further bytes too
all_behind : (i : Inlet) (bytes more : List ℕ) (over : Bool) (steps : List Step) (why : Ended) → InletStandsFor i bytes steps → ended steps ≡ Some why → IsFuture i.over more over
    → Asks a_head 0 (bytes ++ more) over steps
all_behind i bytes more over steps why stands is future =
    subst (λ (s : List Step). Asks a_head 0 (bytes ++ more) over s) (append-nil steps)
    (stands.leads more over [] future (no_more i.stage i.count why (ended_inlet i bytes steps why stands is) (i.buffer ++ more) over))

-- what was served, in the words of the connection's stage
served_at : (s : Stage) (p : Place) (rows : List ServedRow) (parts : List Part) (text other : List ℕ) (end : Option Ended) → Serves s p rows parts text → AreServed p rows parts other
    → ended (map step_of parts) ≡ end → (end ≡ None → s ≡ Reading) → Serves s p rows parts other
served_at Reading p rows parts text other end serves served is reading = (served, serves.1)
served_at (Asking a) p rows parts text other None serves served is reading = absurd (cc (reading refl))
served_at (Asking a) p rows parts text other (Some why) serves served is reading = absurd (cc (sym serves.unended ∙ is))
served_at (Answered a answer) p rows parts text other None serves served is reading = absurd (cc (reading refl))
served_at (Answered a answer) p rows parts text other (Some why) serves served is reading = absurd (cc (sym serves.unended ∙ is))
served_at (IsEnded w) p rows parts text other end serves served is reading = (served, serves.1)

-- a history by its parts
same_history : (h : History) (bytes : List ℕ) (parts : List Part) (met : List Exchange) (text : List ℕ) → h.bytes ≡ bytes → h.over ≡ false → h.parts ≡ parts → h.met ≡ met → h.asked ≡ []
    → h.begun ≡ [] → h.text ≡ text → h ≡ history_of bytes parts met text
same_history h bytes parts met text b o q m a g t =
    ap (λ (x : List ℕ). record h { bytes = x }) b
    ∙ ap (λ (x : Bool). record h { bytes = bytes; over = x }) o
    ∙ ap (λ (x : List Part). record h { bytes = bytes; over = false; parts = x }) q
    ∙ ap (λ (x : List Exchange). record h { bytes = bytes; over = false; parts = parts; met = x }) m
    ∙ ap (λ (x : List Part). record h { bytes = bytes; over = false; parts = parts; met = met; asked = x }) a
    ∙ ap (λ (x : List Exchange). record h { bytes = bytes; over = false; parts = parts; met = met; asked = []; begun = x }) g
    ∙ ap (λ (x : List ℕ). history_of bytes parts met x) t

-- a poll to which a piece was given, of which this is left, and what it came to
pub record IsPolled (refuses : UpstreamCall → Socket → Type 0) (p : Place) (w w' : Worker) (c c' : Course) (bytes : List ℕ) (parts : List Part) (met : List Exchange) (text piece left : List ℕ) (told : List ℕ)
    (x x' : List Exchange) (n n' : ℕ) (end : Option Ended) : Type 0 where
  pub follows : Follows p c (history_of bytes parts met text)
  pub idle : IsIdle c
  pub goes : GoesTo refuses p w w' c' (history_of bytes parts met text) (Some piece) (Some left) (outside (Some []) (Some x) n) (outside (Some told) (Some x') n')
  pub session : IsSession p goes.h' c'.conn.rows end
  -- the end of the bytes is read only where the piece is empty
  pub over : is_over c'.conn.inlet ≡ true → (length piece == 0) ≡ true
  -- where it waits, nothing is left, and it wasn't the end
  pub waits : end ≡ None → IsIdle c' × ((left ≡ []) × ((length piece == 0) ≡ false))

none_behind : (read left : List ℕ) → read ++ left ≡ [] → left ≡ []
none_behind [] left none = none
none_behind (b ∷ read) left none = absurd (cc none)

no_piece : (piece read left : List ℕ) → Some piece ≡ Some (read ++ left) → (length piece == 0) ≡ true → left ≡ []
no_piece piece read left is none =
    let same : piece ≡ read ++ left = cc is in
    none_behind read left (sym same ∙ nil_from_length piece (eqb-true (length piece) 0 none))

module _ {refuses : UpstreamCall → Socket → Type 0} {p : Place} {w w' : Worker} {c c' : Course} {bytes : List ℕ} {parts : List Part} {met : List Exchange} {text piece left : List ℕ} {told : List ℕ}
    {x x' : List Exchange} {n n' : ℕ} {end : Option Ended} (v : IsPolled refuses p w w' c c' bytes parts met text piece left told x x' n n' end) where
  abbrev h' : History
  h' = v.goes.h'

  abbrev t : Went refuses p w w' (history_of bytes parts met text) h' (Some piece) (Some left) (outside (Some []) (Some x) n) (outside (Some told) (Some x') n')
  t = v.goes.went

  abbrev o : Outside
  o = outside (Some []) (Some x) n

  abbrev o' : Outside
  o' = outside (Some told) (Some x') n'

  piece_is : piece ≡ t.read ++ left
  piece_is = cc t.taken

  bytes_are : bytes ++ piece ≡ h'.bytes ++ left
  bytes_are = ap (λ (l : List ℕ). bytes ++ l) piece_is ∙ sym (append_assoc bytes t.read left) ∙ ap (λ (l : List ℕ). l ++ left) (sym t.bytes_are)

  met_is : h'.met ≡ met ++ t.rest
  met_is = sym (append-nil h'.met) ∙ ap (λ (l : List Exchange). h'.met ++ l) (sym v.session.unbegun) ∙ t.rest_is

  over_is : is_over c'.conn.inlet ≡ h'.over
  over_is = v.goes.follows.over

  inlet : InletStandsFor c'.conn.inlet h'.bytes (map step_of h'.parts)
  inlet = subst (λ (l : List Part). InletStandsFor c'.conn.inlet h'.bytes (map step_of l)) (ap (λ (l : List Part). h'.parts ++ l) v.session.unasked ∙ append-nil h'.parts) v.goes.follows.conn.inlet

  none_left : is_over c'.conn.inlet ≡ true → left ≡ []
  none_left is = no_piece piece t.read left t.taken (v.over is)

  decided : Decided p w w' t.came
  decided = same_decided p w w' t.came t.fresh (ap (map bare) (sym (append-nil t.came) ∙ ap (λ (l : List Part). t.came ++ l) (sym v.session.unasked)) ∙ t.fresh_are) t.decided

  exchanged : Exchanged p t.came t.rest
  exchanged = exchanged_behind p parts t.came met t.rest v.follows.exchanged (subst (λ (l : List Part). Exchanged p l (met ++ t.rest)) t.parts_are (subst (Exchanged p h'.parts) met_is v.session.exchanged))

  told_so : ◌≡◌ {A = Option (List Exchange)} (Some x') (Some (x ++ t.rest))
  told_so = t.told x (ap Some (sym (append-nil x)))

  -- the connection stands for all of the piece
  module _ (inlet_so : InletStandsFor c'.conn.inlet (bytes ++ piece) (map step_of h'.parts)) (reading : end ≡ None → c'.conn.stage ≡ Reading) where
    are_served : AreServed p c'.conn.rows h'.parts h'.text
    are_served = record { rows_are = v.session.rows_are; text_is = v.session.text_is; whole = v.session.whole }

    old_serves : Serves c'.conn.stage p c'.conn.rows h'.parts (h'.text ++ unwritten c'.stage)
    old_serves = subst (λ (l : List Part). Serves c'.conn.stage p c'.conn.rows l (h'.text ++ unwritten c'.stage)) (ap (λ (l : List Part). h'.parts ++ l) v.session.unasked ∙ append-nil h'.parts)
        v.goes.follows.conn.serves

    stands_at : StandsFor c'.conn p (bytes ++ piece) h'.parts h'.text
    stands_at = record {
      door = v.goes.follows.conn.door;
      inlet = inlet_so;
      serves = served_at c'.conn.stage p c'.conn.rows h'.parts (h'.text ++ unwritten c'.stage) h'.text end old_serves are_served v.session.ends reading;
    }

    took : Took refuses p w w' c'.conn (bytes ++ piece) parts text o o'
    took = record {
      more = t.came;
      wrote = t.wrote;
      met = t.rest;
      stands = subst (λ (l : List Part). StandsFor c'.conn p (bytes ++ piece) l (text ++ t.wrote)) t.parts_are
          (subst (λ (l : List ℕ). StandsFor c'.conn p (bytes ++ piece) h'.parts l) t.text_is stands_at);
      decided = decided;
      exchanged = exchanged;
      refused = t.refused;
      written = t.written;
      told = told_so;
      failed = t.failed;
    }

-- a poll that waits
pub record WaitsSo (refuses : UpstreamCall → Socket → Type 0) (p : Place) (w w' : Worker) (c' : Course) (bytes : List ℕ) (parts : List Part) (text piece : List ℕ) (o o' : Outside) : Type 0 where
  pub served : Served refuses p w w' c'.conn (bytes ++ piece) (length piece == 0) parts text o o' flows.More
  pub met : List Exchange
  pub follows : Follows p c' (history_of (bytes ++ piece) (parts ++ served.took.more) met (text ++ served.took.wrote))

pub waits_so : {refuses : UpstreamCall → Socket → Type 0} {p : Place} {w w' : Worker} {c c' : Course} {bytes : List ℕ} {parts : List Part} {met : List Exchange} {text piece left : List ℕ} {told : List ℕ}
    {x x' : List Exchange} {n n' : ℕ} → IsPolled refuses p w w' c c' bytes parts met text piece left told x x' n n' None
    → WaitsSo refuses p w w' c' bytes parts text piece (outside (Some []) (Some x) n) (outside (Some told) (Some x') n')
unfolding took
waits_so {refuses} {p} {w} {w'} {c} {c'} {bytes} {parts} {met} {text} {piece} {left} {told} {x} {x'} {n} {n'} v =
    let h = v.goes.h' in
    let went = v.goes.went in
    let waits = v.waits refl in
    let all_read : h.bytes ≡ bytes ++ piece = sym (append-nil h.bytes) ∙ ap (λ (l : List ℕ). h.bytes ++ l) (sym waits.1.0) ∙ sym (bytes_are v) in
    let not_over : h.over ≡ false = sym (over_is v) ∙ waits.0.serving.unfinished in
    let inlet_so : InletStandsFor c'.conn.inlet (bytes ++ piece) (map step_of h.parts) = subst (λ (l : List ℕ). InletStandsFor c'.conn.inlet l (map step_of h.parts)) all_read (inlet v) in
    let all : IsAllOf (bytes ++ piece) (length piece == 0) h.parts
    = subst (λ (b : Bool). IsAllOf (bytes ++ piece) b h.parts) (sym waits.1.1) (subst (λ (b : Bool). IsAllOf (bytes ++ piece) b h.parts) not_over
    (subst (λ (l : List ℕ). IsAllOf l h.over h.parts) all_read v.session.is_all)) in
    let k = took v inlet_so (λ none. waits.0.serving.reading) in
    record {
      served = record {
        took = k;
        flows = (subst (IsAllOf (bytes ++ piece) (length piece == 0)) went.parts_are all, ap (λ (l : List Part). ended (map step_of l)) (sym went.parts_are) ∙ v.session.ends);
      };
      met = met ++ went.rest;
      follows = subst (Follows p c')
          (same_history h (bytes ++ piece) (parts ++ went.came) (met ++ went.rest) (text ++ went.wrote) all_read not_over went.parts_are (met_is v) v.session.unasked v.session.unbegun went.text_is) v.goes.follows;
    }

-- the future in which a piece is whole
whole_future : (a over : Bool) (left : List ℕ) → (a ≡ true → left ≡ []) → (a ≡ true → over ≡ true) → IsFuture a left over
whole_future false over left none so = tt
whole_future true over left none so = (none refl, so refl)

-- a poll at which the connection ended
pub ends_so : {refuses : UpstreamCall → Socket → Type 0} {p : Place} {w w' : Worker} {c c' : Course} {bytes : List ℕ} {parts : List Part} {met : List Exchange} {text piece left : List ℕ} {told : List ℕ}
    {x x' : List Exchange} {n n' : ℕ} {why : Ended} → IsPolled refuses p w w' c c' bytes parts met text piece left told x x' n n' (Some why)
    → Served refuses p w w' c'.conn (bytes ++ piece) (length piece == 0) parts text (outside (Some []) (Some x) n) (outside (Some told) (Some x') n') (flows.Ended why)
unfolding took
ends_so {refuses} {p} {w} {w'} {c} {c'} {bytes} {parts} {met} {text} {piece} {left} {told} {x} {x'} {n} {n'} {why} v =
    let h = v.goes.h' in
    let i = c'.conn.inlet in
    let steps = map step_of h.parts in
    let inlet_so : InletStandsFor i (bytes ++ piece) steps
    = subst (λ (l : List ℕ). InletStandsFor i l steps) (sym (bytes_are v)) (stands_behind i h.bytes left steps why (inlet v) v.session.ends (none_left v)) in
    let all : IsAllOf (bytes ++ piece) (length piece == 0) h.parts
    = subst (λ (l : List ℕ). IsAllOf l (length piece == 0) h.parts) (sym (bytes_are v))
    (all_behind i h.bytes left (length piece == 0) steps why (inlet v) v.session.ends (whole_future i.over (length piece == 0) left (none_left v) v.over)) in
    record {
      took = took v inlet_so (λ none. absurd (cc none));
      flows = (subst (IsAllOf (bytes ++ piece) (length piece == 0)) v.goes.went.parts_are all, ap (λ (l : List Part). ended (map step_of l)) (sym v.goes.went.parts_are) ∙ v.session.ends);
    }
