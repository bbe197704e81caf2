-- What a step of the inlet makes of the connection.
use Rattle.std.proofs.Common.{◌≡◌, ℕ, ◌<◌, ◌≤◌, Bool, true, false, List, [], ◌∷◌, ◌++◌, length, map, Option, Some, None, Result, Ok, ap, refl, sym, subst, ◌∙◌, arith, append-nil, append_assoc}
use Rattle.gw_frames.specs.Inlets.{IsAll, IsLast, StandsFor as InletStandsFor, given, is_over, steps_left, unless_ended, with_step}
use Rattle.gw_frames.specs.declared.ended.Ended.{Ended}
use Rattle.gw_frames.specs.declared.ended.Ended.TheVariants as ends
use Rattle.gw_frames.specs.declared.inlet.Inlet.{Inlet}
use Rattle.gw_frames.specs.declared.step.Step.{Step as Given}
use Rattle.gw_frames.specs.declared.step.Step.TheVariants as steps
use Rattle.gw_frames.specs.model.Requests.{Asks, Step, a_head, ended}
use Rattle.gw_message_laws.proofs.Limits.{open_limit}
use Rattle.gw_message_laws.specs.declared.requests.TheConstants.{MOST_OPEN_BYTES}
use Rattle.gw_message_laws.proofs.Ends.{over_ends}
use Rattle.gw_worker.specs.Conns.{AreServed, GoesOn, IsFed, Serves, StandsBehind, StandsFor, turns_left, turns_of}
use Rattle.gw_worker.specs.Turns.{IsActive, IsWrite, LeavesFewer, Says}
use Rattle.gw_worker.specs.declared.conn.Conn.{Conn}
use Rattle.gw_worker.specs.declared.conn.Stage.{Stage}
use Rattle.gw_worker.specs.declared.conn.Stage.TheVariants.{Reading, Asking, Answered, Ended as IsEnded}
use Rattle.gw_worker.specs.declared.conn.Turn.{Turn}
use Rattle.gw_worker.specs.declared.conn.Turn.TheVariants as turns
use Rattle.gw_worker.specs.model.Sessions.{Part, Place, step_of}

-- What an inlet's step says of what it stands for.
abbrev pub Steps : Inlet → Inlet → Given → Type 0
Steps i j step = (bytes : List ℕ) (before : List Step) → InletStandsFor i bytes before → InletStandsFor j bytes (with_step before step)

-- a step, and an inlet that goes on
pub goes_by_step : (i j k : Inlet) (step : Given) → Steps i j step → k ≡ j → GoesOn i k
goes_by_step i j k step stands same bytes before s =
    by_end (ended before) (subst (λ (l : Inlet). InletStandsFor l bytes (with_step before step)) (sym same) (stands bytes before s))
  where
    by_end : (e : Option Ended) → InletStandsFor k bytes (unless_ended e before (given step)) → (rest : List Step) × InletStandsFor k bytes (before ++ rest)
    by_end None h = (given step, h)
    by_end (Some why) h = ([], subst (λ (l : List Step). InletStandsFor k bytes l) (sym (append-nil before)) h)

-- an inlet that stands for the same goes on
pub goes_by_same : (i j : Inlet) → ((bytes : List ℕ) (before : List Step) → InletStandsFor i bytes before → InletStandsFor j bytes before) → GoesOn i j
goes_by_same i j stands bytes before s = ([], subst (λ (l : List Step). InletStandsFor j bytes l) (sym (append-nil before)) (stands bytes before s))

pub goes_itself : (i j : Inlet) → j ≡ i → GoesOn i j
goes_itself i j same = goes_by_same i j (λ bytes before s. subst (λ (k : Inlet). InletStandsFor k bytes before) (sym same) s)

pub goes_then : (i j k : Inlet) → GoesOn i j → GoesOn j k → GoesOn i k
goes_then i j k first second bytes before s =
    let one = first bytes before s in
    let two = second bytes (before ++ one.0) one.1 in
    (one.0 ++ two.0, subst (λ (l : List Step). InletStandsFor k bytes l) (append_assoc before one.0 two.0) two.1)

-- where the connection reads
pub reading : (c : Conn) (p : Place) (bytes : List ℕ) (parts : List Part) (text : List ℕ) → StandsFor c p bytes parts text → c.stage ≡ Reading
    → AreServed p c.rows parts text × (ended (map step_of parts) ≡ None)
reading c p bytes parts text s stage = subst (λ (st : Stage). Serves st p c.rows parts text) stage s.serves

-- a step that is given, of which nothing came yet
pub behind_step : (c : Conn) (j : Inlet) (step : Given) (plain : Step) (p : Place) (bytes : List ℕ) (parts : List Part) (text : List ℕ)
    → Steps c.inlet j step → given step ≡ plain ∷ [] → c.stage ≡ Reading → StandsFor c p bytes parts text
    → StandsBehind (record c { inlet = j }) p bytes parts plain text
behind_step c j step plain p bytes parts text stands is stage s =
    let r = reading c p bytes parts text s stage in
    record {
      door = s.door;
      inlet = subst (λ (l : List Step). InletStandsFor j bytes (map step_of parts ++ l)) is
          (subst (λ (e : Option Ended). InletStandsFor j bytes (unless_ended e (map step_of parts) (given step))) r.1 (stands bytes (map step_of parts) s.inlet));
      served = r.0;
      unended = r.1;
    }

-- nothing more is there
pub stands_still : (c : Conn) (j : Inlet) (p : Place) (bytes : List ℕ) (parts : List Part) (text : List ℕ)
    → Steps c.inlet j steps.Need → c.stage ≡ Reading → StandsFor c p bytes parts text → StandsFor (record c { inlet = j }) p bytes parts (text ++ [])
stands_still c j p bytes parts text stands stage s =
    let r = reading c p bytes parts text s stage in
    subst (λ (t : List ℕ). StandsFor (record c { inlet = j }) p bytes parts t) (sym (append-nil text)) (record {
      door = s.door;
      inlet = subst (λ (l : List Step). InletStandsFor j bytes l) (append-nil (map step_of parts))
          (subst (λ (e : Option Ended). InletStandsFor j bytes (unless_ended e (map step_of parts) [])) r.1 (stands bytes (map step_of parts) s.inlet));
      serves = s.serves;
    })

pub says_need : (c : Conn) (over : Bool) (p : Place) (bytes : List ℕ) (parts : List Part) (text : List ℕ)
    → ((b : List ℕ) (before : List Step) → InletStandsFor c.inlet b before → IsAll steps.Need → Asks a_head 0 b over (with_step before steps.Need))
    → c.stage ≡ Reading → StandsFor c p bytes parts text → Says p bytes over parts [] turns.Need
says_need c over p bytes parts text all stage s =
    let r = reading c p bytes parts text s stage in
    let steps_are : Asks a_head 0 bytes over (map step_of parts ++ []) =
    subst (λ (e : Option Ended). Asks a_head 0 bytes over (unless_ended e (map step_of parts) [])) r.1 (all bytes (map step_of parts) s.inlet tt) in
    let same : map step_of parts ++ [] ≡ map step_of (parts ++ []) = append-nil (map step_of parts) ∙ ap (map step_of) (sym (append-nil parts)) in
    (subst (Asks a_head 0 bytes over) same steps_are, ap (λ (l : List Part). ended (map step_of l)) (append-nil parts) ∙ r.1)

-- where more bytes are needed, not all have come, and there are few
pub still_open : (i j : Inlet) (bytes : List ℕ) (before : List Step) → InletStandsFor i bytes before
    → ((b : List ℕ) (l : List Step) → InletStandsFor i b l → IsAll steps.Need → Asks a_head 0 b (is_over j) (with_step l steps.Need))
    → ((b : List ℕ) (l : List Step) → InletStandsFor i b l → IsLast (ended l) steps.Need) → (is_over j ≡ false) × (length bytes ≤ MOST_OPEN_BYTES)
still_open i j bytes before s all last =
    let none : ended before ≡ None = unended (ended before) (last bytes before s) in
    let asks : Asks a_head 0 bytes (is_over j) before =
    subst (λ (l : List Step). Asks a_head 0 bytes (is_over j) l) (append-nil before)
    (subst (λ (e : Option Ended). Asks a_head 0 bytes (is_over j) (unless_ended e before [])) none (all bytes before s tt)) in
    let not_over : is_over j ≡ false = by_over (is_over j) asks none refl in
    (not_over, open_limit bytes before (subst (λ (o : Bool). Asks a_head 0 bytes o before) not_over asks) none)
  where
    unended : (e : Option Ended) → IsLast e steps.Need → e ≡ None
    unended None h = refl
    unended (Some why) h = absurd (cc h)

    by_over : (o : Bool) → Asks a_head 0 bytes o before → ended before ≡ None → is_over j ≡ o → is_over j ≡ false
    by_over false asks none is = is
    by_over true asks none is = absurd (over_ends asks refl ends.Closed none)

turns_small : (s : Stage) → turns_of s ≤ 2
turns_small Reading = omega arith
turns_small (Asking a) = omega arith
turns_small (Answered a answer) = omega arith
turns_small (IsEnded why) = omega arith

leaves : (turn : Turn) (after before : ℕ) → after < before → LeavesFewer turn after before
leaves turns.Need after before less = tt
leaves (turns.Write text) after before less = less
leaves (turns.Exchange to bytes head) after before less = less
leaves (turns.Ended why) after before less = tt

pub leaves_fewer : (c d : Conn) (turn : Turn) → c.stage ≡ Reading → steps_left d.inlet < steps_left c.inlet → LeavesFewer turn (turns_left d) (turns_left c)
leaves_fewer c d turn stage less = leaves turn (turns_left d) (turns_left c)
    (omega (arith, less, turns_small d.stage, ap turns_of stage))

pub leaves_none : (c d : Conn) (turn : Turn) (why : Ended) → c.stage ≡ Reading → d.stage ≡ IsEnded why → steps_left d.inlet ≤ steps_left c.inlet
    → LeavesFewer turn (turns_left d) (turns_left c)
leaves_none c d turn why stage ended less = leaves turn (turns_left d) (turns_left c) (omega (arith, less, ap turns_of ended, ap turns_of stage))

pub active_no_need : {E : Type 0} (turn : Turn) → IsActive turn → ◌≡◌ {A = Result Turn E} (Ok turn) (Ok turns.Need) → ⊥
active_no_need turns.Need is same = is
active_no_need (turns.Write text) is same = absurd (cc same)
active_no_need (turns.Exchange to bytes head) is same = absurd (cc same)
active_no_need (turns.Ended why) is same = is

needed : {E : Type 0} (turn : Turn) → ◌≡◌ {A = Result Turn E} (Ok turn) (Ok turns.Need) → turn ≡ turns.Need
needed turn is = cc is

pub end_no_need : {E : Type 0} (turn : Turn) (why : Ended) → turn ≡ turns.Ended why → ◌≡◌ {A = Result Turn E} (Ok turn) (Ok turns.Need) → ⊥
end_no_need turn why is same =
    let both : turns.Ended why ≡ turns.Need = sym is ∙ needed turn same in
    absurd (cc both)

pub end_leaves : (turn : Turn) (why : Ended) (after before : ℕ) → turn ≡ turns.Ended why → LeavesFewer turn after before
end_leaves turn why after before is = subst (λ (t : Turn). LeavesFewer t after before) (sym is) tt

-- it writes
pub write_of : (turn : Turn) → IsWrite turn → (text : List ℕ) × (turn ≡ turns.Write text)
write_of turns.Need is = absurd is
write_of (turns.Write text) is = (text, refl)
write_of (turns.Exchange to bytes head) is = absurd is
write_of (turns.Ended why) is = absurd is

-- bytes stay
pub fed_on : (c d : Conn) (bytes : List ℕ) → GoesOn c.inlet d.inlet → IsFed c bytes → IsFed d bytes
fed_on c d bytes goes fed =
    let on = goes bytes fed.0 fed.1 in
    (fed.0 ++ on.0, on.1)
