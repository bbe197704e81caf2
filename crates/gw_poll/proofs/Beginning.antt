-- What a turn asks for, once it is begun.
use Rattle.std.proofs.Common.{◌≡◌, ◌∙◌, ◌<◌, ◌+◌, ◌*◌, ℕ, Bool, List, [], ◌++◌, Option, Some, None, ap, refl, sym, subst, arith}
use Rattle.gw_frames.specs.Inlets.{is_over}
use Rattle.gw_frames.specs.declared.ended.Ended.{Ended}
use Rattle.gw_link.specs.declared.order.UpstreamCall.{UpstreamCall}
use Rattle.gw_text.specs.model.Addresses.{Socket}
use Rattle.gw_worker.specs.Conns.{IsAllOf, IsFed, IsSettled, IsUnfinished, turns_left}
use Rattle.gw_worker.specs.Flows.{Outside}
use Rattle.gw_worker.specs.Turns.{Continues, IsBehind, IsReply, IsWrite, LeavesFewer}
use Rattle.gw_worker.specs.declared.conn.Stage.{Stage as ConnStage}
use Rattle.gw_worker.specs.declared.conn.Stage.TheVariants.{Ended as HasEnded}
use Rattle.gw_worker.specs.declared.conn.Turn.{Turn}
use Rattle.gw_worker.specs.declared.conn.Turn.TheVariants as turns
use Rattle.gw_worker.specs.declared.serve.Flow.{Flow}
use Rattle.gw_worker.specs.declared.serve.Flow.TheVariants as flows
use Rattle.gw_worker.specs.model.Sessions.{Part, Place}
use Rattle.gw_worker.specs.model.Workers.{Worker}
use Rattle.gw_poll.proofs.Stepping.{goes_asked, goes_turn, turned}
use Rattle.gw_poll.specs.Courses.{Follows, GoesTo, HasBegun, IsAtStage, IsGoing, IsHeld, IsReplied, StageStands, stage_steps, steps_left, unwritten}
use Rattle.gw_poll.specs.Histories.{History}
use Rattle.gw_poll.specs.declared.course.Course.{Course}
use Rattle.gw_poll.specs.declared.course.Stage.{Stage}
use Rattle.gw_poll.specs.declared.course.Stage.TheVariants.{Turning, Reading, Writing, Exchanging}

-- The history goes on by the turn.
pub begun_goes : (p : Place) (a b : Worker) (s c s' : Course) (h : History) (turn : Turn) (flow : Option Flow) → HasBegun turn c s' flow → c.stage ≡ Turning → Follows p s h → s.stage ≡ Turning
    → Continues p a b c.conn h.bytes h.parts h.text turn → is_over c.conn.inlet ≡ is_over s.conn.inlet → (refuses : UpstreamCall → Socket → Type 0) (left : Option (List ℕ)) (o : Outside)
    → GoesTo refuses p a b s' h left left o o
begun_goes p a b s c s' h turns.Need flow begun at f is k over refuses left o =
    let all = subst (λ (over : Bool). IsAllOf h.bytes over (h.parts ++ k.more)) (over ∙ f.over) k.says.0 in
    subst (λ (x : Course). GoesTo refuses p a b x h left left o o) (sym begun.0)
    (goes_turn p a b s (record c { stage = Reading }) h turns.Need f is k refl over ((refl, refl), all, k.says.1) refuses left o)
begun_goes p a b s c s' h (turns.Ended why) flow begun at f is k over refuses left o =
    subst (λ (x : Course). GoesTo refuses p a b x h left left o o) (sym begun.0)
    (goes_turn p a b s c h (turns.Ended why) f is k (ap unwritten at) over (subst (λ (st : Stage). StageStands st p (turned h k.more)) (sym at) (refl, refl)) refuses left o)
begun_goes p a b s c s' h (turns.Write text) flow begun at f is k over refuses left o =
    subst (λ (x : Course). GoesTo refuses p a b x h left left o o) (sym begun.0)
    (goes_turn p a b s (record c { stage = Writing text 0 }) h (turns.Write text) f is k refl over (refl, refl) refuses left o)
begun_goes p a b s c s' h (turns.Exchange to bytes head) flow begun at f is k over refuses left o =
    let x = begun.0.0 in
    let new = begun.0.1 in
    subst (λ (x : Course). GoesTo refuses p a b x h left left o o) (sym begun.0.2)
    (goes_asked p a b s (record c { stage = Exchanging x }) h to bytes head x f is k refl over new.to_is new.bytes_are new.head_is new.stands refuses left o)

-- The connection is where its next step expects it.
pub begun_going : (c s' : Course) (turn : Turn) (flow : Option Flow) (bytes : List ℕ) → HasBegun turn c s' flow → c.stage ≡ Turning → IsBehind turn c.conn.stage → IsFed c.conn bytes
    → (turn ≡ turns.Need → IsUnfinished c.conn bytes) → IsGoing s' bytes
begun_going c s' turns.Need flow bytes begun at behind fed unfinished =
    subst (λ (x : Course). IsGoing x bytes) (sym begun.0) (record { fed = fed; at = (behind, unfinished refl) })
begun_going c s' (turns.Ended why) flow bytes begun at behind fed unfinished =
    subst (λ (x : Course). IsGoing x bytes) (sym begun.0)
    (record { fed = fed; at = subst (λ (st : Stage). IsAtStage st c.conn bytes) (sym at) (subst IsSettled (sym behind) tt) })
begun_going c s' (turns.Write text) flow bytes begun at behind fed unfinished =
    subst (λ (x : Course). IsGoing x bytes) (sym begun.0) (record { fed = fed; at = (behind, omega arith) })
begun_going c s' (turns.Exchange to sent head) flow bytes begun at behind fed unfinished =
    subst (λ (x : Course). IsGoing x bytes) (sym begun.0.2) (record { fed = fed; at = (behind, ([], begun.0.1.stands)) })

-- No exchange has a connection yet.
pub begun_held : (c s' : Course) (turn : Turn) (flow : Option Flow) (at : Option Socket) → HasBegun turn c s' flow → c.stage ≡ Turning → IsHeld s'.stage at
begun_held c s' turns.Need flow at begun is = subst (λ (x : Course). IsHeld x.stage at) (sym begun.0) tt
begun_held c s' (turns.Ended why) flow at begun is = subst (λ (x : Course). IsHeld x.stage at) (sym begun.0) (subst (λ (st : Stage). IsHeld st at) (sym is) tt)
begun_held c s' (turns.Write text) flow at begun is = subst (λ (x : Course). IsHeld x.stage at) (sym begun.0) tt
begun_held c s' (turns.Exchange to sent head) flow at begun is = subst (λ (x : Course). IsHeld x.stage at) (sym begun.0.2) (begun.0.1.joined at)

-- Where more bytes are needed they are read.
pub begun_more : (c s' : Course) (turn : Turn) (flow : Option Flow) → HasBegun turn c s' flow → flow ≡ Some flows.More → s'.stage ≡ Reading
begun_more c s' turns.Need flow begun is = ap (λ (x : Course). x.stage) begun.0
begun_more c s' (turns.Ended why) flow begun is = absurd (cc (begun.1, is))
begun_more c s' (turns.Write text) flow begun is = absurd (cc (begun.1, is))
begun_more c s' (turns.Exchange to sent head) flow begun is = absurd (cc (begun.1, is))

-- Where it has ended, so has the connection.
pub begun_ended : (c s' : Course) (turn : Turn) (flow : Option Flow) (why : Ended) → HasBegun turn c s' flow → c.stage ≡ Turning → IsBehind turn c.conn.stage → flow ≡ Some (flows.Ended why)
    → (s'.stage ≡ Turning) × (s'.conn.stage ≡ HasEnded why)
begun_ended c s' turns.Need flow why begun is behind ended = absurd (cc (begun.1, ended))
begun_ended c s' (turns.Ended other) flow why begun is behind ended =
    let same : other ≡ why = cc (begun.1, ended) in
    (ap (λ (x : Course). x.stage) begun.0 ∙ is, ap (λ (x : Course). x.conn.stage) begun.0 ∙ behind ∙ ap HasEnded same)
begun_ended c s' (turns.Write text) flow why begun is behind ended = absurd (cc (begun.1, ended))
begun_ended c s' (turns.Exchange to sent head) flow why begun is behind ended = absurd (cc (begun.1, ended))

-- A text to be written or a backend to be asked is a step less.
pub begun_fewer : (s c s' : Course) (turn : Turn) (flow : Option Flow) → HasBegun turn c s' flow → s.stage ≡ Turning → LeavesFewer turn (turns_left c.conn) (turns_left s.conn) → flow ≡ None
    → steps_left s' < steps_left s
begun_fewer s c s' turns.Need flow begun is few none = absurd (cc (begun.1, none))
begun_fewer s c s' (turns.Ended why) flow begun is few none = absurd (cc (begun.1, none))
begun_fewer s c s' (turns.Write text) flow begun is few none =
    let after : steps_left s' ≡ 2 * turns_left c.conn + 1 = ap steps_left begun.0 in
    let before : stage_steps s.stage ≡ 0 = ap stage_steps is in
    omega (arith, few, after, before)
begun_fewer s c s' (turns.Exchange to sent head) flow begun is few none =
    let after : steps_left s' ≡ 2 * turns_left c.conn + 1 = ap steps_left begun.0.2 in
    let before : stage_steps s.stage ≡ 0 = ap stage_steps is in
    omega (arith, few, after, before)

-- Where the turn writes, a text is written next.
pub begun_writing : (c s' : Course) (turn : Turn) (flow : Option Flow) → HasBegun turn c s' flow → IsWrite turn → ((text : List ℕ) × (s' ≡ record c { stage = Writing text 0 })) × (flow ≡ None)
begun_writing c s' turns.Need flow begun is = absurd is
begun_writing c s' (turns.Ended why) flow begun is = absurd is
begun_writing c s' (turns.Write text) flow begun is = ((text, begun.0), begun.1)
begun_writing c s' (turns.Exchange to sent head) flow begun is = absurd is

-- The reply for what a backend answered is that text.
pub begun_reply : (p : Place) (c s' : Course) (turn : Turn) (flow : Option Flow) (bytes : List ℕ) (parts : List Part) (text : List ℕ) → HasBegun turn c s' flow → IsReply p c.conn bytes parts text turn
    → IsReplied p s'.conn s'.stage bytes parts text
begun_reply p c s' turns.Need flow bytes parts text begun is = absurd is
begun_reply p c s' (turns.Ended why) flow bytes parts text begun is = absurd is
begun_reply p c s' (turns.Write reply) flow bytes parts text begun is =
    subst (λ (x : Course). IsReplied p x.conn x.stage bytes parts text) (sym begun.0) (record { reply = reply; stands = is; next = refl })
begun_reply p c s' (turns.Exchange to sent head) flow bytes parts text begun is = absurd is

pub written_settled : (turn : Turn) (stage : ConnStage) → IsWrite turn → IsBehind turn stage → IsSettled stage
written_settled turns.Need stage is behind = absurd is
written_settled (turns.Ended why) stage is behind = absurd is
written_settled (turns.Write text) stage is behind = behind
written_settled (turns.Exchange to sent head) stage is behind = absurd is

pub written_fewer : (turn : Turn) (after before : ℕ) → IsWrite turn → LeavesFewer turn after before → after < before
written_fewer turns.Need after before is few = absurd is
written_fewer (turns.Ended why) after before is few = absurd is
written_fewer (turns.Write text) after before is few = few
written_fewer (turns.Exchange to sent head) after before is few = absurd is
