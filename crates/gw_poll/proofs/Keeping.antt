-- What a connection keeps from step to step.
use Rattle.std.proofs.Common.{◌≡◌, ℕ, ◌<◌, ◌+◌, List, ◌++◌, refl, ap, sym, subst, arith, Result, Ok, Err}
use Rattle.futures.specs.Poll.{OnPending}
use Rattle.futures.specs.declared.task.Poll.{Poll}
use Rattle.futures.specs.declared.task.Poll.TheVariants.{Ready, Pending}
use Rattle.gw_frames.specs.Inlets.{StandsFor as InletStandsFor}
use Rattle.gw_frames.specs.declared.inlet.Inlet.{Inlet}
use Rattle.gw_polling.specs.Polls.{IfDone, OnDone, OnFailed}
use Rattle.gw_snap.specs.Counts.{CountsPlace}
use Rattle.gw_snap.specs.declared.fault.OpenFault.{OpenFault}
use Rattle.gw_snap.specs.declared.fault.OpenFault.TheVariants as refused
use Rattle.gw_worker.specs.Conns.{GoesOn, IsAnswered, IsFed, IsSettled, IsUnfinished, turns_left}
use Rattle.gw_worker.specs.Faults.{CountsRefused, of_open}
use Rattle.gw_worker.specs.Turns.{IsReplying}
use Rattle.gw_worker.specs.declared.conn.Conn.{Conn}
use Rattle.gw_worker.specs.declared.conn.Stage.{Stage as ConnStage}
use Rattle.gw_worker.specs.declared.conn.Stage.TheVariants.{Reading as IsReading, Asking, Answered, Ended as IsEnded}
use Rattle.gw_worker.specs.declared.serve.ConnFault.{ConnFault}
use Rattle.gw_worker.specs.declared.serve.ConnFault.TheVariants as of
use Rattle.gw_poll.specs.Causes.{CountsRefusedIn, HasCause, IfFailed, OnGoing}
use Rattle.gw_poll.specs.Courses.{IsAtStage, IsGoing, stage_steps, steps_left}
use Rattle.gw_poll.specs.declared.course.Course.{Course}
use Rattle.gw_poll.specs.declared.course.Stage.{Stage}
use Rattle.gw_poll.specs.declared.course.Stage.TheVariants.{Turning, Reading, Writing}

-- The bytes that came stay.
pub fed_on : (c d : Conn) (bytes : List ℕ) → GoesOn c.inlet d.inlet → IsFed c bytes → IsFed d bytes
fed_on c d bytes goes fed =
    let on = goes bytes fed.0 fed.1 in
    (fed.0 ++ on.0, on.1)

pub answered_of : (s : ConnStage) → IsSettled s → IsAnswered s
answered_of IsReading is = tt
answered_of (Asking a) is = absurd is
answered_of (Answered a answer) is = absurd is
answered_of (IsEnded why) is = tt

pub answered_next : (s : ConnStage) → IsReplying s → IsAnswered s
answered_next IsReading is = absurd is
answered_next (Asking a) is = absurd is
answered_next (Answered a answer) is = tt
answered_next (IsEnded why) is = absurd is

-- Where the connection's next turn is to be asked, nothing is open.
pub settled_at : (s : Course) (bytes : List ℕ) → IsGoing s bytes → s.stage ≡ Turning → IsSettled s.conn.stage
settled_at s bytes going is = subst (λ (st : Stage). IsAtStage st s.conn bytes) is going.at

-- A reading that was refused is counted.
pub counts_of : (e : OpenFault) (fault : ConnFault) (before now : ℕ) → fault ≡ of_open e → CountsPlace e before now → CountsRefused fault before now
counts_of refused.Place fault before now is counts = subst (λ (f : ConnFault). CountsRefused f before now) (sym is) counts
counts_of refused.NoMemory fault before now is counts = subst (λ (f : ConnFault). CountsRefused f before now) (sym is) counts

-- What holds of an answer that was handed on.
pub going_map : {T E : Type 0} {P Q : Type 0} (polled : Poll (Result T E)) → (P → Q) → OnGoing polled P → OnGoing polled Q
going_map (Ready (Ok x)) f is = f is
going_map (Ready (Err e)) f is = tt
going_map Pending f is = f is

pub failed_map : {T E : Type 0} {P Q : Type 0} (polled : Poll (Result T E)) → (P → Q) → OnFailed polled P → OnFailed polled Q
failed_map (Ready (Ok x)) f is = tt
failed_map (Ready (Err e)) f is = f is
failed_map Pending f is = tt

pub done_map : {T E : Type 0} {P Q : Type 0} (polled : Poll (Result T E)) → (P → Q) → OnDone polled P → OnDone polled Q
done_map (Ready (Ok x)) f is = f is
done_map (Ready (Err e)) f is = tt
done_map Pending f is = tt

-- An answer that doesn't wait.
pub going_done : {T E : Type 0} {P Q : Type 0} (polled : Poll (Result T E)) → (polled ≡ Pending → ⊥) → (P → Q) → OnDone polled P → OnGoing polled Q
going_done (Ready (Ok x)) ready f is = f is
going_done (Ready (Err e)) ready f is = tt
going_done Pending ready f is = absurd (ready refl)

pub if_failed_map : {T E : Type 0} {P Q : E → Type 0} (polled : Poll (Result T E)) → ((e : E) → P e → Q e) → IfFailed polled P → IfFailed polled Q
if_failed_map (Ready (Ok x)) f is = tt
if_failed_map (Ready (Err e)) f is = f e is
if_failed_map Pending f is = tt

pub settled_of : (s : ConnStage) → s ≡ IsReading → IsSettled s
settled_of s is = subst IsSettled (sym is) tt

-- Where bytes are read, the connection reads, and further bytes may come.
pub hungry_at : (s : Course) (bytes : List ℕ) → IsGoing s bytes → s.stage ≡ Reading → (s.conn.stage ≡ IsReading) × IsUnfinished s.conn bytes
hungry_at s bytes going is = subst (λ (st : Stage). IsAtStage st s.conn bytes) is going.at

pub fed_kept : (c d : Conn) (bytes : List ℕ) → d.inlet ≡ c.inlet → IsFed c bytes → IsFed d bytes
fed_kept c d bytes same fed = (fed.0, subst (λ (i : Inlet). InletStandsFor i bytes fed.0) (sym same) fed.1)

pub done_both : {T E : Type 0} (P Q : Type 0) (polled : Poll (Result T E)) → OnDone polled P → OnDone polled Q → OnDone polled (P × Q)
done_both P Q (Ready (Ok x)) p q = (p, q)
done_both P Q (Ready (Err e)) p q = tt
done_both P Q Pending p q = tt

pub if_done_both : {T E : Type 0} {P R : T → Type 0} {Q : Type 0} (polled : Poll (Result T E)) → ((x : T) → P x → Q → R x) → IfDone polled P → OnDone polled Q → IfDone polled R
if_done_both (Ready (Ok x)) f p q = f x p q
if_done_both (Ready (Err e)) f p q = tt
if_done_both Pending f p q = tt

pub if_done_map : {T E : Type 0} {P Q : T → Type 0} (polled : Poll (Result T E)) → ((x : T) → P x → Q x) → IfDone polled P → IfDone polled Q
if_done_map (Ready (Ok x)) f is = f x is
if_done_map (Ready (Err e)) f is = tt
if_done_map Pending f is = tt

-- What holds of what was done.
pub done_at : {T E : Type 0} (P : T → Type 0) (polled : Poll (Result T E)) (x : T) → polled ≡ Ready (Ok x) → IfDone polled P → P x
done_at {T} {E} P polled x is done = subst (λ (q : Poll (Result T E)). IfDone q P) is done

-- An answer that doesn't wait.
pub never : {A : Type 0} (P : Type 0) (polled : Poll A) → (polled ≡ Pending → ⊥) → OnPending polled P
never P (Ready x) ready = tt
never P Pending ready = absurd (ready refl)

-- Neither a read nor a write is the cause.
pub cause_apart : (before now : ℕ) (fault : ConnFault) → (fault ≡ of.Read → ⊥) × (fault ≡ of.Write → ⊥) → HasCause before now fault
cause_apart before now of.Read apart = absurd (apart.0 refl)
cause_apart before now of.Write apart = absurd (apart.1 refl)
cause_apart before now of.Place apart = tt
cause_apart before now of.NoMemory apart = tt

-- Where no place was refused, none is counted.
pub none_refused : {T : Type 0} (polled : Poll (Result T ConnFault)) (n : ℕ) → IfFailed polled (λ fault. fault ≡ of.Place → ⊥) → CountsRefusedIn polled n n
none_refused (Ready (Ok x)) n apart = refl
none_refused (Ready (Err of.Read)) n apart = refl
none_refused (Ready (Err of.Write)) n apart = refl
none_refused (Ready (Err of.Place)) n apart = absurd (apart refl)
none_refused (Ready (Err of.NoMemory)) n apart = refl
none_refused Pending n apart = refl

-- A text that is written whole is one step less.
pub fewer_written : (s s' : Course) (text : List ℕ) (at : ℕ) → s.stage ≡ Writing text at → s'.stage ≡ Turning → s'.conn ≡ s.conn → steps_left s' < steps_left s
fewer_written s s' text at was now conn =
    let before : stage_steps s.stage ≡ 1 = ap stage_steps was in
    let after : stage_steps s'.stage ≡ 0 = ap stage_steps now in
    let same : turns_left s'.conn ≡ turns_left s.conn = ap turns_left conn in
    omega (arith, before, after, same)

pub not_refused : (fault : ConnFault) (before now : ℕ) → (fault ≡ of.Place → ⊥) → now ≡ before → CountsRefused fault before now
not_refused of.Read before now apart same = same
not_refused of.Write before now apart same = same
not_refused of.Place before now apart same = absurd (apart refl)
not_refused of.NoMemory before now apart same = same
