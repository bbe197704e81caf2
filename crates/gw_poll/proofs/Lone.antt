-- How the polls of a connection that has its worker for itself come together.
use Rattle.std.proofs.Common.{◌≡◌, ℕ, ◌⊎◌, inl, inr, List, Option, Some, None, Result, Ok, Err, refl, sym, subst, IsSomeAnd}
use Rattle.futures.specs.Task.{IsArmed}
use Rattle.futures.specs.declared.task.Poll.TheVariants.{Ready}
use Rattle.futures.specs.declared.task.context.Context.{Context}
use Rattle.gw_frames.specs.declared.ended.Ended.{Ended}
use Rattle.gw_link.specs.declared.order.UpstreamCall.{UpstreamCall}
use Rattle.gw_polling.specs.Polls.{IfDone, OnFailed}
use Rattle.gw_text.specs.model.Addresses.{Socket}
use Rattle.gw_worker.proofs.Going.{still_at}
use Rattle.gw_worker.specs.Flows.{Outside}
use Rattle.gw_worker.specs.Workers.{IsAt}
use Rattle.gw_worker.specs.declared.serve.ConnFault.{ConnFault}
use Rattle.gw_worker.specs.model.Sessions.{Place}
use Rattle.gw_worker.specs.model.Workers.{Worker}
use Rattle.gw_poll.proofs.Going.{gives_up_then, went_then}
use Rattle.gw_poll.specs.Alones.{ComesTo, IsServed}
use Rattle.gw_poll.specs.Causes.{HasWaited, OnGoing}
use Rattle.gw_poll.specs.Courses.{Follows, GivesUp, GoesTo}
use Rattle.gw_poll.specs.Histories.{History, IsSession}
use Rattle.gw_poll.specs.declared.course.Course.{Course}

pub some_of : {A : Type 0} (P : A → Type 0) (o : Option A) → IsSomeAnd o P → (x : A) × (o ≡ Some x)
some_of P None is = absurd is
some_of P (Some x) is = (x, refl)

pub some_and : {A : Type 0} (P : A → Type 0) (o : Option A) (x : A) → o ≡ Some x → P x → IsSomeAnd o P
some_and {A} P o x is holds = subst (λ (q : Option A). IsSomeAnd q P) (sym is) holds

pub some_at : {A : Type 0} (P : A → Type 0) (o : Option A) (x : A) → o ≡ Some x → IsSomeAnd o P → P x
some_at {A} P o x is holds = subst (λ (q : Option A). IsSomeAnd q P) is holds

pub armed_of : (cx : Context) (s t u a b c d e f : ℕ) → HasWaited cx s a b ⊎ (HasWaited cx t c d ⊎ HasWaited cx u e f) → IsArmed cx
armed_of cx s t u a b c d e f (inl waited) = waited.1.0
armed_of cx s t u a b c d e f (inr (inl waited)) = waited.1.0
armed_of cx s t u a b c d e f (inr (inr waited)) = waited.1.0

-- The last poll.
pub comes_of : (refuses : UpstreamCall → Socket → Type 0) (a b : Worker) (x y : Course) (l l' : Option (List ℕ)) (o o' : Outside) (result : Result Ended ConnFault)
    → OnGoing (Ready result) ((p : Place) (h : History) → IsAt a p → Follows p x h → GoesTo refuses p a b y h l l' o o')
    → OnFailed (Ready result) ((p : Place) (h : History) → IsAt a p → Follows p x h → GivesUp refuses p a b y h l l' o o')
    → IfDone (Ready result) (λ why. (p : Place) (h : History) → Follows p y h → IsSession p h y.conn.rows (Some why))
    → ComesTo refuses a b x y l l' o o' result
comes_of refuses a b x y l l' o o' (Ok why) goes broke ends = λ p h at f.
    let t : GoesTo refuses p a b y h l l' o o' = goes p h at f in
    record { h' = t.h'; went = t.went; session = ends p t.h' t.follows }
comes_of refuses a b x y l l' o o' (Err fault) goes broke ends = broke

-- A poll that waits, and those behind it.
pub comes_then : (first second wider : UpstreamCall → Socket → Type 0) (a b c : Worker) (x y z : Course) (l l1 l2 : Option (List ℕ)) (o o1 o2 : Outside) (result : Result Ended ConnFault)
    → ((call : UpstreamCall) (to : Socket) → first call to → wider call to) → ((call : UpstreamCall) (to : Socket) → second call to → wider call to)
    → b.pass.fixed ≡ a.pass.fixed → ((p : Place) (h : History) → IsAt a p → Follows p x h → GoesTo first p a b y h l l1 o o1)
    → ComesTo second b c y z l1 l2 o1 o2 result → ComesTo wider a c x z l l2 o o2 result
comes_then first second wider a b c x y z l l1 l2 o o1 o2 (Ok why) still later fixed goes comes = λ p h at f.
    let t : GoesTo first p a b y h l l1 o o1 = goes p h at f in
    let u : IsServed second p b c z.conn.rows t.h' l1 l2 o1 o2 why = comes p t.h' (still_at p a b fixed at) t.follows in
    record { h' = u.h'; went = went_then first second wider p a b c h t.h' u.h' l l1 l2 o o1 o2 still later t.went u.went; session = u.session }
comes_then first second wider a b c x y z l l1 l2 o o1 o2 (Err fault) still later fixed goes comes = λ p h at f.
    let t : GoesTo first p a b y h l l1 o o1 = goes p h at f in
    gives_up_then first second wider p a b c y z h l l1 l2 o o1 o2 still later t (comes p t.h' (still_at p a b fixed at) t.follows)
