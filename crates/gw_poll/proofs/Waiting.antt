-- What waited and what failed, over several steps.
use Rattle.std.proofs.Common.{◌≡◌, ◌∙◌, ℕ, zero, suc, ◌+◌, ◌-◌, ◌<◌, ◌≤◌, ◌==◌, ◌⊎◌, inl, inr, Bool, true, false, List, Option, Some, None, IfSome, ap, sym, subst, arith}
use Rattle.std.proofs.lemmas.Bool.Decides.{nat_tests}
use Rattle.futures.specs.declared.task.context.Context.{Context}
use Rattle.gw_link.proofs.FaultLemmas.{HasRisen-then}
use Rattle.gw_link.specs.Pieces.{Keeps}
use Rattle.gw_worker.specs.Conns.{IsUnfinished}
use Rattle.gw_worker.specs.declared.serve.ConnFault.{ConnFault}
use Rattle.gw_worker.specs.declared.serve.ConnFault.TheVariants.{NoMemory, Place, Read, Write}
use Rattle.gw_worker.specs.declared.conn.Stage.TheVariants.{Reading as IsReading}
use Rattle.gw_worker.specs.model.Sessions.{Place as At}
use Rattle.gw_poll.proofs.Keeping.{hungry_at}
use Rattle.gw_poll.proofs.Stepping.{not_over, session_reading}
use Rattle.gw_poll.specs.Causes.{HasCause, HasWaited}
use Rattle.gw_poll.specs.Courses.{Follows, IsGoing, IsHeld, IsIdle, unwritten}
use Rattle.gw_poll.specs.Histories.{History, IsSession}
use Rattle.gw_poll.specs.declared.course.Course.{Course}
use Rattle.gw_poll.specs.declared.course.Stage.{Stage}
use Rattle.gw_poll.specs.declared.course.Stage.TheVariants.{Reading}

-- What waited in a later step has waited since an earlier one.
pub waited_since : (cx : Context) (source first before now : ℕ) → first ≤ before → HasWaited cx source before now → HasWaited cx source first now
waited_since cx source first before now later waited = (HasRisen-then first before now later waited.0, waited.1)

-- What failed in a later step has failed since an earlier one.
pub cause_since : (first before now : ℕ) (fault : ConnFault) → first ≤ before → HasCause before now fault → HasCause first now fault
cause_since first before now Read later cause = HasRisen-then first before now later cause
cause_since first before now Write later cause = HasRisen-then first before now later cause
cause_since first before now Place later cause = tt
cause_since first before now NoMemory later cause = tt

pub either_map : {A B C D : Type 0} → (A → C) → (B → D) → A ⊎ B → C ⊎ D
either_map f g (inl a) = inl (f a)
either_map f g (inr b) = inr (g b)

pub neither : {A B : Type 0} → (A → ⊥) → (B → ⊥) → A ⊎ B → ⊥
neither f g (inl a) = f a
neither f g (inr b) = g b

-- A read for which there was nothing changed nothing, and where bytes are read all that came so far is served.
pub still_session : (p : At) (s s' : Course) (h : History) → s' ≡ s → s.stage ≡ Reading → s.conn.stage ≡ IsReading → Follows p s' h → IsSession p h s'.conn.rows None
still_session p s s' h same is at f =
    subst (λ (c : Course). IsSession p h c.conn.rows None) (sym same) (session_reading p s h (subst (λ (c : Course). Follows p c h) same f) is at)

-- Where bytes are read and nothing came, no backend is asked and nothing is to be written.
pub idle_reading : (s s' : Course) (bytes : List ℕ) → s' ≡ s → s.stage ≡ Reading → IsGoing s bytes → IsIdle s'
idle_reading s s' bytes same is going =
    let hungry : (s.conn.stage ≡ IsReading) × IsUnfinished s.conn bytes = hungry_at s bytes going is in
    subst IsIdle (sym same) (record {
      serving = record { bytes = bytes; fed = going.fed; reading = hungry.0; unfinished = hungry.1.0 };
      going = λ at. ((bytes, going), subst (λ (st : Stage). IsHeld st at) (sym is) tt);
      written = ap unwritten is;
    })

-- The end stands there, as far as it was told before.
abbrev pub StandsEnd : Option Bool → Option Bool → Type 0
StandsEnd before now = IfSome before (λ told. IfSome now (λ has_end. has_end ≡ true))

end_still : (before middle now : Option Bool) → Keeps before middle → Keeps middle now → StandsEnd before middle → StandsEnd before now
end_still None middle now first later stands = tt
end_still (Some b) None now first later stands = absurd (cc first)
end_still (Some b) (Some c) now first later stands = subst (λ (o : Option Bool). IfSome o (λ has_end. has_end ≡ true)) (sym later) stands

-- No end of the bytes is read where none came in between.
pub over_still : (first was is : Bool) (before middle now : Option Bool) → is ≡ was → Keeps before middle → Keeps middle now
    → (was ≡ true → (first ≡ true) ⊎ StandsEnd before middle) → is ≡ true → (first ≡ true) ⊎ StandsEnd before now
over_still first was is before middle now same kept later over ends = either_map (λ over. over) (end_still before middle now kept later) (over (sym same ∙ ends))

pub none_read : (size : ℕ) → (size == 0) ≡ true → size ≡ 0
none_read size is = grind (arith, nat_tests, is)

pub stands_end : (before now : Option Bool) → IfSome now (λ has_end. has_end ≡ true) → StandsEnd before now
stands_end None now ends = tt
stands_end (Some b) now ends = ends

-- A piece that is read is one of fewer bytes that may still come; an empty one is the end.
pub fewer_left : (most taken size : ℕ) (before after : Bool) → taken < most → before ≡ false → after ≡ (size == 0) → most - (taken + size) + not_over after < most - taken + not_over before
fewer_left most taken zero before after few unended over = rw (unended, over) (omega (arith, few))
fewer_left most taken (suc n) before after few unended over =
    let none : (suc n == 0) ≡ false = grind (arith, nat_tests) in
    rw (unended, over, none) (omega (arith, few))
