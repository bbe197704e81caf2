-- Why calls are given up.
use Rattle.std.proofs.Common.{◌≡◌, ◌∙◌, ◌≤◌, ℕ, ◌⊎◌, refl, subst, sym, inl, inr, arith, OnErr, IfErr, IsErrAnd, Result, Ok, Err}
use Rattle.gw_link.specs.Faults.{HasRisen}
use Rattle.gw_snap.specs.Counts.{Rises}
use Rattle.gw_admin.specs.Faults.{CountsAhead, CountsAs, CountsNothing, CountsPlace, CountsUnanswered, IsCause, IsCauseOf, IsOfLink, PassSeen}
use Rattle.gw_admin.specs.declared.fault.AdminFault.{AdminFault}
use Rattle.gw_admin.specs.declared.fault.AdminFault.TheVariants.{Read, Write, Place, NoMemory, Ahead}

pub nothing_then : (a b c : PassSeen) → CountsNothing a b → CountsNothing b c → CountsNothing a c
nothing_then a b c first later = record { refused = later.refused ∙ first.refused; ahead = later.ahead ∙ first.ahead }

place_then : (a b c : PassSeen) → CountsNothing a b → CountsPlace b c → CountsPlace a c
place_then a b c first later = record { refused = subst (λ (n : ℕ). Rises n c.refused) first.refused later.refused; ahead = later.ahead ∙ first.ahead }

ahead_then : (mine its : ℕ) (a b c : PassSeen) → CountsNothing a b → CountsAhead mine its b c → CountsAhead mine its a c
ahead_then mine its a b c first later =
    record { refused = later.refused ∙ first.refused; ahead = subst (λ (n : ℕ). Rises n c.ahead) first.ahead later.ahead; front = later.front; above = later.above }

pub risen_then : (a b c : ℕ) → a ≤ b → HasRisen b c → HasRisen a c
risen_then a b c first (inl more) = inl (omega (arith, first, more))
risen_then a b c first (inr last) = inr last

link_then : (a b c : PassSeen) (f g h : ℕ) → CountsNothing a b → f ≤ g → IsOfLink b c g h → IsOfLink a c f h
link_then a b c f g h first later of = record { counts = nothing_then a b c first of.counts; risen = risen_then f g h later of.risen }

-- a cause behind what counted nothing
pub cause_then : (e : AdminFault) (a b c : PassSeen) (f g h : ℕ) → CountsNothing a b → f ≤ g → IsCause e b c g h → IsCause e a c f h
cause_then Read a b c f g h first later cause = cause
cause_then Write a b c f g h first later cause = link_then a b c f g h first later cause
cause_then Place a b c f g h first later cause = place_then a b c first cause
cause_then NoMemory a b c f g h first later cause = nothing_then a b c first cause
cause_then (Ahead mine its) a b c f g h first later cause = ahead_then mine its a b c first cause

-- the same of a call that reads, too
pub cause_of_then : (e : AdminFault) (a b c : PassSeen) (f g h : ℕ) → CountsNothing a b → f ≤ g → IsCause e b c g h → IsCauseOf e a c f h
cause_of_then Read a b c f g h first later cause = absurd cause
cause_of_then Write a b c f g h first later cause = link_then a b c f g h first later cause
cause_of_then Place a b c f g h first later cause = place_then a b c first cause
cause_of_then NoMemory a b c f g h first later cause = nothing_then a b c first cause
cause_of_then (Ahead mine its) a b c f g h first later cause = ahead_then mine its a b c first cause

-- a request that isn't answered
pub cause_unanswered : (e : AdminFault) (a b : PassSeen) (f g : ℕ) → CountsUnanswered e a b → IsCause e a b f g
cause_unanswered Read a b f g cause = absurd cause
cause_unanswered Write a b f g cause = absurd cause
cause_unanswered Place a b f g cause = cause
cause_unanswered NoMemory a b f g cause = cause
cause_unanswered (Ahead mine its) a b f g cause = cause

-- a write that failed
pub cause_write : (e : AdminFault) (a b : PassSeen) (f g : ℕ) → CountsNothing a b → (e ≡ Write) × HasRisen f g → IsCause e a b f g
cause_write e a b f g counts of = subst (λ (x : AdminFault). IsCause x a b f g) (sym of.0) (record { counts = counts; risen = of.1 })

-- want of memory
pub cause_memory : (e : AdminFault) (a b : PassSeen) (f g : ℕ) → CountsNothing a b → e ≡ NoMemory → IsCause e a b f g
cause_memory e a b f g counts is = subst (λ (x : AdminFault). IsCause x a b f g) (sym is) counts

-- what a pass counts, by the cause
pub counts_by : (e : AdminFault) (a b : PassSeen) (f g : ℕ) → IsCauseOf e a b f g → CountsAs e a b
counts_by Read a b f g cause = cause.counts
counts_by Write a b f g cause = cause.counts
counts_by Place a b f g cause = cause
counts_by NoMemory a b f g cause = cause
counts_by (Ahead mine its) a b f g cause = cause

pub read_by : (e : AdminFault) (a b : PassSeen) (f g : ℕ) → IsCauseOf e a b f g → e ≡ Read → HasRisen f g
read_by e a b f g cause is = (subst (λ (x : AdminFault). IsCauseOf x a b f g) is cause).risen

pub write_by : (e : AdminFault) (a b : PassSeen) (f g : ℕ) → IsCauseOf e a b f g → e ≡ Write → HasRisen f g
write_by e a b f g cause is = (subst (λ (x : AdminFault). IsCauseOf x a b f g) is cause).risen

-- what holds in any case holds where a call failed
pub on_err : {T E X : Type 0} (result : Result T E) → X → OnErr result X
on_err (Ok value) x = tt
on_err (Err fault) x = x

-- what follows from the fault that a call passes on
pub passed_on : {T E : Type 0} (result : Result T E) (P Q : E → Type 0) → IsErrAnd result P → ((e : E) → P e → Q e) → IfErr result Q
passed_on (Ok value) P Q is then = tt
passed_on (Err fault) P Q is then = then fault is

-- the reply of a refusal wasn't made or written
pub cause_refused : (e : AdminFault) (a : PassSeen) (f g : ℕ) → (e ≡ NoMemory) ⊎ ((e ≡ Write) × HasRisen f g) → IsCause e a a f g
cause_refused e a f g (inl memory) = cause_memory e a a f g (record { refused = refl; ahead = refl }) memory
cause_refused e a f g (inr write) = cause_write e a a f g (record { refused = refl; ahead = refl }) write
