-- What a run that serves comes to.
use Rattle.std.proofs.Common.{◌≡◌, ◌∙◌, ◌+◌, ◌≤◌, Bool, ℕ, ℤ, zero, suc, arith, List, [], Option, None, Some, Ok, inl, inr, IfSome, ap, append-nil, subst}
use Rattle.gw_link.proofs.FaultLemmas.{HasRisen-then}
use Rattle.gw_link.specs.Pieces.{Takes, TakesPart}
use Rattle.gw_command.specs.Faults.{exit_code, fault_line}
use Rattle.gw_command.specs.Starts.{Setting, Starts, Task, a_service}
use Rattle.gw_command.proofs.Starting.{starts_unique}
use Rattle.gw_replay.specs.declared.ending.Ending.{Ending}
use Rattle.gw_serve.specs.Serving.{Leaves, job_count, ready_line}
use Rattle.gw_serve.specs.declared.fault.ServeFault.{ServeFault}
use Rattle.gw_serve.specs.declared.fault.ServeFault.TheVariants.{Place, Bind, Write, Start, NoMemory}
use Rattle.gw_text.specs.model.Addresses.{Socket}
use Rattle.gateward.specs.Outputs.{IsOutput, IsOutputOf}
use Rattle.gateward.specs.Runs.{HasFailed, HasServed, SetToServe, WritesPiece, service_fault}

-- the words of a service
abbrev pub set_to_serve : (words : List (List ℕ)) (setting : Setting) (workers : ℕ) (conns : Option ℕ) (admin : Socket) (polled : Bool)
    → Starts words (Ok setting) → setting.task ≡ a_service workers conns admin polled → SetToServe words
set_to_serve words setting workers conns admin polled start task =
    record { setting = setting; workers = workers; conns = conns; admin = admin; polled = polled; start = start; task = task }

module _ (words : List (List ℕ)) (setting inside : Setting) (workers : ℕ) (conns : Option ℕ) (admin : Socket) (polled : Bool) (same : inside ≡ setting)
    (start : Starts words (Ok setting)) (task : setting.task ≡ a_service workers conns admin polled) (before written : Option (List ℕ)) (started started' : ℕ) where
  -- all jobs were started and have ended
  pub served : (ended' : ℕ) → Takes before ready_line written → started' ≡ started + job_count workers inside.doors → ended' ≡ started' → HasServed words before written started started' ended'
  served ended' ready jobs all = record {
    set = set_to_serve words setting workers conns admin polled start task;
    ready = ready;
    jobs = subst (λ (s : Setting). started' ≡ started + job_count workers s.doors) same jobs;
    all = all;
  }

  -- it ended by a fault
  pub failed : (fault : ServeFault) (sink sink' : ℕ) (so_far : Option (List ℕ)) → Leaves fault (job_count workers inside.doors) before so_far started started'
      → WritesPiece so_far (fault_line (service_fault fault)) written sink sink' → HasFailed fault words before written sink sink' started started'
  failed fault sink sink' so_far leaves line = record {
    set = set_to_serve words setting workers conns admin polled start task;
    so_far = so_far;
    leaves = subst (λ (s : Setting). Leaves fault (job_count workers s.doors) before so_far started started') same leaves;
    line = line;
  }

-- nothing is written behind that
writes_nothing : (so_far written : Option (List ℕ)) (faults faults' : ℕ) → WritesPiece so_far [] written faults faults' → IfSome so_far (λ text. written ≡ Some text)
writes_nothing None written faults faults' line = record {}
writes_nothing (Some text) written faults faults' (inl takes) = takes ∙ ap (λ (t : List ℕ). Some t) (append-nil text)
writes_nothing (Some text) written faults faults' (inr (risen, (zero, (few, takes)))) = takes ∙ ap (λ (t : List ℕ). Some t) (append-nil text)
writes_nothing (Some text) written faults faults' (inr (risen, (suc n, (few, takes)))) = absurd (omega (arith, few))

-- a front of the line stays one
part_then : (before so_far written : Option (List ℕ)) → TakesPart before ready_line so_far → IfSome so_far (λ text. written ≡ Some text) → TakesPart before ready_line written
part_then None so_far written part same = (part.0, (part.1.0, record {}))
part_then (Some text) so_far written part same = (part.0, (part.1.0, rw part.1.1 at same))

-- where the sink failed, a front of the line was written
pub write_failed : (fault : ServeFault) (code jobs : ℕ) (before so_far written : Option (List ℕ)) (sink sink' started started' : ℕ) → code ≡ 4 → code ≡ exit_code (service_fault fault)
    → Leaves fault jobs before so_far started started' → WritesPiece so_far (fault_line (service_fault fault)) written sink sink' → TakesPart before ready_line written
write_failed Place code jobs before so_far written sink sink' started started' four is leaves line = absurd (omega (arith, four, is))
write_failed Bind code jobs before so_far written sink sink' started started' four is leaves line = absurd (omega (arith, four, is))
write_failed Write code jobs before so_far written sink sink' started started' four is leaves line =
    part_then before so_far written leaves.0 (writes_nothing so_far written sink sink' line)
write_failed Start code jobs before so_far written sink sink' started started' four is leaves line = absurd (omega (arith, four, is))
write_failed NoMemory code jobs before so_far written sink sink' started started' four is leaves line = absurd (omega (arith, four, is))

-- who serves has no text of an input
pub no_output : (words : List (List ℕ)) (setting : Setting) (set : SetToServe words) (input : List ℕ) (told : Option (List ℤ)) (ending : Ending) (text : List ℕ)
    → Starts words (Ok setting) → IsOutput setting input told ending text → ⊥
no_output words setting set input told ending text start is =
    let same : set.setting ≡ setting = cc (starts_unique words (Ok set.setting) (Ok setting) set.start start) in
    let task : setting.task ≡ a_service set.workers set.conns set.admin set.polled = subst (λ (s : Setting). s.task ≡ a_service set.workers set.conns set.admin set.polled) same set.task in
    subst (λ (t : Task). IsOutputOf t setting.doors setting.controller input told ending text) task is

-- Whether a line is written is told by the failed writes since any earlier moment.
pub writes_since : (so_far : Option (List ℕ)) (line : List ℕ) (written : Option (List ℕ)) (first before now : ℕ) → first ≤ before → WritesPiece so_far line written before now → WritesPiece so_far line written first now
writes_since so_far line written first before now later (inl takes) = inl takes
writes_since so_far line written first before now later (inr part) = inr (HasRisen-then first before now later part.0, part.1)
