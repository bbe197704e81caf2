-- How a script is given up.
use Rattle.std.proofs.Common.{◌≡◌, ◌∙◌, ℕ, length, Some, sym, subst, slice_get}
use Rattle.gw_worker.specs.model.Workers.{Worker}
use Rattle.gw_replay.specs.Replays.{State}
use Rattle.gw_replay.specs.States.{Halted, HaltsAt, IsCause, Keeps, Unless, number_of}
use Rattle.gw_replay.specs.declared.replay.Replay.{Replay}
use Rattle.gw_replay.specs.declared.stop.Stop.{Stop}
use Rattle.gw_replay.specs.declared.stop.Stop.TheVariants as stops

halted_at : {R : Type 0} (stop : Stop) (old new : Replay R) (n : ℕ) (w : Worker) → new.controller ≡ old.controller → new.text ≡ old.text → slice_get new.workers.items n ≡ Some w
    → IsCause stop (length old.controller.published) w → number_of stop ≡ n → Halted stop old new
halted_at stop old new n w controller text there cause is = record {
  controller = controller;
  text = text;
  cause = record {
    worker = w;
    there = subst (λ (m : ℕ). slice_get new.workers.items m ≡ Some w) (sym is) there;
    cause = subst (λ control. IsCause stop (length control.published) w) (sym controller) cause;
  };
}

-- a worker shows the cause
pub halted_by : {R : Type 0} (stop : Stop) (old new : Replay R) (n : ℕ) (w : Worker) → new.controller ≡ old.controller → new.text ≡ old.text → slice_get new.workers.items n ≡ Some w
    → IsCause stop (length old.controller.published) w → Unless stop (number_of stop ≡ n) → Unless stop (Halted stop old new)
halted_by stops.NoMemory old new n w controller text there cause is = tt
halted_by (stops.Place m) old new n w controller text there cause is = halted_at (stops.Place m) old new n w controller text there cause is
halted_by (stops.Ahead m) old new n w controller text there cause is = halted_at (stops.Ahead m) old new n w controller text there cause is

-- the same, from what stood before a connection was taken out
halted_from : {R : Type 0} (stop : Stop) (old mid new : Replay R) → mid.controller ≡ old.controller → mid.text ≡ old.text → Halted stop mid new → Halted stop old new
halted_from stop old mid new controller text h = record { controller = h.controller ∙ controller; text = h.text ∙ text; cause = h.cause }

pub halts_open : {R : Type 0} (stop : Stop) (stands : State → Type 0) (old mid new : Replay R) → mid.controller ≡ old.controller → mid.text ≡ old.text → ((s : State) → Keeps old s → stands s)
    → Unless stop (Halted stop mid new) → HaltsAt stop stands old new
halts_open stops.NoMemory stands old mid new controller text stood h = tt
halts_open (stops.Place m) stands old mid new controller text stood h = record { halted = halted_from (stops.Place m) old mid new controller text h; stood = stood }
halts_open (stops.Ahead m) stands old mid new controller text stood h = record { halted = halted_from (stops.Ahead m) old mid new controller text h; stood = stood }
