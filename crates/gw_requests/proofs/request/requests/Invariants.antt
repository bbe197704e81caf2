-- The inlet stands for all bytes, and gave the requests so far.
use Rattle.std.proofs.Common.{◌≡◌, false}
use Rattle.gw_frames.specs.Inlets.{is_over, steps_left}
use Rattle.gw_requests.specs.Requests.{Gave}
use Rattle.gw_requests.proofs.request.requests.Given as goal

abbrev pub invariant-steps : goal.invariant-steps
invariant-steps l = record {
  gave : Gave l.inlet l.bytes l.requests.items;
  over : is_over l.inlet ≡ false;
}

abbrev pub decreases-steps : goal.decreases-steps
decreases-steps l = steps_left l.inlet
