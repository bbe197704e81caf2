-- The steps of the change, taken in turn.
use Rattle.gw_stamp.proofs.Stating.{in_turn}
use Rattle.gw_stamp.specs.Entries.{stamp_at}
use Rattle.gw_stamp.proofs.stamps.Stamps.prepare.Goals as goal

pub returns-clause-after : goal.returns-clause-after
returns-clause-after c =
    rw (c.in_ok-state_all.ensures, c.in_ok-take_out_all.ensures, c.as_slice.ensures, c.as_slice-2.ensures, c.in_ok-next.ensures)
    (in_turn c.args.gone.now c.args.now.now c.args.at (stamp_at c.args.self.now) c.requires)
