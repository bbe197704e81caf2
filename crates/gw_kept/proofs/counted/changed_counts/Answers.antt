-- The former Route is taken out, and then the new one is added.
use Rattle.std.proofs.Common.{◌++◌, option_to_list, sym, subst}
use Rattle.std.specs.Option.{option_copied}
use Rattle.gw_kept.specs.Counts.{AreCounts}
use Rattle.gw_kept.specs.declared.counts.Counts.{Counts}
use Rattle.gw_kept.proofs.counted.changed_counts.Goals as goal

pub returns : goal.returns
returns c = λ others are.
    c.in_ok-add.ensures others
    (c.in_ok-take_out.ensures others (subst (λ (x : Counts). AreCounts (option_to_list (option_copied c.args.former) ++ others) x) (sym c.in_ok-changed.ensures) are))
