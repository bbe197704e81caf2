-- The last space, or none.
use Rattle.gw_script.proofs.Cuts.{no_space, last_is_all, nothing_before, cut_before, cut_after}
use Rattle.gw_script.proofs.part.cut_last.Goals as goal

pub returns-in-Some-clause-before : goal.returns-in-Some-clause-before
returns-in-Some-clause-before c =
    let cut = c.in-Some.ensures.cases in
    cut_before _ _ _ cut.0 cut.1 cut.2.0 cut.2.1 cut.3 cut.4

pub returns-in-Some-clause-last : goal.returns-in-Some-clause-last
returns-in-Some-clause-last c =
    let cut = c.in-Some.ensures.cases in
    cut_after _ _ _ cut.0 cut.1 cut.2.0 cut.2.1 cut.3 cut.4

pub returns-in-None-clause-before : goal.returns-in-None-clause-before
returns-in-None-clause-before c = nothing_before c.args.text.now (no_space _ c.in-None.ensures.cases)

pub returns-in-None-clause-last : goal.returns-in-None-clause-last
returns-in-None-clause-last c = last_is_all c.args.text.now (no_space _ c.in-None.ensures.cases)
