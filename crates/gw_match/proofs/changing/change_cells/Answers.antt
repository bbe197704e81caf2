-- The rows are put in place of the former ones, or these are taken out and the others are added.
use Rattle.gw_match.proofs.changing.change_cells.Goals as goal

pub returns-then-stand_for : goal.returns-then-stand_for
returns-then-stand_for c = λ others are apart.
    c.add_all.ensures.put c.args.former.now others (c.stand_for.ensures c.if-stand_for.true) are

pub returns : goal.returns
returns c = λ others are apart.
    c.add_all-2.ensures.added others apart (c.in_ok-take_out_all.ensures others are)
