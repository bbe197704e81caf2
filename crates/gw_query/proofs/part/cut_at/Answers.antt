-- The parts are cut at the first such byte; without one there is one part.
use Rattle.std.proofs.Common.{◌==◌}
use Rattle.std.proofs.lemmas.List.{take_rest}
use Rattle.gw_query.proofs.Cuts.{cut_at, cut_nowhere}
use Rattle.gw_query.proofs.part.cut_at.Goals as goal

pub returns-then-at-text-clause-parts : goal.returns-then-at-text-clause-parts
returns-then-at-text-clause-parts c =
    rw take_rest (cut_at (λ b. b == c.args.byte) c.args.text.now c.index_of-at.result c.index_of-at.ensures.place c.if-at-text.true)

pub returns-else-at-text-clause-parts : goal.returns-else-at-text-clause-parts
returns-else-at-text-clause-parts c =
    cut_nowhere (λ b. b == c.args.byte) c.args.text.now c.index_of-at.result c.index_of-at.ensures.place c.if-at-text.false
