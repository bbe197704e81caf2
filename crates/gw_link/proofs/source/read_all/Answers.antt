use Rattle.std.proofs.Common.{rules}
use Rattle.gw_link.proofs.PieceLemmas.{GivesPart-more}
use Rattle.gw_link.proofs.source.read_all.Goals as goal

pub returns-then-len-taken-clause-part : goal.returns-then-len-taken-clause-part
returns-then-len-taken-clause-part g c = GivesPart-more _ _ _ _ (g.S.Source.given c.pieces.source) _ _ _ c.pieces.invariant.given (search rules) c.in_ok-taken.ensures.gives (search rules)

pub returns-in_err-extend_from_slice-clause-part :
    goal.returns-in_err-extend_from_slice-clause-part
returns-in_err-extend_from_slice-clause-part g c = GivesPart-more _ _ _ _ (g.S.Source.given c.pieces.source) _ _ _ c.pieces.invariant.given (search rules) c.in_ok-taken.ensures.gives (search rules)
