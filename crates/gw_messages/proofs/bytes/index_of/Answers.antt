-- The first place of a byte.
use Rattle.std.proofs.Common.{◌==◌, ◌∙◌, sym}
use Rattle.gw_messages.proofs.Cutting.{first_is, place_is, nowhere_is}
use Rattle.gw_messages.proofs.bytes.index_of.Goals as goal

pub returns-in-Some-clause-place : goal.returns-in-Some-clause-place
returns-in-Some-clause-place c = place_is (λ b. b == c.args.byte) _ _ (sym (first_is (λ b. b == c.args.byte) _ _ c.memchr.ensures) ∙ c.in-Some.is)

pub returns-in-None-clause-place : goal.returns-in-None-clause-place
returns-in-None-clause-place c = nowhere_is (λ b. b == c.args.byte) _ (sym (first_is (λ b. b == c.args.byte) _ _ c.memchr.ensures) ∙ c.in-None.is)
