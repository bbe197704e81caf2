-- A line that isn't whole.
use Rattle.std.proofs.Common.{ap, length, List, refl, subst, ℕ}
use Rattle.gw_messages.specs.Lines.{Continues, IsLineSearch}
use Rattle.gw_messages.proofs.LineSearches.{part_front, read_front, wider_search}
use Rattle.gw_messages.proofs.line.LineSearch.read_line.Goals as goal

pub returns-then-goes_on-clause-line : goal.returns-then-goes_on-clause-line
returns-then-goes_on-clause-line c =
    part_front c.args.self.now c.args.bytes.now c.args.most c.requires (subst (λ (b : List ℕ). Continues c.args.self.now b) c.first-front.ensures (c.goes_on.ensures c.if-goes_on.true))

pub returns-then-goes_on-clause-kept : goal.returns-then-goes_on-clause-kept
returns-then-goes_on-clause-kept c =
    read_front c.args.self.now _ c.args.bytes.now c.args.most (ap length c.first-front.ensures) refl c.requires
    (subst (λ (b : List ℕ). Continues c.args.self.now b) c.first-front.ensures (c.goes_on.ensures c.if-goes_on.true))

pub returns-in-Part-clause-kept : goal.returns-in-Part-clause-kept
returns-in-Part-clause-kept c =
    wider_search c.note.new.self c.args.bytes.now c.args.most (subst (λ (b : List ℕ). IsLineSearch c.note.new.self b) c.first-front.ensures c.note.ensures.kept)
