-- A name without cells has no row; the fronts of a path are as many as its elements.
use Rattle.std.proofs.Common.{◌≡◌, ◌∙◌, rules, sym, arith, None}
use Rattle.std.specs.Option.{option_copied}
use Rattle.gw_shared.specs.model.Buckets.{value_at}
use Rattle.gw_cells.specs.Cells.{at_name}
use Rattle.gw_cells.proofs.Counting.{fronts_count}
use Rattle.gw_cells.proofs.Turns.{empty_name}
use Rattle.gw_cells.proofs.find.probe_name.Goals as goal

pub returns-in_err-paths-clause-row : goal.returns-in_err-paths-clause-row
returns-in_err-paths-clause-row g c =
    let none : value_at c.args.names.now c.args.name.now ≡ None = search rules in
    let nothing : option_copied c.from_residual.result ≡ None = search rules in
    nothing ∙ sym (empty_name (at_name c.args.names.now c.args.name.now) c.args.request.now (λ p. rw none))

pub returns-clause-steps : goal.returns-clause-steps
returns-clause-steps g c =
    let count = fronts_count c.args.request.now.path in
    omega (arith, c.find_by_place.ensures.steps, c.tick.ensures, count)
