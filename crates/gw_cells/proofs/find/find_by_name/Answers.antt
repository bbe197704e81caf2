-- The host itself, and the names above it, are one more than its labels.
use Rattle.std.proofs.Common.{◌≡◌, ◌∙◌, sym, ap, ℕ, ◌+◌, ◌*◌, length}
use Rattle.gw_cells.specs.model.Probes.{label_count, most_for_name, most_probes, names_above}
use Rattle.gw_cells.proofs.Counting.{names_count, one_more_name}
use Rattle.gw_cells.proofs.Turns.{all_names}
use Rattle.gw_cells.proofs.find.find_by_name.Goals as goal

pub returns-clause-steps : goal.returns-clause-steps
returns-clause-steps g c =
    let q = c.args.request.now in
    let whole : most_probes q ≡ length (names_above q.host) * most_for_name q + most_for_name q =
    one_more_name (label_count q.host) (most_for_name q) ∙ ap (λ (n : ℕ). n * most_for_name q + most_for_name q) (sym (names_count q.host)) in
    all_names _ _ _ _ _ _ whole c.probe_name.ensures.steps c.find_above.ensures.steps
