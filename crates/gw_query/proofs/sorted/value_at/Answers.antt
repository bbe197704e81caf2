-- The search is by the names.
use Rattle.std.proofs.Common.{◌≡◌, ◌∙◌, true, false, ap, rules, Option, option_map}
use Rattle.std.proofs.lemmas.List.Sorted.{IsPartitionPoint-from_clause}
use Rattle.std.specs.List.Sorted.{IsPartitionPoint}
use Rattle.gw_query.specs.model.Parameters.{Parameter}
use Rattle.gw_query.specs.Sorted.{if_named}
use Rattle.gw_query.proofs.Sorting.{is_lower, parted, value_found}
use Rattle.gw_query.proofs.sorted.value_at.Goals as goal

pub returns : goal.returns
returns c =
    let name = c.args.name.now in
    let ps = c.args.sorted.now in
    let first = c.partition_point-first.result in
    let point : IsPartitionPoint (λ p. is_lower name p ≡ true) (λ p. is_lower name p ≡ false) ps first =
    IsPartitionPoint-from_clause (is_lower name) ps first c.partition_point-first.ensures.partitioned (parted name ps c.requires) (λ a r q k. search rules) in
    c.value_if_named.ensures
    ∙ (ap (λ (found : Option Parameter). option_map (λ (p : Parameter). p.value) (if_named name found)) c.item_at.ensures
    ∙ value_found name ps first c.requires point.0 point.1)
