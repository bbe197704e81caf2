-- The parentRefs are all done.
use Rattle.std.proofs.Common.{◌≡◌, ◌∙◌, ap, length, rules}
use Rattle.std.specs.List.{list_any}
use Rattle.gw_text.specs.model.Routes.{names_gateway}
use Rattle.gw_deps.specs.Edges.{gives, parent_edge}
use Rattle.gw_deps.proofs.Choices.{finished}
use Rattle.gw_deps.proofs.Exchanging.{parents_given}
use Rattle.gw_deps.proofs.object_edges.parent_edges.Goals as goal

pub returns : goal.returns
returns c = λ x.
    let r = c.args.route.now in
    let items = c.as_slice-parent-items.result.now in
    let are : items ≡ r.parent_refs = search rules in
    let end : c.parents.parent-index ≡ length items = search rules in
    finished (gives names_gateway (parent_edge c.args.key.now) x) items c.parents.parent-index _ _ end (c.parents.invariant x)
    ∙ (ap (λ all. list_any (gives names_gateway (parent_edge c.args.key.now) x) all) are
    ∙ (ap (λ key. list_any (gives names_gateway (parent_edge key) x) r.parent_refs) c.requires ∙ parents_given r x))
