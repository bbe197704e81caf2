-- Nothing stands in any group.
use Rattle.std.proofs.Common.{◌≡◌, ◌∙◌, rules, eqb, length, ap}
use Rattle.std.specs.List.{list_all}
use Rattle.gw_shared.proofs.Groups.{passes_each}
use Rattle.gw_shared.proofs.buckets.Buckets.are_empty.Goals as goal

pub returns : goal.returns
returns g c =
    let each : c.groups_are_empty.result ≡ list_all (λ group. list_all (λ b. eqb (length b) 0) group) c.self.inside.groups.items = search rules in
    each ∙ passes_each (λ b. eqb (length b) 0) c.self.inside.groups.items ∙ ap (list_all (λ b. eqb (length b) 0)) c.self.view_is
