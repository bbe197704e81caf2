-- The order of names is total.
use Rattle.std.specs.Cmp.{IsTotalOrder}
use Rattle.std.proofs.lemmas.Cmp.{nat_cmp_total, nat_list_cmp_total, on_total, then_total}
use Rattle.std.specs.Cmp.Lexicographic.{options_total}
use Rattle.gw_stamp.specs.Names.{CondName, name_order, object_order, owner_place, kind_place, part_order, part_place, part_namespace, part_name, part_section, part_port, part_number}

pub part_total : IsTotalOrder part_order
part_total =
    then_total (on_total part_place nat_cmp_total)
    (then_total (on_total part_namespace nat_list_cmp_total)
    (then_total (on_total part_name nat_list_cmp_total)
    (then_total (on_total part_section (options_total nat_list_cmp_total))
    (then_total (on_total part_port (options_total nat_cmp_total))
    (on_total part_number nat_cmp_total)))))

pub object_total : IsTotalOrder object_order
object_total =
    then_total (on_total (λ (n : CondName). owner_place n.owner) nat_cmp_total)
    (then_total (on_total (λ (n : CondName). n.key.namespace) nat_list_cmp_total)
    (on_total (λ (n : CondName). n.key.name) nat_list_cmp_total))

pub name_total : IsTotalOrder name_order
unfolding name_order
name_total =
    then_total object_total
    (then_total (on_total (λ (n : CondName). n.part) part_total)
    (on_total (λ (n : CondName). kind_place n.kind) nat_cmp_total))
