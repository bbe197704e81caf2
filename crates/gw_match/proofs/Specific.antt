-- Being more specific is a total order, of listeners and of their tables.
use Rattle.std.specs.Cmp.{IsTotalOrder, back_total, nat_cmp_total, on_total, then_total}
use Rattle.gw_match.specs.Nearest.{by_specificity}
use Rattle.gw_match.specs.model.Choice.{hostname_characters, precise_characters, specificity}
use Rattle.gw_match.specs.model.Listed.{Listed}

pub is_total : IsTotalOrder specificity
is_total = then_total (on_total precise_characters (back_total nat_cmp_total)) (on_total hostname_characters (back_total nat_cmp_total))

pub tables_total : IsTotalOrder by_specificity
tables_total = on_total (λ (t : Listed). t.listener) is_total
