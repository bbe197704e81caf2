-- By the order in which keys with one text are one key.
use Rattle.std.proofs.Common.{◌≡◌, rules}
use Rattle.gw_text.specs.model.Names.{key_order}
use Rattle.gw_text.proofs.Keys.{order_by_name, equal_exactly}
use Rattle.gw_text.proofs.key.Key.compare.Goals as goal

pub returns-then-is_beside-clause-equal : goal.returns-then-is_beside-clause-equal
returns-then-is_beside-clause-equal c =
    let order : c.cmp.result ≡ key_order c.args.self.now c.args.other.now = search (rules, order_by_name)
    in equal_exactly c.args.self.now c.args.other.now c.cmp.result c.is_beside.ensures.own_form c.is_beside.ensures.other_form order

pub returns-else-is_beside-clause-equal : goal.returns-else-is_beside-clause-equal
returns-else-is_beside-clause-equal c =
    equal_exactly c.args.self.now c.args.other.now c.compare_texts.result c.is_beside.ensures.own_form c.is_beside.ensures.other_form c.compare_texts.ensures
