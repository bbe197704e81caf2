use Rattle.std.proofs.Common.{◌≡◌, ◌<◌, ◌∙◌, true, false, length, sym, arith}
use Rattle.std.proofs.lemmas.Grind.{common_steps}
use Rattle.gw_polling.specs.Rings.{is_among}
use Rattle.gw_polling.proofs.NumberLemmas.{without_fewer, without_other}
use Rattle.gw_polling.proofs.mem_ring.MemRingRing.close.Goals as goal

pub invariant_of-self : goal.invariant_of-self
invariant_of-self c =
    let found : is_among c.args.number c.self.inside.open_numbers.items ≡ true = rw c.deref.ensures.value at (sym c.contains.ensures.value ∙ c.if-contains.true) in
    let fewer : length c.take_away.new.numbers.items < length c.self.inside.open_numbers.items =
    rw c.take_away.ensures (without_fewer c.args.number c.self.inside.open_numbers.items found) in
    grind (arith, common_steps)

pub returns-else-contains-clause-closes : goal.returns-else-contains-clause-closes
returns-else-contains-clause-closes c =
    let missed : is_among c.args.number c.self.inside.open_numbers.items ≡ false = rw c.deref.ensures.value at (sym c.contains.ensures.value ∙ c.if-contains.false) in
    rw (← c.self.view_is) (sym (without_other c.args.number c.self.inside.open_numbers.items missed))
