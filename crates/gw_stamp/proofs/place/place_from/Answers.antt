-- What stands at the place has the name.
use Rattle.std.proofs.Common.{◌≡◌, ◌<◌, arith, length, rules}
use Rattle.std.specs.declared.cmp.Ordering.TheVariants.{Equal}
use Rattle.gw_stamp.proofs.Placing.{standing}
use Rattle.gw_stamp.specs.Names.{name_order}
use Rattle.gw_stamp.proofs.place.place_from.Goals as goal

pub returns-in-Equal-clause-place : goal.returns-in-Equal-clause-place
returns-in-Equal-clause-place c =
    let list = c.args.list.now in
    let name = c.args.name.now in
    let item = c.entry_at.result.now in
    let within : c.args.at < length list = omega arith in
    let equal : name_order item.name name ≡ Equal = search rules in
    standing name list c.requires c.args.at item within (c.entry_at.ensures item) equal
