-- By what stands at the place of the name, if anything does.
use Rattle.std.proofs.Common.{◌≡◌, List, subst, rules}
use Rattle.std.specs.Prelude.{pos}
use Rattle.gw_stamp.proofs.Placing.{time_in_missing, time_in_standing}
use Rattle.gw_stamp.specs.Entries.{stamp_at}
use Rattle.gw_stamp.specs.Stamping.{time_in}
use Rattle.gw_stamp.specs.declared.entry.Entry.{Entry}
use Rattle.gw_stamp.proofs.times.time_from.Goals as goal

pub returns-in-Ok : goal.returns-in-Ok
returns-in-Ok c =
    let list = c.stamps.inside.list in
    let name = c.args.name.now in
    let item = c.entry_at.result.now in
    let same : list ≡ c.args.stamps.now = search rules in
    subst (λ (l : List Entry). item.since ≡ time_in (stamp_at l) name) same (time_in_standing name list c.in-Ok.place item c.in-Ok.ensures.place (c.entry_at.ensures item))

pub returns-in-Err : goal.returns-in-Err
returns-in-Err c =
    let list = c.stamps.inside.list in
    let name = c.args.name.now in
    let same : list ≡ c.args.stamps.now = search rules in
    subst (λ (l : List Entry). pos 0 ≡ time_in (stamp_at l) name) same (time_in_missing name list c.in-Err.field-0 c.in-Err.ensures.place)
