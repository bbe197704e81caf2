-- By what stands at the place of the name, if anything does.
use Rattle.std.proofs.Common.{◌≡◌, List, Some, None, subst, rules}
use Rattle.gw_stamp.proofs.Placing.{time_missing, time_standing}
use Rattle.gw_stamp.specs.Entries.{stamp_at}
use Rattle.gw_stamp.specs.Stamping.{time_of}
use Rattle.gw_stamp.specs.declared.entry.Entry.{Entry}
use Rattle.gw_stamp.proofs.stamps.Stamps.at.Goals as goal

pub returns-in-Ok : goal.returns-in-Ok
returns-in-Ok c =
    let list = c.self.inside.list in
    let name = c.args.name.now in
    let item = c.entry_at.result.now in
    let same : list ≡ c.args.self.now = search rules in
    subst (λ (l : List Entry). Some item.since ≡ time_of (stamp_at l) name) same (time_standing name list c.in-Ok.place item c.in-Ok.ensures.place (c.entry_at.ensures item))

pub returns-in-Err : goal.returns-in-Err
returns-in-Err c =
    let list = c.self.inside.list in
    let name = c.args.name.now in
    let same : list ≡ c.args.self.now = search rules in
    subst (λ (l : List Entry). None ≡ time_of (stamp_at l) name) same (time_missing name list c.in-Err.field-0 c.in-Err.ensures.place)
