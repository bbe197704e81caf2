-- What stands at the place of the name goes.
use Rattle.std.proofs.Common.{◌≡◌, ◌∙◌, ◌+◌, List, sym, ap, subst, arith, rules}
use Rattle.gw_stamp.proofs.Placing.{is_removed, nothing_removed, removed, removed_in_order}
use Rattle.gw_stamp.specs.Entries.{IsInOrder, stamp_at}
use Rattle.gw_stamp.specs.Stamping.{without_name}
use Rattle.gw_stamp.specs.declared.entry.Entry.{Entry}
use Rattle.gw_stamp.proofs.stamps.Stamps.take_out.Goals as goal

pub invariant_of-self-in-Ok : goal.invariant_of-self-in-Ok
invariant_of-self-in-Ok c =
    let list = c.self.inside.list in
    let name = c.args.name.now in
    let place = c.in-Ok.place in
    subst IsInOrder (sym (is_removed list c.remove.new.self place (place + 1) (omega arith) c.in_ok-remove-in-Ok.ensures.removed))
    (removed_in_order name list place c.self.invariant c.in-Ok.ensures.place)

pub returns-in_ok-remove-in-Ok : goal.returns-in_ok-remove-in-Ok
returns-in_ok-remove-in-Ok c =
    let list = c.self.inside.list in
    let name = c.args.name.now in
    let place = c.in-Ok.place in
    let same : list ≡ c.args.self.now = search rules in
    ap stamp_at (is_removed list c.remove.new.self place (place + 1) (omega arith) c.in_ok-remove-in-Ok.ensures.removed)
    ∙ removed name list place c.in-Ok.ensures.place
    ∙ ap (λ (l : List Entry). without_name name (stamp_at l)) same

pub returns-in-Err : goal.returns-in-Err
returns-in-Err c =
    let list = c.self.inside.list in
    let name = c.args.name.now in
    let same : list ≡ c.args.self.now = search rules in
    subst (λ (l : List Entry). stamp_at l ≡ without_name name (stamp_at l)) same (nothing_removed name list c.in-Err.field-0 c.in-Err.ensures.place)
