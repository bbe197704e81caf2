-- The parts that there are, or were made without slices, get room.
use Rattle.std.proofs.Common.{◌≡◌, ◌∙◌, sym}
use Rattle.gw_store.proofs.Parts.{IsBegun, begun_before, begun_empty, begun_kept, least_of_all, none_counted, ok_more, some_counted}
use Rattle.gw_store.proofs.by_service.ByService.reserve.Goals as goal
use Rattle.gw_store.proofs.by_service.ByService.reserve.Goals.{then-is_empty+in_ok-self-inside, else-is_empty}

begun : (c : goal.After-reserve_each) → IsBegun c.if-is_empty.self-inside.parts.items c.args.self.now.slices
begun c =
    let parts = c.self.inside.parts.items in
    elim c.if-is_empty.branch [
      | then-is_empty+in_ok-self-inside w ↦ (
          let none = none_counted c.self.inside.parts.len parts c.self.inside.parts.ok.0 (sym c.is_empty.ensures ∙ w.if-is_empty.true) in
          rw (← c.self.view_is, w.self-inside-is) (begun_empty w.in_ok-self-inside.field-0.items parts w.in_ok-self-inside.ensures.count w.in_ok-self-inside.ensures.empty none))
      | else-is_empty w ↦ (
          let some = some_counted c.self.inside.parts.len parts c.self.inside.parts.ok.0 (sym c.is_empty.ensures ∙ w.if-is_empty.false) in
          rw (← c.self.view_is, w.self-inside-is) (begun_before parts c.self.invariant some))
    ]

kept : (c : goal.After-reserve_each) → IsBegun c.reserve_each.new.parts.items c.args.self.now.slices
kept c = begun_kept c.if-is_empty.self-inside.parts.items c.reserve_each.new.parts.items c.args.self.now.slices (begun c) c.reserve_each.ensures.slices

pub invariant_of-self : goal.invariant_of-self
invariant_of-self c = (kept c).parted

pub returns-clause-slices : goal.returns-clause-slices
returns-clause-slices c = (kept c).same

pub returns-clause-ok : goal.returns-clause-ok
returns-clause-ok c = ok_more c.reserve_each.result (λ all. least_of_all c.reserve_each.new.parts.items (kept c).some all) c.reserve_each.ensures.ok
