-- What wasn't there comes to its place.
use Rattle.std.proofs.Common.{◌≡◌, ◌∙◌, List, sym, ap, subst, rules}
use Rattle.gw_stamp.proofs.Placing.{come, come_in_order, is_inserted}
use Rattle.gw_stamp.specs.Entries.{IsInOrder, stamp_at}
use Rattle.gw_stamp.specs.Stamping.{with_one}
use Rattle.gw_stamp.specs.declared.entry.Entry.{Entry}
use Rattle.gw_stamp.proofs.stamps.Stamps.state.Goals as goal

pub invariant_of-self-in-Err : goal.invariant_of-self-in-Err
invariant_of-self-in-Err c =
    let list = c.self.inside.list in
    let place = c.in-Err.place in
    let e : Entry = record { name = c.args.name.now; truth = c.args.truth; since = c.args.at } in
    subst IsInOrder (sym (is_inserted list c.insert.new.self place c.in_ok-entry-in-Err.entry e c.in_ok-entry-in-Err.ensures c.in_ok-insert-in-Err.ensures.inserted))
    (come_in_order e list place c.self.invariant c.in-Err.ensures.place)

pub returns-in_ok-insert-in-Err : goal.returns-in_ok-insert-in-Err
returns-in_ok-insert-in-Err c =
    let list = c.self.inside.list in
    let name = c.args.name.now in
    let place = c.in-Err.place in
    let e : Entry = record { name = name; truth = c.args.truth; since = c.args.at } in
    let same : list ≡ c.args.self.now = search rules in
    ap stamp_at (is_inserted list c.insert.new.self place c.in_ok-entry-in-Err.entry e c.in_ok-entry-in-Err.ensures c.in_ok-insert-in-Err.ensures.inserted)
    ∙ come name c.args.truth c.args.at list place c.in-Err.ensures.place
    ∙ ap (λ (l : List Entry). with_one c.args.at name c.args.truth (stamp_at l)) same
