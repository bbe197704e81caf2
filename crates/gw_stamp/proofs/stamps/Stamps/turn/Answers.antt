-- What has the status stays, and gives way otherwise.
use Rattle.std.proofs.Common.{◌≡◌, ◌∙◌, ◌+◌, ◌<◌, List, length, true, false, sym, ap, subst, arith, rules}
use Rattle.std.specs.Bool.{beq}
use Rattle.gw_store.proofs.InOrder.{StandsAt}
use Rattle.gw_stamp.proofs.Placing.{beq_other, beq_same, is_placed, kept, put_in_order, turned_to}
use Rattle.gw_stamp.specs.Entries.{IsInOrder, entry_of, entry_order, stamp_at}
use Rattle.gw_stamp.specs.Stamping.{with_one}
use Rattle.gw_stamp.specs.declared.entry.Entry.{Entry}
use Rattle.gw_stamp.proofs.stamps.Stamps.turn.Goals as goal

pub returns-then-entry_at-truth : goal.returns-then-entry_at-truth
returns-then-entry_at-truth c =
    let list = c.self.inside.list in
    let name = c.args.name.now in
    let place = c.args.place in
    let item = c.entry_at.result.now in
    let same : list ≡ c.args.self.now = search rules in
    let stands : StandsAt entry_order (entry_of name) list place = subst (λ (l : List Entry). StandsAt entry_order (entry_of name) l place) (sym same) c.requires.place in
    let has : beq item.truth c.args.truth ≡ true = search (rules, beq_same) in
    subst (λ (l : List Entry). stamp_at l ≡ with_one c.args.at name c.args.truth (stamp_at l)) same
    (kept name c.args.truth c.args.at list place item stands (c.entry_at.ensures item) has)

pub invariant_of-self-2 : goal.invariant_of-self-2
invariant_of-self-2 c =
    let list = c.self.inside.list in
    let name = c.args.name.now in
    let place = c.args.place in
    let e : Entry = record { name = name; truth = c.args.truth; since = c.args.at } in
    let same : list ≡ c.args.self.now = search rules in
    let stands : StandsAt entry_order (entry_of name) list place = subst (λ (l : List Entry). StandsAt entry_order (entry_of name) l place) (sym same) c.requires.place in
    let within : place < length list = subst (λ (l : List Entry). place < length l) (sym same) c.requires.within in
    subst IsInOrder (sym (is_placed list c.put.new.self place (place + 1) c.in_ok-entry.entry e (omega arith) within c.in_ok-entry.ensures c.in_ok-put.ensures.put))
    (put_in_order e list place c.self.invariant stands)

pub returns : goal.returns
returns c =
    let list = c.self.inside.list in
    let name = c.args.name.now in
    let place = c.args.place in
    let item = c.entry_at.result.now in
    let e : Entry = record { name = name; truth = c.args.truth; since = c.args.at } in
    let same : list ≡ c.args.self.now = search rules in
    let stands : StandsAt entry_order (entry_of name) list place = subst (λ (l : List Entry). StandsAt entry_order (entry_of name) l place) (sym same) c.requires.place in
    let within : place < length list = subst (λ (l : List Entry). place < length l) (sym same) c.requires.within in
    let has : beq item.truth c.args.truth ≡ false = search (rules, beq_other) in
    ap stamp_at (is_placed list c.put.new.self place (place + 1) c.in_ok-entry.entry e (omega arith) within c.in_ok-entry.ensures c.in_ok-put.ensures.put)
    ∙ turned_to name c.args.truth c.args.at list place item stands (c.entry_at.ensures item) has
    ∙ ap (λ (l : List Entry). with_one c.args.at name c.args.truth (stamp_at l)) same
