-- The pick's number is below its weight, so it takes one more; at the end of a round the numbers are the weights.
use Rattle.std.proofs.Common.{◌≡◌, ◌<◌, ◌+◌, ◌≢◌, ap, ◌∙◌, sym, arith, length, sum, set, replicate, Some, refl}
use Rattle.std.proofs.lemmas.List.{get_or_read, length-set, with_items_is}
use Rattle.std.specs.Vec.{with_item}
use Rattle.gw_text.specs.model.Picks.{counted, zeros, after_pick}
use Rattle.gw_weight.proofs.Claims.{inside-Picked, counted-IsKept, pick-below_weight, sum-counted, after_pick-over, Shares-after, length-zeros}
use Rattle.gw_weight.proofs.shares.Shares.count.Goals as goal

pub index-requires : goal.index-requires
index-requires c =
    let s = c.self.inside in
    let picked = inside-Picked s.weights.items s.drawn.items c.args.self.now c.args.i c.self.view_is c.requires in
    omega (arith, picked.within, c.self.invariant.kept.lengths)

pub index-requires-2 : goal.index-requires-2
index-requires-2 c =
    let s = c.self.inside in
    let picked = inside-Picked s.weights.items s.drawn.items c.args.self.now c.args.i c.self.view_is c.requires in
    omega (arith, picked.within)

pub index_mut-requires : goal.index_mut-requires
index_mut-requires c =
    let s = c.self.inside in
    let picked = inside-Picked s.weights.items s.drawn.items c.args.self.now c.args.i c.self.view_is c.requires in
    omega (arith, picked.within, c.self.invariant.kept.lengths)

pub prove-unreachable-requires : goal.prove-unreachable-requires
prove-unreachable-requires c =
    let s = c.self.inside in
    let picked = inside-Picked s.weights.items s.drawn.items c.args.self.now c.args.i c.self.view_is c.requires in
    let lengths = c.self.invariant.kept.lengths in
    let number = get_or_read s.drawn.items c.args.i c.index.result.now (omega (arith, picked.within, lengths)) c.index.ensures 0 in
    let weight = get_or_read s.weights.items c.args.i c.index-2.result.now picked.within c.index-2.ensures 0 in
    let below = pick-below_weight s.weights.items s.drawn.items c.args.i c.self.invariant.kept picked in
    omega (arith, number, weight, below, c.if-prove.true)

pub overflow_add-index_mut : goal.overflow_add-index_mut
overflow_add-index_mut c =
    let s = c.self.inside in
    let picked = inside-Picked s.weights.items s.drawn.items c.args.self.now c.args.i c.self.view_is c.requires in
    let within : c.args.i < length s.drawn.items = omega (arith, picked.within, c.self.invariant.kept.lengths) in
    let now = get_or_read s.drawn.items c.args.i c.index_mut.result.now within c.index_mut.ensures.value 0 in
    let before = get_or_read s.drawn.items c.args.i c.index.result.now within c.index.ensures 0 in
    omega (arith, now, before, c.if-prove.false)

pub invariant_of-self-else-self : goal.invariant_of-self-else-self
invariant_of-self-else-self c =
    let s = c.self.inside in
    let kept = c.self.invariant.kept in
    let picked = inside-Picked s.weights.items s.drawn.items c.args.self.now c.args.i c.self.view_is c.requires in
    let within : c.args.i < length s.drawn.items = omega (arith, picked.within, kept.lengths) in
    let one_more : set s.drawn.items c.args.i (c.index_mut.result.now + 1) ≡ counted s.drawn.items c.args.i =
    ap (λ n. set s.drawn.items c.args.i (n + 1)) (get_or_read s.drawn.items c.args.i c.index_mut.result.now within c.index_mut.ensures.value 0) in
    let sums : sum (counted s.drawn.items c.args.i) ≡ sum s.drawn.items + 1 = sum-counted s.drawn.items c.args.i within in
    let picks : s.picks ≡ sum s.drawn.items = c.self.invariant.picks_is in
    let total : s.total ≡ sum s.weights.items = c.self.invariant.total_is in
    let unfinished : sum (counted s.drawn.items c.args.i) ≢ sum s.weights.items = λ e. c.if-self.false (omega arith) in
    rw one_more (record {
      kept = counted-IsKept s.weights.items s.drawn.items c.args.i kept picked unfinished;
      total_is = total;
      picks_is = omega arith;
      small = c.self.invariant.small;
    })

pub returns-then-self : goal.returns-then-self
returns-then-self c =
    let s = c.self.inside in
    let kept = c.self.invariant.kept in
    let picked = inside-Picked s.weights.items s.drawn.items c.args.self.now c.args.i c.self.view_is c.requires in
    let within : c.args.i < length s.drawn.items = omega (arith, picked.within, kept.lengths) in
    let sums : sum (counted s.drawn.items c.args.i) ≡ sum s.drawn.items + 1 = sum-counted s.drawn.items c.args.i within in
    let picks : s.picks ≡ sum s.drawn.items = c.self.invariant.picks_is in
    let total : s.total ≡ sum s.weights.items = c.self.invariant.total_is in
    let over : sum (counted s.drawn.items c.args.i) ≡ sum s.weights.items = omega (arith, c.if-self.true) in
    let none : after_pick s.weights.items s.drawn.items (Some c.args.i) ≡ zeros s.weights.items =
    after_pick-over s.weights.items s.drawn.items c.args.i over in
    let lengths : length c.as_mut_slice.result.now ≡ length s.weights.items =
    ap length c.as_mut_slice.ensures.value ∙ length-set s.drawn.items c.args.i (c.index_mut.result.now + 1) ∙ kept.lengths in
    let cleared : c.return_to_zero.new.numbers ≡ zeros s.weights.items = c.return_to_zero.ensures ∙ ap (λ n. replicate n 0) lengths in
    let size : length c.return_to_zero.new.numbers ≡ s.drawn.len = ap length cleared ∙ length-zeros s.weights.items ∙ sym kept.lengths ∙ sym s.drawn.ok.0 in
    let written = with_items_is (with_item s.drawn c.args.i (c.index_mut.result.now + 1)) c.return_to_zero.new.numbers size in
    Shares-after _ _ _ c.args.i c.self.view_is refl (written ∙ cleared ∙ sym none)
