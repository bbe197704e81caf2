-- One count more.
use Rattle.std.proofs.Common.{◌≡◌, ◌∙◌, ℕ, ◌+◌, List, sym, subst, ap, arith}
use Rattle.gw_replay.specs.Lines.{one_more}
use Rattle.gw_replay.specs.States.{AreAtMost}
use Rattle.gw_replay.proofs.Counting.{at_most_at, at_most_more, counted_at, counted_behind, same_item}
use Rattle.gw_replay.proofs.totals.count.Goals as goal

pub overflow_add-index_mut : goal.overflow_add-index_mut
overflow_add-index_mut c =
    let few = at_most_at c.requires.0 c.counts.counts.items c.counts.place c.index_mut.result.now
    (subst (λ (xs : List (ℕ × ℕ)). AreAtMost c.requires.0 xs) (sym c.counts.invariant.same) c.requires.1.0) (omega arith) c.index_mut.ensures.value in
    omega (arith, few, c.requires.1.1)

pub returns-then-index-status-clause-counted : goal.returns-then-index-status-clause-counted
returns-then-index-status-clause-counted c =
    let same = same_item c.counts.counts.items c.counts.place c.index.result.now c.index_mut.result.now (omega arith) c.index.ensures c.index_mut.ensures.value in
    counted_at c.counts.counts.items c.counts.place c.args.status c.index_mut.result.now c.counts.invariant.others
    (subst (λ (e : ℕ × ℕ). e.0 ≡ c.args.status) same c.if-index-status.true) (omega arith) c.index_mut.ensures.value
    ∙ ap (λ (xs : List (ℕ × ℕ)). one_more xs c.args.status) c.counts.invariant.same

pub returns-then-index-status-clause-few : goal.returns-then-index-status-clause-few
returns-then-index-status-clause-few c = λ n few.
    subst (λ (xs : List (ℕ × ℕ)). AreAtMost (n + 1) xs) (sym (returns-then-index-status-clause-counted c)) (at_most_more n c.args.counts.now.items c.args.status few)

pub returns-clause-counted : goal.returns-clause-counted
returns-clause-counted c =
    c.in_ok-push.ensures.items ∙ counted_behind c.counts.counts.items c.args.status (λ k lt. c.counts.invariant.others k (omega (arith, lt)))
    ∙ ap (λ (xs : List (ℕ × ℕ)). one_more xs c.args.status) c.counts.invariant.same

pub returns-clause-few : goal.returns-clause-few
returns-clause-few c = λ n few.
    subst (λ (xs : List (ℕ × ℕ)). AreAtMost (n + 1) xs) (sym (returns-clause-counted c)) (at_most_more n c.args.counts.now.items c.args.status few)
