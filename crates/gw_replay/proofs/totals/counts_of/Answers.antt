-- A status more.
use Rattle.std.proofs.Common.{◌∙◌, ℕ, List, ap, sym, arith, get_or, take}
use Rattle.std.proofs.lemmas.List.{take_more}
use Rattle.gw_replay.specs.Lines.{counts_of, one_more}
use Rattle.gw_replay.proofs.Counting.{counts_of-more}
use Rattle.gw_replay.proofs.totals.counts_of.Goals as goal

pub statuses-preserved : goal.statuses-preserved
statuses-preserved c = record {
  counted = c.in_ok-count.ensures.counted ∙ ap (λ (xs : List (ℕ × ℕ)). one_more xs (get_or c.args.statuses.now c.statuses.status-index 0)) c.statuses.invariant.counted
      ∙ sym (ap counts_of (take_more c.args.statuses.now c.statuses.status-index 0 (omega arith)) ∙ counts_of-more (take c.statuses.status-index c.args.statuses.now) (get_or c.args.statuses.now c.statuses.status-index 0));
  few = c.in_ok-count.ensures.few c.statuses.status-index c.statuses.invariant.few;
}
