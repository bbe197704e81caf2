-- The attachments so far are those of the entries so far.
use Rattle.std.proofs.Common.{◌≡◌, map, take}
use Rattle.gw_eval.specs.Counting.{entries_in}
use Rattle.gw_eval.proofs.result.attachments.Given as goal

abbrev pub invariant-entries : goal.invariant-entries
invariant-entries l = l.all ≡ map (λ e. e.attachment) (entries_in (take l.entry-index l.entries))
