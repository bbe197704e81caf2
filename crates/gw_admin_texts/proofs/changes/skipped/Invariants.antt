-- How many are skipped so far.
use Rattle.std.proofs.Common.{◌≡◌, ◌≤◌, take}
use Rattle.gw_admin_texts.specs.model.Submissions.{skipped_in}
use Rattle.gw_admin_texts.proofs.changes.skipped.Given as goal

abbrev pub invariant-answers : goal.invariant-answers
invariant-answers l = record {
  count : l.skipped ≡ skipped_in (take l.answer-index l.answers);
  few : l.skipped ≤ l.answer-index;
}
