-- What came of the lines so far, and then comes of the rest, is what comes of all.
use Rattle.std.proofs.Common.{◌≡◌, ◌++◌, ◌≤◌, List, length, map, drop, vec_capacity, Result}
use Rattle.gw_json.specs.declared.refusal.Refusal.{Refusal}
use Rattle.gw_resolve.specs.declared.outcome.Outcome.{Outcome}
use Rattle.gw_store.specs.declared.event.Entry.{Entry}
use Rattle.gw_hub.specs.Turns.{ComeInTurn, event_lines}
use Rattle.gw_hub.proofs.desk.change_in_turn.Given as goal

abbrev pub invariant-lines : goal.invariant-lines
invariant-lines g l = record {
  come : (answers : List (Result Outcome Refusal)) (changes : List Entry) →
      ComeInTurn l.at (map (λ line. line.now) (drop l.line-index l.line-items)) answers l.controller.changes changes →
      ComeInTurn l.at (event_lines l.input) (l.answers.items ++ answers) l.fn.controller.changes changes;
  counted : length l.answers.items ≡ l.line-index;
  room : length l.line-items ≤ vec_capacity l.answers;
  published : l.controller.published ≡ l.fn.controller.published;
  doors : l.controller.doors ≡ l.fn.controller.doors;
  controller : l.controller.controller ≡ l.fn.controller.controller;
  book : l.controller.book ≡ l.fn.controller.book;
}
