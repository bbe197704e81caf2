-- The rows so far, and then those of the other matches, are those of all.
use Rattle.std.proofs.Common.{◌≡◌, ◌++◌, map, drop}
use Rattle.std.specs.List.{enumerate_from}
use Rattle.gw_rows.specs.model.DoorRows.{row_of}
use Rattle.gw_eval.proofs.door_rows.push_rule.Given as goal

abbrev pub invariant-matches : goal.invariant-matches
invariant-matches l =
    l.all.items ++ map (row_of l.listener l.route l.hostname l.rule.number l.rule.plan) (enumerate_from l.place (drop l.place l.rule.rule.matches))
    ≡ l.fn.all.items ++ map (row_of l.listener l.route l.hostname l.rule.number l.rule.plan) (enumerate_from 0 l.rule.rule.matches)
