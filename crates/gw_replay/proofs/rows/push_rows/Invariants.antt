-- The text so far, with the lines of the other rows, is the whole.
use Rattle.std.proofs.Common.{◌≡◌, ◌++◌, drop, string_bytes}
use Rattle.gw_replay.specs.Pairs.{paired_text}
use Rattle.gw_replay.proofs.rows.push_rows.Given as goal

abbrev pub invariant-rows : goal.invariant-rows
invariant-rows l =
    string_bytes l.text ++ paired_text l.said.name.now l.said.line (drop l.row-index l.rows) l.left
    ≡ string_bytes l.fn.text ++ paired_text l.said.name.now l.said.line l.rows l.fn.exchanges
