-- An entry more is counted.
use Rattle.std.proofs.Common.{◌≡◌, ◌^◌, ◌<◌, rules, length, get_or, take}
use Rattle.std.proofs.lemmas.List.{take_more}
use Rattle.gw_eval.proofs.Counting.{below_counted, counted_step}
use Rattle.gw_eval.proofs.attached.Counts.count_route.Goals as goal

pub count-requires-clause-room : goal.count-requires-clause-room
count-requires-clause-room c = below_counted (2 ^ 63) c.args.self.now c.entries.self (take c.entries.index c.args.entries.now) c.entries.invariant c.requires.room

pub entries-preserved : goal.entries-preserved
entries-preserved c =
    let all = c.args.entries.now in
    let i = c.entries.index in
    let item = c.index-entries-index.result in
    let within : i < length all = search rules in
    let here : item ≡ get_or all i item = search rules in
    rw (take_more all i item within, ← here)
    (counted_step c.args.self.now c.entries.self c.count.new.self (take i all) item c.entries.invariant c.count.ensures.rows c.count.ensures.numbers)
