-- One entry more is done.
use Rattle.std.proofs.Common.{◌≡◌, ◌+◌, ◌<◌, ◌++◌, [], arith, count_by, length, rules, take}
use Rattle.std.proofs.lemmas.Grind.{common_steps}
use Rattle.gw_stamp.proofs.Walking.{parent_done}
use Rattle.gw_stamp.specs.Stated.{parent_stated, parents_stated, same_parent}
use Rattle.gw_stamp.proofs.stated.route_stated.Goals as goal

pub parents-preserved : goal.parents-preserved
parents-preserved c =
    let key = c.args.status.now.key in
    let all = c.as_slice-parents.result.now in
    let i = c.parents.index in
    let p = c.index-parents-index.result in
    let number = c.in_ok-number.number in
    let within : i < length all = omega arith in
    let count : number ≡ count_by (same_parent p) (take i all) = first_of (search rules, grind (arith, common_steps)) in
    let more : c.push_parent.new.stated ≡ c.parents.stated ++ parent_stated key number p = search rules in
    parent_done key all i (i + 1) p number (parents_stated key [] all) c.parents.stated c.push_parent.new.stated (omega arith) within c.index-parents-index.is count more c.parents.invariant
