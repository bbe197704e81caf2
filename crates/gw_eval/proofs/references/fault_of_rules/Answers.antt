-- The first rule with a reason has the first reason.
use Rattle.std.proofs.Common.{◌≡◌, ◌∙◌, ◌<◌, rules, length, get_or}
use Rattle.gw_eval.proofs.FirstOf.{rule_first, rule_passed}
use Rattle.gw_eval.proofs.references.fault_of_rules.Goals as goal

pub rules-preserved : goal.rules-preserved
rules-preserved c =
    let i = c.rules.rule-index in
    let item = c.rule-item.result in
    let within : i < length c.args.rules.now = search rules in
    let here : item ≡ get_or c.args.rules.now i item = search rules in
    c.rules.invariant ∙ rule_passed c.args.world.now.world c.args.namespace.now c.args.rules.now i item within here (search rules)

pub returns-then-is_some : goal.returns-then-is_some
returns-then-is_some c =
    let i = c.rules.rule-index in
    let item = c.rule-item.result in
    let within : i < length c.args.rules.now = search rules in
    let here : item ≡ get_or c.args.rules.now i item = search rules in
    rule_first c.args.world.now.world c.args.namespace.now c.args.rules.now i item c.in_ok-reason.reason _ within here (search rules) (search rules) c.rules.invariant
