-- The value is the definition's, of which the law speaks.
use Rattle.std.proofs.Common.{rules, ◌≡◌}
use Rattle.gw_text.specs.model.Hostnames.{meets}
use Rattle.gw_host.proofs.CommonNames.{common_name}
use Rattle.gw_host.proofs.meets.Goals as goal

pub returns-in-true-true-clause-common_name : goal.returns-in-true-true-clause-common_name
returns-in-true-true-clause-common_name c =
    let value : c.have_common_suffix.result ≡ meets c.args.a.now c.args.b.now = search rules in
    common_name c.args.a.now c.args.b.now c.have_common_suffix.result value

pub returns-in-false-false-clause-common_name : goal.returns-in-false-false-clause-common_name
returns-in-false-false-clause-common_name c =
    let value : c.eq.result ≡ meets c.args.a.now c.args.b.now = search rules in
    common_name c.args.a.now c.args.b.now c.eq.result value
