-- The names that were gathered test as those of Connection.
use Rattle.std.proofs.Common.{◌≡◌, ◌++◌, map, subst}
use Rattle.std.specs.List.{flat_map}
use Rattle.std.specs.Prelude.{OnOk}
use Rattle.gw_replies.specs.model.Written.{ended_line, field_lines}
use Rattle.gw_replies.proofs.Hops.{without_by}
use Rattle.gw_replies.proofs.write.push_without.Goals as goal

pub returns : goal.returns
returns c =
    let names = map (λ n. n.now) c.args.names.now in
    subst (λ others. OnOk c.push_others.result (c.push_others.new.out.items ≡ c.args.out.now.items ++ flat_map ended_line (field_lines others))) (without_by names c.in_ok-options.options c.args.fields.now c.in_ok-options.ensures) c.push_others.ensures
