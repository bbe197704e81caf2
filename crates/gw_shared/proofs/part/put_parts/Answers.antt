-- The only part is set in the place of the former.
use Rattle.std.proofs.Common.{◌≡◌, rules, length}
use Rattle.gw_shared.proofs.Elements.{one_put}
use Rattle.gw_shared.proofs.part.put_parts.Goals as goal

pub returns-then-len-eq1-clause-put : goal.returns-then-len-eq1-clause-put
returns-then-len-eq1-clause-put g c =
    let size : length c.args.others.items ≡ 1 = search rules in
    one_put c.args.parts.now.items c.args.others.items c.args.at c.remove.result size c.remove.ensures.value c.requires
