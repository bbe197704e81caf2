-- The names that were gathered test as those of Connection.
use Rattle.std.proofs.Common.{◌≡◌, map, subst}
use Rattle.std.specs.Result.{IfOk}
use Rattle.gw_replies.proofs.Hops.{without_by}
use Rattle.gw_replies.proofs.hop.without.Goals as goal

pub returns : goal.returns
returns c =
    let names = map (λ n. n.now) c.args.names.now in
    subst (λ others. IfOk c.others.result (λ kept. kept ≡ others)) (without_by names c.in_ok-options.options c.args.fields.now c.in_ok-options.ensures) c.others.ensures
