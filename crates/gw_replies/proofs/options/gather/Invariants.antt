use Rattle.std.proofs.Common.{◌≡◌, ◌++◌, map, drop}
use Rattle.gw_replies.specs.model.Hops.{connection_options}
use Rattle.gw_replies.proofs.options.gather.Given as goal

abbrev pub invariant-fields : goal.invariant-fields
invariant-fields l =
    map (λ n. n.now) l.names.items ++ connection_options (drop l.field-index l.fields) ≡ connection_options l.fields
