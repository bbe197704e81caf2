-- The edges of one subject are those that name it.
use Rattle.std.proofs.Common.{◌∙◌, ◌||◌, ap}
use Rattle.std.specs.List.{list_any}
use Rattle.gw_text.specs.model.Names.{same_key}
use Rattle.gw_deps.specs.Edges.{has_key}
use Rattle.gw_deps.proofs.Depending.{named_from}
use Rattle.gw_deps.proofs.Results.{on_ok}
use Rattle.gw_deps.proofs.touching.add_dependants.Goals as goal

pub returns : goal.returns
returns c =
    on_ok c.add_all.result c.add_all.ensures (λ step k.
    step k ∙ ap (λ b. b || has_key k c.args.keys.now.list) (ap (λ l. list_any (λ e. same_key e.dependant k) l) c.edges_from.ensures ∙ named_from k (record { namespace = c.args.namespace.now; name = c.args.name.now }) c.args.edges.now.list))
