-- What was prepared is done.
use Rattle.std.proofs.Common.{◌∙◌, ap, sym}
use Rattle.std.specs.Arc.{arc_value}
use Rattle.gw_store.specs.SeenEvents.{seen_event}
use Rattle.gw_resolve.specs.Cores.{Core, Preparation}
use Rattle.gw_resolve.proofs.Committing.{done}
use Rattle.gw_resolve.proofs.resolver.Core.commit.Goals as goal

pub invariant_of-self : goal.invariant_of-self
invariant_of-self c =
    let p : Preparation = record { core = c.p.inside.core.value; change = record { event = seen_event c.p.inside.event; at = c.p.inside.at } } in
    let core : Core = record { store = c.self.inside.world; doors = arc_value c.self.inside.doors; controller = arc_value c.self.inside.controller; index = c.self.inside.index } in
    done p core c.p.inside.kept c.p.inside.statuses (arc_value c.p.inside.tables) c.p.inside.patch _ _
    (ap (λ (q : Preparation). q.core) c.p.view_is ∙ c.requires ∙ sym c.self.view_is) c.p.invariant c.put.ensures c.apply.ensures
