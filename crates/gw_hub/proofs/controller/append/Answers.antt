-- An entry more, with the tables after it.
use Rattle.std.proofs.Common.{[], ◌∷◌, ◌++◌, ◌∙◌, ap, arith, sym}
use Rattle.std.proofs.lemmas.Grind.{merely}
use Rattle.std.specs.Arc.{arc_value}
use Rattle.gw_match.specs.model.Telling.{world_after}
use Rattle.gw_resolve.specs.Cores.{world_with}
use Rattle.gw_text.specs.model.Objects.{Change}
use Rattle.gw_text.specs.model.World.{World, apply}
use Rattle.gw_hub.proofs.Following.{counted, room_left, tables_stand, world_more}
use Rattle.gw_hub.proofs.controller.append.Goals as goal

pub append-requires-clause-few : goal.append-requires-clause-few
append-requires-clause-few g c =
    let p = c.args.prepared.now in
    omega (arith, room_left p.core.store.world p.change.event c.entry.ensures.fits, ap (λ (w : World). w.changes) c.requires.follows ∙ counted c.args.publisher.now.pending)

pub append-requires-clause-tells : goal.append-requires-clause-tells
append-requires-clause-tells g c =
    let p = c.args.prepared.now in
    let changes = c.args.publisher.now.pending in
    let entry = c.in_ok-entry.entry in
    let after = ap (λ (w : World). apply w p.change) c.requires.follows ∙ ap (λ (change : Change). apply (world_after changes) change) (sym c.in_ok-entry.ensures.entry)
    ∙ sym (world_more changes entry) in
    merely (tables_stand p.core.doors p.core.controller (world_with p) (arc_value c.in_ok-tables.tables) (changes ++ entry ∷ []) after c.in_ok-tables.ensures)
