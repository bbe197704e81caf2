-- How many changes were taken.
use Rattle.std.proofs.Common.{◌∙◌, ap, length}
use Rattle.gw_hub.specs.Control.{Control}
use Rattle.gw_hub.proofs.Following.{counted}
use Rattle.gw_text.specs.model.World.{World}
use Rattle.gw_hub.proofs.controller.Controller.changes.Goals as goal

pub returns-clause-count : goal.returns-clause-count
returns-clause-count g c =
    c.changes.ensures ∙ ap (λ (w : World). w.changes) c.self.invariant.world ∙ counted c.self.inside.publisher.pending
    ∙ ap (λ (k : Control). length k.changes) c.self.view_is
