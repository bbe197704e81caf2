-- Each turn makes the next one.
use Rattle.gw_shared.specs.model.Buckets.{part_of}
use Rattle.gw_shared.proofs.Places.{made_more}
use Rattle.gw_shared.proofs.buckets.Buckets.spread.Goals as goal

pub places-preserved : goal.places-preserved
places-preserved g c =
    made_more (part_of c.args.number c.args.self.now) c.places.spread.items c.push.new.self.items c.places.place
    c.in_ok-part.field-0 c.in_ok-push.ensures.items c.in_ok-part.ensures c.places.invariant
