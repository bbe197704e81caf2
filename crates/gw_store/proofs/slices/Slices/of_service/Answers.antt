-- The slices of the Service's digest.
use Rattle.std.proofs.Common.{◌≡◌, rules}
use Rattle.gw_text.specs.model.Stored.{objects_of}
use Rattle.gw_store.specs.ByService.{service_digest}
use Rattle.gw_store.proofs.SlicesOf.{finds_slices}
use Rattle.gw_store.proofs.slices.Slices.of_service.Goals as goal

pub returns : goal.returns
returns c =
    let service = c.args.service.now in
    let digest : c.service_digest-digest.result ≡ service_digest service.namespace service.name = search rules in
    let finds = finds_slices service (objects_of c.self.inside.table.stored) c.self.inside.by_service.slices c.self.invariant in
    rw (← c.self.view_is) (rw (← finds, ← digest, ← c.of_digest.ensures) (search rules))
