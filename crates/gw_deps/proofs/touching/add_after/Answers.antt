-- What the object that was put says itself comes to what was before.
use Rattle.std.proofs.Common.{◌≡◌, ◌∙◌, ◌||◌, ap, ap₂, rules}
use Rattle.gw_text.specs.model.Names.{same_key}
use Rattle.gw_text.specs.model.World.{gateway_key}
use Rattle.gw_deps.specs.Edges.{has_key}
use Rattle.gw_deps.specs.Touching.{Touched, depends_on_slice}
use Rattle.gw_deps.proofs.ByKind.{after_gateway, after_route, after_slice}
use Rattle.gw_deps.proofs.Results.{on_ok, on_ok_two}
use Rattle.gw_deps.proofs.touching.add_after.Goals as goal

pub returns-in_ok-key-in-Gateway : goal.returns-in_ok-key-in-Gateway
returns-in_ok-key-in-Gateway c =
    let key : c.in_ok-key-in-Gateway.key ≡ gateway_key c.in-Gateway.gateway = search rules in
    on_ok c.add.result c.add.ensures (λ step at.
    rw c.in-Gateway.is (after_gateway c.args.world.now.world at c.args.touched.now _ c.in-Gateway.gateway (rw c.in-Gateway.is at c.requires.before)
    (λ k. ap (λ (t : Touched). has_key k t.routes) c.touched.view_is)
    (λ k. step k ∙ ap₂ (λ a b. a || b) (ap (λ m. same_key m k) key) (ap (λ (t : Touched). has_key k t.gateways) c.touched.view_is))))

pub returns-in-HttpRoute : goal.returns-in-HttpRoute
returns-in-HttpRoute c =
    on_ok_two c.add_route.result (rw c.deref-in-HttpRoute.ensures at c.add_route.ensures.routes) (rw c.deref-in-HttpRoute.ensures at c.add_route.ensures.gateways) (λ routes gateways at.
    rw c.in-HttpRoute.is (after_route c.args.world.now.world at c.args.touched.now c.add_route.new.touched c.in-HttpRoute.route (rw c.in-HttpRoute.is at c.requires.before) routes gateways))

pub returns-in-EndpointSlice : goal.returns-in-EndpointSlice
returns-in-EndpointSlice c =
    on_ok c.add_slice.result (rw c.deref-in-EndpointSlice.ensures at c.add_slice.ensures) (λ step at.
    rw c.in-EndpointSlice.is (after_slice c.args.world.now.world at c.args.touched.now _ c.args.index.now c.requires.index c.in-EndpointSlice.slice (rw c.in-EndpointSlice.is at c.requires.before)
    (λ k. step k ∙ ap (λ (t : Touched). depends_on_slice c.args.index.now.by_service.list k c.in-EndpointSlice.slice || has_key k t.routes) c.touched-in-EndpointSlice.view_is)
    (λ k. ap (λ (t : Touched). has_key k t.gateways) c.touched-in-EndpointSlice.view_is)))
