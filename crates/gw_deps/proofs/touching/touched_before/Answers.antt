-- Kind by kind.
use Rattle.std.proofs.Common.{◌≡◌, ◌∙◌, ap}
use Rattle.gw_text.specs.model.Names.{Key, cluster_key}
use Rattle.gw_deps.specs.Edges.{edge_to, has_edge}
use Rattle.gw_deps.specs.Indexes.{Index}
use Rattle.gw_deps.proofs.ByKind.{by_class, by_gateway, by_grant, by_namespace, by_route, by_service, by_slice}
use Rattle.gw_deps.proofs.Results.{if_ok_two}
use Rattle.gw_deps.proofs.touching.touched_before.Goals as goal

pub returns-in-GatewayClass : goal.returns-in-GatewayClass
returns-in-GatewayClass c =
    rw c.in-GatewayClass.is (if_ok_two c.by_class.result c.by_class.ensures.gateways c.by_class.ensures.routes (λ t gateways routes. by_class c.args.world.now.world c.args.index.now c.requires c.args.key.now t gateways routes))

pub returns-in-Gateway : goal.returns-in-Gateway
returns-in-Gateway c =
    rw c.in-Gateway.is (if_ok_two c.by_gateway.result c.by_gateway.ensures.routes c.by_gateway.ensures.gateways (λ t routes gateways. by_gateway c.args.world.now.world c.args.index.now c.requires c.args.key.now t routes gateways))

pub returns-in-HttpRoute : goal.returns-in-HttpRoute
returns-in-HttpRoute c =
    rw c.in-HttpRoute.is (if_ok_two c.by_route.result c.by_route.ensures.routes c.by_route.ensures.gateways (λ t routes gateways. by_route c.args.world.now.world c.args.index.now c.requires c.args.key.now t c.by_route.ensures.order routes gateways))

pub returns-in-ReferenceGrant : goal.returns-in-ReferenceGrant
returns-in-ReferenceGrant c =
    let key = c.args.key.now in
    let edges = c.index.inside.by_grant.list in
    let is : c.bytes.result.now ≡ key.namespace = c.bytes.ensures ∙ ap (λ (k : Key). k.namespace) c.key.view_is in
    rw c.in-ReferenceGrant.is (if_ok_two c.routes_alone.result c.routes_alone.ensures.routes c.routes_alone.ensures.gateways (λ t routes gateways.
    by_grant c.args.world.now.world c.args.index.now c.requires key t
    (λ k. routes k ∙ (ap (λ name. has_edge (edge_to k (cluster_key name)) edges) is ∙ ap (λ (i : Index). has_edge (edge_to k (cluster_key key.namespace)) i.by_grant.list) c.index.view_is)) gateways))

pub returns-in-Namespace : goal.returns-in-Namespace
returns-in-Namespace c =
    rw c.in-Namespace.is (if_ok_two c.by_namespace.result c.by_namespace.ensures.routes c.by_namespace.ensures.gateways (λ t routes gateways. by_namespace c.args.world.now.world c.args.index.now c.requires c.args.key.now t c.by_namespace.ensures.order routes gateways))

pub returns-in-Service : goal.returns-in-Service
returns-in-Service c =
    let key = c.args.key.now in
    let edges = c.index.inside.by_service.list in
    let name = c.bytes-name.result.now in
    let namespace_is : c.bytes-namespace.result.now ≡ key.namespace = c.bytes-namespace.ensures ∙ ap (λ (k : Key). k.namespace) c.key.view_is in
    let name_is : name ≡ key.name = c.bytes-name.ensures ∙ ap (λ (k : Key). k.name) c.key.view_is in
    rw c.in-Service.is (if_ok_two c.routes_alone-in-Service.result c.routes_alone-in-Service.ensures.routes c.routes_alone-in-Service.ensures.gateways (λ t routes gateways.
    by_service c.args.world.now.world c.args.index.now c.requires key t
    (λ k. routes k
    ∙ (ap (λ namespace. has_edge (edge_to k (record { namespace = namespace; name = name })) edges) namespace_is
    ∙ (ap (λ last. has_edge (edge_to k (record { namespace = key.namespace; name = last })) edges) name_is
    ∙ ap (λ (i : Index). has_edge (edge_to k key) i.by_service.list) c.index.view_is))) gateways))

pub returns-in-EndpointSlice : goal.returns-in-EndpointSlice
returns-in-EndpointSlice c =
    rw c.in-EndpointSlice.is (if_ok_two c.by_slice.result c.by_slice.ensures.routes c.by_slice.ensures.gateways (λ t routes gateways. by_slice c.args.world.now.world c.args.index.now c.requires c.args.key.now t c.by_slice.ensures.order routes gateways))
