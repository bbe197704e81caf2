-- The index of a world: its edges, by what is named.
use Rattle.std.specs.Prelude.{◌≡◌, ◌≤◌, ℤ, List, [], not, ◌&&◌, ◌||◌, flat_map, length, Option, Some, None, IfSome}
use Rattle.std.specs.List.{AllByRecursion}
use Rattle.std.specs.Ordering.{is_eq}
use Rattle.gw_text.specs.model.Names.{Key, key_order, same_key}
use Rattle.gw_text.specs.model.Objects.{Event}
use Rattle.gw_text.specs.model.Stored.{Stored, put, remove}
use Rattle.gw_text.specs.model.World.{World, changed}
use Rattle.gw_deps.specs.Edges.{Edge, has_edge, class_edges, parent_edges, namespace_edges, service_edges, grant_edges}
use Rattle.gw_deps.specs.Sets.{Kept}

-- Lists of edges: from classes to Gateways; and to Routes, from Gateways, from namespaces, from Services, and from namespaces whose
-- grants they need.
pub record Edges : Type 0 where
  pub by_class : List Edge
  pub by_gateway : List Edge
  pub by_namespace : List Edge
  pub by_service : List Edge
  pub by_grant : List Edge

-- The edges that stored objects give.
abbrev pub edges_by : {T : Type 0} → (T → List Edge) → List (Stored T) → List Edge
edges_by edges stored = flat_map (λ s. edges s.object) stored

-- The edges of a world, as its objects give them.
abbrev pub edges_of : World → Edges
edges_of w = record {
  by_class = edges_by class_edges w.gateways;
  by_gateway = edges_by parent_edges w.routes;
  by_namespace = edges_by namespace_edges w.routes;
  by_service = edges_by service_edges w.routes;
  by_grant = edges_by grant_edges w.routes;
}

-- The same, each list in the order of its edges, with room.
pub record Index : Type 0 where
  pub by_class : Kept Edge
  pub by_gateway : Kept Edge
  pub by_namespace : Kept Edge
  pub by_service : Kept Edge
  pub by_grant : Kept Edge

-- Both lists have the same edges.
abbrev pub AreEdges : List Edge → List Edge → Type 0
AreEdges kept edges = (x : Edge) → has_edge x kept ≡ has_edge x edges

-- The index has the edges of the world.
pub record IsIndexOf (w : World) (i : Index) : Type 0 where
  pub by_class : AreEdges i.by_class.list (edges_of w).by_class
  pub by_gateway : AreEdges i.by_gateway.list (edges_of w).by_gateway
  pub by_namespace : AreEdges i.by_namespace.list (edges_of w).by_namespace
  pub by_service : AreEdges i.by_service.list (edges_of w).by_service
  pub by_grant : AreEdges i.by_grant.list (edges_of w).by_grant

-- Edges of one list that go and that come.
pub record Exchange : Type 0 where
  pub former : List Edge
  pub next : List Edge

-- With the exchange, edges become others: those that come, and those that were there and don't go.
abbrev pub Exchanges : Exchange → List Edge → List Edge → Type 0
Exchanges e before after = (x : Edge) → has_edge x after ≡ (has_edge x e.next || (has_edge x before && not (has_edge x e.former)))

-- Nothing goes and nothing comes.
abbrev pub nothing : Exchange
nothing = record { former = []; next = [] }

-- The stored objects where another one, if there is one, takes the place of the one of this key.
abbrev pub with_next : {T : Type 0} → (T → Key) → Key → Option T → ℤ → List (Stored T) → List (Stored T)
with_next key_of key None at stored = remove key_of key stored
with_next key_of key (Some x) at stored = put key_of x at stored

-- The other one, if there is one, has this key.
abbrev pub HasKey : {T : Type 0} → (T → Key) → Key → Option T → Type 0
HasKey key_of key next = IfSome next (λ x. key_of x ≡ key)

-- No other key ties with this one in the order of keys.
abbrev pub AreAlike : {T : Type 0} → (T → Key) → Key → List (Stored T) → Type 0
AreAlike key_of key stored = AllByRecursion (λ s. is_eq (key_order (key_of s.object) key) ≡ same_key (key_of s.object) key) stored

-- With the exchange the edges become those of the objects with the other one, whenever it comes.
abbrev pub Replaces : {T : Type 0} → (T → Key) → (T → List Edge) → Key → Option T → List (Stored T) → Exchange → Type 0
Replaces key_of edges key next stored e =
    (at : ℤ) → Exchanges e (edges_by edges stored) (edges_by edges (with_next key_of key next at stored))

-- The exchanges of an index.
pub record IndexExchange : Type 0 where
  pub by_class : Exchange
  pub by_gateway : Exchange
  pub by_namespace : Exchange
  pub by_service : Exchange
  pub by_grant : Exchange

-- With the exchanges the edges of a world become those after the event, whenever it comes.
pub record AreExchanges (w : World) (event : Event) (e : IndexExchange) : Type 0 where
  pub by_class : (at : ℤ) → Exchanges e.by_class (edges_of w).by_class (edges_of (changed w event at)).by_class
  pub by_gateway : (at : ℤ) → Exchanges e.by_gateway (edges_of w).by_gateway (edges_of (changed w event at)).by_gateway
  pub by_namespace : (at : ℤ) → Exchanges e.by_namespace (edges_of w).by_namespace (edges_of (changed w event at)).by_namespace
  pub by_service : (at : ℤ) → Exchanges e.by_service (edges_of w).by_service (edges_of (changed w event at)).by_service
  pub by_grant : (at : ℤ) → Exchanges e.by_grant (edges_of w).by_grant (edges_of (changed w event at)).by_grant

-- The index has room for what comes.
pub record HasRoom (i : Index) (e : IndexExchange) : Type 0 where
  pub by_class : length e.by_class.next ≤ i.by_class.spare
  pub by_gateway : length e.by_gateway.next ≤ i.by_gateway.spare
  pub by_namespace : length e.by_namespace.next ≤ i.by_namespace.spare
  pub by_service : length e.by_service.next ≤ i.by_service.spare
  pub by_grant : length e.by_grant.next ≤ i.by_grant.spare

-- The edges of an index.
abbrev pub lists_of : Index → Edges
lists_of i = record {
  by_class = i.by_class.list;
  by_gateway = i.by_gateway.list;
  by_namespace = i.by_namespace.list;
  by_service = i.by_service.list;
  by_grant = i.by_grant.list;
}

-- A change that an index is prepared for: the index as it is, the world of which it is, and the event.
pub record Patch : Type 0 where
  pub index : Index
  pub world : World
  pub event : Event

-- What is kept of it is enough.
pub record IsPatch (p : Patch) (e : IndexExchange) : Type 0 where
  pub index : IsIndexOf p.world p.index
  pub exchanges : AreExchanges p.world p.event e
  pub room : HasRoom p.index e
