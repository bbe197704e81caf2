-- HTTPRoutes, with the defaults of absent fields filled in.
use Rattle.std.specs.Prelude.{ℕ, List, [], codes, bytes_eq, Bool, ◌&&◌, Option}
use Rattle.gw_text.specs.model.Filters.{Filter}
use Rattle.gw_text.specs.model.Hostnames.{Host}
use Rattle.gw_text.specs.model.Kinds.{gateway_group}
use Rattle.gw_text.specs.model.Matches.{Match}
use Rattle.gw_text.specs.model.Meta.{Meta}
use Rattle.gw_text.specs.model.Names.{Key}

-- What a Route wants to be attached to. Source: ParentReference of the Gateway API reference.
pub record ParentRef : Type 0 where
  pub group : List ℕ
  pub kind : List ℕ
  pub namespace : List ℕ
  pub name : List ℕ
  pub section_name : Option (List ℕ)
  pub port : Option ℕ

-- Where a rule sends requests, with which share of them, and what is done to those requests and to their responses.
-- Source: HTTPBackendRef of the Gateway API reference.
pub record BackendRef : Type 0 where
  pub group : List ℕ
  pub kind : List ℕ
  pub name : List ℕ
  pub namespace : List ℕ
  pub port : Option ℕ
  pub weight : ℕ
  pub filters : List Filter

-- A rule; timeouts says whether it has any. Source: HTTPRouteRule of the Gateway API reference.
pub record Rule : Type 0 where
  pub matches : List Match
  pub filters : List Filter
  pub backend_refs : List BackendRef
  pub timeouts : Bool

-- An HTTPRoute. Source: HTTPRoute of the Gateway API reference.
pub record HttpRoute : Type 0 where
  pub meta : Meta
  pub parent_refs : List ParentRef
  pub hostnames : List Host
  pub rules : List Rule

-- The group and kind are those of a Gateway. Source: ParentReference, group and kind.
abbrev pub names_gateway : ParentRef → Bool
names_gateway p = bytes_eq p.group gateway_group && bytes_eq p.kind (codes "Gateway")

-- The key that a parentRef names.
abbrev pub parent_key : ParentRef → Key
parent_key p = record { namespace = p.namespace; name = p.name }

-- The group and kind of a Service of the core API. Source: BackendObjectReference, group and kind.
abbrev pub is_core_service : List ℕ → List ℕ → Bool
is_core_service group kind = bytes_eq group [] && bytes_eq kind (codes "Service")

-- The key that a backendRef names.
abbrev pub backend_key : BackendRef → Key
backend_key b = record { namespace = b.namespace; name = b.name }
