-- The kinds of objects that are read. Source: TypeMeta of the Kubernetes API.
use Rattle.std.specs.Prelude.{ℕ, List, [], ◌∷◌, codes, bytes_eq, Bool, true, false, ◌&&◌, find, Option}
use Rattle.gw_text.specs.declared.kind.Kind.{Kind}
use Rattle.gw_text.specs.declared.kind.Kind.TheVariants.{GatewayClass, Gateway, HttpRoute, ReferenceGrant, Namespace, Service, EndpointSlice}

-- How objects of a kind are written: their kind and apiVersion, and whether they stand in a namespace.
pub record KindRow : Type 0 where
  pub name : List ℕ
  pub version : List ℕ
  pub is_namespaced : Bool

-- A row of the table.
abbrev pub row : List ℕ → List ℕ → Bool → KindRow
row name version is_namespaced = record { name = name; version = version; is_namespaced = is_namespaced }

-- The table of kinds.
unfoldable pub row_of : Kind → KindRow
row_of GatewayClass = row (codes "GatewayClass") (codes "gateway.networking.k8s.io/v1") false
row_of Gateway = row (codes "Gateway") (codes "gateway.networking.k8s.io/v1") true
row_of HttpRoute = row (codes "HTTPRoute") (codes "gateway.networking.k8s.io/v1") true
row_of ReferenceGrant = row (codes "ReferenceGrant") (codes "gateway.networking.k8s.io/v1beta1") true
row_of Namespace = row (codes "Namespace") (codes "v1") false
row_of Service = row (codes "Service") (codes "v1") true
row_of EndpointSlice = row (codes "EndpointSlice") (codes "discovery.k8s.io/v1") true

-- All kinds, in the order in which objects are listed.
abbrev pub kinds : List Kind
kinds = GatewayClass ∷ Gateway ∷ HttpRoute ∷ ReferenceGrant ∷ Namespace ∷ Service ∷ EndpointSlice ∷ []

-- Objects of the kind are written so.
abbrev pub is_written : List ℕ → List ℕ → Kind → Bool
is_written version name kind = bytes_eq (row_of kind).name name && bytes_eq (row_of kind).version version

-- The kind of objects that are written so, if they are read.
unfoldable pub kind_of : List ℕ → List ℕ → Option Kind
kind_of version name = find (is_written version name) kinds

-- The kind of this name, if its objects are read.
unfoldable pub kind_named : List ℕ → Option Kind
kind_named name = find (λ kind. bytes_eq (row_of kind).name name) kinds

-- The group of the kinds of the Gateway API.
unfoldable pub gateway_group : List ℕ
gateway_group = codes "gateway.networking.k8s.io"
