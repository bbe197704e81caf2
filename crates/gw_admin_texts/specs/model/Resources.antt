-- The resources of the admin endpoint, each at its path and with its one method.
use Rattle.std.specs.Prelude.{ℕ, List, [], ◌∷◌, codes, bytes_eq, find, if◌then◌else◌, Option, None, Some}
use Rattle.gw_frames.specs.model.Requests.{Request}
use Rattle.gw_admin_texts.specs.declared.resource.Resource.{Resource}
use Rattle.gw_admin_texts.specs.declared.resource.Resource.TheVariants.{Changes, Status, Table, Explain, Health}
use Rattle.gw_admin_texts.specs.declared.resource.Destination.{Destination}
use Rattle.gw_admin_texts.specs.declared.resource.Destination.TheVariants.{Found, NotAllowed, Missing}

-- The path of a resource.
abbrev pub path_of : Resource → List ℕ
path_of Changes = codes "/changes"
path_of Status = codes "/status"
path_of Table = codes "/table"
path_of Explain = codes "/explain"
path_of Health = codes "/healthz"

-- Its method.
abbrev pub method_of : Resource → List ℕ
method_of Changes = codes "POST"
method_of Status = codes "GET"
method_of Table = codes "GET"
method_of Explain = codes "POST"
method_of Health = codes "GET"

-- All resources.
abbrev pub resources : List Resource
resources = Changes ∷ Status ∷ Table ∷ Explain ∷ Health ∷ []

-- The resource at a path.
unfoldable pub resource_at : List ℕ → Option Resource
resource_at path = find (λ r. bytes_eq (path_of r) path) resources

-- Where a request of this method goes at a path with this resource, if one is there.
abbrev pub destination_by : List ℕ → Option Resource → Destination
destination_by method None = Missing
destination_by method (Some r) = if bytes_eq (method_of r) method then Found r else NotAllowed r

-- Where a request goes, by the path of its target and its method. Source: RFC 9110 sections 15.5.5 and 15.5.6.
abbrev pub destination_of : Request → Destination
destination_of q = destination_by q.method (resource_at q.path)
