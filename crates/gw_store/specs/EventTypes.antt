-- The types of watch events. Source: WatchEvent of the Kubernetes API.
use Rattle.std.specs.Prelude.{ℕ, List, codes, bytes_eq, if◌then◌else◌, Option, Some, None}
use Rattle.gw_store.specs.declared.event.EventType.{EventType}
use Rattle.gw_store.specs.declared.event.EventType.TheVariants.{Added, Modified, Deleted, Bookmark, Error}

-- The type of that name.
unfoldable pub event_type_of : List ℕ → Option EventType
event_type_of name =
    if bytes_eq name (codes "ADDED") then Some Added
    else (if bytes_eq name (codes "MODIFIED") then Some Modified
    else (if bytes_eq name (codes "DELETED") then Some Deleted
    else (if bytes_eq name (codes "BOOKMARK") then Some Bookmark
    else (if bytes_eq name (codes "ERROR") then Some Error
    else None))))
