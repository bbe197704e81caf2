-- The EndpointSlices by their Services: their order, and when they are the same as those that are held.
use Rattle.std.specs.Prelude.{◌≡◌, ◌<◌, ◌⊎◌, ◌+◌, ◌*◌, ◌/◌, ◌%◌, ◌^◌, ℕ, suc, min, Bool, ◌==◌, nat_lt, List, [], ◌∷◌, ◌++◌, length, map, set, get_or, codes, filter, fold, unwrap_or, Option, None, Some, ⊤}
use Rattle.std.specs.List.{AllByRecursion, flat_map}
use Rattle.std.specs.List.Sorted.{IsStrictlySortedBy}
use Rattle.std.specs.Ordering.{nat_cmp, ordering_then, is_lt, is_gt, is_ne}
use Rattle.std.specs.declared.cmp.Ordering.{Ordering}
use Rattle.gw_text.specs.model.Names.{key_order}
use Rattle.gw_text.specs.model.Selectors.{label_of}
use Rattle.gw_text.specs.model.Slices.{EndpointSlice}
use Rattle.gw_text.specs.model.Stored.{Stored, objects_of}
use Rattle.gw_text.specs.model.World.{slice_key}
use Rattle.gw_store.specs.Changes.{IsUndoable}
use Rattle.gw_store.specs.Table.{Displacement}

-- The digest of a text and one byte more.
abbrev pub one_more : ℕ → ℕ → ℕ
one_more digest byte = ((digest * 1099511628211) % 2 ^ 64 + byte) % 2 ^ 64

-- The digest of a Service's namespace and name, which another Service may have too.
unfoldable pub service_digest : List ℕ → List ℕ → ℕ
service_digest namespace name = fold one_more (one_more (fold one_more 0 namespace) 47) name

-- The digest of the Service that a slice's label names, if it has one. Source: the label kubernetes.io/service-name.
unfoldable pub slice_digest : EndpointSlice → ℕ
slice_digest e = service_digest e.meta.key.namespace (unwrap_or (label_of (codes "kubernetes.io/service-name") e.labels) [])

-- Slices are ordered by the digests of their Services, and those of one digest by their keys.
abbrev pub service_order : EndpointSlice → EndpointSlice → Ordering
service_order a b = ordering_then (nat_cmp (slice_digest a) (slice_digest b)) (key_order (slice_key a) (slice_key b))

-- Slices in that order, and for how many more there is room.
pub record Part : Type 0 where
  pub slices : List EndpointSlice
  pub spare : ℕ

-- The part of an index that holds the slices of a digest: its five highest bits.
abbrev pub part_number : ℕ → ℕ
part_number digest = digest / 2 ^ 59

-- The part of an index that holds a slice.
abbrev pub part_of : EndpointSlice → ℕ
part_of s = part_number (slice_digest s)

-- All slices are of the part of this number.
abbrev pub AllOfPart : ℕ → List EndpointSlice → Type 0
AllOfPart number slices = AllByRecursion (λ s. part_of s ≡ number) slices

-- The parts from this number on.
abbrev pub AreParts : ℕ → List Part → Type 0
AreParts number [] = ⊤
AreParts number (part ∷ parts) = AllOfPart number part.slices × AreParts (suc number) parts

-- There are no parts yet, or all.
pub record IsParted (parts : List Part) : Type 0 where
  pub count : (length parts ≡ 0) ⊎ (length parts ≡ 32)
  pub own : AreParts 0 parts

-- The slices of the parts, one part behind the other.
abbrev pub joined : List Part → List EndpointSlice
joined parts = flat_map (λ part. part.slices) parts

-- All slices in the order of their digests and keys, and for how many more there is room in each part.
pub record Index : Type 0 where
  pub slices : List EndpointSlice
  pub spares : List ℕ

-- The index that has these parts.
abbrev pub index_of : List Part → Index
index_of parts = record { slices = joined parts; spares = map (λ part. part.spare) parts }

-- For how many more slices of any digest there is room.
abbrev pub least_spare : List ℕ → ℕ
least_spare [] = 0
least_spare (n ∷ []) = n
least_spare (n ∷ m ∷ spares) = min n (least_spare (m ∷ spares))

-- The part of this number.
abbrev pub part_at : ℕ → Index → Part
part_at number index = record { slices = filter (λ s. part_of s == number) index.slices; spare = get_or index.spares number 0 }

-- The index with another part of this number.
abbrev pub with_part : ℕ → Part → Index → Index
with_part number part index = record {
  slices = filter (λ s. nat_lt (part_of s) number) index.slices ++ (part.slices ++ filter (λ s. nat_lt number (part_of s)) index.slices);
  spares = set index.spares number part.spare;
}

-- A put: the slices that stand before, the slice itself, and those that stand after.
unfoldable pub put_slice : EndpointSlice → List EndpointSlice → List EndpointSlice
put_slice s slices = filter (λ t. is_lt (service_order t s)) slices ++ s ∷ filter (λ t. is_gt (service_order t s)) slices

-- A removal: the slices of other digests or keys.
unfoldable pub without : EndpointSlice → List EndpointSlice → List EndpointSlice
without s slices = filter (λ t. is_ne (service_order t s)) slices

-- The slices of a digest.
abbrev pub of_digest : ℕ → List EndpointSlice → List EndpointSlice
of_digest digest slices = filter (λ s. slice_digest s == digest) slices

-- Of each digest both have the same slices, in the same order.
abbrev pub IsIndexOf : List EndpointSlice → List EndpointSlice → Type 0
IsIndexOf slices index = (digest : ℕ) → of_digest digest index ≡ of_digest digest slices

-- A change at one place: a part or an index before it and after it, and the slice that it put, if it put one.
pub record Reindexing (I : Type 0) : Type 0 where
  pub before : I
  pub after : I
  pub put : Option EndpointSlice

-- What is kept of a part's change is enough to undo it, and what is there again is in order.
pub record IsPartChange (at : ℕ) (had : Option EndpointSlice) (has : Bool) (before after : Part) : Type 0 where
  pub undoable : IsUndoable at had has before.slices after.slices before.spare after.spare
  pub order : IsStrictlySortedBy service_order before.slices

-- A change of the part of this number was all that changed the index.
pub record IsReindexing (number : ℕ) (change : Reindexing Part) (before after : Index) : Type 0 where
  pub within : number < length after.spares
  pub part : part_at number after ≡ change.after
  pub own : AllOfPart number change.before.slices
  pub back : before ≡ with_part number change.before after

-- The same, or there was no change.
abbrev pub IsIndexChange : ℕ → Option (Reindexing Part) → Index → Index → Type 0
IsIndexChange number None before after = before ≡ after
IsIndexChange number (Some change) before after = IsReindexing number change before after

-- The index before a change, if there was one.
abbrev pub before_change : Option (Reindexing Index) → Index → Index
before_change None index = index
before_change (Some change) index = change.before

-- The index is as a change left it, if there was one.
abbrev pub IsLeftBy : Option (Reindexing Index) → Index → Type 0
IsLeftBy None index = ⊤
IsLeftBy (Some change) index = index ≡ change.after

-- The slice that a change put, if there was one that put one.
abbrev pub put_by : {I : Type 0} → Option (Reindexing I) → Option EndpointSlice
put_by None = None
put_by (Some change) = change.put

-- The slices in key order, for how many more there is room, and the index.
pub record Slices : Type 0 where
  pub stored : List (Stored EndpointSlice)
  pub spare : ℕ
  pub index : Index

-- A change of the slices: the slices before it and after it, and the slice that it put, if it put one.
pub record SliceChange : Type 0 where
  pub before : Slices
  pub after : Slices
  pub put : Option EndpointSlice

-- What is kept of it is enough to undo it: the change of the table, and two of the index, of which the second came last.
pub record IsSliceChange (table : Displacement EndpointSlice) (first second : Option (Reindexing Index)) (before after : Slices) : Type 0 where
  pub table_before : table.before ≡ record { stored = before.stored; spare = before.spare }
  pub table_after : record { stored = after.stored; spare = after.spare } ≡ table.after
  pub left : IsLeftBy second after.index
  pub left_first : IsLeftBy first (before_change second after.index)
  pub index_before : before_change first (before_change second after.index) ≡ before.index
  pub put : put_by second ≡ table.put
  pub index : IsIndexOf (objects_of before.stored) before.index.slices
