-- A map as its buckets, what it has under a key, and what its buckets become.
use Rattle.std.specs.Prelude.{ℕ, ◌%◌, ◌==◌, not, List, [], length, map, filter, Option, slice_index_or, slice_set}
use Rattle.std.specs.List.{range_with_len}
use Rattle.gw_shared.specs.model.Entries.{Entry, found_in, is_of}
use Rattle.gw_shared.specs.model.Hashes.{hash_of}

-- The number of the bucket in which the entries of a hash stand.
abbrev pub place_of : {V : Type 0} → ℕ → List (List (Entry V)) → ℕ
place_of hash buckets = hash % length buckets

-- The bucket in which the entries of a hash stand.
abbrev pub bucket_of : {V : Type 0} → ℕ → List (List (Entry V)) → List (Entry V)
bucket_of hash buckets = slice_index_or buckets (place_of hash buckets) []

-- The value under a key.
unfoldable pub value_at : {V : Type 0} → List (List (Entry V)) → List ℕ → Option V
value_at buckets key = found_in (hash_of key) key (bucket_of (hash_of key) buckets)

-- The entries of a bucket that aren't those of a key, which has this hash.
abbrev pub without : {V : Type 0} → ℕ → List ℕ → List (Entry V) → List (Entry V)
without hash key entries = filter (λ e. not (is_of hash key e)) entries

-- The buckets with these entries in the one in which the entries of a hash stand.
abbrev pub with_bucket : {V : Type 0} → ℕ → List (Entry V) → List (List (Entry V)) → List (List (Entry V))
with_bucket hash entries buckets = slice_set buckets (place_of hash buckets) entries

-- The entries that stand in the bucket of this place, where the buckets are so many.
abbrev pub part_of : {V : Type 0} → ℕ → List (List (Entry V)) → ℕ → List (Entry V)
part_of number buckets place = filter (λ e. (e.hash % number) == place) (bucket_of place buckets)

-- The same entries in so many buckets.
abbrev pub spread : {V : Type 0} → ℕ → List (List (Entry V)) → List (List (Entry V))
spread number buckets = map (part_of number buckets) (range_with_len 0 number)
