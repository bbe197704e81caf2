-- What a map has under a key after one of its buckets was set, or after its entries were put into more buckets.
use Rattle.std.proofs.Common.{◌≡◌, ◌∙◌, refl, sym, ap, subst, ℕ, zero, suc, ◌+◌, ◌*◌, ◌/◌, ◌%◌, ◌<◌, Bool, true, false, cond, eqb, ◌⊎◌, inl, inr, List, [], ◌∷◌, ◌++◌, length, get_or, set, Option, Some, None, Result, Ok, Err, true≢false, bytes_eq, option_map, mod-lt, length-set, get_or-set_same, get_or-set_other, arith, ◌&&◌, is_ok, OnOk, OnErr}
use Rattle.std.proofs.lemmas.Bool.{eqb-true}
use Rattle.std.proofs.lemmas.Bool.Decides.{Decides-eqb}
use Rattle.std.proofs.lemmas.List.FromFn.{get_or-map-range_with_len, length-map-range_with_len}
use Rattle.std.proofs.lemmas.Slice.Eq.{bytes_eq-Decides}
use Rattle.std.specs.Cmp.{first_so, second_so}
use Rattle.std.specs.List.{list_all}
use native.Mathlib.Nat.{mul_comm, mul_assoc, mul-add-mod_self_right, div-add-mod'}
use Rattle.gw_shared.specs.model.Buckets.{bucket_of, part_of, place_of, spread, value_at, with_bucket, without}
use Rattle.gw_shared.specs.model.Entries.{Entry, found_in, is_of}
use Rattle.gw_shared.specs.model.Hashes.{hash_of}
use Rattle.gw_shared.proofs.Finding.{found_kept, found_put, found_without}

-- Where the bucket of a key gets entries in which nothing but the key's value changed, nothing but that changes in the map.
pub set_value : {V : Type 0} (key other : List ℕ) (found : Option V) (entries : List (Entry V)) (buckets : List (List (Entry V))) → 0 < length buckets
    → found_in (hash_of other) other entries ≡ cond (bytes_eq other key) found (found_in (hash_of other) other (bucket_of (hash_of key) buckets))
    → value_at (with_bucket (hash_of key) entries buckets) other ≡ cond (bytes_eq other key) found (value_at buckets other)
unfolding value_at
set_value {V} key other found entries buckets some is = by (eqb theirs mine) refl
  where
    mine : ℕ
    mine = place_of (hash_of key) buckets

    theirs : ℕ
    theirs = place_of (hash_of other) buckets

    changed : List (List (Entry V))
    changed = set buckets mine entries

    same_number : bucket_of (hash_of other) changed ≡ get_or changed theirs []
    same_number = ap (λ (n : ℕ). get_or changed (hash_of other % n) []) (length-set buckets mine entries)

    by : (b : Bool) → eqb theirs mine ≡ b
        → found_in (hash_of other) other (bucket_of (hash_of other) changed)
        ≡ cond (bytes_eq other key) found (found_in (hash_of other) other (bucket_of (hash_of other) buckets))
    by true at =
        let same : theirs ≡ mine = eqb-true theirs mine at in
        let now : bucket_of (hash_of other) changed ≡ entries =
        same_number ∙ ap (λ (n : ℕ). get_or changed n []) same ∙ get_or-set_same buckets mine entries [] (mod-lt (hash_of key) some) in
        ap (found_in (hash_of other) other) now
        ∙ is
        ∙ ap (λ (n : ℕ). cond (bytes_eq other key) found (found_in (hash_of other) other (get_or buckets n []))) (sym same)
    by false at =
        let apart : theirs ≡ mine → ⊥ = λ same. true≢false (sym ((Decides-eqb theirs mine).1 same) ∙ at) in
        let now : bucket_of (hash_of other) changed ≡ bucket_of (hash_of other) buckets = same_number ∙ get_or-set_other buckets mine theirs entries [] apart in
        let other_one : bytes_eq other key ≡ false = one (bytes_eq other key) refl apart in
        ap (found_in (hash_of other) other) now
        ∙ sym (ap (λ (b : Bool). cond b found (found_in (hash_of other) other (bucket_of (hash_of other) buckets))) other_one)
      where
        one : (b : Bool) → bytes_eq other key ≡ b → (theirs ≡ mine → ⊥) → bytes_eq other key ≡ false
        one false e apart = e
        one true e apart = absurd (apart (ap (λ (k : List ℕ). place_of (hash_of k) buckets) ((bytes_eq-Decides other key).0 e)))

-- A key that is put.
pub put_value : {V : Type 0} (key other : List ℕ) (value : V) (buckets : List (List (Entry V))) (hash : ℕ) → hash ≡ hash_of key → 0 < length buckets
    → value_at (with_bucket hash (without hash key (bucket_of hash buckets) ++ record { hash = hash; key = key; value = value } ∷ []) buckets) other
    ≡ cond (bytes_eq other key) (Some value) (value_at buckets other)
put_value {V} key other value buckets hash is some =
    subst
    (λ (h : ℕ). value_at (with_bucket h (without h key (bucket_of h buckets) ++ record { hash = h; key = key; value = value } ∷ []) buckets) other
    ≡ cond (bytes_eq other key) (Some value) (value_at buckets other))
    (sym is)
    (set_value key other (Some value) (without (hash_of key) key (bucket_of (hash_of key) buckets) ++ record { hash = hash_of key; key = key; value = value } ∷ []) buckets some
    (found_put key other value (bucket_of (hash_of key) buckets)))

-- A key that is taken out.
pub removed_value : {V : Type 0} (key other : List ℕ) (buckets : List (List (Entry V))) (hash : ℕ) → hash ≡ hash_of key → 0 < length buckets
    → value_at (with_bucket hash (without hash key (bucket_of hash buckets)) buckets) other
    ≡ cond (bytes_eq other key) None (value_at buckets other)
removed_value {V} key other buckets hash is some =
    subst (λ (h : ℕ). value_at (with_bucket h (without h key (bucket_of h buckets)) buckets) other ≡ cond (bytes_eq other key) None (value_at buckets other))
    (sym is)
    (set_value key other None (without (hash_of key) key (bucket_of (hash_of key) buckets)) buckets some (found_without key other (bucket_of (hash_of key) buckets)))

-- A change that is made, unless memory is wanted.
pub changed : {R E V : Type 0} (result : Result R E) (new old : List (List (Entry V))) (hash : ℕ) (entries : List (Entry V)) (other : List ℕ) (b : Bool) (found before : Option V)
    → OnOk result (new ≡ with_bucket hash entries old) → OnErr result (new ≡ old)
    → value_at (with_bucket hash entries old) other ≡ cond b found before → value_at old other ≡ before
    → value_at new other ≡ cond (is_ok result && b) found before
changed {V = V} (Ok x) new old hash entries other b found before set kept now was = ap (λ (lists : List (List (Entry V))). value_at lists other) set ∙ now
changed {V = V} (Err e) new old hash entries other b found before set kept now was = ap (λ (lists : List (List (Entry V))). value_at lists other) kept ∙ was

-- In no buckets is nothing.
pub nothing : {V : Type 0} (lists : List (List (Entry V))) (other : List ℕ) (b : Bool) → length lists ≡ 0 → value_at lists other ≡ cond b None (value_at lists other)
unfolding value_at
nothing [] other true none = refl
nothing [] other false none = refl
nothing (l ∷ lists) other b none = absurd (cc none)

-- The bucket among four times as many tells the one among so many.
same_remainder : (h n : ℕ) → (h % (n * 4)) % n ≡ h % n
same_remainder h n =
    let whole : h / (n * 4) * (n * 4) + h % (n * 4) ≡ h = div-add-mod' h (n * 4) in
    let multiple : h / (n * 4) * (n * 4) ≡ (h / (n * 4) * 4) * n = ap (λ (m : ℕ). h / (n * 4) * m) (mul_comm n 4) ∙ sym (mul_assoc (h / (n * 4)) 4 n) in
    sym (mul-add-mod_self_right (h / (n * 4) * 4) n (h % (n * 4)))
    ∙ ap (λ (m : ℕ). m % n) (ap (λ (m : ℕ). m + h % (n * 4)) (sym multiple) ∙ whole)

-- More buckets have the same.
pub spread_value : {V : Type 0} (number : ℕ) (buckets : List (List (Entry V))) (key : List ℕ) → 0 < number
    → (length buckets ≡ 0) ⊎ (number ≡ length buckets * 4)
    → value_at (spread number buckets) key ≡ value_at buckets key
unfolding value_at
spread_value {V} number buckets key some fits =
    let h = hash_of key in
    let here : bucket_of h (spread number buckets) ≡ part_of number buckets (h % number) =
    ap (λ (n : ℕ). get_or (spread number buckets) (h % n) []) (length-map-range_with_len (part_of number buckets) 0 number)
    ∙ get_or-map-range_with_len (part_of number buckets) 0 number (h % number) (h % number) [] (mod-lt h some) (omega arith) in
    ap (found_in h key) here
    ∙ ap (option_map (λ (e : Entry V). e.value))
    (found_kept (is_of h key) (λ e. eqb (e.hash % number) (h % number)) own (bucket_of (h % number) buckets))
    ∙ ap (found_in h key) (one buckets fits)
  where
    own : (e : Entry V) → is_of (hash_of key) key e ≡ true → eqb (e.hash % number) (hash_of key % number) ≡ true
    own e passes =
        let same : e.hash ≡ hash_of key = eqb-true e.hash (hash_of key) (first_so (eqb e.hash (hash_of key)) (bytes_eq e.key key) passes) in
        (Decides-eqb (e.hash % number) (hash_of key % number)).1 (ap (λ (n : ℕ). n % number) same)

    one : (all : List (List (Entry V))) → (length all ≡ 0) ⊎ (number ≡ length all * 4)
        → bucket_of (hash_of key % number) all ≡ bucket_of (hash_of key) all
    one [] fits = refl
    one (b ∷ all) (inl none) = absurd (cc none)
    one (b ∷ all) (inr is) =
        ap (λ (m : ℕ). get_or (b ∷ all) (hash_of key % m % length (b ∷ all)) []) is
        ∙ ap (λ (m : ℕ). get_or (b ∷ all) m []) (same_remainder (hash_of key) (length (b ∷ all)))

nil_of : {X : Type 0} (items : List X) → eqb (length items) 0 ≡ true → items ≡ []
nil_of [] none = refl
nil_of (x ∷ items) none =
    let same : length (x ∷ items) ≡ 0 = eqb-true (length (x ∷ items)) 0 none in
    absurd (cc same)

all_nil : {E : Type 0} (all : List (List E)) → list_all (λ b. eqb (length b) 0) all ≡ true → (n : ℕ) → get_or all n [] ≡ []
all_nil [] each n = refl
all_nil (b ∷ all) each zero = nil_of b (first_so (eqb (length b) 0) (list_all (λ x. eqb (length x) 0) all) each)
all_nil (b ∷ all) each (suc n) = all_nil all (second_so (eqb (length b) 0) (list_all (λ x. eqb (length x) 0) all) each) n

-- In empty buckets is nothing.
pub none_there : {V : Type 0} (all : List (List (Entry V))) (key : List ℕ) → list_all (λ b. eqb (length b) 0) all ≡ true → value_at all key ≡ None
unfolding value_at
none_there all key each = ap (found_in (hash_of key) key) (all_nil all each (place_of (hash_of key) all))
