-- What is found among items of which some were kept, or to which one was added.
use Rattle.std.proofs.Common.{◌≡◌, ◌∙◌, refl, sym, ap, ℕ, Bool, true, false, not, cond, ◌&&◌, eqb, List, [], ◌∷◌, ◌++◌, filter, find, Option, Some, None, true≢false, bytes_eq, option_map}
use Rattle.std.proofs.lemmas.Slice.Eq.{bytes_eq-Decides}
use Rattle.std.proofs.lemmas.List.Folds.{find-append}
use Rattle.std.proofs.lemmas.Bool.Decides.{Decides-eqb}
use Rattle.std.specs.Option.{option_or}
use Rattle.std.specs.Cmp.{second_so}
use Rattle.gw_shared.specs.model.Buckets.{without}
use Rattle.gw_shared.specs.model.Entries.{Entry, found_in, is_of}
use Rattle.gw_shared.specs.model.Hashes.{hash_of}

module _ {X : Type 0} (test : X → Bool) where
  -- What passes a test isn't found where it was left out.
  left_out : (items : List X) → find test (filter (λ x. not (test x)) items) ≡ None
  left_out [] = refl
  left_out (x ∷ items) = by (test x) refl (left_out items)
    where
      by : (b : Bool) → test x ≡ b → find test (filter (λ y. not (test y)) items) ≡ None → find test (filter (λ y. not (test y)) (x ∷ items)) ≡ None
      by true is more = rw is more
      by false is more = rw (is, is) more

  -- Where all that passes the test is kept, the same is found.
  pub found_kept : (keep : X → Bool) → ((x : X) → test x ≡ true → keep x ≡ true) → (items : List X) → find test (filter keep items) ≡ find test items
  found_kept keep all [] = refl
  found_kept keep all (x ∷ items) = by (keep x) refl (test x) refl (found_kept keep all items)
    where
      by : (b : Bool) → keep x ≡ b → (c : Bool) → test x ≡ c → find test (filter keep items) ≡ find test items → find test (filter keep (x ∷ items)) ≡ find test (x ∷ items)
      by true kept c passes more = rw kept (ap (λ (found : Option X). cond (test x) (Some x) found) more)
      by false kept true passes more = absurd (true≢false (sym (all x passes) ∙ kept))
      by false kept false passes more = rw (kept, passes) more

-- The entries of one key aren't those of another.
other_key : {V : Type 0} (key other : List ℕ) (hash hash' : ℕ) → bytes_eq other key ≡ false → (e : Entry V) → is_of hash' other e ≡ true → not (is_of hash key e) ≡ true
other_key key other hash hash' apart e passes = by (is_of hash key e) refl
  where
    by : (b : Bool) → is_of hash key e ≡ b → not (is_of hash key e) ≡ true
    by false is = ap not is
    by true is =
        let mine : e.key ≡ other = (bytes_eq-Decides e.key other).0 (second_so (eqb e.hash hash') (bytes_eq e.key other) passes) in
        let theirs : e.key ≡ key = (bytes_eq-Decides e.key key).0 (second_so (eqb e.hash hash) (bytes_eq e.key key) is) in
        let same : bytes_eq other key ≡ true = (bytes_eq-Decides other key).1 (sym mine ∙ theirs) in
        absurd (true≢false (sym same ∙ apart))

-- Without the entries of a key nothing is found under it, and the same as before under any other.
pub found_without : {V : Type 0} (key other : List ℕ) (entries : List (Entry V))
    → found_in (hash_of other) other (without (hash_of key) key entries) ≡ cond (bytes_eq other key) None (found_in (hash_of other) other entries)
found_without {V} key other entries = by (bytes_eq other key) refl
  where
    by : (b : Bool) → bytes_eq other key ≡ b
        → found_in (hash_of other) other (without (hash_of key) key entries) ≡ cond b None (found_in (hash_of other) other entries)
    by true is =
        let same : other ≡ key = (bytes_eq-Decides other key).0 is in
        ap (λ (k : List ℕ). found_in (hash_of k) k (without (hash_of key) key entries)) same
        ∙ ap (option_map (λ (e : Entry V). e.value)) (left_out (is_of (hash_of key) key) entries)
    by false is =
        ap (option_map (λ (e : Entry V). e.value))
        (found_kept (is_of (hash_of other) other) (λ e. not (is_of (hash_of key) key e)) (other_key key other (hash_of key) (hash_of other) is) entries)

or_nothing : {X : Type 0} (found : Option X) → option_or found None ≡ found
or_nothing None = refl
or_nothing (Some x) = refl

own_entry : {V : Type 0} (key : List ℕ) (value : V) → is_of (hash_of key) key (record { hash = hash_of key; key = key; value = value }) ≡ true
own_entry key value =
    let same_hash : eqb (hash_of key) (hash_of key) ≡ true = (Decides-eqb (hash_of key) (hash_of key)).1 refl in
    let same_key : bytes_eq key key ≡ true = (bytes_eq-Decides key key).1 refl in
    rw (same_hash, same_key) refl

both_false : (a b : Bool) → b ≡ false → (a && b) ≡ false
both_false true b is = is
both_false false b is = refl

apart_too : (key other : List ℕ) → bytes_eq other key ≡ false → bytes_eq key other ≡ false
apart_too key other apart = by (bytes_eq key other) refl
  where
    by : (b : Bool) → bytes_eq key other ≡ b → bytes_eq key other ≡ false
    by false is = is
    by true is =
        let same : bytes_eq other key ≡ true = (bytes_eq-Decides other key).1 (sym ((bytes_eq-Decides key other).0 is)) in
        absurd (true≢false (sym same ∙ apart))

-- With a new entry of a key behind the others, its value is found under it, and the same as before under any other.
pub found_put : {V : Type 0} (key other : List ℕ) (value : V) (entries : List (Entry V))
    → found_in (hash_of other) other (without (hash_of key) key entries ++ record { hash = hash_of key; key = key; value = value } ∷ [])
    ≡ cond (bytes_eq other key) (Some value) (found_in (hash_of other) other entries)
found_put {V} key other value entries = by (bytes_eq other key) refl
  where
    new : Entry V
    new = record { hash = hash_of key; key = key; value = value }

    kept : List (Entry V)
    kept = without (hash_of key) key entries

    by : (b : Bool) → bytes_eq other key ≡ b
        → found_in (hash_of other) other (kept ++ new ∷ []) ≡ cond b (Some value) (found_in (hash_of other) other entries)
    by true is =
        let same : other ≡ key = (bytes_eq-Decides other key).0 is in
        let last : find (is_of (hash_of key) key) (new ∷ []) ≡ Some new = ap (λ (b : Bool). cond b (Some new) None) (own_entry key value) in
        ap (λ (k : List ℕ). found_in (hash_of k) k (kept ++ new ∷ [])) same
        ∙ ap (option_map (λ (e : Entry V). e.value))
        (find-append (is_of (hash_of key) key) kept (new ∷ [])
        ∙ ap (λ (found : Option (Entry V)). option_or found (find (is_of (hash_of key) key) (new ∷ []))) (left_out (is_of (hash_of key) key) entries)
        ∙ last)
    by false is =
        let none : is_of (hash_of other) other new ≡ false = both_false (eqb (hash_of key) (hash_of other)) (bytes_eq key other) (apart_too key other is) in
        let last : find (is_of (hash_of other) other) (new ∷ []) ≡ None = ap (λ (b : Bool). cond b (Some new) None) none in
        ap (option_map (λ (e : Entry V). e.value))
        (find-append (is_of (hash_of other) other) kept (new ∷ [])
        ∙ ap (option_or (find (is_of (hash_of other) other) kept)) last
        ∙ or_nothing (find (is_of (hash_of other) other) kept)
        ∙ found_kept (is_of (hash_of other) other) (λ e. not (is_of (hash_of key) key e)) (other_key key other (hash_of key) (hash_of other) is) entries)
