-- Where the objects of a namespace stand: they follow one another, since their keys begin alike.
use Rattle.std.proofs.Common.{◌≡◌, ◌∙◌, ℕ, zero, suc, ◌<◌, ◌≤◌, Bool, true, false, List, [], ◌∷◌, length, map, take, drop, filter, refl, sym, ap, arith, get_or, nat_eq, ◌++◌, ◌&&◌, cond, None, is_some}
use Rattle.std.specs.List.{AllByRecursion, AllWithin, starts_with}
use Rattle.std.specs.List.Sorted.{IsStrictlySortedBy, IsPartitionedBy, IsPartitionPoint}
use Rattle.std.specs.Cmp.Lexicographic.{slice_cmp}
use Rattle.std.specs.Str.{bytes_eq}
use Rattle.std.specs.Ordering.{is_lt, nat_cmp}
use Rattle.std.specs.declared.cmp.Ordering.{Ordering}
use Rattle.std.specs.declared.cmp.Ordering.TheVariants.{Less, Equal, Greater}
use Rattle.std.proofs.lemmas.Bool.Decides.{nat_tests}
use Rattle.std.proofs.lemmas.Cmp.{nat_list_cmp_total}
use Rattle.std.proofs.lemmas.Slice.Eq.{bytes_eq-Decides}
use mathlib.Core.Bool.{true≢false}
use Rattle.gw_text.specs.model.Forms.{is_key, is_name, is_namespace_or_none, name_of}
use Rattle.gw_text.specs.model.Names.{Key, joined, key_order, same_key, is_in_namespace, cluster_key}
use Rattle.gw_text.specs.model.Stored.{Stored, stored_key, stored_at, in_namespace, IsInKeyOrder}
use Rattle.gw_text.proofs.Keys.{key_in_by_text}
use Rattle.gw_store.specs.Table.{AllKeys}

-- texts are ordered byte by byte
abbrev pub text_order : List ℕ → List ℕ → Ordering
text_order = slice_cmp nat_cmp

-- what begins with a text isn't before it
beginning : (a p : List ℕ) → starts_with nat_eq a p ≡ true → is_lt (text_order a p) ≡ false
beginning [] [] begins = refl
beginning (x ∷ a) [] begins = refl
beginning [] (c ∷ p) begins = absurd (true≢false (sym begins))
beginning (x ∷ a) (c ∷ p) begins = grind (arith, nat_tests, begins, beginning a p)

not_less : (o : Ordering) → (o ≡ Less → ⊥) → is_lt o ≡ false
not_less Less other = absurd (other refl)
not_less Equal other = refl
not_less Greater other = refl

-- what comes after a text that isn't before p isn't before p
pub later : (a b p : List ℕ) → is_lt (text_order a p) ≡ false → text_order a b ≡ Less → is_lt (text_order b p) ≡ false
later a b p high low = not_less (text_order b p) (λ e. true≢false (sym (ap is_lt (nat_list_cmp_total.trans a b p low e)) ∙ high))

-- after p, what begins with p comes before what doesn't
pub past : (a b p : List ℕ) → is_lt (text_order a p) ≡ false → starts_with nat_eq a p ≡ false → text_order a b ≡ Less → starts_with nat_eq b p ≡ false
past a b [] high other low = absurd (true≢false other)
past [] b (c ∷ p) high other low = absurd (true≢false high)
past (x ∷ a) [] (c ∷ p) high other low = refl
past (x ∷ a) (y ∷ b) (c ∷ p) high other low = grind (arith, nat_tests, high, other, low, past a b p)

not_true : (b : Bool) → (b ≡ true → ⊥) → b ≡ false
not_true true other = absurd (other refl)
not_true false other = refl

-- once the test fails it fails for all that follow
abbrev pub Falls : {T : Type 0} → (T → Bool) → List T → Type 0
Falls q [] = Unit {0}
Falls q (x ∷ xs) = (q x ≡ false → AllByRecursion (λ y. q y ≡ false) xs) × Falls q xs

all_fail : {T : Type 0} (q : T → Bool) (xs : List T) (j : ℕ) (d : T) → AllByRecursion (λ y. q y ≡ false) xs → j < length xs → q (get_or xs j d) ≡ false
all_fail q [] j d all within = absurd (omega arith)
all_fail q (x ∷ xs) zero d all within = all.0
all_fail q (x ∷ xs) (suc j) d all within = all_fail q xs j d all.1 (omega arith)

not_false : (b : Bool) → (b ≡ false → ⊥) → b ≡ true
not_false true other = refl
not_false false other = absurd (other refl)

pub parted : {T : Type 0} (q : T → Bool) (xs : List T) → Falls q xs → IsPartitionedBy q xs
parted q [] falls i j d low high passes = absurd (omega arith)
parted q (x ∷ xs) falls zero zero d low high passes = passes
parted q (x ∷ xs) falls zero (suc j) d low high passes = not_false (q x) (λ fails. true≢false (sym passes ∙ all_fail q xs j d (falls.0 fails) (omega arith)))
parted q (x ∷ xs) falls (suc i) zero d low high passes = absurd (omega arith)
parted q (x ∷ xs) falls (suc i) (suc j) d low high passes = parted q xs falls.1 i j d (omega arith) (omega arith) passes

-- what passes is the front
pub filter_front : {T : Type 0} (q : T → Bool) (xs : List T) (i : ℕ) → AllWithin (λ y. q y ≡ true) xs 0 i → AllWithin (λ y. q y ≡ false) xs i (length xs) → i ≤ length xs → filter q xs ≡ take i xs
filter_front q [] zero front rest within = refl
filter_front q [] (suc i) front rest within = refl
filter_front q (x ∷ xs) zero front rest within =
    rw (rest 0 x (omega arith) (omega arith)) (filter_front q xs 0 (λ k d low high. absurd (omega arith)) (λ k d low high. rest (suc k) d (omega arith) (omega arith)) (omega arith))
filter_front q (x ∷ xs) (suc i) front rest within =
    rw (front 0 x (omega arith) (omega arith)) (ap (λ t. x ∷ t) (filter_front q xs i (λ k d low high. front (suc k) d (omega arith) (omega arith)) (λ k d low high. rest (suc k) d (omega arith) (omega arith)) (omega arith)))

-- what fails in front is passed over
pub filter_past : {T : Type 0} (q : T → Bool) (xs : List T) (i : ℕ) → AllWithin (λ y. q y ≡ false) xs 0 i → i ≤ length xs → filter q xs ≡ filter q (drop i xs)
filter_past q xs zero front within = refl
filter_past q [] (suc i) front within = refl
filter_past q (x ∷ xs) (suc i) front within = rw (front 0 x (omega arith) (omega arith)) (filter_past q xs i (λ k d low high. front (suc k) d (omega arith) (omega arith)) (omega arith))

module _ {T : Type 0} (key : T → Key) (p : List ℕ) where
  abbrev pub before : Stored T → Bool
  before x = is_lt (text_order (joined (key x.object)) p)

  abbrev pub within : Stored T → Bool
  within x = starts_with nat_eq (joined (key x.object)) p

  all_later : (x : Stored T) (xs : List (Stored T)) → before x ≡ false → AllByRecursion (λ l. key_order (key x.object) l ≡ Less) (map (stored_key key) xs) → AllByRecursion (λ y. before y ≡ false) xs
  all_later x [] high all = tt
  all_later x (y ∷ xs) high all = (later (joined (key x.object)) (joined (key y.object)) p high all.0, all_later x xs high all.1)

  pub before_falls : (xs : List (Stored T)) → IsInKeyOrder key xs → Falls before xs
  unfolding IsStrictlySortedBy
  before_falls [] order = tt
  before_falls (x ∷ xs) order = ((λ high. all_later x xs high order.0), before_falls xs order.1)

  all_past : (x : Stored T) (xs : List (Stored T)) → before x ≡ false → within x ≡ false → AllByRecursion (λ l. key_order (key x.object) l ≡ Less) (map (stored_key key) xs) → AllByRecursion (λ y. within y ≡ false) xs
  all_past x [] high other all = tt
  all_past x (y ∷ xs) high other all = (past (joined (key x.object)) (joined (key y.object)) p high other all.0, all_past x xs high other all.1)

  pub within_falls : (xs : List (Stored T)) → IsInKeyOrder key xs → AllByRecursion (λ y. before y ≡ false) xs → Falls within xs
  unfolding IsStrictlySortedBy
  within_falls [] order high = tt
  within_falls (x ∷ xs) order high = ((λ other. all_past x xs high.0 other order.0), within_falls xs order.1 high.1)

  pub ordered_drop : (xs : List (Stored T)) (i : ℕ) → IsInKeyOrder key xs → IsInKeyOrder key (drop i xs)
  unfolding IsStrictlySortedBy
  ordered_drop xs zero order = order
  ordered_drop [] (suc i) order = tt
  ordered_drop (x ∷ xs) (suc i) order = ordered_drop xs i order.1

  all_take : (P : Key → Type 0) (xs : List (Stored T)) (j : ℕ) → AllByRecursion P (map (stored_key key) xs) → AllByRecursion P (map (stored_key key) (take j xs))
  all_take P xs zero all = tt
  all_take P [] (suc j) all = tt
  all_take P (x ∷ xs) (suc j) all = (all.0, all_take P xs j all.1)

  pub ordered_take : (xs : List (Stored T)) (j : ℕ) → IsInKeyOrder key xs → IsInKeyOrder key (take j xs)
  unfolding IsStrictlySortedBy
  ordered_take xs zero order = tt
  ordered_take [] (suc j) order = tt
  ordered_take (x ∷ xs) (suc j) order = (all_take _ xs j order.0, ordered_take xs j order.1)

  pub high_drop : (xs : List (Stored T)) (i : ℕ) → AllWithin (λ y. before y ≡ false) xs i (length xs) → AllByRecursion (λ y. before y ≡ false) (drop i xs)
  high_drop [] zero rest = tt
  high_drop [] (suc i) rest = tt
  high_drop (x ∷ xs) zero rest = (rest 0 x (omega arith) (omega arith), high_drop xs 0 (λ k d low high. rest (suc k) d (omega arith) (omega arith)))
  high_drop (x ∷ xs) (suc i) rest = high_drop xs i (λ k d low high. rest (suc k) d (omega arith) (omega arith))

  other_from_before : (x : Stored T) → before x ≡ true → within x ≡ false
  other_from_before x low = not_true (within x) (λ begins. true≢false (sym low ∙ beginning (joined (key x.object)) p begins))

  -- the objects whose keys begin with p are those between the two places
  pub between : (xs : List (Stored T)) (i j : ℕ) → i ≤ length xs → j ≤ length (drop i xs) →
      IsPartitionPoint (λ y. before y ≡ true) (λ y. before y ≡ false) xs i →
      IsPartitionPoint (λ y. within y ≡ true) (λ y. within y ≡ false) (drop i xs) j →
      take j (drop i xs) ≡ filter within xs
  between xs i j low high first second =
      sym (filter_past within xs i (λ k d l h. other_from_before (get_or xs k d) (first.0 k d l h)) low ∙ filter_front within (drop i xs) j second.0 second.1 high)

-- the keys whose texts begin with a namespace and a slash are those that stand in it
pub in_by_text : {T : Type 0} (key : T → Key) (namespace : List ℕ) (xs : List (Stored T)) → AllKeys key xs → filter (within key (namespace ++ 47 ∷ [])) xs ≡ in_namespace key namespace xs
in_by_text key namespace [] keys = refl
in_by_text key namespace (x ∷ xs) keys =
    rw (key_in_by_text (key x.object) namespace keys.0) (ap (λ t. cond (is_in_namespace namespace (key x.object)) (x ∷ t) t) (in_by_text key namespace xs keys.1))

right : (a b : Bool) → (a && b) ≡ true → b ≡ true
right true b both = both
right false b both = absurd (true≢false (sym both))

named : (text : List ℕ) → is_name text ≡ true → is_some (name_of text) ≡ true
named text is = rw is refl

-- what is no name isn't the name of a key
other_from_no_name : (k : Key) (text : List ℕ) → is_key k ≡ true → name_of text ≡ None → same_key k (cluster_key text) ≡ false
other_from_no_name k text form none = not_true (same_key k (cluster_key text)) (λ same.
    let names : k.name ≡ text = (bytes_eq-Decides k.name text).0 (right (bytes_eq k.namespace []) (bytes_eq k.name text) same) in
    let is : is_name text ≡ true = ap is_name (sym names) ∙ right (is_namespace_or_none k.namespace) (is_name k.name) form in
    true≢false (sym (named text is) ∙ ap is_some none))

-- so no object has it as its name
pub none_of_no_name : {T : Type 0} (key : T → Key) (text : List ℕ) (xs : List (Stored T)) → AllKeys key xs → name_of text ≡ None → stored_at key (cluster_key text) xs ≡ None
none_of_no_name key text [] keys none = refl
none_of_no_name key text (x ∷ xs) keys none = rw (other_from_no_name (key x.object) text keys.0 none) (none_of_no_name key text xs keys.1 none)
