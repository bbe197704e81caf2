-- Keys of their form: no slash stands in a namespace or a name, so the text of a key gives both back.
use Rattle.std.proofs.Common.{◌≡◌, ◌∙◌, ℕ, Bool, true, false, not, ◌&&◌, ◌||◌, ◌==◌, List, [], ◌∷◌, ◌++◌, refl, sym, ap, arith, nat_eq, ◌↔◌}
use Rattle.std.specs.Cmp.Lexicographic.{slice_cmp}
use Rattle.std.specs.List.{list_all, starts_with}
use Rattle.std.specs.Ordering.{nat_cmp, is_lt, is_eq, is_gt, ordering_then, ordering_reverse}
use Rattle.std.specs.Str.{bytes_eq}
use Rattle.std.specs.Bool.{Decides}
use Rattle.std.specs.Cmp.{IsTotalOrder, Equal-is}
use Rattle.std.specs.declared.cmp.Ordering.{Ordering}
use Rattle.std.specs.declared.cmp.Ordering.TheVariants.{Less, Equal, Greater}
use Rattle.std.proofs.lemmas.Cmp.{nat_list_cmp_total, on_total}
use Rattle.std.proofs.lemmas.Slice.Eq.{bytes_eq-Decides}
use Rattle.std.proofs.lemmas.Bool.Decides.{nat_tests}
use Rattle.std.proofs.lemmas.Map.Text.{is_eq-slice_cmp}
use Rattle.std.proofs.Math.Seq.{append_snoc}
use mathlib.Core.Bool.{true≢false}
use Rattle.gw_text.specs.model.Forms.{is_label_byte, is_dot, is_key, is_name, is_namespace_or_none}
use Rattle.gw_text.specs.model.Names.{Key, joined, separator, key_order, same_key, is_given, is_in_namespace}

-- a byte that isn't a slash
abbrev pub is_other : ℕ → Bool
is_other b = not (b == 47)

label_byte : (b : ℕ) → is_label_byte b ≡ true → is_other b ≡ true
label_byte b is = grind (arith, nat_tests, is)

name_byte : (b : ℕ) → (is_label_byte b || is_dot b) ≡ true → is_other b ≡ true
name_byte b is = grind (arith, nat_tests, is)

-- a text without a slash doesn't begin with a text and a slash
starts_without : (p m : List ℕ) → list_all is_other m ≡ true → starts_with nat_eq m (p ++ 47 ∷ []) ≡ false
starts_without [] [] all = refl
starts_without [] (x ∷ m) all = grind (arith, nat_tests, all)
starts_without (c ∷ p) [] all = refl
starts_without (c ∷ p) (x ∷ m) all = grind (arith, nat_tests, all, starts_without p m)

-- what stands before the first slash
starts_within : (p n m : List ℕ) → list_all is_other n ≡ true → list_all is_other m ≡ true → starts_with nat_eq (n ++ 47 ∷ m) (p ++ 47 ∷ []) ≡ bytes_eq n p
starts_within [] [] m named all = refl
starts_within [] (x ∷ n) m named all = grind (arith, nat_tests, named)
starts_within (c ∷ p) [] m named all = grind (arith, nat_tests, starts_without p m all)
starts_within (c ∷ p) (x ∷ n) m named all = grind (arith, nat_tests, named, starts_within p n m)

-- a text without a slash isn't one with a slash
eq_without : (m n l : List ℕ) → list_all is_other m ≡ true → bytes_eq m (n ++ 47 ∷ l) ≡ false
eq_without [] [] l all = refl
eq_without [] (y ∷ n) l all = refl
eq_without (x ∷ m) [] l all = grind (arith, nat_tests, all)
eq_without (x ∷ m) (y ∷ n) l all = grind (arith, nat_tests, all, eq_without m n l)

without_eq : (n m l : List ℕ) → list_all is_other l ≡ true → bytes_eq (n ++ 47 ∷ m) l ≡ false
without_eq [] m [] all = refl
without_eq [] m (y ∷ l) all = grind (arith, nat_tests, all)
without_eq (x ∷ n) m [] all = refl
without_eq (x ∷ n) m (y ∷ l) all = grind (arith, nat_tests, all, without_eq n m l)

eq_within : (n p m l : List ℕ) → list_all is_other n ≡ true → list_all is_other p ≡ true → bytes_eq (n ++ 47 ∷ m) (p ++ 47 ∷ l) ≡ (bytes_eq n p && bytes_eq m l)
eq_within [] [] m l first second = refl
eq_within [] (y ∷ p) m l first second = grind (arith, nat_tests, second)
eq_within (x ∷ n) [] m l first second = grind (arith, nat_tests, first)
eq_within (x ∷ n) (y ∷ p) m l first second = grind (arith, nat_tests, first, second, eq_within n p m l)

both : (a b : Bool) → (a && b) ≡ true → (a ≡ true) × (b ≡ true)
both true b e = (refl, e)
both false b e = absurd (true≢false (sym e))

labels_other : (t : List ℕ) → list_all is_label_byte t ≡ true → list_all is_other t ≡ true
labels_other [] all = refl
labels_other (b ∷ t) all = let p = both _ _ all in rw (label_byte b p.0) (labels_other t p.1)

names_other : (t : List ℕ) → list_all (λ b. is_label_byte b || is_dot b) t ≡ true → list_all is_other t ≡ true
names_other [] all = refl
names_other (b ∷ t) all = let p = both _ _ all in rw (name_byte b p.0) (names_other t p.1)

namespace_other : (n : List ℕ) → is_namespace_or_none n ≡ true → list_all is_other n ≡ true
namespace_other [] is = refl
namespace_other (b ∷ n) is = labels_other (b ∷ n) (both _ _ (both _ _ is).0).1

name_other : (n : List ℕ) → is_name n ≡ true → list_all is_other n ≡ true
name_other n is = names_other n (both _ _ (both _ _ is).0).1

-- the text begins with a namespace and a slash exactly where the object stands in it
in_by_text : (n m p : List ℕ) → list_all is_other n ≡ true → list_all is_other m ≡ true → starts_with nat_eq (n ++ separator n ++ m) (p ++ 47 ∷ []) ≡ (is_given p && bytes_eq n p)
in_by_text [] m [] named all = starts_without [] m all
in_by_text [] m (c ∷ p) named all = starts_without (c ∷ p) m all
in_by_text (b ∷ n) m [] named all = ap (λ t. starts_with nat_eq t (47 ∷ [])) (append_snoc (b ∷ n) 47 m) ∙ starts_within [] (b ∷ n) m named all
in_by_text (b ∷ n) m (c ∷ p) named all = ap (λ t. starts_with nat_eq t ((c ∷ p) ++ 47 ∷ [])) (append_snoc (b ∷ n) 47 m) ∙ starts_within (c ∷ p) (b ∷ n) m named all

pub key_in_by_text : (k : Key) (p : List ℕ) → is_key k ≡ true → starts_with nat_eq (joined k) (p ++ 47 ∷ []) ≡ is_in_namespace p k
key_in_by_text k p is = let forms = both (is_namespace_or_none k.namespace) (is_name k.name) is in in_by_text k.namespace k.name p (namespace_other k.namespace forms.0) (name_other k.name forms.1)

same_by_text : (n m p l : List ℕ) → list_all is_other n ≡ true → list_all is_other m ≡ true → list_all is_other p ≡ true → list_all is_other l ≡ true
    → bytes_eq (n ++ separator n ++ m) (p ++ separator p ++ l) ≡ (bytes_eq n p && bytes_eq m l)
same_by_text [] m [] l first all second every = refl
same_by_text [] m (c ∷ p) l first all second every = ap (λ t. bytes_eq m t) (append_snoc (c ∷ p) 47 l) ∙ eq_without m (c ∷ p) l all
same_by_text (b ∷ n) m [] l first all second every = ap (λ t. bytes_eq t l) (append_snoc (b ∷ n) 47 m) ∙ without_eq (b ∷ n) m l every
same_by_text (b ∷ n) m (c ∷ p) l first all second every = ap (λ t. bytes_eq t ((c ∷ p) ++ separator (c ∷ p) ++ l)) (append_snoc (b ∷ n) 47 m) ∙ ap (λ t. bytes_eq ((b ∷ n) ++ 47 ∷ m) t) (append_snoc (c ∷ p) 47 l) ∙ eq_within (b ∷ n) (c ∷ p) m l first second

-- keys are compared as equal exactly where they are the same
pub equal_is_same : (k l : Key) → is_key k ≡ true → is_key l ≡ true → is_eq (key_order k l) ≡ same_key k l
equal_is_same k l first second =
    let a = both (is_namespace_or_none k.namespace) (is_name k.name) first in
    let b = both (is_namespace_or_none l.namespace) (is_name l.name) second in
    is_eq-slice_cmp (joined k) (joined l) ∙ same_by_text k.namespace k.name l.namespace l.name (namespace_other k.namespace a.0) (name_other k.name a.1) (namespace_other l.namespace b.0) (name_other l.name b.1)

same_byte : (b : ℕ) → nat_cmp b b ≡ Equal
same_byte b = grind (arith, nat_tests)

-- what two texts begin with alike doesn't count
same_front : (p a b : List ℕ) → slice_cmp nat_cmp (p ++ a) (p ++ b) ≡ slice_cmp nat_cmp a b
same_front [] a b = refl
same_front (x ∷ p) a b = ap (λ o. ordering_then o (slice_cmp nat_cmp (p ++ a) (p ++ b))) (same_byte x) ∙ same_front p a b

-- keys of one namespace are ordered by their names
pub order_by_name : (k l : Key) → k.namespace ≡ l.namespace → slice_cmp nat_cmp k.name l.name ≡ key_order k l
order_by_name k l same = rw same (sym (same_front (l.namespace ++ separator l.namespace) k.name l.name))

key_from_same : (k l : Key) → same_key k l ≡ true → k ≡ l
key_from_same k l same =
    let parts = both (bytes_eq k.namespace l.namespace) (bytes_eq k.name l.name) same in
    let namespaces : k.namespace ≡ l.namespace = (bytes_eq-Decides k.namespace l.namespace).0 parts.0 in
    let names : k.name ≡ l.name = (bytes_eq-Decides k.name l.name).0 parts.1 in
    ap (λ n. record { namespace = n; name = k.name }) namespaces ∙ ap (λ n. record { namespace = l.namespace; name = n }) names

pub same_from_key : (k l : Key) → k ≡ l → same_key k l ≡ true
same_from_key k l e =
    rw ((bytes_eq-Decides k.namespace l.namespace).1 (ap (λ (m : Key). m.namespace) e)) ((bytes_eq-Decides k.name l.name).1 (ap (λ (m : Key). m.name) e))

-- keys with one text are one key
pub equal_exactly : (k l : Key) (o : Ordering) → is_key k ≡ true → is_key l ≡ true → o ≡ key_order k l → (o ≡ Equal) ↔ (k ≡ l)
equal_exactly k l o first second order =
    let decides : Decides (is_eq (key_order k l)) (key_order k l ≡ Equal) = Equal-is (key_order k l) in (
      (λ e. key_from_same k l (sym (equal_is_same k l first second) ∙ decides.1 (sym order ∙ e))),
      (λ e. order ∙ decides.0 (equal_is_same k l first second ∙ same_from_key k l e)),
    )

Less≢Equal : Less ≡ Equal → ⊥
Less≢Equal e = true≢false (ap is_lt e)

Greater≢Equal : Greater ≡ Equal → ⊥
Greater≢Equal e = true≢false (ap is_gt e)

pub key_total : IsTotalOrder key_order
key_total = on_total joined nat_list_cmp_total

pub order_from_same : (k l : Key) → k ≡ l → key_order k l ≡ Equal
order_from_same k l e = ap (λ m. key_order k m) (sym e) ∙ (Equal-is (key_order k k)).0 (is_eq-slice_cmp (joined k) (joined k) ∙ (bytes_eq-Decides (joined k) (joined k)).1 refl)

-- the order the other way round
pub higher_from_lower : (k l : Key) → key_order k l ≡ Less → key_order l k ≡ Greater
higher_from_lower k l low = key_total.antisymm l k ∙ ap ordering_reverse low

pub lower_from_higher : (k l : Key) → key_order k l ≡ Greater → key_order l k ≡ Less
lower_from_higher k l high = key_total.antisymm l k ∙ ap ordering_reverse high

not_true : (b : Bool) → (b ≡ true → ⊥) → b ≡ false
not_true true other = absurd (other refl)
not_true false other = refl

-- keys of which one stands before the other aren't the same
pub other_from_lower : (k l : Key) → key_order k l ≡ Less → same_key k l ≡ false
other_from_lower k l low = not_true (same_key k l) (λ same. Less≢Equal (sym low ∙ order_from_same k l (key_from_same k l same)))

pub other_from_higher : (k l : Key) → key_order k l ≡ Greater → same_key k l ≡ false
other_from_higher k l high = not_true (same_key k l) (λ same. Greater≢Equal (sym high ∙ order_from_same k l (key_from_same k l same)))
