-- The entries of the map of strings stand for the labels.
use Rattle.std.proofs.Common.{◌≡◌, ℕ, List, [], ◌∷◌, String, Global, string_bytes, string_cmp, nat_cmp, Less, Equal, Greater, refl, ap, ◌∙◌, sym, map, Option, Some, None, option_map, option_copied, Bool, ◌||◌, bytes_eq, cond, true, false, subst}
use Rattle.std.specs.BTreeMap.{insert_entry, is_at}
use Rattle.std.specs.Cmp.Lexicographic.{slice_cmp}
use Rattle.std.specs.List.{AllByRecursion, AllZip, list_any}
use Rattle.std.specs.List.Sorted.{IsStrictlySortedBy}
use Rattle.std.specs.Map.{keys_of, lookup}
use Rattle.std.specs.Ordering.{match_ordering}
use Rattle.std.proofs.lemmas.Map.Text.{is_eq-slice_cmp}
use Rattle.gw_labels.specs.Labels.{text_order, put, label_of, IsInKeyOrder}

-- an entry as a label
abbrev pub label : String Global × String Global → List ℕ × List ℕ
label e = (string_bytes e.0, string_bytes e.1)

pub put_is : (k v : String Global) (es : List (String Global × String Global))
    → map label (insert_entry string_cmp es k v) ≡ put (string_bytes k) (string_bytes v) (map label es)
put_is k v [] = refl
put_is k v (e ∷ es) =
    elim (string_cmp k e.0) as (λ o. map label (match_ordering o ((k, v) ∷ e ∷ es) ((e.0, v) ∷ es) (e ∷ insert_entry string_cmp es k v))
    ≡ match_ordering o ((string_bytes k, string_bytes v) ∷ label e ∷ map label es) ((string_bytes e.0, string_bytes v) ∷ map label es) (label e ∷ put (string_bytes k) (string_bytes v) (map label es)))
    [ Less ↦ refl | Equal ↦ refl | Greater ↦ ap (λ ls. label e ∷ ls) (put_is k v es) ]

pub value_is : (key : List ℕ) (es : List (String Global × String Global))
    → option_map string_bytes (lookup (is_at (λ k. slice_cmp nat_cmp key (string_bytes k))) es) ≡ label_of key (map label es)
value_is key [] = refl
value_is key (e ∷ es) = rw (is_eq-slice_cmp key (string_bytes e.0))
    (elim (bytes_eq key (string_bytes e.0)) as (λ b. option_map string_bytes (cond b (Some e.1) (lookup (is_at (λ k. slice_cmp nat_cmp key (string_bytes k))) es)) ≡ cond b (Some (string_bytes e.1)) (label_of key (map label es)))
    [ true ↦ refl | false ↦ value_is key es ])

below_all : (k : String Global) (es : List (String Global × String Global)) → AllByRecursion (λ y. string_cmp k y ≡ Less) (keys_of es)
    → AllByRecursion (λ y. text_order (string_bytes k) y ≡ Less) (keys_of (map label es))
below_all k [] below = tt
below_all k (e ∷ es) below = (below.0, below_all k es below.1)

pub labels_ascend : (es : List (String Global × String Global)) → IsStrictlySortedBy string_cmp (keys_of es) → IsInKeyOrder (map label es)
unfolding IsStrictlySortedBy
labels_ascend [] ascend = tt
labels_ascend (e ∷ es) ascend = (below_all e.0 es ascend.0, labels_ascend es ascend.1)

pub clone_is : (es fs : List (String Global × String Global))
    → AllZip (λ p q. (string_bytes q.0 ≡ string_bytes p.0) × (string_bytes q.1 ≡ string_bytes p.1)) es fs → map label fs ≡ map label es
clone_is [] [] same = refl
clone_is (e ∷ es) (f ∷ fs) same =
    ap (λ k. (k, string_bytes f.1) ∷ map label fs) same.0.0 ∙ ap (λ v. (string_bytes e.0, v) ∷ map label fs) same.0.1 ∙ ap (λ ls. label e ∷ ls) (clone_is es fs same.1)
clone_is [] (f ∷ fs) same = absurd same
clone_is (e ∷ es) [] same = absurd same

pub any_is : (value : List ℕ) (values : List (String Global)) → list_any (λ v. bytes_eq value (string_bytes v)) values ≡ list_any (bytes_eq value) (map string_bytes values)
any_is value [] = refl
any_is value (v ∷ vs) = ap (λ b. bytes_eq value (string_bytes v) || b) (any_is value vs)
