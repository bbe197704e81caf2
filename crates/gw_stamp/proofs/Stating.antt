-- The steps of a change, taken in turn, make what the change makes, if no name stands twice.
use Rattle.std.proofs.Common.{◌≡◌, ◌∙◌, sym, ap, refl, ℤ, Bool, true, false, cond, ◌||◌, inl, inr, Option, None, List, [], ◌∷◌, ◌++◌, map}
use Rattle.std.proofs.Math.Path.{fun_ext}
use Rattle.std.proofs.lemmas.Bool.{cases_Bool}
use Rattle.std.proofs.lemmas.Cmp.{alike_right, eq_by_cmp_equiv}
use Rattle.std.proofs.lemmas.Map.Keys.{IsDistinct-head, IsDistinct-tail}
use Rattle.std.specs.List.{AllByRecursion, IsDistinct}
use Rattle.std.specs.Ordering.{is_eq}
use Rattle.std.specs.declared.cmp.Ordering.{Ordering}
use Rattle.std.specs.declared.cmp.Ordering.TheVariants.{Less, Equal, Greater}
use Rattle.gw_stamp.specs.Names.{CondName, name_order, same_name}
use Rattle.gw_stamp.proofs.Orders.{name_total}
use Rattle.gw_stamp.specs.Stamping.{Stamp, Stamps, is_named, stamp_after, stamped, truth_of, with_one, with_stated, without_name, without_names}

equal_is : (o : Ordering) → is_eq o ≡ true → o ≡ Equal
equal_is Less e = cc
equal_is Equal e = refl
equal_is Greater e = cc

-- a name that isn't the first isn't what is the same as the first
other : (n c m : CondName) → same_name n c ≡ true → same_name n m ≡ false → same_name m c ≡ false
other n c m same differs = ap is_eq (sym (alike_right name_total n c m (equal_is (name_order n c) same))) ∙ (eq_by_cmp_equiv name_total).symm m n ∙ differs

none_stated : (n c : CondName) (stated : List (CondName × Bool)) → AllByRecursion (λ m. same_name n m ≡ false) (map (λ p. p.0) stated) → same_name n c ≡ true
    → truth_of c stated ≡ None
none_stated n c [] all same = refl
none_stated n c (p ∷ stated) all same = rw (other n c p.0 same all.0) (none_stated n c stated all.1 same)

all_behind : (P : CondName → Type 0) (xs ys : List CondName) → AllByRecursion P (xs ++ ys) → AllByRecursion P ys
all_behind P [] ys all = all
all_behind P (x ∷ xs) ys all = all_behind P xs ys all.1

distinct_behind : (xs ys : List CondName) → IsDistinct same_name (xs ++ ys) → IsDistinct same_name ys
distinct_behind [] ys distinct = distinct
distinct_behind (x ∷ xs) ys distinct = distinct_behind xs ys (IsDistinct-tail same_name x (xs ++ ys) distinct)

-- what is gone isn't stated
not_both : (c : CondName) (gone : List CondName) (stated : List (CondName × Bool)) → IsDistinct same_name (gone ++ map (λ p. p.0) stated) → is_named c gone ≡ true → truth_of c stated ≡ None
not_both c [] stated distinct named = cc
not_both c (n ∷ gone) stated distinct named =
    let behind = gone ++ map (λ (p : CondName × Bool). p.0) stated in
    elim (cases_Bool (same_name n c)) [
      | inl same ↦ none_stated n c stated (all_behind (λ m. same_name n m ≡ false) gone (map (λ p. p.0) stated) (IsDistinct-head same_name n behind distinct)) same
      | inr differs ↦ not_both c gone stated (IsDistinct-tail same_name n behind distinct) (rw differs at named)
    ]

without_more : (a b : Bool) (o : Option Stamp) → cond b None (cond a None o) ≡ cond (a || b) None o
without_more true true o = refl
without_more true false o = refl
without_more false b o = refl

without_all : (c : CondName) (gone : List CondName) (stamps : Stamps) → without_names gone stamps c ≡ cond (is_named c gone) None (stamps c)
without_all c [] stamps = refl
without_all c (n ∷ gone) stamps = without_all c gone (without_name n stamps) ∙ without_more (same_name n c) (is_named c gone) (stamps c)

stated_all : (c : CondName) (at : ℤ) (stated : List (CondName × Bool)) (stamps : Stamps) → IsDistinct same_name (map (λ p. p.0) stated)
    → with_stated at stated stamps c ≡ stamp_after at (truth_of c stated) false (stamps c)
stated_all c at [] stamps distinct = refl
stated_all c at (p ∷ stated) stamps distinct =
    let rest = map (λ (q : CondName × Bool). q.0) stated in
    stated_all c at stated (with_one at p.0 p.1 stamps) (IsDistinct-tail same_name p.0 rest distinct)
    ∙ elim (cases_Bool (same_name p.0 c)) as (λ _. stamp_after at (truth_of c stated) false (with_one at p.0 p.1 stamps c) ≡ stamp_after at (truth_of c (p ∷ stated)) false (stamps c)) [
      | inl same ↦ rw (same, none_stated p.0 c stated (IsDistinct-head same_name p.0 rest distinct) same) refl
      | inr differs ↦ rw differs refl
    ]

pub in_turn : (gone : List CondName) (now : List (CondName × Bool)) (at : ℤ) (stamps : Stamps) → IsDistinct same_name (gone ++ map (λ p. p.0) now)
    → with_stated at now (without_names gone stamps) ≡ stamped gone now at stamps
in_turn gone now at stamps distinct = fun_ext λ c.
    stated_all c at now (without_names gone stamps) (distinct_behind gone (map (λ p. p.0) now) distinct)
    ∙ ap (stamp_after at (truth_of c now) false) (without_all c gone stamps)
    ∙ elim (cases_Bool (is_named c gone)) as (λ _. stamp_after at (truth_of c now) false (cond (is_named c gone) None (stamps c)) ≡ stamped gone now at stamps c) [
      | inl named ↦ rw (named, not_both c gone now distinct named) refl
      | inr differs ↦ rw differs refl
    ]
