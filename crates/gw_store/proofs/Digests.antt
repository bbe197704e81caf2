-- The slices of a digest, among all in the order of digests and keys: where they stand, and what a put and a removal make of them.
use Rattle.std.proofs.Common.{◌≡◌, ◌∙◌, Result, ℕ, zero, suc, ◌<◌, ◌≤◌, Bool, true, false, ◌&&◌, ◌==◌, nat_lt, cond, List, [], ◌∷◌, ◌++◌, length, take, drop, filter, refl, sym, ap, ap₂, append-nil, inl, inr, arith, get_or, ◌⊎◌}
use Rattle.std.specs.Cmp.{IsTotalOrder}
use Rattle.std.specs.List.{AllByRecursion, AllWithin}
use Rattle.std.specs.List.Sorted.{IsStrictlySortedBy, IsPartitionPoint, IsSearchInRange, IsBinarySearchResult}
use Rattle.std.specs.Ordering.{is_lt, is_gt, is_ne, nat_cmp, ordering_then}
use Rattle.std.specs.Result.{MatchResult}
use Rattle.std.specs.declared.cmp.Ordering.{Ordering}
use Rattle.std.specs.declared.cmp.Ordering.TheVariants.{Less, Equal, Greater}
use Rattle.std.proofs.lemmas.Bool.{cases_lt}
use Rattle.std.proofs.lemmas.Bool.Decides.{nat_tests}
use Rattle.std.proofs.lemmas.Cmp.{nat_cmp_total, on_total, then_total}
use Rattle.std.proofs.lemmas.List.Elements.{filter-append, filter_agree}
use Rattle.gw_text.specs.model.Names.{Key, key_order}
use Rattle.gw_text.specs.model.Slices.{EndpointSlice}
use Rattle.gw_text.specs.model.World.{slice_key}
use Rattle.gw_text.proofs.Keys.{key_total}
use Rattle.gw_store.specs.ByService.{slice_digest, service_order, put_slice, without, of_digest}
use Rattle.gw_store.proofs.InOrder.{all_weaker, StandsAt, IsMissingAt, found}
use Rattle.gw_store.proofs.Namespaces.{Falls, filter_front, filter_past}

pub known : (b : Bool) → (b ≡ true) ⊎ (b ≡ false)
known true = inl refl
known false = inr refl

and_true : (b : Bool) → (b && true) ≡ b
and_true true = refl
and_true false = refl

and_false : (b : Bool) → (b && false) ≡ false
and_false true = refl
and_false false = refl

-- filters of filters
module _ {X : Type 0} (p q : X → Bool) where
  fused_more : (b : Bool) (x : X) (xs ys : List X) → filter p xs ≡ ys → filter p (cond b (x ∷ xs) xs) ≡ cond (b && p x) (x ∷ ys) ys
  fused_more true x xs ys rest = rw rest refl
  fused_more false x xs ys rest = rest

  pub fused : (xs : List X) → filter p (filter q xs) ≡ filter (λ x. q x && p x) xs
  fused [] = refl
  fused (x ∷ xs) = fused_more (q x) x (filter q xs) (filter (λ x. q x && p x) xs) (fused xs)

either_way : (a b : Bool) → (a && b) ≡ (b && a)
either_way true b = sym (and_true b)
either_way false b = sym (and_false b)

pub swapped : {X : Type 0} (p q : X → Bool) (xs : List X) → filter p (filter q xs) ≡ filter q (filter p xs)
swapped p q xs = fused p q xs ∙ (filter_agree (λ x. q x && p x) (λ x. p x && q x) (λ x. either_way (q x) (p x)) xs ∙ sym (fused q p xs))

nothing : {X : Type 0} (xs : List X) → filter (λ x. false) xs ≡ []
nothing [] = refl
nothing (x ∷ xs) = nothing xs

pub service_total : IsTotalOrder service_order
service_total = then_total (on_total slice_digest nat_cmp_total) (on_total slice_key key_total)

-- two numbers, and then another order
digest_later : (d e f : ℕ) (o : Ordering) → nat_lt d f ≡ false → ordering_then (nat_cmp d e) o ≡ Less → nat_lt e f ≡ false
digest_later d e f o high low = grind (arith, nat_tests, high, low)

digest_past : (d e f : ℕ) (o : Ordering) → nat_lt d f ≡ false → (d == f) ≡ false → ordering_then (nat_cmp d e) o ≡ Less → (e == f) ≡ false
digest_past d e f o high other low = grind (arith, nat_tests, high, other, low)

ties : (m n d : ℕ) → (n == d) ≡ true → (m == d) ≡ true → nat_cmp m n ≡ Equal
ties m n d here there = grind (arith, nat_tests, here, there)

lower_digest : (m n d : ℕ) (o : Ordering) → d < n → (m == d) ≡ true → ordering_then (nat_cmp m n) o ≡ Less
lower_digest m n d o low here = grind (arith, nat_tests, low, here)

higher_digest : (m n d : ℕ) (o : Ordering) → n < d → (m == d) ≡ true → ordering_then (nat_cmp m n) o ≡ Greater
higher_digest m n d o high here = grind (arith, nat_tests, high, here)

higher_from_other : (n d : ℕ) → (n == d) ≡ false → d ≤ n → d < n
higher_from_other n d other high = grind (arith, nat_tests, other, high)

-- the slices of a digest follow one another
module _ (digest : ℕ) where
  abbrev pub lower : EndpointSlice → Bool
  lower s = nat_lt (slice_digest s) digest

  abbrev pub has_digest : EndpointSlice → Bool
  has_digest s = slice_digest s == digest

  pub lower_falls : (xs : List EndpointSlice) → IsStrictlySortedBy service_order xs → Falls lower xs
  unfolding IsStrictlySortedBy
  lower_falls [] order = tt
  lower_falls (a ∷ xs) order = (
    (λ high. all_weaker (λ b. service_order a b ≡ Less) (λ b. lower b ≡ false) (λ b low. digest_later (slice_digest a) (slice_digest b) digest (key_order (slice_key a) (slice_key b)) high low) xs order.0),
    lower_falls xs order.1,
  )

  pub same_falls : (xs : List EndpointSlice) → IsStrictlySortedBy service_order xs → AllByRecursion (λ s. lower s ≡ false) xs → Falls has_digest xs
  unfolding IsStrictlySortedBy
  same_falls [] order high = tt
  same_falls (a ∷ xs) order high = (
    (λ other. all_weaker (λ b. service_order a b ≡ Less) (λ b. has_digest b ≡ false) (λ b low. digest_past (slice_digest a) (slice_digest b) digest (key_order (slice_key a) (slice_key b)) high.0 other low) xs order.0),
    same_falls xs order.1 high.1,
  )

  pub sorted_drop : (xs : List EndpointSlice) (i : ℕ) → IsStrictlySortedBy service_order xs → IsStrictlySortedBy service_order (drop i xs)
  unfolding IsStrictlySortedBy
  sorted_drop xs zero order = order
  sorted_drop [] (suc i) order = tt
  sorted_drop (a ∷ xs) (suc i) order = sorted_drop xs i order.1

  pub high_rest : (xs : List EndpointSlice) (i : ℕ) → AllWithin (λ s. lower s ≡ false) xs i (length xs) → AllByRecursion (λ s. lower s ≡ false) (drop i xs)
  high_rest [] zero rest = tt
  high_rest [] (suc i) rest = tt
  high_rest (a ∷ xs) zero rest = (rest 0 a (omega arith) (omega arith), high_rest xs 0 (λ k d low high. rest (suc k) d (omega arith) (omega arith)))
  high_rest (a ∷ xs) (suc i) rest = high_rest xs i (λ k d low high. rest (suc k) d (omega arith) (omega arith))

  lower_other : (n : ℕ) → nat_lt n digest ≡ true → (n == digest) ≡ false
  lower_other n low = grind (arith, nat_tests, low)

  pub found_between : (xs : List EndpointSlice) (i j : ℕ) → i ≤ length xs → j ≤ length (drop i xs) →
      IsPartitionPoint (λ s. lower s ≡ true) (λ s. lower s ≡ false) xs i →
      IsPartitionPoint (λ s. has_digest s ≡ true) (λ s. has_digest s ≡ false) (drop i xs) j →
      take j (drop i xs) ≡ filter has_digest xs
  found_between xs i j low high first second =
      sym (filter_past has_digest xs i (λ k d l h. lower_other (slice_digest (get_or xs k d)) (first.0 k d l h)) low ∙ filter_front has_digest (drop i xs) j second.0 second.1 high)

-- among the slices of one digest the order is that of the keys
module _ (x : EndpointSlice) (digest : ℕ) (test : Ordering → Bool) where
  abbrev by_service : EndpointSlice → Bool
  by_service t = test (service_order t x)

  abbrev by_key : EndpointSlice → Bool
  by_key t = test (key_order (slice_key t) (slice_key x))

  tied : (m : ℕ) (o : Ordering) → (slice_digest x == digest) ≡ true → (test (ordering_then (nat_cmp m (slice_digest x)) o) && (m == digest)) ≡ ((m == digest) && test o)
  tied m o here =
      elim (known (m == digest)) [
        | inl there ↦ (let same = ties m (slice_digest x) digest here there in rw (there, same) (and_true (test o)))
        | inr other ↦ (rw other (and_false (test (ordering_then (nat_cmp m (slice_digest x)) o))))
      ]

  pub own : (xs : List EndpointSlice) → (slice_digest x == digest) ≡ true → of_digest digest (filter by_service xs) ≡ filter by_key (of_digest digest xs)
  own xs here =
      fused (has_digest digest) by_service xs
      ∙ (filter_agree (λ t. by_service t && has_digest digest t) (λ t. has_digest digest t && by_key t) (λ t. tied (slice_digest t) (key_order (slice_key t) (slice_key x)) here) xs
      ∙ sym (fused by_key (has_digest digest) xs))

-- a test that all slices of another digest pass, or none of them
module _ (x : EndpointSlice) (digest : ℕ) (test : Ordering → Bool) where
  all_pass : (xs : List EndpointSlice) → ((t : EndpointSlice) → has_digest digest t ≡ true → test (service_order t x) ≡ true) → of_digest digest (filter (λ t. test (service_order t x)) xs) ≡ of_digest digest xs
  all_pass xs pass =
      fused (has_digest digest) (λ t. test (service_order t x)) xs
      ∙ filter_agree (λ t. test (service_order t x) && has_digest digest t) (has_digest digest) (λ t.
      elim (known (has_digest digest t)) [
        | inl here ↦ (rw (here, pass t here) refl)
        | inr other ↦ (rw other (and_false (test (service_order t x))))
      ]) xs

  none_pass : (xs : List EndpointSlice) → ((t : EndpointSlice) → has_digest digest t ≡ true → test (service_order t x) ≡ false) → of_digest digest (filter (λ t. test (service_order t x)) xs) ≡ []
  none_pass xs fail =
      fused (has_digest digest) (λ t. test (service_order t x)) xs
      ∙ (filter_agree (λ t. test (service_order t x) && has_digest digest t) (λ t. false) (λ t.
      elim (known (has_digest digest t)) [
        | inl here ↦ (rw (here, fail t here) refl)
        | inr other ↦ (rw other (and_false (test (service_order t x))))
      ]) xs
      ∙ nothing xs)

module _ (x : EndpointSlice) (digest : ℕ) (xs : List EndpointSlice) where
  -- a put of x among the slices of its digest, and among the others
  pub put_own : (slice_digest x == digest) ≡ true → of_digest digest (put_slice x xs)
      ≡ filter (λ t. is_lt (key_order (slice_key t) (slice_key x))) (of_digest digest xs) ++ x ∷ filter (λ t. is_gt (key_order (slice_key t) (slice_key x))) (of_digest digest xs)
  unfolding put_slice
  put_own here =
      filter-append (has_digest digest) (filter (λ t. is_lt (service_order t x)) xs) (x ∷ filter (λ t. is_gt (service_order t x)) xs)
      ∙ rw here (ap₂ (λ (a b : List EndpointSlice). a ++ x ∷ b) (own x digest is_lt xs here) (own x digest is_gt xs here))

  pub put_other : (slice_digest x == digest) ≡ false → of_digest digest (put_slice x xs) ≡ of_digest digest xs
  unfolding put_slice
  put_other other =
      filter-append (has_digest digest) (filter (λ t. is_lt (service_order t x)) xs) (x ∷ filter (λ t. is_gt (service_order t x)) xs)
      ∙ rw other (elim (cases_lt (slice_digest x) digest) [
        | inl high ↦ (
            let is : (t : EndpointSlice) → has_digest digest t ≡ true → service_order t x ≡ Greater = λ t here. higher_digest (slice_digest t) (slice_digest x) digest (key_order (slice_key t) (slice_key x)) high here in
            ap₂ (λ (a b : List EndpointSlice). a ++ b) (none_pass x digest is_lt xs (λ t here. ap is_lt (is t here))) (all_pass x digest is_gt xs (λ t here. ap is_gt (is t here))))
        | inr low ↦ (
            let under = higher_from_other (slice_digest x) digest other low in
            let is : (t : EndpointSlice) → has_digest digest t ≡ true → service_order t x ≡ Less = λ t here. lower_digest (slice_digest t) (slice_digest x) digest (key_order (slice_key t) (slice_key x)) under here in
            ap₂ (λ (a b : List EndpointSlice). a ++ b) (all_pass x digest is_lt xs (λ t here. ap is_lt (is t here))) (none_pass x digest is_gt xs (λ t here. ap is_gt (is t here)))
            ∙ append-nil (of_digest digest xs))
      ])

  -- and its removal
  pub without_own : (slice_digest x == digest) ≡ true → of_digest digest (without x xs) ≡ filter (λ t. is_ne (key_order (slice_key t) (slice_key x))) (of_digest digest xs)
  unfolding without
  without_own here = own x digest is_ne xs here

  pub without_other : (slice_digest x == digest) ≡ false → of_digest digest (without x xs) ≡ of_digest digest xs
  unfolding without
  without_other other =
      all_pass x digest is_ne xs (λ t here. elim (cases_lt (slice_digest x) digest) [
        | inl high ↦ (ap is_ne (higher_digest (slice_digest t) (slice_digest x) digest (key_order (slice_key t) (slice_key x)) high here))
        | inr low ↦ (ap is_ne (lower_digest (slice_digest t) (slice_digest x) digest (key_order (slice_key t) (slice_key x)) (higher_from_other (slice_digest x) digest other low) here))
      ])

-- where a search by digest and key ends
pub placed : (x : EndpointSlice) (digest : ℕ) (name : Key) (xs slices : List EndpointSlice) (r : Result ℕ ℕ) → digest ≡ slice_digest x → name ≡ slice_key x → xs ≡ slices
    → IsStrictlySortedBy service_order slices → IsSearchInRange r (length xs) → IsBinarySearchResult (λ s. ordering_then (nat_cmp (slice_digest s) digest) (key_order (slice_key s) name)) xs r
    → MatchResult r (StandsAt service_order x slices) (IsMissingAt service_order x slices)
placed x digest name xs slices r number key same order range answer =
    found service_order service_total x slices r order (rw same at range) (rw (number, key, same) at answer)
