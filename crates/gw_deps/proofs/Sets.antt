-- What a put and a removal make of a set.
use Rattle.std.proofs.Common.{◌≡◌, ◌∙◌, ℕ, zero, suc, ◌≤◌, Bool, true, false, not, ◌&&◌, ◌||◌, List, [], ◌∷◌, length, refl, sym, ap, arith, inl, inr}
use Rattle.std.specs.Cmp.{IsTotalOrder}
use Rattle.std.specs.List.{list_any, insert}
use Rattle.std.specs.Ordering.{is_eq, is_ne, ordering_reverse}
use Rattle.std.specs.declared.cmp.Ordering.{Ordering}
use Rattle.std.specs.declared.cmp.Ordering.TheVariants.{Less, Equal, Greater}
use Rattle.std.proofs.lemmas.Map.Views.{any-filter_same}
use Rattle.gw_store.proofs.Digests.{known}
use Rattle.gw_store.proofs.InOrder.{StandsAt, IsMissingAt, Above, others}
use Rattle.gw_deps.specs.Sets.{has}
use Rattle.gw_deps.proofs.Choices.{and_swap, any_agree, or_true}

-- of choices of which one comes first in turn
past_first : (a b c : Bool) → (a || (b || c)) ≡ (b || (a || c))
past_first true true c = refl
past_first true false c = refl
past_first false b c = refl

pub any_insert : {X : Type 0} (p : X → Bool) (xs : List X) (i : ℕ) (x : X) → i ≤ length xs → list_any p (insert xs i x) ≡ (p x || list_any p xs)
any_insert p xs zero x within = refl
any_insert p [] (suc i) x within = absurd (omega arith)
any_insert p (y ∷ xs) (suc i) x within = ap (λ b. p y || b) (any_insert p xs i x (omega arith)) ∙ past_first (p y) (p x) (list_any p xs)

equal_is : (o : Ordering) → is_eq o ≡ true → o ≡ Equal
equal_is Less e = cc
equal_is Equal e = refl
equal_is Greater e = cc

eq_reverse : (o : Ordering) → is_eq (ordering_reverse o) ≡ is_eq o
eq_reverse Less = refl
eq_reverse Equal = refl
eq_reverse Greater = refl

ne_is : (o : Ordering) → is_ne o ≡ not (is_eq o)
ne_is Less = refl
ne_is Equal = refl
ne_is Greater = refl

module _ {X : Type 0} (order : X → X → Ordering) (same : X → X → Bool) (total : IsTotalOrder order) (ties : (x y : X) → is_eq (order x y) ≡ same x y) where
  same_swap : (x y : X) → same x y ≡ same y x
  same_swap x y = sym (ties x y) ∙ (ap is_eq (total.antisymm x y) ∙ (eq_reverse (order y x) ∙ ties y x))

  -- what is the same as x is to others as x is
  same_through : (x y z : X) → same x y ≡ true → same x z ≡ same y z
  same_through x y z is = sym (ties x z) ∙ (ap is_eq (total.congr x y z (equal_is (order x y) (ties x y ∙ is))) ∙ ties y z)

  pub has_through : (e x : X) (xs : List X) → same e x ≡ true → has same x xs ≡ has same e xs
  has_through e x xs is = any_agree (λ y. same y x) (λ y. same y e) (λ y. same_swap y x ∙ (sym (same_through e x y is) ∙ same_swap e y)) xs

  pub has_standing : (e : X) (xs : List X) (i : ℕ) → StandsAt order e xs i → has same e xs ≡ true
  has_standing e [] i stands = absurd stands
  has_standing e (x ∷ xs) zero stands = rw (← ties x e, stands.0) refl
  has_standing e (x ∷ xs) (suc i) stands = ap (λ b. same x e || b) (has_standing e xs i stands.1) ∙ or_true (same x e)

  has_above : (e : X) (xs : List X) → Above order e xs → has same e xs ≡ false
  has_above e [] all = refl
  has_above e (x ∷ xs) all = rw (← ties x e, all.0) (has_above e xs all.1)

  pub has_missing : (e : X) (xs : List X) (i : ℕ) → IsMissingAt order e xs i → has same e xs ≡ false
  has_missing e xs zero gap = has_above e xs gap
  has_missing e [] (suc i) gap = absurd gap
  has_missing e (x ∷ xs) (suc i) gap = rw (← ties x e, gap.0) (has_missing e xs i gap.1)

  -- a put of what is there already
  pub put_there : (e x : X) (xs : List X) (i : ℕ) → StandsAt order e xs i → has same x xs ≡ (same e x || has same x xs)
  put_there e x xs i stands =
      elim (known (same e x)) [
        | inl is ↦ (rw is (has_through e x xs is ∙ has_standing e xs i stands))
        | inr other ↦ (rw other refl)
      ]

  -- what is the same as x, and so is to e as x is
  other_alike : (e x y : X) → same y x ≡ true → is_ne (order y e) ≡ not (same e x)
  other_alike e x y is = ne_is (order y e) ∙ ap not (ties y e ∙ (same_through y x e is ∙ same_swap x e))

  pub without : (e x : X) (xs : List X) → has same x (others order e xs) ≡ (has same x xs && not (same e x))
  without e x xs =
      any-filter_same (λ y. same y x) (λ y. is_ne (order y e)) (not (same e x)) (other_alike e x) xs
      ∙ and_swap (not (same e x)) (has same x xs)
