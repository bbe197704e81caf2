-- What is found in a list in strict order after a put, an insertion and a removal.
use Rattle.std.proofs.Common.{◌≡◌, ◌∙◌, ℕ, zero, suc, ◌<◌, arith, refl, sym, ap, Bool, true, false, cond, inl, inr, Option, Some, None, List, [], ◌∷◌, ◌++◌, length, find, take, drop, set, get_or}
use Rattle.std.proofs.lemmas.Bool.{cases_Bool}
use Rattle.std.proofs.lemmas.Cmp.{alike_right}
use Rattle.std.specs.Cmp.{IsTotalOrder}
use Rattle.std.specs.List.{insert, remove as remove_at}
use Rattle.std.specs.Ordering.{is_eq}
use Rattle.std.specs.declared.cmp.Ordering.{Ordering}
use Rattle.std.specs.declared.cmp.Ordering.TheVariants.{Less, Equal, Greater}
use Rattle.gw_store.proofs.InOrder.{StandsAt, IsMissingAt, Above}

equal_is : (o : Ordering) → is_eq o ≡ true → o ≡ Equal
equal_is Less e = cc
equal_is Equal e = refl
equal_is Greater e = cc

-- a put as it is written with the elements before and behind
pub placed : {X : Type 0} (xs : List X) (i : ℕ) (e : X) → i < length xs → take i xs ++ e ∷ drop (suc i) xs ≡ set xs i e
placed [] i e within = absurd (omega arith)
placed (x ∷ xs) zero e within = refl
placed (x ∷ xs) (suc i) e within = ap (λ t. x ∷ t) (placed xs i e (omega arith))

module _ {X : Type 0} (order : X → X → Ordering) (total : IsTotalOrder order) (c : X) where
  abbrev pub hit : X → Bool
  hit x = is_eq (order x c)

  -- what ties with e is to c as e is
  alike : (x e : X) → order x e ≡ Equal → hit x ≡ hit e
  alike x e tied = ap is_eq (total.congr x e c tied)

  -- what doesn't tie with e doesn't tie with c, which ties with e
  apart : (x e : X) (o : Ordering) → order x e ≡ o → is_eq o ≡ false → hit e ≡ true → hit x ≡ false
  apart x e o is other same = ap is_eq (sym (alike_right total e c x (equal_is (order e c) same)) ∙ is) ∙ other

  none_above : (e : X) (xs : List X) → Above order e xs → hit e ≡ true → find hit xs ≡ None
  none_above e [] all same = refl
  none_above e (x ∷ xs) all same = rw (apart x e Greater all.0 refl same) (none_above e xs all.1 same)

  pub find_missing : (e : X) (xs : List X) (i : ℕ) → IsMissingAt order e xs i → hit e ≡ true → find hit xs ≡ None
  find_missing e xs zero gap same = none_above e xs gap same
  find_missing e [] (suc i) gap same = absurd gap
  find_missing e (x ∷ xs) (suc i) gap same = rw (apart x e Less gap.0 refl same) (find_missing e xs i gap.1 same)

  pub find_standing : (e : X) (xs : List X) (i : ℕ) (d : X) → StandsAt order e xs i → hit e ≡ true → find hit xs ≡ Some (get_or xs i d)
  find_standing e [] i d stands same = absurd stands
  find_standing e (x ∷ xs) zero d stands same = rw (alike x e stands.0 ∙ same) refl
  find_standing e (x ∷ xs) (suc i) d stands same = rw (apart x e Less stands.0 refl same) (find_standing e xs i d stands.1 same)

  -- one more element before others
  more : (e x : X) (w r before after : Option X) → order x e ≡ Less → after ≡ cond (hit e) w before → cond (hit x) (Some x) after ≡ cond (hit e) w (cond (hit x) (Some x) before)
  more e x w r before after less is =
      elim (cases_Bool (hit e)) [
        | inl same ↦ rw (is, same, apart x e Less less refl same) refl
        | inr other ↦ rw (is, other) refl
      ]

  pub find_set : (e : X) (xs : List X) (i : ℕ) → StandsAt order e xs i → find hit (set xs i e) ≡ cond (hit e) (Some e) (find hit xs)
  find_set e [] i stands = absurd stands
  find_set e (x ∷ xs) zero stands =
      elim (cases_Bool (hit e)) [
        | inl same ↦ rw same refl
        | inr other ↦ rw (other, alike x e stands.0 ∙ other) refl
      ]
  find_set e (x ∷ xs) (suc i) stands = more e x (Some e) None (find hit xs) (find hit (set xs i e)) stands.0 (find_set e xs i stands.1)

  pub find_insert : (e : X) (xs : List X) (i : ℕ) → IsMissingAt order e xs i → find hit (insert xs i e) ≡ cond (hit e) (Some e) (find hit xs)
  find_insert e xs zero gap = refl
  find_insert e [] (suc i) gap = absurd gap
  find_insert e (x ∷ xs) (suc i) gap = more e x (Some e) None (find hit xs) (find hit (insert xs i e)) gap.0 (find_insert e xs i gap.1)

  pub find_remove : (e : X) (xs : List X) (i : ℕ) → StandsAt order e xs i → find hit (remove_at xs i) ≡ cond (hit e) None (find hit xs)
  find_remove e [] i stands = absurd stands
  find_remove e (x ∷ xs) zero stands =
      elim (cases_Bool (hit e)) [
        | inl same ↦ rw same (none_above e xs stands.1 same)
        | inr other ↦ rw (other, alike x e stands.0 ∙ other) refl
      ]
  find_remove e (x ∷ xs) (suc i) stands = more e x None None (find hit xs) (find hit (remove_at xs i)) stands.0 (find_remove e xs i stands.1)
