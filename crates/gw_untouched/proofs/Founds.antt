-- What stays, from what is found by keys and from what is evaluated of it.
use Rattle.std.proofs.Common.{◌≡◌, ◌∙◌, ℕ, ℤ, Bool, true, false, ◌&&◌, List, [], ◌∷◌, map, filter, Option, None, Some, IfSome, option_map, Result, refl, sym, ap, inl, inr}
use Rattle.std.specs.List.{AllByRecursion, list_any}
use Rattle.std.specs.Str.{bytes_eq}
use Rattle.gw_text.specs.model.Names.{Key, cluster_key, same_key}
use Rattle.gw_text.specs.model.Routes.{HttpRoute}
use Rattle.gw_text.specs.model.Stored.{Stored, stored_at}
use Rattle.gw_text.specs.model.World.{World, route_at}
use Rattle.gw_store.proofs.Digests.{known}
use Rattle.gw_deps.proofs.Choices.{any_agree, any_none}
use Rattle.gw_deps.proofs.Depending.{keys_of}
use Rattle.gw_deps.proofs.Replacing.{same_swap, same_through}
use Rattle.gw_deps.specs.Edges.{has_key}
use Rattle.gw_deps.specs.Indexes.{HasKey, with_next}
use Rattle.gw_eval.specs.Results.{route_result_of}
use Rattle.gw_untouched.specs.Untouched.{IsSameRoute, IsTableFor, RouteStays}
use Rattle.gw_untouched.proofs.Tables.{IsPlace, found_next, neither, place_of}

-- where a test finds none, each fails it
pub each_false : {X : Type 0} (p : X → Bool) (xs : List X) → list_any p xs ≡ false → AllByRecursion (λ x. p x ≡ false) xs
each_false p [] none = tt
each_false p (x ∷ xs) none = let parts = neither (p x) (list_any p xs) none in (parts.0, each_false p xs parts.1)

pub all_are : {X : Type 0} (P : X → Type 0) → ((x : X) → P x) → (xs : List X) → AllByRecursion P xs
all_are P is [] = tt
all_are P is (x ∷ xs) = (is x, all_are P is xs)

pub all_by : {X : Type 0} (P Q : X → Type 0) → ((x : X) → P x → Q x) → (xs : List X) → AllByRecursion P xs → AllByRecursion Q xs
all_by P Q step [] all = tt
all_by P Q step (x ∷ xs) all = (step x all.0, all_by P Q step xs all.1)

pub if_some : {X : Type 0} (P Q : X → Type 0) → ((x : X) → P x → Q x) → (o : Option X) → IfSome o P → IfSome o Q
if_some P Q step None holds = tt
if_some P Q step (Some x) holds = step x holds

pub if_some_two : {X : Type 0} (P Q R : X → Type 0) → ((x : X) → P x → Q x → R x) → (o : Option X) → IfSome o P → IfSome o Q → IfSome o R
if_some_two P Q R step None first second = tt
if_some_two P Q R step (Some x) first second = step x first second

pub some_is : {X : Type 0} (Q : X → Type 0) → ((x : X) → Q x) → (o : Option X) → IfSome o Q
some_is Q is None = tt
some_is Q is (Some x) = is x

pub bytes_swap : (a b : List ℕ) → bytes_eq a b ≡ bytes_eq b a
bytes_swap a b = same_swap (cluster_key a) (cluster_key b)

-- a test that is stronger than one that finds none finds none
pub none_by : {X : Type 0} (p q : X → Bool) (xs : List X) → ((x : X) → p x ≡ false → q x ≡ false) → list_any p xs ≡ false → list_any q xs ≡ false
none_by p q [] step none = refl
none_by p q (x ∷ xs) step none = let parts = neither (p x) (list_any p xs) none in rw (step x parts.0) (none_by p q xs step parts.1)

module _ {T : Type 0} (key : T → Key) where
  not_left : (a b : Bool) → b ≡ true → (a && b) ≡ false → a ≡ false
  not_left true b is e = rw is at e
  not_left false b is e = refl

  -- what is found by a key that no object which passes the test has doesn't pass it
  pub found_fails : (test : T → Bool) (k : Key) (xs : List (Stored T)) → list_any (λ s. test s.object && same_key (key s.object) k) xs ≡ false → IfSome (stored_at key k xs) (λ s. test s.object ≡ false)
  found_fails test k [] none = tt
  found_fails test k (x ∷ xs) none =
      let parts = neither (test x.object && same_key (key x.object) k) (list_any (λ s. test s.object && same_key (key s.object) k) xs) none in
      elim (known (same_key (key x.object) k)) [
        | inl is ↦ (rw is (not_left (test x.object) (same_key (key x.object) k) is parts.0))
        | inr other ↦ (rw other (found_fails test k xs parts.1))
      ]

  pub untouched_fails : (test : T → Bool) (k : Key) (xs : List (Stored T)) → has_key k (map (λ s. key s.object) (filter (λ s. test s.object) xs)) ≡ false → IfSome (stored_at key k xs) (λ s. test s.object ≡ false)
  untouched_fails test k xs none = found_fails test k xs (sym (keys_of key test k xs) ∙ none)

  -- what is found has the key
  pub found_key : (k : Key) (xs : List (Stored T)) → IfSome (stored_at key k xs) (λ s. same_key (key s.object) k ≡ true)
  found_key k [] = tt
  found_key k (x ∷ xs) =
      elim (known (same_key (key x.object) k)) [
        | inl is ↦ (rw is is)
        | inr other ↦ (rw other (found_key k xs))
      ]

  pub apart : (k name : Key) (a : Key) → same_key k name ≡ false → (same_key a name && same_key a k) ≡ false
  apart k name a other =
      elim (known (same_key a name)) [
        | inl is ↦ (rw (is, same_through a name k is, same_swap name k, other) refl)
        | inr not_here ↦ (rw not_here refl)
      ]

  none_of_both : (k name : Key) (xs : List (Stored T)) → same_key k name ≡ false → list_any (λ s. same_key (key s.object) name && same_key (key s.object) k) xs ≡ false
  none_of_both k name xs other =
      any_agree (λ s. same_key (key s.object) name && same_key (key s.object) k) (λ s. false) (λ s. apart k name (key s.object) other) xs ∙ any_none xs

  -- by another key the same is found
  pub other_found_at : (k name : Key) (next : Option T) (at : ℤ) (xs : List (Stored T)) (place : Result ℕ ℕ) → HasKey key name next → IsPlace key name xs place → same_key k name ≡ false → stored_at key k (with_next key name next at xs) ≡ stored_at key k xs
  other_found_at k name next at xs place named here other =
      found_next key k name next at xs place named here (none_of_both k name xs other) (none_of_both k name (with_next key name next at xs) other)

  pub other_found : (k name : Key) (next : Option T) (at : ℤ) (xs : List (Stored T)) → HasKey key name next → IsTableFor key name xs → same_key k name ≡ false → stored_at key k (with_next key name next at xs) ≡ stored_at key k xs
  other_found k name next at xs named table = let place = place_of key name xs table in other_found_at k name next at xs place.0 named place.1

module _ (controller : List ℕ) (w after : World) (k : Key) where
  same_results : (o : Option (Stored HttpRoute)) → IfSome o (λ s. IsSameRoute controller w after s.object)
      → option_map (λ s. route_result_of controller after s.object) o ≡ option_map (λ s. route_result_of controller w s.object) o
  same_results None same = refl
  same_results (Some s) same = ap Some same.result

  pub route_stays : route_at after k ≡ route_at w k → IfSome (route_at w k) (λ s. IsSameRoute controller w after s.object) → RouteStays controller w after k
  route_stays held same = record {
    held = held;
    evaluated = same;
    result = ap (λ o. option_map (λ s. route_result_of controller after s.object) o) held ∙ same_results (route_at w k) same;
  }
