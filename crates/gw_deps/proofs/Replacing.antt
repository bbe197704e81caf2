-- What becomes of edges where the object of a key becomes another one, or goes.
use Rattle.std.proofs.Common.{◌≡◌, ◌∙◌, ℤ, Bool, true, false, not, ◌&&◌, ◌||◌, cond, List, [], ◌∷◌, map, filter, Option, None, Some, option_map, refl, sym, ap, ap₂, inl, inr}
use Rattle.std.specs.Cmp.{IsTotalOrder}
use Rattle.std.specs.List.{AllByRecursion, list_any}
use Rattle.std.specs.List.Sorted.{IsStrictlySortedBy}
use Rattle.std.specs.Option.{option_map_or}
use Rattle.std.specs.Ordering.{is_eq, is_lt, is_gt, is_ne}
use Rattle.std.specs.declared.cmp.Ordering.{Ordering}
use Rattle.std.specs.declared.cmp.Ordering.TheVariants.{Less, Equal, Greater}
use Rattle.std.proofs.lemmas.Cmp.{on_total}
use Rattle.std.proofs.lemmas.List.Folds.{list_any-append}
use Rattle.std.proofs.lemmas.Map.Views.{any-filter_same}
use Rattle.std.proofs.lemmas.Slice.Eq.{bytes_eq-Decides}
use Rattle.std.specs.Str.{bytes_eq}
use mathlib.Core.Bool.{true≢false}
use Rattle.gw_text.specs.model.Names.{Key, key_order, same_key}
use Rattle.gw_text.specs.model.Stored.{Stored, stored_key, stored_at, put, remove, IsInKeyOrder}
use Rattle.gw_text.proofs.Keys.{key_total, same_from_key, other_from_lower, other_from_higher}
use Rattle.gw_store.proofs.Digests.{known}
use Rattle.gw_store.proofs.InOrder.{apart, before, behind, others}
use Rattle.gw_deps.specs.Edges.{Edge, has_edge, same_edge}
use Rattle.gw_deps.specs.Indexes.{AreAlike, AreEdges, Exchange, HasKey, Replaces, edges_by}
use Rattle.gw_deps.proofs.Choices.{and_swap, any_agree, any_filter, any_flat, any_none, any_and, or_swap}

both : (a b : Bool) → (a && b) ≡ true → (a ≡ true) × (b ≡ true)
both true b e = (refl, e)
both false b e = absurd (true≢false (sym e))

-- keys that are the same are one
pub key_is : (k l : Key) → same_key k l ≡ true → k ≡ l
key_is k l same =
    let parts = both (bytes_eq k.namespace l.namespace) (bytes_eq k.name l.name) same in
    let namespaces : k.namespace ≡ l.namespace = (bytes_eq-Decides k.namespace l.namespace).0 parts.0 in
    let names : k.name ≡ l.name = (bytes_eq-Decides k.name l.name).0 parts.1 in
    ap (λ n. record { namespace = n; name = k.name }) namespaces ∙ ap (λ n. record { namespace = l.namespace; name = n }) names

pub same_self : (k : Key) → same_key k k ≡ true
same_self k = same_from_key k k refl

not_true : (b : Bool) → (b ≡ true → ⊥) → b ≡ false
not_true true other = absurd (other refl)
not_true false other = refl

pub same_swap : (k l : Key) → same_key k l ≡ same_key l k
same_swap k l =
    elim (known (same_key k l)) [
      | inl is ↦ (is ∙ sym (same_from_key l k (sym (key_is k l is))))
      | inr other ↦ (other ∙ sym (not_true (same_key l k) (λ is. true≢false (sym (same_from_key k l (sym (key_is l k is))) ∙ other))))
    ]

-- where a and b are the same, one may stand for the other
pub same_through : (a b c : Key) → same_key a b ≡ true → same_key a c ≡ same_key b c
same_through a b c is = ap (λ k. same_key k c) (key_is a b is)

module _ {T : Type 0} (key : T → Key) where
  abbrev stored_order : Stored T → Stored T → Ordering
  stored_order a b = key_order (key a.object) (key b.object)

  stored_total : IsTotalOrder stored_order
  stored_total = on_total (stored_key key) key_total

  pub all_mapped : (k : Key) (xs : List (Stored T)) → AllByRecursion (λ l. key_order k l ≡ Less) (map (stored_key key) xs) → AllByRecursion (λ s. key_order k (key s.object) ≡ Less) xs
  all_mapped k [] all = tt
  all_mapped k (x ∷ xs) all = (all.0, all_mapped k xs all.1)

  pub stored_sorted : (xs : List (Stored T)) → IsInKeyOrder key xs → IsStrictlySortedBy stored_order xs
  unfolding IsStrictlySortedBy
  stored_sorted [] order = tt
  stored_sorted (x ∷ xs) order = (all_mapped (key x.object) xs order.0, stored_sorted xs order.1)

  ne_is : (o : Ordering) → is_ne o ≡ not (is_eq o)
  ne_is Less = refl
  ne_is Equal = refl
  ne_is Greater = refl

  kept_alike : (a b : Bool) (x : Stored T) (xs ys : List (Stored T)) → a ≡ b → xs ≡ ys → cond a (x ∷ xs) xs ≡ cond b (x ∷ ys) ys
  kept_alike a b x xs ys same rest = rw (same, rest) refl

  -- the others by the order of keys are the others by the keys
  others_are : (e : Stored T) (xs : List (Stored T)) → AreAlike key (key e.object) xs → others stored_order e xs ≡ remove key (key e.object) xs
  unfolding remove
  others_are e [] alike = refl
  others_are e (x ∷ xs) alike =
      kept_alike (is_ne (stored_order x e)) (not (same_key (key x.object) (key e.object))) x (others stored_order e xs) (remove key (key e.object) xs)
      (ne_is (stored_order x e) ∙ ap not alike.0) (others_are e xs alike.1)

  put_first : (a b c : Bool) → (a || (b || c)) ≡ (b || (a || c))
  put_first true true c = refl
  put_first true false c = refl
  put_first false b c = refl

  -- a test of all objects after a put: of the new one, or of the others
  pub any_put : (p : T → Bool) (x : T) (at : ℤ) (xs : List (Stored T)) → IsInKeyOrder key xs → AreAlike key (key x) xs
      → list_any (λ s. p s.object) (put key x at xs) ≡ (p x || list_any (λ s. p s.object) (remove key (key x) xs))
  unfolding put
  any_put p x at xs order alike =
      let e : Stored T = record { object = x; first = at } in
      let q : Stored T → Bool = λ s. p s.object in
      let low = before stored_order e xs in
      let high = behind stored_order e xs in
      list_any-append q low (_ ∷ high)
      ∙ (put_first (list_any q low) (p x) (list_any q high)
      ∙ ap (λ b. p x || b) (sym (list_any-append q low high) ∙ (ap (λ l. list_any q l) (apart stored_order stored_total e xs (stored_sorted xs order)) ∙ ap (λ l. list_any q l) (others_are e xs alike))))

  lt_other : (k l : Key) (b : Bool) (o : Ordering) → key_order k l ≡ o → (is_lt o && (same_key k l && b)) ≡ false
  lt_other k l b Less is = ap (λ c. c && b) (other_from_lower k l is)
  lt_other k l b Equal is = refl
  lt_other k l b Greater is = refl

  gt_other : (k l : Key) (b : Bool) (o : Ordering) → key_order k l ≡ o → (is_gt o && (same_key k l && b)) ≡ false
  gt_other k l b Less is = refl
  gt_other k l b Equal is = refl
  gt_other k l b Greater is = ap (λ c. c && b) (other_from_higher k l is)

  -- after a put the object of its key is the new one
  pub put_own : (q : T → Bool) (x : T) (at : ℤ) (xs : List (Stored T)) → list_any (λ s. same_key (key s.object) (key x) && q s.object) (put key x at xs) ≡ q x
  unfolding put
  put_own q x at xs =
      let t : Stored T → Bool = λ s. same_key (key s.object) (key x) && q s.object in
      let lower : Stored T → Bool = λ s. is_lt (key_order (key s.object) (key x)) in
      let higher : Stored T → Bool = λ s. is_gt (key_order (key s.object) (key x)) in
      let none_low : list_any t (filter lower xs) ≡ false = any_filter t lower xs ∙ (any_agree (λ s. lower s && t s) (λ s. false) (λ s. lt_other (key s.object) (key x) (q s.object) (key_order (key s.object) (key x)) refl) xs ∙ any_none xs) in
      let none_high : list_any t (filter higher xs) ≡ false = any_filter t higher xs ∙ (any_agree (λ s. higher s && t s) (λ s. false) (λ s. gt_other (key s.object) (key x) (q s.object) (key_order (key s.object) (key x)) refl) xs ∙ any_none xs) in
      list_any-append t (filter lower xs) (_ ∷ filter higher xs) ∙ rw (none_low, none_high, same_self (key x)) (or_swap (q x) false)

  not_both : (a b : Bool) → (not a && (a && b)) ≡ false
  not_both true b = refl
  not_both false b = refl

  -- after a removal there is none
  pub removed_own : (q : T → Bool) (name : Key) (xs : List (Stored T)) → list_any (λ s. same_key (key s.object) name && q s.object) (remove key name xs) ≡ false
  unfolding remove
  removed_own q name xs =
      any_filter (λ s. same_key (key s.object) name && q s.object) (λ s. not (same_key (key s.object) name)) xs
      ∙ (any_agree (λ s. not (same_key (key s.object) name) && (same_key (key s.object) name && q s.object)) (λ s. false) (λ s. not_both (same_key (key s.object) name) (q s.object)) xs
      ∙ any_none xs)

  -- behind an object of a key there is no other one of it
  none_behind : (q : T → Bool) (name : Key) (k : Key) (xs : List (Stored T)) → k ≡ name → AllByRecursion (λ s. key_order k (key s.object) ≡ Less) xs → list_any (λ s. same_key (key s.object) name && q s.object) xs ≡ false
  none_behind q name k [] is later = refl
  none_behind q name k (x ∷ xs) is later =
      let other : same_key (key x.object) name ≡ false = same_swap (key x.object) name ∙ other_from_lower name (key x.object) (ap (λ l. key_order l (key x.object)) (sym is) ∙ later.0) in
      rw other (none_behind q name k xs is later.1)

  -- the object of a key is the only one of it
  found_more : (q : T → Bool) (name : Key) (x : Stored T) (xs : List (Stored T)) (b : Bool) → same_key (key x.object) name ≡ b → IsInKeyOrder key (x ∷ xs)
      → option_map_or (λ s. q s.object) (stored_at key name xs) false ≡ list_any (λ s. same_key (key s.object) name && q s.object) xs
      → option_map_or (λ s. q s.object) (cond b (Some x) (stored_at key name xs)) false ≡ ((b && q x.object) || list_any (λ s. same_key (key s.object) name && q s.object) xs)
  unfolding IsStrictlySortedBy
  found_more q name x xs true is order rest =
      rw (none_behind q name (key x.object) xs (key_is (key x.object) name is) (all_mapped (key x.object) xs order.0)) (sym (or_swap (q x.object) false))
  found_more q name x xs false is order rest = rest

  pub found_with : (q : T → Bool) (name : Key) (xs : List (Stored T)) → IsInKeyOrder key xs → option_map_or (λ s. q s.object) (stored_at key name xs) false ≡ list_any (λ s. same_key (key s.object) name && q s.object) xs
  unfolding IsStrictlySortedBy
  found_with q name [] order = refl
  found_with q name (x ∷ xs) order = found_more q name x xs (same_key (key x.object) name) refl order (found_with q name xs order.1)

module _ {T : Type 0} (key : T → Key) (edges : T → List Edge) (owned : (x : T) (e : Edge) → has_edge e (edges x) ≡ true → same_key (key x) e.dependant ≡ true) where
  has_by : (e : Edge) (xs : List (Stored T)) → has_edge e (edges_by edges xs) ≡ list_any (λ s. has_edge e (edges s.object)) xs
  has_by e xs = any_flat (λ y. same_edge y e) (λ s. edges s.object) xs

  -- an object that gives the edge is the one of its dependant
  owner : (e : Edge) (name : Key) (x : T) → has_edge e (edges x) ≡ true → same_key (key x) name ≡ same_key e.dependant name
  owner e name x gives = same_through (key x) e.dependant name (owned x e gives)

  removed : (e : Edge) (name : Key) (xs : List (Stored T)) → has_edge e (edges_by edges (remove key name xs)) ≡ (not (same_key e.dependant name) && has_edge e (edges_by edges xs))
  unfolding remove
  removed e name xs =
      has_by e (remove key name xs)
      ∙ (any-filter_same (λ s. has_edge e (edges s.object)) (λ s. not (same_key (key s.object) name)) (not (same_key e.dependant name)) (λ s gives. ap not (owner e name s.object gives)) xs
      ∙ ap (λ b. not (same_key e.dependant name) && b) (sym (has_by e xs)))

  own_only : (e : Edge) (name : Key) (x : T) (b : Bool) → has_edge e (edges x) ≡ b → (same_key (key x) name && b) ≡ (same_key e.dependant name && b)
  own_only e name x true gives = ap (λ c. c && true) (owner e name x gives)
  own_only e name x false gives = and_swap (same_key (key x) name) false ∙ and_swap false (same_key e.dependant name)

  own : (e : Edge) (name : Key) (xs : List (Stored T)) → list_any (λ s. same_key (key s.object) name && has_edge e (edges s.object)) xs ≡ (same_key e.dependant name && has_edge e (edges_by edges xs))
  own e name xs =
      any_agree (λ s. same_key (key s.object) name && has_edge e (edges s.object)) (λ s. same_key e.dependant name && has_edge e (edges s.object))
      (λ s. own_only e name s.object (has_edge e (edges s.object)) refl) xs
      ∙ (sym (any_and (same_key e.dependant name) (λ s. has_edge e (edges s.object)) xs) ∙ ap (λ b. same_key e.dependant name && b) (sym (has_by e xs)))

  edges_at : (e : Edge) (found : Option (Stored T)) → has_edge e (option_map_or edges (option_map (λ s. s.object) found) []) ≡ option_map_or (λ s. has_edge e (edges s.object)) found false
  edges_at e None = refl
  edges_at e (Some s) = refl

  goes : (a b : Bool) → (b && not (a && b)) ≡ (not a && b)
  goes true true = refl
  goes true false = refl
  goes false true = refl
  goes false false = refl

  former_is : (former : List Edge) (name : Key) (xs : List (Stored T)) → IsInKeyOrder key xs
      → AreEdges former (option_map_or edges (option_map (λ s. s.object) (stored_at key name xs)) []) → (e : Edge)
      → has_edge e (edges_by edges (remove key name xs)) ≡ (has_edge e (edges_by edges xs) && not (has_edge e former))
  former_is former name xs order are e =
      let is : has_edge e former ≡ (same_key e.dependant name && has_edge e (edges_by edges xs)) =
      are e ∙ (edges_at e (stored_at key name xs) ∙ (found_with key (λ x. has_edge e (edges x)) name xs order ∙ own e name xs)) in
      removed e name xs ∙ (sym (goes (same_key e.dependant name) (has_edge e (edges_by edges xs))) ∙ ap (λ b. has_edge e (edges_by edges xs) && not b) (sym is))

  pub replaces : (x : Exchange) (name : Key) (next : Option T) (xs : List (Stored T)) → IsInKeyOrder key xs → AreAlike key name xs → HasKey key name next
      → AreEdges x.former (option_map_or edges (option_map (λ s. s.object) (stored_at key name xs)) []) → AreEdges x.next (option_map_or edges next [])
      → Replaces key edges name next xs x
  replaces x name None xs order alike named former next at e = rw (next e) (former_is x.former name xs order former e)
  replaces x name (Some y) xs order alike named former next at e =
      let alike_here : AreAlike key (key y) xs = rw named alike in
      has_by e (put key y at xs)
      ∙ (any_put key (λ t. has_edge e (edges t)) y at xs order alike_here
      ∙ ap₂ (λ a b. a || b) (sym (next e)) (sym (has_by e (remove key (key y) xs)) ∙ (ap (λ k. has_edge e (edges_by edges (remove key k xs))) named ∙ former_is x.former name xs order former e)))
