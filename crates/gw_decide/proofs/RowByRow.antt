-- What one row more makes of the Routes of rows and of their reasons.
use Rattle.std.proofs.Common.{◌≡◌, ◌+◌, ◌<◌, ℕ, Bool, true, false, ◌||◌, ◌&&◌, cond, List, [], ◌∷◌, ◌++◌, map, refl, sym, ap, ◌∙◌, filter, fold, get_or, length, take, Option}
use Rattle.std.proofs.lemmas.List.{map-append, take_more}
use Rattle.std.proofs.lemmas.List.Elements.{filter-append}
use Rattle.std.proofs.lemmas.List.Folds.{list_any-append}
use Rattle.std.proofs.lemmas.List.Sums.{fold-append}
use Rattle.std.proofs.lemmas.Slice.Eq.{bytes_eq-Decides}
use Rattle.std.specs.List.{AllByRecursion, list_any}
use Rattle.std.specs.Ordering.{is_lt, is_gt}
use Rattle.std.specs.Str.{bytes_eq}
use Rattle.std.specs.declared.cmp.Ordering.{Ordering}
use Rattle.std.specs.declared.cmp.Ordering.TheVariants.{Less, Equal, Greater}
use mathlib.Core.Bool.{true≢false}
use Rattle.gw_text.specs.model.Forms.{is_key}
use Rattle.gw_text.specs.model.Names.{Key, key_order, same_key}
use Rattle.gw_text.proofs.Keys.{same_from_key, higher_from_lower, lower_from_higher, other_from_lower, other_from_higher, equal_exactly}
use Rattle.gw_decide.specs.Entries.{Entry, noted, reason_in}
use Rattle.gw_decide.specs.declared.why.Why.{Why}
use Rattle.gw_decide.specs.declared.why.Why.TheVariants.{OtherListener}
use Rattle.gw_decide.specs.Entries as door
use Rattle.gw_decide.specs.model.Reasons.{explained_of, further, reason_at, reason_of, routes_of, with_key}
use Rattle.gw_frames.specs.model.Requests.{Request}
use Rattle.gw_match.specs.model.Choice.{listener_at, row_at}
use Rattle.gw_rows.specs.model.Rows.{Row, Rows, ServedListener}

both : (a b : Bool) → (a && b) ≡ true → (a ≡ true) × (b ≡ true)
both true b e = (refl, e)
both false b e = absurd (true≢false (sym e))

key_from_same : (k l : Key) → same_key k l ≡ true → k ≡ l
key_from_same k l same =
    let parts = both (bytes_eq k.namespace l.namespace) (bytes_eq k.name l.name) same in
    let namespaces : k.namespace ≡ l.namespace = (bytes_eq-Decides k.namespace l.namespace).0 parts.0 in
    let names : k.name ≡ l.name = (bytes_eq-Decides k.name l.name).0 parts.1 in
    ap (λ n. record { namespace = n; name = k.name }) namespaces ∙ ap (λ n. record { namespace = l.namespace; name = n }) names

-- the key is one of these
abbrev pub has : List Key → Key → Bool
has keys name = list_any (λ k. same_key k name) keys

abbrev pub AllKeys : List Key → Type 0
AllKeys keys = AllByRecursion (λ k. is_key k ≡ true) keys

or_false : (a : Bool) → a ≡ (a || false)
or_false true = refl
or_false false = refl

or_later : (a b c : Bool) → ((a || b) || c) ≡ (a || (b || c))
or_later true b c = refl
or_later false b c = refl

either_below : (s f t g h : Bool) → (f || (t || g)) ≡ (h || t) → ((s || f) || (t || g)) ≡ ((s || h) || t)
either_below true f t g h e = refl
either_below false f t g h e = e

either_above : (s f t g h : Bool) → (f || (t || g)) ≡ (h || t) → (f || (t || (s || g))) ≡ ((s || h) || t)
either_above true true t g h e = refl
either_above true false true g h e = refl
either_above true false false g h e = refl
either_above false f t g h e = e

either_equal : (f t g h : Bool) → (f || (t || g)) ≡ (h || t) → (f || (t || g)) ≡ ((t || h) || t)
either_equal true true g h e = refl
either_equal false true g h e = refl
either_equal f false g h e = e

abbrev below : Key → List Key → List Key
below key ks = filter (λ k. is_lt (key_order k key)) ks

abbrev above : Key → List Key → List Key
above key ks = filter (λ k. is_gt (key_order k key)) ks

has_by_order : (o : Ordering) (name key k : Key) (ks : List Key) → key_order k key ≡ o → is_key k ≡ true → is_key key ≡ true
    → (has (below key ks) name || (same_key key name || has (above key ks) name)) ≡ (has ks name || same_key key name)
    → (has (below key (k ∷ ks)) name || (same_key key name || has (above key (k ∷ ks)) name)) ≡ (has (k ∷ ks) name || same_key key name)
has_by_order Less name key k ks e first second rest = rw e (either_below (same_key k name) _ _ _ _ rest)
has_by_order Equal name key k ks e first second rest =
    let same : k ≡ key = (equal_exactly k key (key_order k key) first second refl).0 e
    in rw e (rw same (either_equal _ (same_key key name) _ _ rest))
has_by_order Greater name key k ks e first second rest = rw e (either_above (same_key k name) _ _ _ _ rest)

has_in_parts : (name key : Key) (ks : List Key) → AllKeys ks → is_key key ≡ true
    → (has (below key ks) name || (same_key key name || has (above key ks) name)) ≡ (has ks name || same_key key name)
has_in_parts name key [] keys form = sym (or_false (same_key key name))
has_in_parts name key (k ∷ ks) keys form = has_by_order (key_order k key) name key k ks refl keys.0 form (has_in_parts name key ks keys.1 form)

-- the keys that are there with one more
has-with_key : (name key : Key) (ks : List Key) → AllKeys ks → is_key key ≡ true → has (with_key ks key) name ≡ (has ks name || same_key key name)
has-with_key name key ks keys form = list_any-append (λ k. same_key k name) (below key ks) (key ∷ above key ks) ∙ has_in_parts name key ks keys form

all_cond : (b : Bool) (k : Key) (ks : List Key) → is_key k ≡ true → AllKeys ks → AllKeys (cond b (k ∷ ks) ks)
all_cond true k ks here all = (here, all)
all_cond false k ks here all = all

all_filter : (p : Key → Bool) (ks : List Key) → AllKeys ks → AllKeys (filter p ks)
all_filter p [] all = tt
all_filter p (k ∷ ks) all = all_cond (p k) k (filter p ks) all.0 (all_filter p ks all.1)

all_append : {X : Type 0} (P : X → Type 0) (xs ys : List X) → AllByRecursion P xs → AllByRecursion P ys → AllByRecursion P (xs ++ ys)
all_append P [] ys first second = second
all_append P (x ∷ xs) ys first second = (first.0, all_append P xs ys first.1 second)

all_with_key : (ks : List Key) (key : Key) → AllKeys ks → is_key key ≡ true → AllKeys (with_key ks key)
all_with_key ks key keys form = all_append (λ k. is_key k ≡ true) (below key ks) (key ∷ above key ks) (all_filter _ ks keys) (form, all_filter _ ks keys)

module _ {R : Type 0} (key : R → Key) where
  abbrev pub AllKeysOf : List R → Type 0
  AllKeysOf xs = AllByRecursion (λ x. is_key (key x) ≡ true) xs

  has-fold : (name : Key) (xs : List R) (ks : List Key) → AllKeys ks → AllKeysOf xs → has (fold with_key ks (map key xs)) name ≡ (has ks name || list_any (λ x. same_key (key x) name) xs)
  has-fold name [] ks keys forms = or_false (has ks name)
  has-fold name (x ∷ xs) ks keys forms =
      has-fold name xs (with_key ks (key x)) (all_with_key ks (key x) keys forms.0) forms.1
      ∙ ap (λ b. b || list_any (λ x. same_key (key x) name) xs) (has-with_key name (key x) ks keys forms.0)
      ∙ or_later (has ks name) (same_key (key x) name) (list_any (λ x. same_key (key x) name) xs)

-- a list without such an item
filter_none_if : {X : Type 0} (b : Bool) (p : X → Bool) (x : X) (xs : List X) → p x ≡ b → (list_any p xs ≡ false → filter p xs ≡ []) → (b || list_any p xs) ≡ false → filter p (x ∷ xs) ≡ []
filter_none_if true p x xs e rest none = absurd (true≢false none)
filter_none_if false p x xs e rest none = rw e (rest none)

filter_none : {X : Type 0} (p : X → Bool) (xs : List X) → list_any p xs ≡ false → filter p xs ≡ []
filter_none p [] none = refl
filter_none p (x ∷ xs) none = filter_none_if (p x) p x xs refl (filter_none p xs) none

abbrev pub with_reason : (Key → Why) → Key → Entry
with_reason w k = (k, w k)

-- entries that a test of their keys keeps, where the reasons of those keys stay
module _ (w v : Key → Why) (p : Key → Bool) (same : (k : Key) → p k ≡ true → v k ≡ w k) where
  kept_if : (b : Bool) (k : Key) (ks : List Key) → p k ≡ b → map (with_reason v) (filter p ks) ≡ filter (λ e. p e.0) (map (with_reason w) ks)
      → map (with_reason v) (filter p (k ∷ ks)) ≡ filter (λ e. p e.0) (map (with_reason w) (k ∷ ks))
  kept_if true k ks e rest = rw (e, same k e) (ap (λ t. (k, w k) ∷ t) rest)
  kept_if false k ks e rest = rw e rest

  entries_kept : (ks : List Key) → map (with_reason v) (filter p ks) ≡ filter (λ e. p e.0) (map (with_reason w) ks)
  entries_kept [] = refl
  entries_kept (k ∷ ks) = kept_if (p k) k ks refl (entries_kept ks)

-- the reason that stands with a key
module _ (w : Key → Why) (name : Key) where
  found_if : (b : Bool) (k : Key) (ks : List Key) → same_key k name ≡ b → reason_in (map (with_reason w) ks) name ≡ cond (has ks name) (w name) OtherListener
      → reason_in (map (with_reason w) (k ∷ ks)) name ≡ cond (b || has ks name) (w name) OtherListener
  found_if true k ks e rest = rw e (ap w (key_from_same k name e))
  found_if false k ks e rest = rw e rest

  reason_found : (ks : List Key) → reason_in (map (with_reason w) ks) name ≡ cond (has ks name) (w name) OtherListener
  reason_found [] = refl
  reason_found (k ∷ ks) = found_if (same_key k name) k ks refl (reason_found ks)

less_from_test : (o : Ordering) → is_lt o ≡ true → o ≡ Less
less_from_test Less is = refl
less_from_test Equal is = absurd (true≢false (sym is))
less_from_test Greater is = absurd (true≢false (sym is))

greater_from_test : (o : Ordering) → is_gt o ≡ true → o ≡ Greater
greater_from_test Less is = absurd (true≢false (sym is))
greater_from_test Equal is = absurd (true≢false (sym is))
greater_from_test Greater is = refl

three_parts : (a b : List Entry) (e f : Entry) (c d : List Entry) → a ≡ b → e ≡ f → c ≡ d → a ++ e ∷ c ≡ b ++ f ∷ d
three_parts a b e f c d first middle last = rw (first, middle, last) refl

module _ {R : Type 0} (key : R → Key) (why : R → Why) where
  -- the reason of a Route over these rows
  abbrev pub reason_over : List R → Key → Why
  reason_over xs name = fold further OtherListener (map why (filter (λ x. same_key (key x) name) xs))

  -- their Routes
  abbrev pub routes_over : List R → List Key
  routes_over xs = fold with_key [] (map key xs)

  -- each with its reason
  abbrev pub explained_over : List R → List Entry
  explained_over xs = map (with_reason (reason_over xs)) (routes_over xs)

  routes_more : (xs : List R) (x : R) → routes_over (xs ++ x ∷ []) ≡ with_key (routes_over xs) (key x)
  routes_more xs x = ap (λ ks. fold with_key [] ks) (map-append key xs (x ∷ [])) ∙ fold-append with_key [] (map key xs) (key x ∷ [])

  reason_more : (xs : List R) (x : R) (name : Key) → reason_over (xs ++ x ∷ []) name ≡ fold further (reason_over xs name) (map why (filter (λ x. same_key (key x) name) (x ∷ [])))
  reason_more xs x name =
      let p : R → Bool = λ x. same_key (key x) name in
      ap (λ t. fold further OtherListener (map why t)) (filter-append p xs (x ∷ []))
      ∙ ap (λ t. fold further OtherListener t) (map-append why (filter p xs) (filter p (x ∷ [])))
      ∙ fold-append further OtherListener (map why (filter p xs)) (map why (filter p (x ∷ [])))

  reason_of_other : (xs : List R) (x : R) (name : Key) → same_key (key x) name ≡ false → reason_over (xs ++ x ∷ []) name ≡ reason_over xs name
  reason_of_other xs x name other = reason_more xs x name ∙ rw other refl

  reason_of_own : (xs : List R) (x : R) (name : Key) → same_key (key x) name ≡ true → reason_over (xs ++ x ∷ []) name ≡ further (reason_over xs name) (why x)
  reason_of_own xs x name own = reason_more xs x name ∙ rw own refl

  none_over_if : (b : Bool) (xs : List R) (name : Key) → list_any (λ x. same_key (key x) name) xs ≡ b → cond b (reason_over xs name) OtherListener ≡ reason_over xs name
  none_over_if true xs name e = refl
  none_over_if false xs name e = rw (filter_none (λ x. same_key (key x) name) xs e) refl

  -- the reason that stands with a key is its Route's
  reason_here : (xs : List R) (name : Key) → AllKeysOf key xs → reason_in (explained_over xs) name ≡ reason_over xs name
  reason_here xs name forms =
      reason_found (reason_over xs) name (routes_over xs)
      ∙ ap (λ b. cond b (reason_over xs name) OtherListener) (has-fold key name xs [] tt forms)
      ∙ none_over_if (list_any (λ x. same_key (key x) name) xs) xs name refl

  same_below : (xs : List R) (x : R) (k : Key) → is_lt (key_order k (key x)) ≡ true → reason_over (xs ++ x ∷ []) k ≡ reason_over xs k
  same_below xs x k low = reason_of_other xs x k (other_from_higher (key x) k (higher_from_lower k (key x) (less_from_test (key_order k (key x)) low)))

  same_above : (xs : List R) (x : R) (k : Key) → is_gt (key_order k (key x)) ≡ true → reason_over (xs ++ x ∷ []) k ≡ reason_over xs k
  same_above xs x k high = reason_of_other xs x k (other_from_lower (key x) k (lower_from_higher k (key x) (greater_from_test (key_order k (key x)) high)))

  -- one row more
  pub one_more : (xs : List R) (x : R) → AllKeysOf key xs → noted (explained_over xs) (key x) (why x) ≡ explained_over (xs ++ x ∷ [])
  unfolding noted
  one_more xs x forms =
      let name = key x in
      let ks = routes_over xs in
      let own : reason_over (xs ++ x ∷ []) name ≡ further (reason_in (explained_over xs) name) (why x) =
      reason_of_own xs x name (same_from_key name name refl) ∙ ap (λ w. further w (why x)) (sym (reason_here xs name forms)) in
      sym (ap (λ t. map (with_reason (reason_over (xs ++ x ∷ []))) t) (routes_more xs x)
      ∙ map-append (with_reason (reason_over (xs ++ x ∷ []))) (below name ks) (name ∷ above name ks)
      ∙ three_parts _ _ _ _ _ _
      (entries_kept (reason_over xs) (reason_over (xs ++ x ∷ [])) (λ k. is_lt (key_order k name)) (same_below xs x) ks)
      (ap (λ w. (name, w)) own)
      (entries_kept (reason_over xs) (reason_over (xs ++ x ∷ [])) (λ k. is_gt (key_order k name)) (same_above xs x) ks))

-- one row of a door more
one_row_more : (why : Row → Why) (rows : List Row) (row : Row) → AllKeysOf (λ r. r.key) rows → noted (door.explained_over why rows) row.key (why row) ≡ door.explained_over why (rows ++ row ∷ [])
unfolding routes_of
one_row_more why rows row forms = one_more (λ r. r.key) why rows row forms

-- no rows have no Routes
pub no_rows : (why : Row → Why) → [] ≡ door.explained_over why []
unfolding routes_of
no_rows why = refl

-- the rows up to the next one
module _ (rows : List Row) (i : ℕ) (row : Row) (within : i < length rows) (here : row ≡ get_or rows i row) where
  taken : take (i + 1) rows ≡ take i rows ++ row ∷ []
  taken = take_more rows i row within ∙ ap (λ (r : Row). take i rows ++ r ∷ []) (sym here)

  pub next_row : (why : Row → Why) (key : Key) (reason : Why) (before after : List Entry) → key ≡ row.key → reason ≡ why row
      → before ≡ door.explained_over why (take i rows) → AllKeysOf (λ r. r.key) (take i rows) → after ≡ noted before key reason
      → after ≡ door.explained_over why (take (i + 1) rows)
  next_row why key reason before after own because so_far forms step =
      step ∙ rw (own, because, so_far, taken) (one_row_more why (take i rows) row forms)

  pub next_form : (key : Key) → key ≡ row.key → AllKeysOf (λ r. r.key) (take i rows) → is_key key ≡ true → AllKeysOf (λ (r : Row). r.key) (take (i + 1) rows)
  next_form key own forms form =
      rw taken (all_append (λ (r : Row). is_key r.key ≡ true) (take i rows) (row ∷ []) forms (ap is_key (sym own) ∙ form, tt))

-- the list of all rows of a door
pub explained_at : (rows : Rows) (q : Request) (listener : Option ServedListener) (best : Option Row) (list : List Row)
    → listener ≡ listener_at rows.listeners q.host → best ≡ row_at rows q → list ≡ rows.rows
    → door.explained_over (reason_at listener best q) list ≡ explained_of rows q
unfolding explained_of reason_of
explained_at rows q listener best list taking serving all = rw (taking, serving, all) refl
