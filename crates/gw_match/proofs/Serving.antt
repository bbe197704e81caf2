-- What the table of the listener that takes a request gives is the row of the door that serves it.
use Rattle.std.proofs.Common.{◌≡◌, ◌∙◌, refl, sym, ap, subst, ℕ, Bool, true, false, not, cond, ◌||◌, List, [], ◌∷◌, filter, find, map, flat_map, All, Option, Some, None, option_map}
use Rattle.std.proofs.lemmas.List.Elements.{All-filter, All-head, All-tail}
use Rattle.std.specs.List.{list_any}
use Rattle.std.specs.Ordering.{is_lt, on}
use Rattle.std.specs.declared.cmp.Ordering.{Ordering}
use Rattle.gw_frames.specs.model.Requests.{Request}
use Rattle.gw_match.proofs.Owning.{HasItsPart, in_turn, own_parts}
use Rattle.gw_match.specs.Nearest.{table_at, table_takes}
use Rattle.gw_match.specs.model.Choice.{fits_at, listener_at, row_at, specificity, takes_host}
use Rattle.gw_match.specs.model.Listed.{AreOfOneDoor, Listed, rows_in, rows_with}
use Rattle.gw_rows.specs.model.Fitting.{fits}
use Rattle.gw_rows.specs.model.Precedence.{precedence}
use Rattle.gw_rows.specs.model.Rows.{Row, foremost}

module _ {X Y : Type 0} (f : X → Y) where
  find_map : (p : Y → Bool) (xs : List X) → find p (map f xs) ≡ option_map f (find (λ x. p (f x)) xs)
  find_map p [] = refl
  find_map p (x ∷ xs) = by (p (f x)) refl (find_map p xs)
    where
      by : (b : Bool) → p (f x) ≡ b → find p (map f xs) ≡ option_map f (find (λ x. p (f x)) xs)
          → find p (map f (x ∷ xs)) ≡ option_map f (find (λ x. p (f x)) (x ∷ xs))
      by true e rest = rw e refl
      by false e rest = rw e rest

  filter_map : (p : Y → Bool) (xs : List X) → filter p (map f xs) ≡ map f (filter (λ x. p (f x)) xs)
  filter_map p [] = refl
  filter_map p (x ∷ xs) = by (p (f x)) refl (filter_map p xs)
    where
      by : (b : Bool) → p (f x) ≡ b → filter p (map f xs) ≡ map f (filter (λ x. p (f x)) xs)
          → filter p (map f (x ∷ xs)) ≡ map f (filter (λ x. p (f x)) (x ∷ xs))
      by true e rest = rw e (ap (λ (l : List Y). f x ∷ l) rest)
      by false e rest = rw e rest

  any_map : (p : Y → Bool) (xs : List X) → list_any p (map f xs) ≡ list_any (λ x. p (f x)) xs
  any_map p [] = refl
  any_map p (x ∷ xs) = ap (λ (b : Bool). p (f x) || b) (any_map p xs)

  -- The foremost of those that are read is read of the foremost.
  foremost_map : (order : Y → Y → Ordering) (xs : List X) → foremost order (map f xs) ≡ option_map f (foremost (on f order) xs)
  foremost_map order xs =
      find_map (λ y. not (list_any (λ other. is_lt (order other y)) (map f xs))) xs
      ∙ ap (option_map f)
      (find_agree (λ x. not (list_any (λ other. is_lt (order other (f x))) (map f xs))) (λ x. not (list_any (λ other. is_lt (on f order other x)) xs))
      (λ x. ap not (any_map (λ other. is_lt (order other (f x))) xs)) xs)
    where
      find_agree : (p q : X → Bool) → ((x : X) → p x ≡ q x) → (xs : List X) → find p xs ≡ find q xs
      find_agree p q alike [] = refl
      find_agree p q alike (x ∷ xs) =
          ap (λ (b : Bool). cond b (Some x) (find p xs)) (alike x) ∙ ap (λ (rest : Option X). cond (q x) (Some x) rest) (find_agree p q alike xs)

-- What holds of all holds of the one that is found.
found_has : {X : Type 0} (P : X → Type 0) (p : X → Bool) (xs : List X) (x : X) → All P xs → find p xs ≡ Some x → P x
found_has P p [] x all is = absurd (cc is)
found_has {X} P p (y ∷ xs) x all is = by (p y) refl (found_has P p xs x (All-tail P y xs all))
  where
    by : (b : Bool) → p y ≡ b → (find p xs ≡ Some x → P x) → P x
    by true e rest =
        let here : y ≡ x = cc (rw e at is) in
        subst P here (All-head P y xs all)
    by false e rest = rest (rw e at is)

-- The listener that takes a request is that of the table that is found.
pub taken : (tables : List Listed) (host : List ℕ) → option_map (λ t. t.listener) (table_at tables host) ≡ listener_at (map (λ t. t.listener) tables) host
unfolding listener_at table_at
taken tables host =
    sym (ap (foremost specificity) (filter_map (λ (t : Listed). t.listener) (takes_host host) tables)
    ∙ foremost_map (λ (t : Listed). t.listener) specificity (filter (table_takes host) tables))

module _ (tables : List Listed) (q : Request) where
  all_rows : List Row
  all_rows = flat_map (λ t. rows_in t.routes) tables

  -- Where no listener takes the request, no row serves it.
  pub none_serves : None ≡ table_at tables q.host → None ≡ row_at (rows_with tables) q
  unfolding row_at
  none_serves none = rw (sym (taken tables q.host), sym none) refl

  -- The rows of the table that fit are those of all that are the listener's and fit.
  pub table_serves : (t : Listed) → Some t ≡ table_at tables q.host → AreOfOneDoor tables
      → foremost precedence (filter (λ r. fits r q) (rows_in t.routes)) ≡ row_at (rows_with tables) q
  unfolding row_at table_at
  table_serves t is door =
      let parts = own_parts (λ (u : Listed). u.listener.number) (λ u. rows_in u.routes) (λ r. fits r q) tables
      (in_turn (λ (u : Listed). u.listener.number) tables door.numbers) door.own in
      let part : filter (fits_at t.listener q) (flat_map (λ u. rows_in u.routes) tables) ≡ filter (λ r. fits r q) (rows_in t.routes) =
      found_has (HasItsPart (λ (u : Listed). u.listener.number) (λ u. rows_in u.routes) (λ r. fits r q) (flat_map (λ u. rows_in u.routes) tables)) _
      (filter (table_takes q.host) tables) t
      (All-filter (table_takes q.host) (HasItsPart (λ (u : Listed). u.listener.number) (λ u. rows_in u.routes) (λ r. fits r q) (flat_map (λ u. rows_in u.routes) tables)) tables parts)
      (sym is) in
      let listener : listener_at (map (λ u. u.listener) tables) q.host ≡ Some t.listener =
      sym (taken tables q.host) ∙ ap (option_map (λ (u : Listed). u.listener)) (sym is) in
      rw listener (ap (foremost precedence) (sym part))
