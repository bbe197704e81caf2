-- A book's map, entry by entry.
use Rattle.std.proofs.Common.{◌≡◌, ℕ, ◌<◌, ◌≤◌, Bool, true, false, cond, ◌&&◌, ◌||◌, eqb, ltb, List, [], ◌∷◌, length, map, replicate, get_or, refl, sym, ap, subst, ◌∙◌, true≢false, arith, suc, zero, Some, None, Option, is_some, unwrap_or}
use Rattle.std.specs.Option.{option_map}
use Rattle.std.specs.Prelude.{Result, Ok, Err, IfOk, IsOk, OnOk, OnErr, IfSome}
use Rattle.std.proofs.Math.Bool.{and_assoc}
use Rattle.std.proofs.lemmas.Bool.{and_parts, eqb-true, eq-eqb}
use Rattle.std.proofs.lemmas.List.{length-map}
use Rattle.std.proofs.lemmas.List.Elements.{All-cons, All-head, All-tail}
use Rattle.std.proofs.lemmas.List.Quantifiers.{position-Some}
use Rattle.std.proofs.lemmas.Option.{get_or_from_slice_get, slice_get_within}
use Rattle.std.proofs.lemmas.Slice.Eq.{bytes_eq-Decides}
use Rattle.std.specs.List.{position, slice_get}
use Rattle.std.specs.Map.{keys_of, lookup, values_of}
use Rattle.std.specs.Str.{bytes_eq}
use Rattle.std.specs.Vec.{vec_capacity}
use Rattle.indexmap.specs.IndexMap.{insert_entry, set_value_at}
use Rattle.gw_text.specs.model.Picks.{Choice as Plain, Shares, same_choice, with_numbers, numbers_of, holds, zeros, pick, after_pick, drawn_from, with_room, after_draw}
use Rattle.gw_weight.specs.Books.{choice_of, entry_of, equal_choice_of, HasRoomFor, HasRoomForKey, IsBookOf}
use Rattle.gw_weight.specs.Fair.{IsFairPick}
use Rattle.gw_weight.specs.declared.choice.Choice.{Choice}
use Rattle.gw_weight.specs.declared.equal_choice.EqualChoice.{EqualChoice}
use Rattle.gw_weight.specs.contracts.choice.ChoicePartialEq.TheImpl.{ghosts}
use Rattle.gw_weight.specs.contracts.equal_choice.EqualChoicePartialEq.TheImpl.{ghosts as equal_ghosts}
use Rattle.gw_weight.proofs.Equal.{count-seen}

pub same_choice-is : (c d : Plain) → same_choice c d ≡ true → c ≡ d
same_choice-is c d h =
    let three = and_parts (bytes_eq c.name.namespace d.name.namespace && bytes_eq c.name.name d.name.name && eqb c.number d.number) (bytes_eq c.weights d.weights) h in
    let two = and_parts (bytes_eq c.name.namespace d.name.namespace && bytes_eq c.name.name d.name.name) (eqb c.number d.number) three.0 in
    let one = and_parts (bytes_eq c.name.namespace d.name.namespace) (bytes_eq c.name.name d.name.name) two.0 in
    let namespace = (bytes_eq-Decides c.name.namespace d.name.namespace).0 one.0 in
    let name = (bytes_eq-Decides c.name.name d.name.name).0 one.1 in
    let number = eqb-true c.number d.number two.1 in
    let weights = (bytes_eq-Decides c.weights d.weights).0 three.1 in
    λ t. record { name = record { namespace = namespace t; name = name t }; number = number t; weights = weights t }

-- the map compares its keys as the definition does
pub eq-same_choice : (a b : Choice) → ghosts.eq a b ≡ same_choice (choice_of a) (choice_of b)
eq-same_choice a b =
    let namespace = bytes_eq a.namespace.items b.namespace.items in
    let name = bytes_eq a.name.items b.name.items in
    let number = eqb a.number b.number in
    let weights = bytes_eq a.weights.items b.weights.items in
    sym (and_assoc namespace name (number && weights)) ∙ sym (and_assoc (namespace && name) number weights)

-- the asked choice, once it stands for c, is tested as c
pub asked-same_choice : (asked : Choice) (c : Plain) → choice_of asked ≡ c → (k : Choice) → ghosts.eq asked k ≡ same_choice c (choice_of k)
asked-same_choice asked c is k = eq-same_choice asked k ∙ ap (λ (d : Plain). same_choice d (choice_of k)) is

-- the same of choices of equal weights
pub eq-equal_choice : (a b : EqualChoice) → equal_ghosts.eq a b ≡ same_choice (equal_choice_of a) (equal_choice_of b)
eq-equal_choice a b =
    let namespace = bytes_eq a.namespace.items b.namespace.items in
    let name = bytes_eq a.name.items b.name.items in
    let number = eqb a.number b.number in
    ap (λ (t : Bool). namespace && (name && (number && t))) (count-seen a.count b.count)
    ∙ sym (and_assoc namespace name (number && bytes_eq (replicate a.count 1) (replicate b.count 1)))
    ∙ sym (and_assoc (namespace && name) number (bytes_eq (replicate a.count 1) (replicate b.count 1)))

pub asked-equal_choice : (asked : EqualChoice) (c : Plain) → equal_choice_of asked ≡ c → (k : EqualChoice) → equal_ghosts.eq asked k ≡ same_choice c (equal_choice_of k)
asked-equal_choice asked c is k = eq-equal_choice asked k ∙ ap (λ (d : Plain). same_choice d (equal_choice_of k)) is

-- a look-up in the book is one in the map, whose keys stand for choices
pub lookup-seen : {K : Type 0} (plain : K → Plain) (c : Plain) (test : K → Bool) → ((k : K) → test k ≡ same_choice c (plain k)) → (es : List (K × Shares))
    → lookup (same_choice c) (map (entry_of plain) es) ≡ option_map (λ (s : Shares). s.drawn) (lookup test es)
lookup-seen plain c test agrees [] = refl
lookup-seen plain c test agrees (e ∷ es) =
    ap (λ b. cond b (Some e.1.drawn) (lookup (same_choice c) (map (entry_of plain) es))) (sym (agrees e.0))
    ∙ (elim (test e.0) as (λ b. cond b (Some e.1.drawn) (lookup (same_choice c) (map (entry_of plain) es)) ≡ option_map (λ (s : Shares). s.drawn) (cond b (Some e.1) (lookup test es))) [
      | true ↦ refl
      | false ↦ lookup-seen plain c test agrees es
    ])

-- an inserted entry
pub insert-seen : {K : Type 0} (plain : K → Plain) (eq : K → K → Bool) (key : K) (s : Shares) → ((k : K) → eq key k ≡ same_choice (plain key) (plain k)) → (es : List (K × Shares))
    → map (entry_of plain) (insert_entry eq es key s) ≡ with_numbers (plain key) s.drawn (map (entry_of plain) es)
insert-seen plain eq key s agrees [] = refl
insert-seen plain eq key s agrees (e ∷ es) =
    (elim (eq key e.0) as (λ b. map (entry_of plain) (cond b ((e.0, s) ∷ es) (e ∷ insert_entry eq es key s)) ≡ cond b ((plain e.0, s.drawn) ∷ map (entry_of plain) es) (entry_of plain e ∷ with_numbers (plain key) s.drawn (map (entry_of plain) es))) [
      | true ↦ refl
      | false ↦ ap (λ l. entry_of plain e ∷ l) (insert-seen plain eq key s agrees es)
    ])
    ∙ ap (λ b. cond b ((plain e.0, s.drawn) ∷ map (entry_of plain) es) (entry_of plain e ∷ with_numbers (plain key) s.drawn (map (entry_of plain) es))) (agrees e.0)

-- the entry at the first key that passes
pub record Found (K : Type 0) (plain : K → Plain) (c : Plain) (test : K → Bool) (es : List (K × Shares)) (place : ℕ) : Type 0 where
  pub key : K
  pub shares : Shares
  pub is : slice_get es place ≡ Some (key, shares)
  pub passes : test key ≡ true
  pub value : slice_get (values_of es) place ≡ Some shares
  pub looked_up : lookup test es ≡ Some shares
  pub written : (w : Shares) → map (entry_of plain) (set_value_at es place w) ≡ with_numbers c w.drawn (map (entry_of plain) es)

found-by : {K : Type 0} (plain : K → Plain) (c : Plain) (test : K → Bool) → ((k : K) → test k ≡ same_choice c (plain k)) → (es : List (K × Shares)) (place : ℕ) (d : K)
    → place < length (keys_of es) → test (get_or (keys_of es) place d) ≡ true → ((j : ℕ) → j < place → test (get_or (keys_of es) j d) ≡ false) → Found K plain c test es place
found-by plain c test agrees [] place d l passes before = absurd (omega arith)
found-by plain c test agrees (e ∷ es) zero d l passes before = record {
  key = e.0;
  shares = e.1;
  is = refl;
  passes = passes;
  value = refl;
  looked_up = ap (λ b. cond b (Some e.1) (lookup test es)) passes;
  written = λ w. ap (λ b. cond b ((plain e.0, w.drawn) ∷ map (entry_of plain) es) (entry_of plain e ∷ with_numbers c w.drawn (map (entry_of plain) es))) (sym passes ∙ agrees e.0);
}
found-by plain c test agrees (e ∷ es) (suc place) d l passes before =
    let fails : test e.0 ≡ false = before 0 (omega arith) in
    let more = found-by plain c test agrees es place d (omega arith) passes (λ j k. before (suc j) (omega arith)) in
    record {
      key = more.key;
      shares = more.shares;
      is = more.is;
      passes = more.passes;
      value = more.value;
      looked_up = ap (λ b. cond b (Some e.1) (lookup test es)) fails ∙ more.looked_up;
      written = λ w. ap (λ l. entry_of plain e ∷ l) (more.written w)
          ∙ ap (λ b. cond b ((plain e.0, w.drawn) ∷ map (entry_of plain) es) (entry_of plain e ∷ with_numbers c w.drawn (map (entry_of plain) es))) (sym fails ∙ agrees e.0);
    }

position-Found : {K : Type 0} (plain : K → Plain) (c : Plain) (test : K → Bool) → ((k : K) → test k ≡ same_choice c (plain k)) → (es : List (K × Shares)) (place : ℕ) (d : K)
    → position test (keys_of es) ≡ Some place → Found K plain c test es place
position-Found plain c test agrees es place d h =
    let p = position-Some test (keys_of es) place d h in
    found-by plain c test agrees es place d p.0 p.1 p.2

-- what each entry keeps
abbrev Kept : {K : Type 0} → (K → Plain) → (Plain → Type 0) → K × Shares → Type 0
Kept plain room e = (e.1.weights ≡ (plain e.0).weights) × room (plain e.0)

-- an inserted entry keeps it, where its own weights are its choice's
pub insert-Kept : {K : Type 0} (plain : K → Plain) (room : Plain → Type 0) (eq : K → K → Bool) (key : K) (s : Shares) → ((k : K) → eq key k ≡ same_choice (plain key) (plain k))
    → s.weights ≡ (plain key).weights → room (plain key) → (es : List (K × Shares)) → IsBookOf plain room es → IsBookOf plain room (insert_entry eq es key s)
insert-Kept plain room eq key s agrees own roomy [] h = All-cons (Kept plain room) (key, s) [] (own, roomy) h
insert-Kept {K} plain room eq key s agrees own roomy (e ∷ es) h = by (eq key e.0) refl
    (insert-Kept plain room eq key s agrees own roomy es (All-tail (Kept plain room) e es h))
  where
    by : (b : Bool) → eq key e.0 ≡ b → IsBookOf plain room (insert_entry eq es key s) → IsBookOf plain room (cond b ((e.0, s) ∷ es) (e ∷ insert_entry eq es key s))
    by true same rest =
        let equal = same_choice-is (plain key) (plain e.0) (sym (agrees e.0) ∙ same) in
        All-cons (Kept plain room) (e.0, s) es (own ∙ ap (λ (c : Plain). c.weights) equal, (All-head (Kept plain room) e es h).1) (All-tail (Kept plain room) e es h)
    by false other rest = All-cons (Kept plain room) e (insert_entry eq es key s) (All-head (Kept plain room) e es h) rest

-- a value written at a place keeps it, where the weights stay
written-Kept : {K : Type 0} (plain : K → Plain) (room : Plain → Type 0) (es : List (K × Shares)) (place : ℕ) (key : K) (old new : Shares)
    → slice_get es place ≡ Some (key, old) → new.weights ≡ old.weights → IsBookOf plain room es → IsBookOf plain room (set_value_at es place new)
written-Kept plain room [] place key old new e same h = h
written-Kept {K} plain room (e ∷ es) zero key old new is same h =
    let head = All-head (Kept plain room) e es h in
    let entry : e ≡ (key, old) = cc is in
    All-cons (Kept plain room) (e.0, new) es (same ∙ ap (λ (x : K × Shares). x.1.weights) (sym entry) ∙ head.0, head.1) (All-tail (Kept plain room) e es h)
written-Kept plain room (e ∷ es) (suc place) key old new is same h =
    All-cons (Kept plain room) e (set_value_at es place new) (All-head (Kept plain room) e es h)
    (written-Kept plain room es place key old new is same (All-tail (Kept plain room) e es h))

-- more room is room
pub more-IsBookOf : {K : Type 0} (plain : K → Plain) (room more : Plain → Type 0) (es : List (K × Shares)) → ((c : Plain) → room c → more c) → IsBookOf plain room es → IsBookOf plain more es
more-IsBookOf plain room more es roomier h k d l = let kept = h k d l in (kept.0, roomier _ kept.1)

pub more-room : (a b : Choice) → vec_capacity a.namespace ≤ vec_capacity b.namespace → vec_capacity a.name ≤ vec_capacity b.name → vec_capacity a.weights ≤ vec_capacity b.weights
    → (c : Plain) → HasRoomFor a c → HasRoomFor b c
more-room a b n m w c h = record { namespace = omega (arith, h.namespace); name = omega (arith, h.name); weights = omega (arith, h.weights) }

pub more-key_room : (a b : EqualChoice) → vec_capacity a.namespace ≤ vec_capacity b.namespace → vec_capacity a.name ≤ vec_capacity b.name
    → (c : Plain) → HasRoomForKey a c → HasRoomForKey b c
more-key_room a b n m c h = record { namespace = omega (arith, h.namespace); name = omega (arith, h.name) }

-- there is room for a choice that the book holds
pub held-room : {K : Type 0} (plain : K → Plain) (room : Plain → Type 0) (c : Plain) (es : List (K × Shares)) → IsBookOf plain room es → holds c (map (entry_of plain) es) ≡ true → room c
held-room plain room c [] h held = absurd (true≢false (sym held))
held-room plain room c (e ∷ es) h held = by (same_choice c (plain e.0)) refl (λ k. held-room plain room c es (All-tail (Kept plain room) e es h) k) held
  where
    by : (b : Bool) → same_choice c (plain e.0) ≡ b → (holds c (map (entry_of plain) es) ≡ true → room c)
        → is_some (cond b (Some e.1.drawn) (lookup (same_choice c) (map (entry_of plain) es))) ≡ true → room c
    by true same rest k = subst room (sym (same_choice-is c (plain e.0) same)) (All-head (Kept plain room) e es h).1
    by false other rest k = rest k

at-Kept : {K : Type 0} (plain : K → Plain) (room : Plain → Type 0) (es : List (K × Shares)) (place : ℕ) (key : K) (s : Shares) → IsBookOf plain room es → slice_get es place ≡ Some (key, s) → s.weights ≡ (plain key).weights
at-Kept {K} plain room es place key s h is =
    let entry = get_or_from_slice_get es place (key, s) (key, s) is in
    subst (λ (e : K × Shares). e.1.weights ≡ (plain e.0).weights) entry (h place (key, s) (slice_get_within es place (key, s) is)).0

-- what a found entry says of the choice
record IsFoundIn (c : Plain) (book : List (Plain × List ℕ)) (s : Shares) : Type 0 where
  weights : s.weights ≡ c.weights
  numbers : numbers_of c book ≡ s.drawn
  held : holds c book ≡ true

Found-in : {K : Type 0} (plain : K → Plain) (room : Plain → Type 0) (c : Plain) (test : K → Bool) → ((k : K) → test k ≡ same_choice c (plain k)) → (es : List (K × Shares)) (place : ℕ) (book : List (Plain × List ℕ))
    → IsBookOf plain room es → (f : Found K plain c test es place) → map (entry_of plain) es ≡ book → IsFoundIn c book f.shares
Found-in plain room c test agrees es place book h f seen =
    let same = same_choice-is c (plain f.key) (sym (agrees f.key) ∙ f.passes) in
    let found : lookup (same_choice c) book ≡ Some f.shares.drawn =
    ap (lookup (same_choice c)) (sym seen) ∙ lookup-seen plain c test agrees es ∙ ap (option_map (λ (s : Shares). s.drawn)) f.looked_up in
    record {
      weights = at-Kept plain room es place f.key f.shares h f.is ∙ ap (λ (d : Plain). d.weights) (sym same);
      numbers = ap (λ o. unwrap_or o (zeros c.weights)) found;
      held = ap is_some found;
    }

after-found : (c : Plain) (book : List (Plain × List ℕ)) (s : Shares) (r : Option ℕ) → IsFoundIn c book s → r ≡ pick s.weights s.drawn
    → with_numbers c (after_pick s.weights s.drawn r) book ≡ after_draw c book
after-found c book s r f e =
    let picked : r ≡ drawn_from c book = e ∙ (λ t. pick (f.weights t) (sym f.numbers t)) in
    let room : book ≡ with_room c book = sym (ap (λ h. cond (h || ltb (length book) 4096) book []) f.held) in
    λ t. with_numbers c (after_pick (f.weights t) (sym f.numbers t) (picked t)) (room t)

none-from : {X : Type 0} (o : Option X) → is_some o ≡ false → o ≡ None
none-from None h = refl
none-from (Some x) h = absurd (true≢false h)

is_some-option_map : {X Y : Type 0} (f : X → Y) (o : Option X) → is_some (option_map f o) ≡ is_some o
is_some-option_map f None = refl
is_some-option_map f (Some x) = refl

-- what a key that isn't found says of the choice
pub record IsNewIn (c : Plain) (book : List (Plain × List ℕ)) : Type 0 where
  pub numbers : numbers_of c book ≡ zeros c.weights
  pub held : holds c book ≡ false

pub New-in : {K : Type 0} (plain : K → Plain) (c : Plain) (test : K → Bool) → ((k : K) → test k ≡ same_choice c (plain k)) → (es : List (K × Shares)) (book : List (Plain × List ℕ))
    → is_some (lookup test es) ≡ false → map (entry_of plain) es ≡ book → IsNewIn c book
New-in plain c test agrees es book absent seen =
    let none : holds c book ≡ false =
    ap (λ l. is_some (lookup (same_choice c) l)) (sym seen) ∙ ap is_some (lookup-seen plain c test agrees es) ∙ is_some-option_map (λ (s : Shares). s.drawn) (lookup test es) ∙ absent in
    record {
      numbers = ap (λ o. unwrap_or o (zeros c.weights)) (none-from (lookup (same_choice c) book) none);
      held = none;
    }

pub drawn_from-new : (a c : Plain) (book : List (Plain × List ℕ)) → a ≡ c → IsNewIn c book → pick a.weights (zeros a.weights) ≡ drawn_from c book
drawn_from-new a c book same new = ap (λ (d : Plain). pick d.weights (zeros d.weights)) same ∙ ap (pick c.weights) (sym new.numbers)

pub after-new : (a c : Plain) (room book : List (Plain × List ℕ)) → a ≡ c → IsNewIn c book → room ≡ cond (ltb (length book) 4096) book []
    → with_numbers a (after_pick a.weights (zeros a.weights) (pick a.weights (zeros a.weights))) room ≡ after_draw c book
after-new a c room book same new is =
    let roomy : room ≡ with_room c book = is ∙ sym (ap (λ h. cond (h || ltb (length book) 4096) book []) new.held) in
    let numbers : zeros a.weights ≡ numbers_of c book = ap (λ (d : Plain). zeros d.weights) same ∙ sym new.numbers in
    let picked : pick a.weights (zeros a.weights) ≡ drawn_from c book = drawn_from-new a c book same new in
    let weights : a.weights ≡ c.weights = ap (λ (d : Plain). d.weights) same in
    λ t. with_numbers (same t) (after_pick (weights t) (numbers t) (picked t)) (roomy t)

-- a map in which room was made
pub room-seen : {K : Type 0} (plain : K → Plain) (es new : List (K × Shares)) (book : List (Plain × List ℕ)) → new ≡ cond (ltb (length es) 4096) es [] → map (entry_of plain) es ≡ book
    → map (entry_of plain) new ≡ cond (ltb (length book) 4096) book []
room-seen plain es new book is seen =
    ap (map (entry_of plain)) is ∙ emptied (ltb (length es) 4096)
    ∙ ap (λ n. cond (ltb n 4096) (map (entry_of plain) es) []) (sym (length-map es (entry_of plain))) ∙ ap (λ l. cond (ltb (length l) 4096) l []) seen
  where
    emptied : (b : Bool) → map (entry_of plain) (cond b es []) ≡ cond b (map (entry_of plain) es) []
    emptied true = refl
    emptied false = refl

pub room-IsBookOf : {K : Type 0} (plain : K → Plain) (room : Plain → Type 0) (es new : List (K × Shares)) → new ≡ cond (ltb (length es) 4096) es [] → IsBookOf plain room es → IsBookOf plain room new
room-IsBookOf plain room es new is h = subst (IsBookOf plain room) (sym is) (emptied (ltb (length es) 4096))
  where
    emptied : (b : Bool) → IsBookOf plain room (cond b es [])
    emptied true = h
    emptied false = λ k d l. absurd (omega arith)

-- the asked choice has room for itself
pub own-room : (asked : Choice) → HasRoomFor asked (choice_of asked)
own-room asked = record {
  namespace = omega (arith, asked.namespace.ok.0, asked.namespace.ok.1);
  name = omega (arith, asked.name.ok.0, asked.name.ok.1);
  weights = omega (arith, asked.weights.ok.0, asked.weights.ok.1);
}

pub own-key_room : (asked : EqualChoice) → HasRoomForKey asked (equal_choice_of asked)
own-key_room asked = record {
  namespace = omega (arith, asked.namespace.ok.0, asked.namespace.ok.1);
  name = omega (arith, asked.name.ok.0, asked.name.ok.1);
}

pub either : {A E : Type 0} (P Q : Type 0) (r : Result A E) → OnOk r P → OnErr r Q → (Q → P) → P
either P Q (Ok x) h k f = h
either P Q (Err e) h k f = f k

-- a choice is the same as itself
same_choice-self : (c : Plain) → same_choice c c ≡ true
same_choice-self c =
    rw ((bytes_eq-Decides c.name.namespace c.name.namespace).1 refl, (bytes_eq-Decides c.name.name c.name.name).1 refl, eq-eqb c.number c.number refl, (bytes_eq-Decides c.weights c.weights).1 refl) refl

-- the numbers of a choice are those that were written last
pub numbers_of-with_numbers : (c : Plain) (numbers : List ℕ) (book : List (Plain × List ℕ)) → numbers_of c (with_numbers c numbers book) ≡ numbers
numbers_of-with_numbers c numbers [] = ap (λ b. unwrap_or (cond b (Some numbers) None) (zeros c.weights)) (same_choice-self c)
numbers_of-with_numbers c numbers (e ∷ book) = by (same_choice c e.0) refl (numbers_of-with_numbers c numbers book)
  where
    by : (b : Bool) → same_choice c e.0 ≡ b → numbers_of c (with_numbers c numbers book) ≡ numbers
        → numbers_of c (cond b ((e.0, numbers) ∷ book) (e ∷ with_numbers c numbers book)) ≡ numbers
    by true same rest = ap (λ b. unwrap_or (cond b (Some numbers) (lookup (same_choice c) book)) (zeros c.weights)) same
    by false other rest = ap (λ b. unwrap_or (cond b (Some e.1) (lookup (same_choice c) (with_numbers c numbers book))) (zeros c.weights)) other ∙ rest

-- a fair pick is one by equal weights and numbers
pub IsFairPick-equal : (ws vs before was after now : List ℕ) (picked : Option ℕ) → ws ≡ vs → before ≡ was → after ≡ now
    → IsFairPick ws before after picked → IsFairPick vs was now picked
IsFairPick-equal ws vs before was after now picked weights numbers written fair =
    subst (λ x. IsFairPick x was now picked) weights
    (subst (λ x. IsFairPick ws x now picked) numbers (subst (λ x. IsFairPick ws before x picked) written fair))

-- the pick of a choice that is in the book
fair-found : (c : Plain) (book after : List (Plain × List ℕ)) (s : Shares) (picked : Option ℕ) → IsFoundIn c book s
    → after ≡ with_numbers c (after_pick s.weights s.drawn picked) book
    → IsFairPick s.weights s.drawn (after_pick s.weights s.drawn picked) picked
    → IsFairPick c.weights (numbers_of c book) (numbers_of c after) picked
fair-found c book after s picked found written fair =
    let numbers = after_pick s.weights s.drawn picked in
    IsFairPick-equal s.weights c.weights s.drawn (numbers_of c book) numbers (numbers_of c after) picked found.weights (sym found.numbers)
    (sym (ap (numbers_of c) written ∙ numbers_of-with_numbers c numbers book)) fair

-- the first pick of a choice that wasn't in the book
pub fair-new : {E : Type 0} (a c : Plain) (room after book : List (Plain × List ℕ)) (r : Result (Option ℕ) E) → a ≡ c → IsNewIn c book
    → IfOk r (λ picked. picked ≡ pick a.weights (zeros a.weights))
    → OnOk r (after ≡ with_numbers a (after_pick a.weights (zeros a.weights) (pick a.weights (zeros a.weights))) room)
    → IfOk r (λ picked. IsFairPick a.weights (zeros a.weights) (after_pick a.weights (zeros a.weights) picked) picked)
    → IfOk r (λ picked. IsFairPick c.weights (numbers_of c book) (numbers_of c after) picked)
fair-new a c room after book (Err e) same new is written fair = tt
fair-new a c room after book (Ok picked) same new is written fair =
    let numbers = after_pick a.weights (zeros a.weights) (pick a.weights (zeros a.weights)) in
    let before : zeros a.weights ≡ numbers_of c book = ap (λ (d : Plain). zeros d.weights) same ∙ sym new.numbers in
    let now : after_pick a.weights (zeros a.weights) picked ≡ numbers_of c after =
    ap (after_pick a.weights (zeros a.weights)) is
    ∙ sym (numbers_of-with_numbers a numbers room)
    ∙ ap (λ (d : Plain). numbers_of d (with_numbers a numbers room)) same
    ∙ ap (numbers_of c) (sym written) in
    IsFairPick-equal a.weights c.weights (zeros a.weights) (numbers_of c book) (after_pick a.weights (zeros a.weights) picked) (numbers_of c after) picked
    (ap (λ (d : Plain). d.weights) same) before now fair

-- what is drawn from a choice at its place in the map
pub record IsDrawn (K : Type 0) (plain : K → Plain) (room : Plain → Type 0) (c : Plain) (book : List (Plain × List ℕ)) (entries : List (K × Shares)) (picked : Option ℕ) : Type 0 where
  pub next : picked ≡ drawn_from c book
  pub after : map (entry_of plain) entries ≡ after_draw c book
  pub fair : IsFairPick c.weights (numbers_of c book) (numbers_of c (map (entry_of plain) entries)) picked
  pub kept : IsBookOf plain room entries

pub place-Drawn : {K : Type 0} (plain : K → Plain) (room : Plain → Type 0) (c : Plain) (test : K → Bool) → ((k : K) → test k ≡ same_choice c (plain k))
    → (es new : List (K × Shares)) (place : ℕ) (d : K) (book : List (Plain × List ℕ)) (picked : Option ℕ)
    → position test (keys_of es) ≡ Some place → IsBookOf plain room es → map (entry_of plain) es ≡ book
    → IfSome (slice_get (values_of es) place) (λ s. (picked ≡ pick s.weights s.drawn)
    × (new ≡ set_value_at es place (record s { drawn = after_pick s.weights s.drawn picked }))
    × IsFairPick s.weights s.drawn (after_pick s.weights s.drawn picked) picked)
    → IsDrawn K plain room c book new picked
place-Drawn plain room c test agrees es new place d book picked found kept seen given =
    let f = position-Found plain c test agrees es place d found in
    let drawn = rw f.value at given in
    let is = Found-in plain room c test agrees es place book kept f seen in
    let numbers = after_pick f.shares.weights f.shares.drawn picked in
    let counted : Shares = record f.shares { drawn = numbers } in
    let put : map (entry_of plain) new ≡ with_numbers c numbers book = ap (map (entry_of plain)) drawn.1 ∙ f.written counted ∙ ap (with_numbers c numbers) seen in
    record {
      next = drawn.0 ∙ (λ t. pick (is.weights t) (sym is.numbers t));
      after = put ∙ after-found c book f.shares picked is drawn.0;
      fair = fair-found c book (map (entry_of plain) new) f.shares picked is put drawn.2;
      kept = subst (IsBookOf plain room) (sym drawn.1) (written-Kept plain room es place f.key f.shares counted f.is refl kept);
    }

-- what is drawn first from a choice that isn't in the map
pub record IsFirst (K : Type 0) (E : Type 0) (plain : K → Plain) (c : Plain) (book : List (Plain × List ℕ)) (entries : List (K × Shares)) (r : Result (Option ℕ) E) : Type 0 where
  pub next : IfOk r (λ picked. picked ≡ drawn_from c book)
  pub after : OnOk r (map (entry_of plain) entries ≡ after_draw c book)
  pub fair : IfOk r (λ picked. IsFairPick c.weights (numbers_of c book) (numbers_of c (map (entry_of plain) entries)) picked)
  pub known : holds c book ≡ true → IsOk r

pub new-First : {K E : Type 0} (plain : K → Plain) (c : Plain) (test : K → Bool) → ((k : K) → test k ≡ same_choice c (plain k))
    → (es roomy new : List (K × Shares)) (asked : K) (book : List (Plain × List ℕ)) (r : Result (Option ℕ) E)
    → plain asked ≡ c → is_some (lookup test es) ≡ false → roomy ≡ cond (ltb (length es) 4096) es [] → map (entry_of plain) es ≡ book
    → let ws = (plain asked).weights in
    IfOk r (λ picked. picked ≡ pick ws (zeros ws))
    → OnOk r (map (entry_of plain) new ≡ with_numbers (plain asked) (after_pick ws (zeros ws) (pick ws (zeros ws))) (map (entry_of plain) roomy))
    → IfOk r (λ picked. IsFairPick ws (zeros ws) (after_pick ws (zeros ws) picked) picked)
    → IsFirst K E plain c book new r
new-First plain c test agrees es roomy new asked book r is absent emptied seen next after fair =
    let first = New-in plain c test agrees es book absent seen in
    let room = room-seen plain es roomy book emptied seen in
    record {
      next = subst (λ p. IfOk r (λ picked. picked ≡ p)) (drawn_from-new (plain asked) c book is first) next;
      after = subst (λ b. OnOk r (map (entry_of plain) new ≡ b)) (after-new (plain asked) c (map (entry_of plain) roomy) book is first room) after;
      fair = fair-new (plain asked) c (map (entry_of plain) roomy) (map (entry_of plain) new) book r is first next after fair;
      known = λ held. absurd (true≢false (sym held ∙ first.held));
    }
