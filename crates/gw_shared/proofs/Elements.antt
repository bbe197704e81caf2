-- Parts that stand one behind another, and the elements that stand in them.
use Rattle.std.proofs.Common.{◌≡◌, ◌∙◌, sym, ap, ℕ, suc, ◌+◌, ◌-◌, ◌<◌, ◌≤◌, arith, List, [], ◌∷◌, ◌++◌, length, get_or, set, take, drop, append_assoc}
use Rattle.std.proofs.lemmas.Grind.{flat_map-append}
use Rattle.std.proofs.lemmas.List.{at_drop_more, drop-append-le, length-drop, set_split, take-append-drop, take-append-le}
use Rattle.std.proofs.Math.Seq.{drop-append-add, take-append-add}
use Rattle.std.specs.List.{flat_map}
use Rattle.gw_shared.specs.model.Elements.{replaced}
use Rattle.gw_shared.proofs.Pieces.{piece_within}

-- What stands in the branches before one, in it and behind it is all.
parted : {A E : Type 0} (f : A → List E) (all : List A) (i : ℕ) (x : A) → i < length all → x ≡ get_or all i x
    → flat_map f all ≡ flat_map f (take i all) ++ (f x ++ flat_map f (drop (i + 1) all))
parted {A} {E} f all i x within at =
    ap (flat_map f) (sym (take-append-drop i all))
    ∙ flat_map-append f (take i all) (drop i all)
    ∙ ap (λ (zs : List E). flat_map f (take i all) ++ zs)
    (at_drop_more (flat_map f) all i x within ∙ ap (λ (z : A). f z ++ flat_map f (drop (i + 1) all)) (sym at))

-- From a place in what stands between others on, all goes on as that does.
rest_between : {E : Type 0} (before own behind all : List E) (place at : ℕ) → all ≡ before ++ (own ++ behind)
    → at ≡ length before + place → place ≤ length own → drop at all ≡ drop place own ++ behind
rest_between before own behind all place at whole is within =
    ap (drop at) whole
    ∙ ap (λ (n : ℕ). drop n (before ++ (own ++ behind))) is
    ∙ drop-append-add before (own ++ behind) place
    ∙ drop-append-le place own behind within

-- A change in what stands between others is that change in all.
changed_between : {E : Type 0} (before own behind all new : List E) (place at count : ℕ) → all ≡ before ++ (own ++ behind)
    → at ≡ length before + place → place + count ≤ length own
    → before ++ (replaced place count new own ++ behind) ≡ replaced at count new all
changed_between {E} before own behind all new place at count whole is within =
    let front : take at all ≡ before ++ take place own =
    ap (take at) whole
    ∙ ap (λ (n : ℕ). take n (before ++ (own ++ behind))) is
    ∙ take-append-add before (own ++ behind) place
    ∙ ap (λ (zs : List E). before ++ zs) (take-append-le place own behind (omega arith)) in
    let back : drop (at + count) all ≡ drop (place + count) own ++ behind =
    rest_between before own behind all (place + count) (at + count) whole (omega arith) within in
    rw (front, back)
    (simp append_assoc)

-- A place in one part among others.
module _ {A E : Type 0} (f : A → List E) (all : List A) (i : ℕ) (x : A) (place at : ℕ) (within : i < length all) (there : x ≡ get_or all i x)
    (is : at ≡ length (flat_map f (take i all)) + place) where
  -- The elements from there on, as far as they go in the part, are those from there on among all.
  pub piece_in : (piece : List E) → place ≤ length (f x) → piece ≡ take (length piece) (drop place (f x)) → piece ≡ take (length piece) (drop at (flat_map f all))
  piece_in piece few part =
      let behind = flat_map f (drop (i + 1) all) in
      let rest : drop at (flat_map f all) ≡ drop place (f x) ++ behind =
      rest_between (flat_map f (take i all)) (f x) behind (flat_map f all) place at (parted f all i x within there) is few in
      let ends : place + length piece ≤ length (f x) = piece_within (f x) piece place part few in
      let left : length (drop place (f x)) ≡ length (f x) - place = length-drop place (f x) in
      let cut : take (length piece) (drop place (f x) ++ behind) ≡ take (length piece) (drop place (f x)) =
      take-append-le (length piece) (drop place (f x)) behind (omega (arith, ends, left)) in
      part ∙ sym cut ∙ ap (take (length piece)) (sym rest)

  -- Where other parts, which have what the part has after a change there, stand in its place, that change is made in all.
  pub changed_in : (own new : List A) (count : ℕ) (value : List E) → place + count ≤ length (f x)
      → flat_map f own ≡ replaced place count value (f x) → new ≡ replaced i 1 own all → flat_map f new ≡ replaced at count value (flat_map f all)
  changed_in own new count value few inner outer =
      let before = flat_map f (take i all) in
      let behind = flat_map f (drop (i + 1) all) in
      let front : flat_map f (take i all ++ own) ≡ before ++ replaced place count value (f x) =
      flat_map-append f (take i all) own ∙ ap (λ (zs : List E). before ++ zs) inner in
      let whole : flat_map f new ≡ (before ++ replaced place count value (f x)) ++ behind =
      ap (flat_map f) outer ∙ flat_map-append f (take i all ++ own) (drop (i + 1) all) ∙ ap (λ (zs : List E). zs ++ behind) front in
      whole
      ∙ append_assoc before (replaced place count value (f x)) behind
      ∙ changed_between before (f x) behind (flat_map f all) value place at count (parted f all i x within there) is few

-- One that is set is put in place of one.
pub one_put : {X : Type 0} (parts others : List X) (at : ℕ) (x : X) → length others ≡ 1 → x ≡ get_or others 0 x → at < length parts
    → set parts at x ≡ replaced at 1 others parts
one_put parts [] at x size is within = absurd (omega (arith, size))
one_put {X} parts (y ∷ []) at x size is within =
    let next : suc at ≡ at + 1 = omega arith in
    set_split parts at x within
    ∙ ap (λ (n : ℕ). take at parts ++ x ∷ drop n parts) next
    ∙ ap (λ (z : X). take at parts ++ z ∷ drop (at + 1) parts) is
    ∙ sym (append_assoc (take at parts) (y ∷ []) (drop (at + 1) parts))
one_put parts (y ∷ z ∷ rest) at x size is within = absurd (omega (arith, size))
