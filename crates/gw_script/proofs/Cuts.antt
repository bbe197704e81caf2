-- Where a line is cut at its last space.
use Rattle.std.proofs.Common.{◌≡◌, ◌∙◌, ℕ, ◌==◌, ◌||◌, Bool, true, false, List, [], ◌∷◌, ◌++◌, take, drop, get_or, refl, sym, ap, arith}
use Rattle.std.specs.List.{list_any}
use Rattle.std.specs.Str.{NoCharPasses}
use Rattle.std.specs.Str.Pattern.{HasCharAt}
use Rattle.std.proofs.lemmas.Bool.{eqb-true}
use Rattle.std.proofs.lemmas.Grind.{get_or_default_zero}
use Rattle.std.proofs.lemmas.List.{take-append-drop}
use Rattle.std.proofs.lemmas.List.Folds.{list_any_none}
use Rattle.std.proofs.lemmas.Str.Pattern.{NoCharPasses-char, drop_at_char}
use Rattle.gw_script.specs.Parts.{is_space, last_part, before_last}

differs : (b : ℕ) → (b ≡ 32 → ⊥) → is_space b ≡ false
differs b other = go (b == 32) refl
  where
    go : (t : Bool) → (b == 32) ≡ t → t ≡ false
    go true e = absurd (other (eqb-true b 32 e))
    go false e = refl

-- no byte of a text without a space is one
pub no_space : (t : List ℕ) → NoCharPasses is_space t → list_any is_space t ≡ false
no_space t none =
    list_any_none is_space t (λ k d lt. differs (get_or t k d) (λ same. NoCharPasses-char 32 t k none (omega arith) lt (sym (get_or_default_zero t k d lt) ∙ same)))

neither : (a b : Bool) → (a || b) ≡ false → (a ≡ false) × (b ≡ false)
neither true b e = cc
neither false b e = (refl, e)

or_true : (b : Bool) → (b || true) ≡ true
or_true true = refl
or_true false = refl

-- such a text is its last part
pub last_is_all : (t : List ℕ) → list_any is_space t ≡ false → t ≡ last_part t
last_is_all [] none = refl
last_is_all (b ∷ t) none =
    let parts = neither (is_space b) (list_any is_space t) none in
    rw (parts.1, parts.0) refl

pub nothing_before : (t : List ℕ) → list_any is_space t ≡ false → [] ≡ before_last t
nothing_before [] none = refl
nothing_before (b ∷ t) none = rw (neither (is_space b) (list_any is_space t) none).1 refl

some_space : (before last : List ℕ) → list_any is_space (before ++ 32 ∷ last) ≡ true
some_space [] last = refl
some_space (b ∷ before) last = rw (some_space before last) (or_true (is_space b))

last_at : (before last : List ℕ) → list_any is_space last ≡ false → last ≡ last_part (before ++ 32 ∷ last)
last_at [] last none = rw none refl
last_at (b ∷ before) last none = rw (some_space before last) (last_at before last none)

before_at : (before last : List ℕ) → list_any is_space last ≡ false → before ≡ before_last (before ++ 32 ∷ last)
before_at [] last none = rw none refl
before_at (b ∷ before) last none = rw (some_space before last) (ap (λ (t : List ℕ). b ∷ t) (before_at before last none))

module _ (t before last : List ℕ) (i j : ℕ) (none : NoCharPasses is_space (drop j t)) (at : HasCharAt 32 t i j) (front : before ≡ take i t) (back : last ≡ drop j t) where
  joined : t ≡ before ++ 32 ∷ last
  joined = sym (take-append-drop i t) ∙ ap (λ (more : List ℕ). take i t ++ more) (drop_at_char 32 t i j at (omega arith)) ∙ rw (front, back) refl

  none_last : list_any is_space last ≡ false
  none_last = rw back (no_space (drop j t) none)

  pub cut_before : before ≡ before_last t
  cut_before = before_at before last none_last ∙ sym (ap before_last joined)

  pub cut_after : last ≡ last_part t
  cut_after = last_at before last none_last ∙ sym (ap last_part joined)
