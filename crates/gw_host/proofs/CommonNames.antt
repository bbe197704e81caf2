-- Two hostnames meet exactly where some name is covered by both.
use Rattle.std.proofs.Common.{◌≡◌, ◌≢◌, ℕ, ◌+◌, ◌<◌, Bool, true, false, ◌&&◌, ◌||◌, IsTrue, ◌↔◌, ◌⊎◌, inl, inr, List, [], ◌∷◌, ◌++◌, length, refl, sym, ap, ◌∙◌, true≢false, eqb, ltb, arith, length-append}
use Rattle.std.proofs.Math.Bool.{or-true}
use Rattle.std.specs.Bool.{Decides}
use Rattle.std.specs.Cmp.{second_so}
use Rattle.std.specs.List.{ends_with}
use Rattle.std.specs.Str.{bytes_eq}
use denote.Ref.{Bor}
use Rattle.std.proofs.lemmas.Bool.{lt-ltb, or_cases}
use Rattle.std.proofs.lemmas.Bool.Decides.{Decides-eqb, same_from_decides}
use Rattle.std.proofs.lemmas.List.{append_assoc, append_cancel_right}
use Rattle.std.proofs.lemmas.Slice.Eq.{bytes_eq-Decides, ends_is}
use Rattle.gw_text.specs.model.Hostnames.{Host, meets, is_below, HaveCommonName}

abbrev pub DOT : ℕ
DOT = 46

-- the name is something, a dot and the text
abbrev pub LiesBelow : List ℕ → List ℕ → Type 0
LiesBelow name text = (front : List ℕ) × (name ≡ front ++ DOT ∷ text)

pub is_below-Decides : (name text : List ℕ) → Decides (is_below name text) (LiesBelow name text)
is_below-Decides name text =
    let e = ends_is Decides-eqb name (DOT ∷ text) (is_below name text) refl in
    ((λ h. (_, e.0 h)), (λ b. e.1 b.0 b.1))

dot_moved : (front text : List ℕ) → front ++ DOT ∷ text ≡ (front ++ DOT ∷ []) ++ text
dot_moved front text = sym (append_assoc front (DOT ∷ []) text)

-- what stands before the text decides, where the name ends with the text
pub is_below-stripped : (name text : List ℕ) (front : Bor (List ℕ)) → name ≡ front.now ++ text → (r : Bool) → r ≡ ends_with eqb front.now (DOT ∷ []) → r ≡ is_below name text
is_below-stripped name text front is r e =
    let ends = ends_is Decides-eqb front.now (DOT ∷ []) r e in
    let below : r ≡ true → LiesBelow name text = λ h. (_, is ∙ ap (λ f. f ++ text) (ends.0 h) ∙ sym (dot_moved _ text)) in
    let dotted : LiesBelow name text → r ≡ true = λ b. ends.1 b.0 (append_cancel_right front.now (b.0 ++ DOT ∷ []) text (sym is ∙ b.1 ∙ dot_moved b.0 text)) in
    let decides : Decides r (LiesBelow name text) = (below, dotted) in
    same_from_decides r (is_below name text) decides (is_below-Decides name text)

pub is_below-not_stripped : (name text : List ℕ) → ((front : List ℕ) → name ≢ front ++ text) → false ≡ is_below name text
is_below-not_stripped name text none =
    let decides : Decides false (LiesBelow name text) =
    ((λ h. absurd (true≢false (sym h))), (λ b. absurd (none (b.0 ++ DOT ∷ []) (b.1 ∙ dot_moved b.0 text)))) in
    same_from_decides false (is_below name text) decides (is_below-Decides name text)

both_so : (s t : Bool) → s ≡ true → t ≡ true → (s && t) ≡ true
both_so true t h k = k
both_so false t h k = h

-- a wildcard covers what lies below its text, with something before the dot
abbrev IsCovered : List ℕ → List ℕ → Bool
IsCovered name text = ltb (length text + 1) (length name) && is_below name text

covered_below : (name text : List ℕ) → IsTrue (IsCovered name text) → LiesBelow name text
covered_below name text h = (is_below-Decides name text).0 (second_so (ltb (length text + 1) (length name)) (is_below name text) h)

below_covered : (x : ℕ) (front text : List ℕ) → IsTrue (IsCovered (x ∷ front ++ DOT ∷ text) text)
below_covered x front text =
    let longer : length text + 1 < length (x ∷ front ++ DOT ∷ text) = omega (arith, length-append (x ∷ front) (DOT ∷ text)) in
    both_so _ _ (lt-ltb _ _ longer) ((is_below-Decides (x ∷ front ++ DOT ∷ text) text).1 (x ∷ front, refl))

-- of two texts that end one name, each after a dot, one is the other or lies below it
abbrev Nested : List ℕ → List ℕ → Type 0
Nested s t = (s ≡ t) ⊎ (LiesBelow s t ⊎ LiesBelow t s)

ends_nested : (f g s t : List ℕ) → f ++ DOT ∷ s ≡ g ++ DOT ∷ t → Nested s t
ends_nested [] [] s t e = let same : s ≡ t = cc in inl same
ends_nested [] (y ∷ g) s t e = let below : s ≡ g ++ DOT ∷ t = cc in inr (inl (g, below))
ends_nested (x ∷ f) [] s t e = let below : t ≡ f ++ DOT ∷ s = cc in inr (inr (f, below))
ends_nested (x ∷ f) (y ∷ g) s t e = let rest : f ++ DOT ∷ s ≡ g ++ DOT ∷ t = cc in ends_nested f g s t rest

have_nested : (s t : List ℕ) → IsTrue (bytes_eq s t || is_below s t || is_below t s) → Nested s t
have_nested s t h =
    elim (or_cases (bytes_eq s t || is_below s t) (is_below t s) h) [
      | inl k ↦ (elim (or_cases (bytes_eq s t) (is_below s t) k) [
        | inl same ↦ inl ((bytes_eq-Decides s t).0 same)
        | inr below ↦ inr (inl ((is_below-Decides s t).0 below))
      ])
      | inr below ↦ inr (inr ((is_below-Decides t s).0 below))
    ]

nested_have : (s t : List ℕ) → Nested s t → IsTrue (bytes_eq s t || is_below s t || is_below t s)
nested_have s t (inl same) = ap (λ b. b || is_below s t || is_below t s) ((bytes_eq-Decides s t).1 same)
nested_have s t (inr (inl below)) =
    ap (λ b. bytes_eq s t || b || is_below t s) ((is_below-Decides s t).1 below) ∙ ap (λ b. b || is_below t s) (or-true (bytes_eq s t))
nested_have s t (inr (inr below)) =
    ap (λ b. bytes_eq s t || is_below s t || b) ((is_below-Decides t s).1 below) ∙ or-true (bytes_eq s t || is_below s t)

-- the text of the wildcard with the longer text, with `a.` before it, is covered by both
nested_common : (s t : List ℕ) → Nested s t → (name : List ℕ) × IsTrue (IsCovered name s) × IsTrue (IsCovered name t)
nested_common s t (inl same) =
    (97 ∷ DOT ∷ s, below_covered 97 [] s, ap (λ u. IsCovered (97 ∷ DOT ∷ s) u) (sym same) ∙ below_covered 97 [] s)
nested_common s t (inr (inl below)) = (
  97 ∷ DOT ∷ s,
  below_covered 97 [] s,
  ap (λ u. IsCovered (97 ∷ DOT ∷ u) t) below.1 ∙ below_covered 97 (DOT ∷ below.0) t,
)
nested_common s t (inr (inr below)) = (
  97 ∷ DOT ∷ t,
  ap (λ u. IsCovered (97 ∷ DOT ∷ u) s) below.1 ∙ below_covered 97 (DOT ∷ below.0) s,
  below_covered 97 [] t,
)

common_nested : (s t : List ℕ) → ((name : List ℕ) × IsTrue (IsCovered name s) × IsTrue (IsCovered name t)) → Nested s t
common_nested s t h =
    let one = covered_below h.0 s h.1 in
    let two = covered_below h.0 t h.2 in
    ends_nested one.0 two.0 s t (sym one.1 ∙ two.1)

-- the law, by the two hostnames' kinds
common_by : (v w : Bool) (s t : List ℕ)
    → let a : Host = record { wild = v; text = s } in let b : Host = record { wild = w; text = t } in IsTrue (meets a b) ↔ HaveCommonName a b
common_by true true s t = ((λ h. nested_common s t (have_nested s t h)), (λ h. nested_have s t (common_nested s t h)))
common_by true false s t = (
  (λ h. (t, h, (bytes_eq-Decides t t).1 refl)),
  (λ h. ap (λ u. IsCovered u s) (sym ((bytes_eq-Decides h.0 t).0 h.2)) ∙ h.1),
)
common_by false true s t = (
  (λ h. (s, (bytes_eq-Decides s s).1 refl, h)),
  (λ h. ap (λ u. IsCovered u t) (sym ((bytes_eq-Decides h.0 s).0 h.1)) ∙ h.2),
)
common_by false false s t = (
  (λ h. (s, (bytes_eq-Decides s s).1 refl, h)),
  (λ h. (bytes_eq-Decides s t).1 (sym ((bytes_eq-Decides h.0 s).0 h.1) ∙ (bytes_eq-Decides h.0 t).0 h.2)),
)

pub common_name : (a b : Host) (r : Bool) → r ≡ meets a b → IsTrue r ↔ HaveCommonName a b
common_name a b r e =
    let law = common_by a.wild b.wild a.text b.text in
    ((λ h. law.0 (sym e ∙ h)), (λ h. e ∙ law.1 h))
