-- Sections end where a line ends.
use Rattle.std.proofs.Common.{◌≡◌, ℕ, ◌+◌, ◌-◌, ◌≤◌, ◌<◌, ◌⊎◌, Bool, true, false, not, List, [], ◌∷◌, ◌++◌, ◌==◌, length, take, drop, reverse, get_or, arith, refl, sym, ap, ◌∙◌, subst, append_assoc, inl, inr, nat_eq}
use Rattle.std.specs.List.{ends_with, position_or_len}
use Rattle.std.specs.Str.{bytes_eq}
use Rattle.std.proofs.lemmas.Bool.{cases_lt}
use Rattle.std.proofs.lemmas.Bool.Decides.{Decides-eqb}
use Rattle.std.proofs.lemmas.List.{get_or-drop, length-take-le, reverse-append, take-append-drop, take_more}
use Rattle.std.proofs.lemmas.List.Sums.{fails_before_first}
use Rattle.std.proofs.lemmas.Slice.Eq.{bytes_eq-Decides, ends_is}
use Rattle.gw_messages.specs.model.Sections.{ends_head, ends_trailers, NoneBelow}
use borrow.Author.Count.{below_more}
use Rattle.gw_messages.specs.Searches.{IsFound, IsNextEnd, IsSearch}
use Rattle.gw_messages.specs.declared.section.Search.{Search}
use Rattle.gw_messages.specs.declared.section.Found.TheVariants.{Whole}
use Rattle.gw_messages.proofs.ChunkLines.{prefix_longer}
use Rattle.gw_messages.proofs.Cutting.{fails}

-- equal lists have the same last byte
last_same : (a b : List ℕ) (x y : ℕ) → a ++ x ∷ [] ≡ b ++ y ∷ [] → x ≡ y
last_same a b x y e =
    let back : x ∷ reverse a ≡ y ∷ reverse b = sym (reverse-append a (x ∷ [])) ∙ ap reverse e ∙ reverse-append b (y ∷ []) in
    cc

differs : (x : ℕ) → (x == 10) ≡ false → ¬ (x ≡ 10)
differs x other same = cc

-- bytes that don't end with LF aren't a text that does
other_text : (a front : List ℕ) (x : ℕ) → (x == 10) ≡ false → bytes_eq (a ++ x ∷ []) (front ++ 10 ∷ []) ≡ false
other_text a front x other = fails _ (λ e. differs x other (last_same a front x 10 ((bytes_eq-Decides (a ++ x ∷ []) (front ++ 10 ∷ [])).0 e)))

-- nor do they end with such a text
other_end : (a front : List ℕ) (x : ℕ) → (x == 10) ≡ false → ends_with nat_eq (a ++ x ∷ []) (front ++ 10 ∷ []) ≡ false
other_end a front x other = fails _ (λ e.
    let before = take (length (a ++ x ∷ []) - length (front ++ 10 ∷ [])) (a ++ x ∷ []) in
    let split : a ++ x ∷ [] ≡ before ++ (front ++ 10 ∷ []) = (ends_is Decides-eqb (a ++ x ∷ []) (front ++ 10 ∷ []) _ refl).0 e in
    differs x other (last_same a (before ++ front) x 10 (split ∙ sym (append_assoc before front (10 ∷ [])))))

-- No section ends with this test behind another byte than LF.
abbrev EndsWithLine : (List ℕ → Bool) → Type 0
EndsWithLine ends = (a : List ℕ) (x : ℕ) → (x == 10) ≡ false → ends (a ++ x ∷ []) ≡ false

-- no head ends behind another byte than LF
pub head_line : EndsWithLine ends_head
head_line a x other = rw (other_end a (10 ∷ []) x other, other_end a (10 ∷ 13 ∷ []) x other) refl

-- no trailer section ends behind another byte than LF
pub trailers_line : EndsWithLine ends_trailers
trailers_line a x other = rw (other_text a (13 ∷ []) x other, other_end a (13 ∷ 10 ∷ 13 ∷ []) x other) refl

seen_place : (p : ℕ → Bool) (count : ℕ) (bytes : List ℕ) → position_or_len p (take count bytes) ≤ position_or_len p bytes
seen_place p count bytes = subst (λ (b : List ℕ). position_or_len p (take count bytes) ≤ position_or_len p b) (take-append-drop count bytes) (prefix_longer (λ b. not (p b)) (take count bytes) (drop count bytes))

-- no LF stands before the next one
pub none_between : (bytes : List ℕ) (seen count k : ℕ) → seen ≤ k → k < seen + position_or_len (λ b. b == 10) (take count (drop seen bytes)) → (get_or bytes k 0 == 10) ≡ false
none_between bytes seen count k after before =
    let place : seen + (k - seen) ≡ k = omega arith in
    let near : k - seen < position_or_len (λ b. b == 10) (drop seen bytes) = omega (arith, before, seen_place (λ b. b == 10) count (drop seen bytes)) in
    subst (λ n. (get_or bytes n 0 == 10) ≡ false) place
    (ap (λ b. b == 10) (sym (get_or-drop seen bytes (k - seen) 0)) ∙ fails_before_first (λ b. b == 10) (drop seen bytes) (k - seen) 0 near)

-- no section ends behind another byte than LF
behind_byte : (ends : List ℕ → Bool) (bytes : List ℕ) (k : ℕ) → EndsWithLine ends → k < length bytes → (get_or bytes k 0 == 10) ≡ false → ends (take (k + 1) bytes) ≡ false
behind_byte ends bytes k line fits other = ap ends (take_more bytes k 0 fits) ∙ line (take k bytes) (get_or bytes k 0) other

-- no front up to the next LF ends a section
pub none_next : (ends : List ℕ → Bool) (bytes : List ℕ) (seen end : ℕ) → EndsWithLine ends → NoneBelow ends (seen + 1) bytes → IsNextEnd seen end bytes → NoneBelow ends end bytes
none_next ends bytes seen end line none next = λ n lt. by_place n lt (cases_lt seen n)
  where
    by_place : (n : ℕ) → n < end → (seen < n) ⊎ (n ≤ seen) → ends (take n bytes) ≡ false
    by_place n lt (inl after) =
        let place : n - 1 + 1 ≡ n = omega arith in
        let fits : n - 1 < length bytes = omega (arith, next.within) in
        subst (λ k. ends (take k bytes) ≡ false) place (behind_byte ends bytes (n - 1) line fits (next.none (n - 1) (omega arith) (omega arith)))
    by_place n lt (inr before) = none n (omega (arith, before))

-- the first front that ends a section
pub found_end : (ends : List ℕ → Bool) (bytes : List ℕ) (seen end : ℕ) → EndsWithLine ends
    → NoneBelow ends (seen + 1) bytes → IsNextEnd seen end bytes → ends (take end bytes) ≡ true → IsFound ends bytes (Whole end)
found_end ends bytes seen end line none next e =
    let long : length (take end bytes) ≡ end = length-take-le end bytes next.within in
    (next.within, (sym (take-append-drop end bytes), e, omega (arith, long, next.few), rw long (none_next ends bytes seen end line none next)))

-- no front up to the next LF, and with it, ends a section
pub none_through : (ends : List ℕ → Bool) (s t : Search) (bytes : List ℕ) → EndsWithLine ends
    → IsSearch ends s bytes → IsNextEnd s.seen t.seen bytes → ends (take t.seen bytes) ≡ false → IsSearch ends t bytes
none_through ends s t bytes line search next e = record {
  within = next.within;
  few = next.few;
  none = below_more (λ k. ends (take k bytes) ≡ false) t.seen (none_next ends bytes s.seen t.seen line search.none next) e;
}
