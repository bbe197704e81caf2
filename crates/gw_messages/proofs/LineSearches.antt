-- How far lines of chunks were read.
use Rattle.std.proofs.Common.{◌≡◌, ℕ, ◌≤◌, true, false, Bool, not, ◌||◌, ◌==◌, List, [], ◌++◌, ◌∙◌, length, take, drop, sym, ap, subst, arith, append_assoc, append-nil, length-append, nat_lt, refl}
use Rattle.std.specs.List.{list_all, list_any, position_or_len}
use Rattle.std.proofs.Math.Seq.{take-length}
use Rattle.std.proofs.lemmas.Bool.{le-ltb}
use Rattle.std.proofs.lemmas.List.{length-take, take-append-drop, take-append-le}
use Rattle.std.proofs.lemmas.List.Folds.{list_all-append}
use Rattle.std.proofs.lemmas.List.Sums.{prefix_len-le-length}
use Rattle.gw_messages.specs.model.Bodies.{IsLine, part_line}
use Rattle.gw_messages.specs.Lines.{continues, Continues, IsLineSearch, IsOpen}
use Rattle.gw_messages.specs.declared.line.LineSearch.{LineSearch}
use Rattle.httparse.specs.Grammar.{is_ows}
use Rattle.gw_messages.proofs.OpenLines.{part_goes_on}

-- where nothing was read
pub fresh_line_search : (s : LineSearch) (bytes : List ℕ) → s.seen ≡ 0 → IsLineSearch s bytes
fresh_line_search s bytes seen = record {
  within = omega (arith, seen);
  on = λ some more all. absurd (omega (arith, seen, some));
}

-- what was read stays so with more bytes
pub longer_line_search : (s : LineSearch) (bytes more : List ℕ) → IsLineSearch s bytes → IsLineSearch s (bytes ++ more)
longer_line_search s bytes more h = record {
  within = omega (arith, h.within, length-append bytes more);
  on = λ some later all. rw (take-append-le s.seen bytes more h.within) (h.on some later all);
}

take_take_le : (n m : ℕ) (xs : List ℕ) → n ≤ length (take m xs) → take n (take m xs) ≡ take n xs
take_take_le n m xs le = sym (take-append-le n (take m xs) (drop m xs) le) ∙ ap (take n) (take-append-drop m xs)

-- what was read of a front was read of the bytes
pub wider_search : (s : LineSearch) (bytes : List ℕ) (most : ℕ) → IsLineSearch s (take most bytes) → IsLineSearch s bytes
wider_search s bytes most h = record {
  within = omega (arith, h.within, length-take most bytes);
  on = λ some more all. subst (λ (b : List ℕ). IsOpen (b ++ more)) (take_take_le s.seen most bytes h.within) (h.on some more all);
}

-- the whole front goes on as well
open_front : (s : LineSearch) (bytes : List ℕ) (most : ℕ) → IsLineSearch s bytes → Continues s (take most bytes) → (more : List ℕ) → list_all (continues s.extended) more ≡ true → IsOpen (take most bytes ++ more)
open_front s bytes most h c more all =
    let front = take most bytes in
    let rest = drop s.seen front in
    let both : list_all (continues s.extended) (rest ++ more) ≡ true = list_all-append (continues s.extended) rest more ∙ rw (c.rest, all) refl in
    let cut : take s.seen bytes ++ (rest ++ more) ≡ front ++ more =
    ap (λ (b : List ℕ). b ++ (rest ++ more)) (sym (take_take_le s.seen most bytes c.within)) ∙ sym (append_assoc (take s.seen front) rest more) ∙ ap (λ (b : List ℕ). b ++ more) (take-append-drop s.seen front) in
    subst IsOpen cut (h.on c.some (rest ++ more) both)

-- a front that goes on is part of a line
pub part_front : (s : LineSearch) (bytes : List ℕ) (most : ℕ) → IsLineSearch s bytes → Continues s (take most bytes) → IsLine (take most bytes) part_line
part_front s bytes most h c =
    let front = take most bytes in
    let short : nat_lt 1024 (position_or_len (λ b. b == 13) front) ≡ false = le-ltb 1024 (position_or_len (λ b. b == 13) front) (omega (arith, c.few, prefix_len-le-length (λ b. not (b == 13)) front)) in
    let open_line = subst IsOpen (append-nil front) (open_front s bytes most h c [] refl) in
    (short, open_line.0, open_line.1)

-- and was read
pub read_front : (s t : LineSearch) (bytes : List ℕ) (most : ℕ) → t.seen ≡ length (take most bytes) → t.extended ≡ s.extended → IsLineSearch s bytes → Continues s (take most bytes) → IsLineSearch t bytes
read_front s t bytes most seen extended h c =
    let front : take t.seen bytes ≡ take most bytes = ap (λ k. take k bytes) seen ∙ sym (take_take_le (length (take most bytes)) most bytes (omega arith)) ∙ take-length (take most bytes) in
    record {
      within = omega (arith, seen, length-take most bytes);
      on = λ some more all. subst (λ (b : List ℕ). IsOpen (b ++ more)) (sym front) (open_front s bytes most h c more (rw extended at all));
    }

-- where a line's front was read whole
pub noted : (s : LineSearch) (front : List ℕ) → s.seen ≡ length front → IsLine front part_line → list_any (λ b. b == 13) front ≡ false → s.extended ≡ list_any (λ b. b == 59) front
    → (s.extended || list_any is_ows front) ≡ true → IsLineSearch s front
noted s front seen line none extended some = record {
  within = omega (arith, seen);
  on = λ _ more all. subst (λ (b : List ℕ). IsOpen (b ++ more)) (sym (ap (λ k. take k front) seen ∙ take-length front)) (part_goes_on front more s.extended line none extended some all);
}

pub either : (s t : Bool) → t ≡ true → (s || t) ≡ true
either true t e = refl
either false t e = e
