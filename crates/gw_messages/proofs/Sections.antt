-- Where sections end.
use Rattle.std.proofs.Common.{◌≡◌, ℕ, zero, suc, ◌+◌, ◌-◌, ◌≤◌, Bool, true, false, not, List, [], ◌∷◌, ◌++◌, length, take, drop, arith, refl, sym, ap, ◌∙◌, ◌||◌, ◌&&◌, ◌==◌, nat_eq, length-append, append_assoc, if◌then◌else◌}
use Rattle.std.specs.List.{starts_with}
use Rattle.std.proofs.lemmas.List.{take-append-drop, take_rest, take-append-le, drop-append-le}
use Rattle.gw_messages.specs.model.Sections.{are_empty_lines, ends_head, ends_trailers, ends_with_empty_line, IsCut, long_section, whole_section, NoneBelow}
use Rattle.gw_messages.specs.Searches.{IsBuffer, IsHeadSearch, IsSearch}
use Rattle.gw_messages.specs.declared.section.Search.{Search}
use Rattle.gw_messages.specs.declared.line.LineSearch.{LineSearch}
use Rattle.gw_messages.proofs.LineSearches.{fresh_line_search, longer_line_search}

-- both tests hold
pub both_parts : (s t : Bool) → (s && t) ≡ true → (s ≡ true) × (t ≡ true)
both_parts true true e = (refl, refl)
both_parts true false e = cc
both_parts false t e = cc

one_line : (t u s r : Bool) → ((t || (u && false)) && true) ≡ true → ((t || (u && s)) && r) ≡ r
one_line true u s r e = refl
one_line false true s r e = cc
one_line false false s r e = cc

-- what follows whole empty lines decides whether all are such lines
pub lines_behind : (a b : List ℕ) → are_empty_lines a ≡ true → are_empty_lines (a ++ b) ≡ are_empty_lines b
lines_behind [] b e = refl
lines_behind (x ∷ []) b e = one_line (x == 10) (x == 13) (starts_with nat_eq b (10 ∷ [])) (are_empty_lines b) e
lines_behind (x ∷ y ∷ a) b e =
    let parts = both_parts (x == 10 || (x == 13 && (10 == y && true))) (are_empty_lines (y ∷ a)) e in
    rw parts.0 (lines_behind (y ∷ a) b parts.1)

pub take_take : (n m : ℕ) (xs : List ℕ) → n ≤ m → take n (take m xs) ≡ take n xs
take_take zero m xs le = refl
take_take (suc n) zero xs le = absurd (omega arith)
take_take (suc n) (suc m) [] le = refl
take_take (suc n) (suc m) (x ∷ xs) le = ap (λ ys. x ∷ ys) (take_take n m xs (omega arith))

-- whether all are empty lines is decided behind those that are known
pub lines_are : (front : List ℕ) (blank : ℕ) (r : Bool) → are_empty_lines (take blank front) ≡ true → r ≡ are_empty_lines (take (length front - blank) (drop blank front)) → are_empty_lines front ≡ r
lines_are front blank r known e =
    ap are_empty_lines (sym (take-append-drop blank front)) ∙ lines_behind (take blank front) (drop blank front) known
    ∙ ap are_empty_lines (sym (take_rest front blank)) ∙ sym e

pub head_is : (front : List ℕ) (r : Bool) → ends_with_empty_line front ≡ true → are_empty_lines front ≡ r → not r ≡ ends_head front
head_is front r ends lines = rw (ends, lines)

-- what is known of a front is known of the bytes
pub known_before : (blank n : ℕ) (bytes : List ℕ) → blank ≤ n → are_empty_lines (take blank (take n bytes)) ≡ true → are_empty_lines (take blank bytes) ≡ true
known_before blank n bytes le e = rw take_take at e

-- no front more passes with more bytes
pub none_longer : (ends : List ℕ → Bool) (count : ℕ) (bytes more : List ℕ) → count ≤ length bytes + 1 → NoneBelow ends count bytes → NoneBelow ends count (bytes ++ more)
none_longer ends count bytes more fits none = λ n lt.
    let le : n ≤ length bytes = omega arith in
    rw (take-append-le n bytes more le) (none n lt)

-- a section that is too long stays so
pub long_more : (ends : List ℕ → Bool) (most : ℕ) (bytes next : List ℕ) → IsCut ends most bytes long_section → IsCut ends most (bytes ++ next) long_section
long_more ends most bytes next cut = (omega (arith, cut.0, length-append bytes next), none_longer ends (most + 1) bytes next (omega (arith, cut.0)) cut.1)

-- a whole section stays whole
pub whole_more : (ends : List ℕ → Bool) (most : ℕ) (bytes section rest next : List ℕ) → IsCut ends most bytes (whole_section section rest) → IsCut ends most (bytes ++ next) (whole_section section (rest ++ next))
whole_more ends most bytes section rest next cut = (
  ap (λ (b : List ℕ). b ++ next) cut.0 ∙ append_assoc section rest next,
  cut.1,
  cut.2,
  none_longer ends (length section) bytes next (omega (arith, ap length cut.0, length-append section rest)) cut.3,
)

longer_search : (ends : List ℕ → Bool) (s : Search) (bytes more : List ℕ) → IsSearch ends s bytes → IsSearch ends s (bytes ++ more)
longer_search ends s bytes more h = record {
  within = omega (arith, h.within, length-append bytes more);
  few = h.few;
  none = none_longer ends (s.seen + 1) bytes more (omega (arith, h.within)) h.none;
}

longer_head_search : (s : Search) (bytes more : List ℕ) → IsHeadSearch s bytes → IsHeadSearch s (bytes ++ more)
longer_head_search s bytes more h =
    let le : s.blank ≤ length bytes = omega (arith, h.before, h.search.within) in
    record {
      search = longer_search ends_head s bytes more h.search;
      before = h.before;
      blank = rw (take-append-le s.blank bytes more le) h.blank;
    }

-- more bytes leave what was looked at
longer_buffer : (start : ℕ) (bytes more : List ℕ) (heads trailers : Search) (lines : LineSearch) → IsBuffer start bytes heads trailers lines → IsBuffer start (bytes ++ more) heads trailers lines
longer_buffer start bytes more heads trailers lines h =
    let split : drop start (bytes ++ more) ≡ drop start bytes ++ more = drop-append-le start bytes more h.within in
    record {
      within = omega (arith, h.within, length-append bytes more);
      head_search = rw split (longer_head_search heads (drop start bytes) more h.head_search);
      trailers_search = rw split (longer_search ends_trailers trailers (drop start bytes) more h.trailers_search);
      line_search = rw split (longer_line_search lines (drop start bytes) more h.line_search);
    }

-- a piece was put behind the bytes, or not
pub fed_buffer : (start : ℕ) (before piece after : List ℕ) (heads trailers : Search) (lines : LineSearch) (fed : Bool) → after ≡ (if fed then before ++ piece else before)
    → IsBuffer start before heads trailers lines → IsBuffer start after heads trailers lines
fed_buffer start before piece after heads trailers lines true e h = rw e (longer_buffer start before piece heads trailers lines h)
fed_buffer start before piece after heads trailers lines false e h = rw e h

none_at_start : (ends : List ℕ → Bool) (bytes : List ℕ) → ends [] ≡ false → NoneBelow ends (0 + 1) bytes
none_at_start ends bytes e = λ n lt.
    let zero_is : n ≡ 0 = omega arith in
    rw zero_is e

fresh : (ends : List ℕ → Bool) (s : Search) (bytes : List ℕ) → s.seen ≡ 0 → ends [] ≡ false → IsSearch ends s bytes
fresh ends s bytes seen e = record {
  within = omega (arith, seen);
  few = omega (arith, seen);
  none = rw seen (none_at_start ends bytes e);
}

-- where nothing was looked at
pub fresh_buffer : (start : ℕ) (bytes : List ℕ) (heads trailers : Search) (lines : LineSearch) → start ≤ length bytes → heads.seen ≡ 0 → heads.blank ≡ 0 → trailers.seen ≡ 0 → lines.seen ≡ 0
    → IsBuffer start bytes heads trailers lines
fresh_buffer start bytes heads trailers lines fits seen blank trailers_seen lines_seen = record {
  within = fits;
  head_search = record { search = fresh ends_head heads (drop start bytes) seen refl; before = omega (arith, seen, blank); blank = rw blank refl };
  trailers_search = fresh ends_trailers trailers (drop start bytes) trailers_seen refl;
  line_search = fresh_line_search lines (drop start bytes) lines_seen;
}
