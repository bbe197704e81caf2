-- Lines of chunks that aren't whole.
use Rattle.std.proofs.Common.{◌≡◌, ℕ, ◌⊎◌, Bool, true, false, ◌||◌, List, [], ◌∷◌, ◌++◌, ◌==◌, ◌∙◌, length, refl, sym, ap, subst, arith, append_assoc, append-nil, inl, inr, Option, Some, None}
use Rattle.std.specs.List.{list_all, list_any}
use Rattle.std.proofs.Math.Seq.{take-length}
use Rattle.std.proofs.lemmas.Bool.Decides.{nat_tests}
use Rattle.std.proofs.lemmas.List.{take-append-le}
use Rattle.std.proofs.lemmas.List.Elements.{All-append, All-from_get_or, All-take, All-weaker}
use Rattle.std.proofs.lemmas.List.Folds.{list_any-append, list_any_none}
use Rattle.std.proofs.lemmas.List.Sums.{AllPass-from_list_all}
use Rattle.std.specs.Char.{is_ascii_hexdigit}
use Rattle.httparse.specs.Grammar.{AllPass, ChunkLine, HasNoChunkLine, IsChunkLine, IsExtension, is_extension_byte, is_ows, MayBecomeChunkLine, print_chunk_line, print_extension}
use Rattle.gw_messages.specs.model.Bodies.{IsLine, part_line}
use Rattle.gw_messages.specs.Lines.{continues, IsOpen}

abbrev is_cr : ℕ → Bool
is_cr b = b == 13

abbrev is_semicolon : ℕ → Bool
is_semicolon b = b == 59

-- ---- bytes that are among others

neither : (s t : Bool) → (s || t) ≡ false → (s ≡ false) × (t ≡ false)
neither true t e = cc
neither false t e = (refl, e)

-- what none passes, none passes of a part
none_apart : (p : ℕ → Bool) (a b : List ℕ) → list_any p (a ++ b) ≡ false → (list_any p a ≡ false) × (list_any p b ≡ false)
none_apart p a b e = neither (list_any p a) (list_any p b) (sym (list_any-append p a b) ∙ e)

none_both : (p : ℕ → Bool) (a b : List ℕ) → list_any p a ≡ false → list_any p b ≡ false → list_any p (a ++ b) ≡ false
none_both p a b none_a none_b = list_any-append p a b ∙ rw (none_a, none_b) refl

-- bytes of one class have none of another
none_of : (p q : ℕ → Bool) (xs : List ℕ) → ((b : ℕ) → p b ≡ true → q b ≡ false) → AllPass p xs → list_any q xs ≡ false
none_of p q xs other all = list_any_none q xs (All-weaker (λ b. p b ≡ true) (λ b. q b ≡ false) other xs all)

all_pass : (p : ℕ → Bool) (xs : List ℕ) → list_all p xs ≡ true → AllPass p xs
all_pass p xs e = All-from_get_or (λ b. p b ≡ true) xs 0 (λ i lt. AllPass-from_list_all p xs e i 0 lt)

all_left : (p : ℕ → Bool) (a b : List ℕ) → AllPass p (a ++ b) → AllPass p a
all_left p a b all =
    subst (AllPass p) (take-append-le (length a) a b (omega arith) ∙ take-length a) (All-take (λ b. p b ≡ true) (length a) (a ++ b) all)

-- two ways to cut the same bytes
cuts : (a b c d : List ℕ) → a ++ b ≡ c ++ d → ((t : List ℕ) × (c ≡ a ++ t) × (b ≡ t ++ d)) ⊎ ((t : List ℕ) × (a ≡ c ++ t) × (t ++ b ≡ d))
cuts [] b c d e = inl (c, refl, e)
cuts (x ∷ a) b [] d e = inr (x ∷ a, refl, e)
cuts (x ∷ a) b (y ∷ c) d e =
    let heads : x ≡ y = cc in
    let tails : a ++ b ≡ c ++ d = cc in
    elim (cuts a b c d tails) [
      | inl h ↦ inl (h.0, cc, h.2)
      | inr h ↦ inr (h.0, cc, h.2)
    ]

-- ---- no line ends

no_line : (bytes : List ℕ) → list_any is_cr bytes ≡ false → HasNoChunkLine bytes
unfolding print_chunk_line
no_line bytes none l rest reads =
    let ends : list_any is_cr (13 ∷ 10 ∷ []) ≡ false = (none_apart is_cr (l.digits ++ l.pad ++ print_extension l.extension) (13 ∷ 10 ∷ []) (none_apart is_cr (print_chunk_line l) rest (subst (λ (b : List ℕ). list_any is_cr b ≡ false) reads.1 none)).0).1 in
    cc

-- ---- where the bytes of a line stop

digit_is_other : (b : ℕ) → is_ascii_hexdigit b ≡ true → is_semicolon b ≡ false
digit_is_other b digit = grind (arith, nat_tests)

digit_is_no_blank : (b : ℕ) → is_ascii_hexdigit b ≡ true → is_ows b ≡ false
digit_is_no_blank b digit = grind (arith, nat_tests)

blank_is_no_semicolon : (b : ℕ) → is_ows b ≡ true → is_semicolon b ≡ false
blank_is_no_semicolon b blank = grind (arith, nat_tests)

no_cr : (extended : Bool) (b : ℕ) → continues extended b ≡ true → is_cr b ≡ false
no_cr true b e = grind (arith, nat_tests)
no_cr false b e = grind (arith, nat_tests)

-- bytes that a line begins with reach into its digits, into what pads these, or into its extension
data Stops : List ℕ → ChunkLine → Type 0 where
  in_digits : {bytes : List ℕ} {l : ChunkLine} (rest : List ℕ) → l.digits ≡ bytes ++ rest → Stops bytes l
  in_pad : {bytes : List ℕ} {l : ChunkLine} (pad rest : List ℕ) → bytes ≡ l.digits ++ pad → l.pad ≡ pad ++ rest → Stops bytes l
  in_text : {bytes : List ℕ} {l : ChunkLine} (text : List ℕ) → bytes ≡ l.digits ++ (l.pad ++ 59 ∷ text) → AllPass is_extension_byte text → Stops bytes l

text_stops : (bytes more text : List ℕ) → AllPass is_extension_byte text → bytes ++ more ≡ text ++ (13 ∷ 10 ∷ []) → list_any is_cr bytes ≡ false → AllPass is_extension_byte bytes
text_stops bytes more text all e none =
    elim (cuts bytes more text (13 ∷ 10 ∷ []) e) [
      | inl h ↦ all_left is_extension_byte bytes h.0 (subst (AllPass is_extension_byte) h.1 all)
      | inr h ↦ behind h.0 h.1 h.2
    ]
  where
    behind : (rest : List ℕ) → bytes ≡ text ++ rest → rest ++ more ≡ 13 ∷ 10 ∷ [] → AllPass is_extension_byte bytes
    behind [] is ends = subst (AllPass is_extension_byte) (sym (is ∙ append-nil text)) all
    behind (y ∷ rest) is ends =
        let same : y ≡ 13 = cc in
        let other : list_any is_cr (y ∷ rest) ≡ false = (none_apart is_cr text (y ∷ rest) (subst (λ (b : List ℕ). list_any is_cr b ≡ false) is none)).1 in
        let never : true ≡ false = rw same at other in
        cc

extension_stops : (extension : Option (List ℕ)) (bytes more : List ℕ) → IsExtension extension → bytes ++ more ≡ print_extension extension ++ (13 ∷ 10 ∷ []) → list_any is_cr bytes ≡ false
    → (bytes ≡ []) ⊎ ((text : List ℕ) × (bytes ≡ 59 ∷ text) × AllPass is_extension_byte text)
extension_stops extension [] more valid e none = inl refl
extension_stops None (y ∷ bytes) more valid e none =
    let same : y ≡ 13 = cc in
    let never : true ≡ false = rw same at none in
    cc
extension_stops (Some text) (y ∷ bytes) more valid e none =
    let same : y ≡ 59 = cc in
    let rest : bytes ++ more ≡ text ++ (13 ∷ 10 ∷ []) = cc in
    inr (bytes, cc, text_stops bytes more text valid rest (neither (y == 13) (list_any is_cr bytes) none).1)

line_stops : (bytes more : List ℕ) (l : ChunkLine) → IsChunkLine l → bytes ++ more ≡ l.digits ++ (l.pad ++ (print_extension l.extension ++ (13 ∷ 10 ∷ []))) → list_any is_cr bytes ≡ false → Stops bytes l
line_stops bytes more l valid e none =
    elim (cuts bytes more l.digits (l.pad ++ (print_extension l.extension ++ (13 ∷ 10 ∷ []))) e) [
      | inl h ↦ in_digits h.0 h.1
      | inr h ↦ behind_digits h.0 h.1 h.2
    ]
  where
    behind_pad : (rest text : List ℕ) → bytes ≡ l.digits ++ rest → rest ≡ l.pad ++ text → text ++ more ≡ print_extension l.extension ++ (13 ∷ 10 ∷ []) → Stops bytes l
    behind_pad rest text is rest_is ends =
        let none_rest = (none_apart is_cr l.digits rest (subst (λ (b : List ℕ). list_any is_cr b ≡ false) is none)).1 in
        let none_text = (none_apart is_cr l.pad text (subst (λ (b : List ℕ). list_any is_cr b ≡ false) rest_is none_rest)).1 in
        elim (extension_stops l.extension text more valid.extension ends none_text) [
          | inl h ↦ in_pad rest [] is (sym (append-nil rest ∙ rest_is ∙ ap (λ (t : List ℕ). l.pad ++ t) h ∙ append-nil l.pad))
          | inr h ↦ in_text h.0 (is ∙ ap (λ (t : List ℕ). l.digits ++ t) (rest_is ∙ ap (λ (t : List ℕ). l.pad ++ t) h.1)) h.2
        ]

    behind_digits : (rest : List ℕ) → bytes ≡ l.digits ++ rest → rest ++ more ≡ l.pad ++ (print_extension l.extension ++ (13 ∷ 10 ∷ [])) → Stops bytes l
    behind_digits rest is ends =
        elim (cuts rest more l.pad (print_extension l.extension ++ (13 ∷ 10 ∷ [])) ends) [
          | inl h ↦ in_pad rest h.0 is h.1
          | inr h ↦ behind_pad rest h.0 is h.1 h.2
        ]

-- ---- what may follow

text_goes_on : (bytes text x : List ℕ) (l : ChunkLine) → IsChunkLine l → bytes ≡ l.digits ++ (l.pad ++ 59 ∷ text) → AllPass is_extension_byte text → AllPass is_extension_byte x → MayBecomeChunkLine (bytes ++ x)
unfolding print_chunk_line
text_goes_on bytes text x l valid is all_text all_x = (
  13 ∷ 10 ∷ [],
  record { digits = l.digits; pad = l.pad; extension = Some (text ++ x) },
  (
    record { digits = valid.digits; pad = valid.pad; extension = All-append (λ b. is_extension_byte b ≡ true) text x all_text all_x },
    simp (is, append_assoc, append-nil),
  ),
)

pad_goes_on : (bytes pad rest x : List ℕ) (l : ChunkLine) → IsChunkLine l → bytes ≡ l.digits ++ pad → l.pad ≡ pad ++ rest → AllPass is_ows x → MayBecomeChunkLine (bytes ++ x)
unfolding print_chunk_line
pad_goes_on bytes pad rest x l valid is pad_is all_x = (
  13 ∷ 10 ∷ [],
  record { digits = l.digits; pad = pad ++ x; extension = None },
  (
    record { digits = valid.digits; pad = All-append (λ b. is_ows b ≡ true) pad x (all_left is_ows pad rest (subst (AllPass is_ows) pad_is valid.pad)) all_x; extension = tt },
    simp (is, append_assoc, append-nil),
  ),
)

extended_goes_on : (bytes x : List ℕ) (l : ChunkLine) → IsChunkLine l → Stops bytes l → list_any is_semicolon bytes ≡ true → AllPass is_extension_byte x → MayBecomeChunkLine (bytes ++ x)
extended_goes_on bytes x l valid (in_digits rest e) some all =
    let none = none_of is_ascii_hexdigit is_semicolon l.digits digit_is_other valid.digits.2 in
    let other : list_any is_semicolon bytes ≡ false = (none_apart is_semicolon bytes rest (subst (λ (b : List ℕ). list_any is_semicolon b ≡ false) e none)).0 in
    cc
extended_goes_on bytes x l valid (in_pad pad rest is e) some all =
    let none = none_of is_ascii_hexdigit is_semicolon l.digits digit_is_other valid.digits.2 in
    let none_pad = none_of is_ows is_semicolon l.pad blank_is_no_semicolon valid.pad in
    let front : list_any is_semicolon pad ≡ false = (none_apart is_semicolon pad rest (subst (λ (b : List ℕ). list_any is_semicolon b ≡ false) e none_pad)).0 in
    let other : list_any is_semicolon bytes ≡ false = ap (list_any is_semicolon) is ∙ none_both is_semicolon l.digits pad none front in
    cc
extended_goes_on bytes x l valid (in_text text is all_text) some all = text_goes_on bytes text x l valid is all_text all

padded_goes_on : (bytes x : List ℕ) (l : ChunkLine) → IsChunkLine l → Stops bytes l → list_any is_semicolon bytes ≡ false → list_any is_ows bytes ≡ true → AllPass is_ows x → MayBecomeChunkLine (bytes ++ x)
padded_goes_on bytes x l valid (in_digits rest e) none some all =
    let no_blank = none_of is_ascii_hexdigit is_ows l.digits digit_is_no_blank valid.digits.2 in
    let other : list_any is_ows bytes ≡ false = (none_apart is_ows bytes rest (subst (λ (b : List ℕ). list_any is_ows b ≡ false) e no_blank)).0 in
    cc
padded_goes_on bytes x l valid (in_pad pad rest is e) none some all = pad_goes_on bytes pad rest x l valid is e all
padded_goes_on bytes x l valid (in_text text is all_text) none some all =
    let behind_digits = (none_apart is_semicolon l.digits (l.pad ++ 59 ∷ text) (subst (λ (b : List ℕ). list_any is_semicolon b ≡ false) is none)).1 in
    let never : true ≡ false = (none_apart is_semicolon l.pad (59 ∷ text) behind_digits).1 in
    cc

may_go_on : (front x : List ℕ) (extended : Bool) → IsLine front part_line → list_any is_cr front ≡ false → extended ≡ list_any is_semicolon front → (extended || list_any is_ows front) ≡ true
    → AllPass (continues extended) x → MayBecomeChunkLine (front ++ x)
unfolding print_chunk_line
may_go_on front x extended line none extended_is some all = by_kind extended extended_is some all
  where
    l : ChunkLine
    l = line.2.1

    where_it_stops : Stops front l
    where_it_stops = line_stops front line.2.0 l line.2.2.0 (line.2.2.1 ∙ simp (append_assoc, append-nil)) none

    by_kind : (e : Bool) → e ≡ list_any is_semicolon front → (e || list_any is_ows front) ≡ true → AllPass (continues e) x → MayBecomeChunkLine (front ++ x)
    by_kind true is some all = extended_goes_on front x l line.2.2.0 where_it_stops (sym is) all
    by_kind false is some all = padded_goes_on front x l line.2.2.0 where_it_stops (sym is) some all

-- a line that isn't whole stays so with bytes that go on with it
pub part_goes_on : (front x : List ℕ) (extended : Bool) → IsLine front part_line → list_any is_cr front ≡ false → extended ≡ list_any is_semicolon front → (extended || list_any is_ows front) ≡ true
    → list_all (continues extended) x ≡ true → IsOpen (front ++ x)
part_goes_on front x extended line none extended_is some all =
    let all_x = all_pass (continues extended) x all in (
      no_line (front ++ x) (none_both is_cr front x none (none_of (continues extended) is_cr x (no_cr extended) all_x)),
      may_go_on front x extended line none extended_is some all_x,
    )
