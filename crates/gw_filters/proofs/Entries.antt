-- Entries gone through one after another: each counts where none before it has its name.
use Rattle.std.proofs.Common.{◌≡◌, ◌∙◌, refl, sym, ap, ℕ, suc, ◌+◌, ◌<◌, Bool, true, false, not, List, [], ◌∷◌, ◌++◌, length, get_or, take, drop, filter, map, add-one, append_assoc, drop-cons}
use Rattle.std.proofs.Math.Bool.{or-false, or-true}
use Rattle.std.proofs.lemmas.Cmp.{nat_list_eq_equiv}
use Rattle.std.proofs.lemmas.List.{take_more}
use Rattle.std.proofs.lemmas.List.Elements.{filter-append}
use Rattle.std.proofs.lemmas.List.Folds.{list_any-append}
use Rattle.std.specs.Char.{to_ascii_lowercase}
use Rattle.gw_text.specs.model.Fields.{Field, same_field_name}
use Rattle.gw_filters.specs.model.Editing.{first_entries, is_new_to}

-- The order of two names doesn't matter.
same_name_symm : (a b : List ℕ) → same_field_name a b ≡ same_field_name b a
same_name_symm a b = nat_list_eq_equiv.symm (map to_ascii_lowercase a) (map to_ascii_lowercase b)

-- Each entry is new to no fields.
pub all_new : (entries : List Field) → filter (is_new_to []) entries ≡ entries
all_new [] = refl
all_new (entry ∷ entries) = ap (λ (rest : List Field). entry ∷ rest) (all_new entries)

-- The entries of other names.
abbrev others : Field → List Field → List Field
others entry entries = filter (λ other. not (same_field_name other.name entry.name)) entries

-- With one field more, entries of its name aren't new.
new_to_more : (before : List Field) (entry : Field) (entries : List Field)
    → filter (is_new_to before) (others entry entries) ≡ filter (is_new_to (before ++ entry ∷ [])) entries
new_to_more before entry [] = refl
new_to_more before entry (x ∷ entries) = by (same_field_name x.name entry.name) refl (new_to_more before entry entries)
  where
    by : (b : Bool) → same_field_name x.name entry.name ≡ b
        → filter (is_new_to before) (others entry entries) ≡ filter (is_new_to (before ++ entry ∷ [])) entries
        → filter (is_new_to before) (others entry (x ∷ entries)) ≡ filter (is_new_to (before ++ entry ∷ [])) (x ∷ entries)
    by true e rest =
        let back : same_field_name entry.name x.name ≡ true = same_name_symm entry.name x.name ∙ e in
        rw (e, list_any-append (λ (f : Field). same_field_name f.name x.name) before (entry ∷ []), back, or-true) rest
    by false e rest =
        let back : same_field_name entry.name x.name ≡ false = same_name_symm entry.name x.name ∙ e in
        rw (e, list_any-append (λ (f : Field). same_field_name f.name x.name) before (entry ∷ []), back, or-false, rest) refl

-- What is left of the first entries that pass a test, behind so many.
abbrev pub left_behind : (Field → Bool) → List Field → List Field → List Field
left_behind test before entries = filter test (filter (is_new_to before) (first_entries entries))

-- The entry that comes next, and what is left behind it.
left_step : (test : Field → Bool) (before : List Field) (entry : Field) (entries : List Field)
    → left_behind test before (entry ∷ entries)
    ≡ filter test (filter (is_new_to before) (entry ∷ [])) ++ left_behind test (before ++ entry ∷ []) entries
left_step test before entry entries =
    let more = others entry (first_entries entries) in
    ap (filter test) (filter-append (is_new_to before) (entry ∷ []) more)
    ∙ filter-append test (filter (is_new_to before) (entry ∷ [])) (filter (is_new_to before) more)
    ∙ ap (λ (rest : List Field). filter test (filter (is_new_to before) (entry ∷ [])) ++ filter test rest) (new_to_more before entry (first_entries entries))

-- The same at a place of a list.
left_more : (test : Field → Bool) (entries : List Field) (i : ℕ) (entry : Field) → i < length entries → entry ≡ get_or entries i entry
    → left_behind test (take i entries) (drop i entries)
    ≡ filter test (filter (is_new_to (take i entries)) (entry ∷ [])) ++ left_behind test (take (i + 1) entries) (drop (i + 1) entries)
left_more test entries i entry within is =
    let here : drop i entries ≡ entry ∷ drop (i + 1) entries =
    rw add-one (drop-cons entries i entry within ∙ ap (λ (x : Field). x ∷ drop (suc i) entries) (sym is)) in
    let next : take i entries ++ entry ∷ [] ≡ take (i + 1) entries =
    ap (λ (x : Field). take i entries ++ x ∷ []) is ∙ sym (take_more entries i entry within) in
    ap (left_behind test (take i entries)) here
    ∙ left_step test (take i entries) entry (drop (i + 1) entries)
    ∙ ap (λ (before : List Field). filter test (filter (is_new_to (take i entries)) (entry ∷ [])) ++ left_behind test before (drop (i + 1) entries)) next

-- At the start all the first entries are left.
pub left_at_start : (test : Field → Bool) (entries : List Field) → left_behind test [] entries ≡ filter test (first_entries entries)
left_at_start test entries = ap (filter test) (all_new (first_entries entries))

-- A turn of the loop that appends them.
pub appended_more : (test : Field → Bool) (entries : List Field) (i : ℕ) (entry : Field) (now next all : List Field) → i < length entries
    → entry ≡ get_or entries i entry → now ++ left_behind test (take i entries) (drop i entries) ≡ all
    → next ≡ now ++ filter test (filter (is_new_to (take i entries)) (entry ∷ []))
    → next ++ left_behind test (take (i + 1) entries) (drop (i + 1) entries) ≡ all
appended_more test entries i entry now next all within is before grown =
    let left = left_behind test (take (i + 1) entries) (drop (i + 1) entries) in
    ap (λ (fields : List Field). fields ++ left) grown
    ∙ append_assoc now (filter test (filter (is_new_to (take i entries)) (entry ∷ []))) left
    ∙ ap (λ (fields : List Field). now ++ fields) (sym (left_more test entries i entry within is))
    ∙ before
