-- Fields whose names no entry has stay as they are, in their order.
use Rattle.std.proofs.Common.{◌≡◌, ◌∙◌, refl, sym, ap, Bool, true, false, not, ◌&&◌, ◌||◌, List, [], ◌∷◌, ◌++◌, filter, Option, Some, None, append-nil, true≢false, ℕ}
use Rattle.std.proofs.lemmas.List.Elements.{filter-append}
use Rattle.std.specs.List.{list_any}
use Rattle.gw_text.specs.model.Fields.{Field, same_field_name}
use Rattle.gw_text.specs.model.Filters.{Edits, no_edits}
use Rattle.gw_messages.specs.model.Values.{has_field}
use Rattle.gw_filters.specs.model.Editing.{added_to, edited, first_entries, is_apart_from, is_new_to, is_set_cookie, joined, set_behind, set_field, value_for, with_added, with_removed, with_set}
use Rattle.gw_filters.specs.Laws.{edits_name, KeepsOthers, removes}
use Rattle.gw_filters.proofs.Names.{same_names}

-- The fields whose names pass a test.
abbrev pub named : (List ℕ → Bool) → List Field → List Field
named p fields = filter (λ f. p f.name) fields

-- No name that passes the test is among the entries.
abbrev pub Misses : (List ℕ → Bool) → List Field → Type 0
Misses p entries = (name : List ℕ) → p name ≡ true → has_field name entries ≡ false

or_right : (a b : Bool) → (a || b) ≡ false → b ≡ false
or_right true b h = absurd (true≢false h)
or_right false b h = h

-- No entry, no value.
none_for : (name : List ℕ) (entries : List Field) → has_field name entries ≡ false → value_for entries name ≡ None
none_for name [] h = refl
none_for name (x ∷ entries) h = by (same_field_name x.name name) refl (none_for name entries)
  where
    by : (t : Bool) → same_field_name x.name name ≡ t → (has_field name entries ≡ false → value_for entries name ≡ None) → value_for (x ∷ entries) name ≡ None
    by true e rest = absurd (true≢false (rw e at h))
    by false e rest = rw e (rest (rw e at h))

pub set_field_out : (p : List ℕ → Bool) (f : Field) (value : Option (List ℕ)) (is_first : Bool) → p f.name ≡ false → named p (set_field f value is_first) ≡ []
set_field_out p f None is_first no_pass = rw no_pass refl
set_field_out p f (Some value) true no_pass = rw no_pass refl
set_field_out p f (Some value) false no_pass = refl

set_named : (p : List ℕ → Bool) (entries before fields : List Field) → Misses p entries → named p (set_behind entries before fields) ≡ named p fields
set_named p entries before [] misses = refl
set_named p entries before (f ∷ fields) misses = by (p f.name) refl (set_named p entries (before ++ f ∷ []) fields misses)
  where
    rest : List Field
    rest = set_behind entries (before ++ f ∷ []) fields

    by : (t : Bool) → p f.name ≡ t → named p rest ≡ named p fields → named p (set_behind entries before (f ∷ fields)) ≡ named p (f ∷ fields)
    by true e same = rw (none_for f.name entries (misses f.name e), e) (ap (λ (fs : List Field). f ∷ fs) same)
    by false e same =
        filter-append (λ (g : Field). p g.name) (set_field f (value_for entries f.name) (not (has_field f.name before))) rest
        ∙ ap (λ (fs : List Field). fs ++ named p rest) (set_field_out p f (value_for entries f.name) (not (has_field f.name before)) e)
        ∙ same ∙ rw e refl

-- Nothing passes among fewer.
pub fewer : (p q : Field → Bool) (xs : List Field) → filter p xs ≡ [] → filter p (filter q xs) ≡ []
fewer p q [] h = refl
fewer p q (x ∷ xs) h = by (p x) (q x) refl refl (fewer p q xs)
  where
    by : (t u : Bool) → p x ≡ t → q x ≡ u → (filter p xs ≡ [] → filter p (filter q xs) ≡ []) → filter p (filter q (x ∷ xs)) ≡ []
    by true u e k rest = absurd (cc (rw e at h))
    by false true e k rest = rw (k, e) (rest (rw e at h))
    by false false e k rest = rw k (rest (rw e at h))

none_named : (p : List ℕ → Bool) (entries : List Field) → Misses p entries → named p (first_entries entries) ≡ []
none_named p [] misses = refl
none_named p (x ∷ entries) misses =
    by (p x.name) refl (none_named p entries (λ name passes. or_right (same_field_name x.name name) (has_field name entries) (misses name passes)))
  where
    by : (t : Bool) → p x.name ≡ t → named p (first_entries entries) ≡ [] → named p (first_entries (x ∷ entries)) ≡ []
    by true e rest = absurd (true≢false (rw (same_names.refl x.name) at (misses x.name e)))
    by false e rest = rw e (fewer (λ f. p f.name) (λ other. not (same_field_name other.name x.name)) (first_entries entries) rest)

pub with_set_named : (p : List ℕ → Bool) (entries fields : List Field) → Misses p entries → named p (with_set entries fields) ≡ named p fields
with_set_named p entries fields misses =
    filter-append (λ (f : Field). p f.name) (set_behind entries [] fields) (filter (is_new_to fields) (first_entries entries))
    ∙ ap (λ (fs : List Field). named p (set_behind entries [] fields) ++ fs) (fewer (λ f. p f.name) (is_new_to fields) (first_entries entries) (none_named p entries misses))
    ∙ append-nil (named p (set_behind entries [] fields)) ∙ set_named p entries [] fields misses

joined_name : (f : Field) (value : Option (List ℕ)) (is_last : Bool) → (joined f value is_last).name ≡ f.name
joined_name f None is_last = refl
joined_name f (Some value) true = refl
joined_name f (Some value) false = refl

pick_false : (p : List ℕ → Bool) (g f : Field) (fields : List Field) → g.name ≡ f.name → p f.name ≡ false → named p (g ∷ fields) ≡ named p fields
pick_false p g f fields same no_pass = rw (ap p same ∙ no_pass) refl

added_named : (p : List ℕ → Bool) (entries fields : List Field) → Misses p entries → named p (added_to entries fields) ≡ named p fields
added_named p entries [] misses = refl
added_named p entries (f ∷ fields) misses = by (p f.name) refl (added_named p entries fields misses)
  where
    head : Field
    head = joined f (value_for entries f.name) (not (has_field f.name fields) && not (is_set_cookie f.name))

    by : (t : Bool) → p f.name ≡ t → named p (added_to entries fields) ≡ named p fields → named p (added_to entries (f ∷ fields)) ≡ named p (f ∷ fields)
    by true e same = rw (none_for f.name entries (misses f.name e), e) (ap (λ (fs : List Field). f ∷ fs) same)
    by false e same =
        pick_false p head f (added_to entries fields) (joined_name f (value_for entries f.name) (not (has_field f.name fields) && not (is_set_cookie f.name))) e
        ∙ same ∙ rw e refl

pub with_added_named : (p : List ℕ → Bool) (entries fields : List Field) → Misses p entries → named p (with_added entries fields) ≡ named p fields
with_added_named p entries fields misses =
    filter-append (λ (f : Field). p f.name) (added_to entries fields) (filter (is_apart_from fields) (first_entries entries))
    ∙ ap (λ (fs : List Field). named p (added_to entries fields) ++ fs) (fewer (λ f. p f.name) (is_apart_from fields) (first_entries entries) (none_named p entries misses))
    ∙ append-nil (named p (added_to entries fields)) ∙ added_named p entries fields misses

pub with_removed_named : (p : List ℕ → Bool) (names : List (List ℕ)) (fields : List Field) → ((name : List ℕ) → p name ≡ true → list_any (same_field_name name) names ≡ false)
    → named p (with_removed names fields) ≡ named p fields
with_removed_named p names [] misses = refl
with_removed_named p names (f ∷ fields) misses =
    by (p f.name) (list_any (same_field_name f.name) names) refl refl (with_removed_named p names fields misses)
  where
    by : (t u : Bool) → p f.name ≡ t → list_any (same_field_name f.name) names ≡ u → named p (with_removed names fields) ≡ named p fields
        → named p (with_removed names (f ∷ fields)) ≡ named p (f ∷ fields)
    by true u e k same = rw (misses f.name e, e) (ap (λ (fs : List Field). f ∷ fs) same)
    by false true e k same = rw (k, e) same
    by false false e k same = rw (k, e) same

unset : (a b c : Bool) → not (a || b || c) ≡ true → a ≡ false
unset true b c h = sym h
unset false b c h = refl

unadded : (a b c : Bool) → not (a || b || c) ≡ true → b ≡ false
unadded true b c h = absurd (true≢false (sym h))
unadded false true c h = sym h
unadded false false c h = refl

unremoved : (a b c : Bool) → not (a || b || c) ≡ true → c ≡ false
unremoved true b c h = absurd (true≢false (sym h))
unremoved false true c h = absurd (true≢false (sym h))
unremoved false false true h = sym h
unremoved false false false h = refl

pub others_kept : (e : Edits) (fields : List Field) → KeepsOthers e fields (edited e fields)
unfolding edited
others_kept e fields =
    let p = λ (name : List ℕ). not (edits_name e name) in
    with_removed_named p e.remove (with_added e.add (with_set e.set fields)) (λ name h. unremoved (has_field name e.set) (has_field name e.add) (removes e name) h)
    ∙ with_added_named p e.add (with_set e.set fields) (λ name h. unadded (has_field name e.set) (has_field name e.add) (removes e name) h)
    ∙ with_set_named p e.set fields (λ name h. unset (has_field name e.set) (has_field name e.add) (removes e name) h)

all_pass : (fields : List Field) → filter (λ (f : Field). true) fields ≡ fields
all_pass [] = refl
all_pass (f ∷ fields) = ap (λ (fs : List Field). f ∷ fs) (all_pass fields)

pub nothing_changed : (fields : List Field) → edited no_edits fields ≡ fields
nothing_changed fields = sym (all_pass (edited no_edits fields)) ∙ others_kept no_edits fields ∙ all_pass fields
