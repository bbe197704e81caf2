-- A name that is set has one field, and a name that is removed has none.
use Rattle.std.proofs.Common.{◌≡◌, ◌∙◌, refl, sym, ap, Bool, true, false, cond, not, ◌||◌, List, [], ◌∷◌, ◌++◌, map, filter, Some, true≢false, ℕ}
use Rattle.std.proofs.Math.Bool.{or-false}
use Rattle.std.proofs.lemmas.List.{map-append}
use Rattle.std.proofs.lemmas.List.Elements.{filter-append}
use Rattle.std.proofs.lemmas.List.Folds.{list_any-append}
use Rattle.std.proofs.lemmas.Map.Steps.{list_any_congr}
use Rattle.std.specs.List.{list_any}
use Rattle.gw_text.specs.model.Fields.{Field, same_field_name}
use Rattle.gw_text.specs.model.Filters.{Edits}
use Rattle.gw_messages.specs.model.Values.{has_field, values_of}
use Rattle.gw_filters.specs.model.Editing.{edited, first_entries, first_text, is_new_to, set_behind, set_field, value_for, with_added, with_removed, with_set}
use Rattle.gw_filters.specs.Laws.{HasEachSet, HasNoRemoved}
use Rattle.gw_filters.proofs.Names.{has_field_same, same_names, values_same}
use Rattle.gw_filters.proofs.Untouched.{set_field_out, with_added_named, with_removed_named}

removed_gone : (names : List (List ℕ)) (name : List ℕ) (fields : List Field) → list_any (same_field_name name) names ≡ true
    → values_of name (with_removed names fields) ≡ []
removed_gone names name [] is = refl
removed_gone names name (f ∷ fields) is =
    by (same_field_name f.name name) (list_any (same_field_name f.name) names) refl refl (removed_gone names name fields is)
  where
    by : (t u : Bool) → same_field_name f.name name ≡ t → list_any (same_field_name f.name) names ≡ u → values_of name (with_removed names fields) ≡ []
        → values_of name (with_removed names (f ∷ fields)) ≡ []
    by t true e k rest = rw k rest
    by true false e k rest = absurd (true≢false (sym is ∙ sym (list_any_congr same_names f.name name names e) ∙ k))
    by false false e k rest = rw (k, e) rest

pub no_removed_left : (e : Edits) (fields : List Field) → HasNoRemoved e (edited e fields)
unfolding edited
no_removed_left e fields = λ name is. removed_gone e.remove name (with_added e.add (with_set e.set fields)) is

values-append : (name : List ℕ) (xs ys : List Field) → values_of name (xs ++ ys) ≡ values_of name xs ++ values_of name ys
values-append name xs ys =
    ap (map (λ (f : Field). f.value)) (filter-append (λ (f : Field). same_field_name f.name name) xs ys)
    ∙ map-append (λ (f : Field). f.value) (filter (λ f. same_field_name f.name name) xs) (filter (λ f. same_field_name f.name name) ys)

-- A test of names that treats the same names alike.
abbrev Respects : (List ℕ → Bool) → List ℕ → Type 0
Respects r name = (a : List ℕ) → same_field_name a name ≡ true → r a ≡ r name

values_kept : (r : List ℕ → Bool) (name : List ℕ) (fields : List Field) → Respects r name → r name ≡ true
    → values_of name (filter (λ f. r f.name) fields) ≡ values_of name fields
values_kept r name [] alike passes = refl
values_kept r name (f ∷ fields) alike passes = by (same_field_name f.name name) (r f.name) refl refl (values_kept r name fields alike passes)
  where
    by : (t u : Bool) → same_field_name f.name name ≡ t → r f.name ≡ u → values_of name (filter (λ f. r f.name) fields) ≡ values_of name fields
        → values_of name (filter (λ f. r f.name) (f ∷ fields)) ≡ values_of name (f ∷ fields)
    by true u e k rest = rw (alike f.name e ∙ passes, e) (ap (λ (texts : List (List ℕ)). f.value ∷ texts) rest)
    by false true e k rest = rw (k, e) rest
    by false false e k rest = rw (k, e) rest

values_lost : (r : List ℕ → Bool) (name : List ℕ) (fields : List Field) → Respects r name → r name ≡ false
    → values_of name (filter (λ f. r f.name) fields) ≡ []
values_lost r name [] alike fails = refl
values_lost r name (f ∷ fields) alike fails = by (same_field_name f.name name) (r f.name) refl refl (values_lost r name fields alike fails)
  where
    by : (t u : Bool) → same_field_name f.name name ≡ t → r f.name ≡ u → values_of name (filter (λ f. r f.name) fields) ≡ []
        → values_of name (filter (λ f. r f.name) (f ∷ fields)) ≡ []
    by true u e k rest = rw (alike f.name e ∙ fails) rest
    by false true e k rest = rw (k, e) rest
    by false false e k rest = rw k rest

alike_others : (entry : Field) (name : List ℕ) → Respects (λ other. not (same_field_name other entry.name)) name
alike_others entry name = λ a is. ap not (same_names.congr a name entry.name is)

alike_new : (fields : List Field) (name : List ℕ) → Respects (λ other. not (has_field other fields)) name
alike_new fields name = λ a is. ap not (has_field_same a name fields is)

-- Of the first entries one has the name, where one has it at all.
firsts_one : (entries : List Field) (name value : List ℕ) → value_for entries name ≡ Some value → values_of name (first_entries entries) ≡ value ∷ []
firsts_one [] name value is = absurd (cc)
firsts_one (x ∷ entries) name value is = by (same_field_name x.name name) refl (firsts_one entries name value)
  where
    by : (t : Bool) → same_field_name x.name name ≡ t → (value_for entries name ≡ Some value → values_of name (first_entries entries) ≡ value ∷ [])
        → values_of name (first_entries (x ∷ entries)) ≡ value ∷ []
    by true e rest =
        let own : Some x.value ≡ Some value = rw e at is in
        let same : x.value ≡ value = cc in
        let back : not (same_field_name name x.name) ≡ false = ap not (same_names.symm name x.name ∙ e) in
        rw (e, values_lost (λ (other : List ℕ). not (same_field_name other x.name)) name (first_entries entries) (alike_others x name) back, same) refl
    by false e rest =
        let back : not (same_field_name name x.name) ≡ true = ap not (same_names.symm name x.name ∙ e) in
        rw e (values_kept (λ (other : List ℕ). not (same_field_name other x.name)) name (first_entries entries) (alike_others x name) back ∙ rest (rw e at is))

-- The value of a name behind other fields: once, where it isn't before and is among these.
abbrev once : Bool → Bool → List ℕ → List (List ℕ)
once is_before is_here value = cond is_before [] (cond is_here (value ∷ []) [])

never : (b : Bool) (value : List ℕ) → [] ≡ once b false value
never true value = refl
never false value = refl

value_same : (a b : List ℕ) (entries : List Field) → same_field_name a b ≡ true → value_for entries a ≡ value_for entries b
value_same a b entries is = ap first_text (values_same a b entries is)

behind_one : (entries before fields : List Field) (name value : List ℕ) → value_for entries name ≡ Some value
    → values_of name (set_behind entries before fields) ≡ once (has_field name before) (has_field name fields) value
behind_one entries before [] name value is = never (has_field name before) value
behind_one entries before (f ∷ fields) name value is =
    by (same_field_name f.name name) (has_field name before) refl refl (behind_one entries (before ++ f ∷ []) fields name value is)
  where
    rest : List Field
    rest = set_behind entries (before ++ f ∷ []) fields

    more : has_field name (before ++ f ∷ []) ≡ (has_field name before || same_field_name f.name name)
    more = list_any-append (λ (g : Field). same_field_name g.name name) before (f ∷ []) ∙ ap (λ b. has_field name before || b) (or-false (same_field_name f.name name))

    by : (t u : Bool) → same_field_name f.name name ≡ t → has_field name before ≡ u
        → values_of name rest ≡ once (has_field name (before ++ f ∷ [])) (has_field name fields) value
        → values_of name (set_behind entries before (f ∷ fields)) ≡ once (has_field name before) (has_field name (f ∷ fields)) value
    by true true e k later =
        rw (value_same f.name name entries e ∙ is, has_field_same f.name name before e ∙ k, k) (later ∙ rw (more, k) refl)
    by true false e k later =
        rw (value_same f.name name entries e ∙ is, has_field_same f.name name before e ∙ k, k, e)
        (ap (λ (texts : List (List ℕ)). value ∷ texts) (later ∙ rw (more, k, e) refl))
    by false u e k later =
        values-append name (set_field f (value_for entries f.name) (not (has_field f.name before))) rest
        ∙ ap (λ (fs : List Field). map (λ (g : Field). g.value) fs ++ values_of name rest)
        (set_field_out (λ other. same_field_name other name) f (value_for entries f.name) (not (has_field f.name before)) e)
        ∙ later ∙ rw (more, e, or-false) refl

set_one : (entries fields : List Field) (name value : List ℕ) → value_for entries name ≡ Some value → values_of name (with_set entries fields) ≡ value ∷ []
set_one entries fields name value is =
    values-append name (set_behind entries [] fields) (filter (is_new_to fields) (first_entries entries))
    ∙ ap (λ (texts : List (List ℕ)). texts ++ values_of name (filter (is_new_to fields) (first_entries entries))) (behind_one entries [] fields name value is)
    ∙ by (has_field name fields) refl
  where
    by : (t : Bool) → has_field name fields ≡ t
        → once false (has_field name fields) value ++ values_of name (filter (is_new_to fields) (first_entries entries)) ≡ value ∷ []
    by true e = rw (e, values_lost (λ (other : List ℕ). not (has_field other fields)) name (first_entries entries) (alike_new fields name) (ap not e)) refl
    by false e =
        rw e (values_kept (λ (other : List ℕ). not (has_field other fields)) name (first_entries entries) (alike_new fields name) (ap not e) ∙ firsts_one entries name value is)

pub each_set_once : (e : Edits) (fields : List Field) → HasEachSet e (edited e fields)
unfolding edited
each_set_once e fields = λ name value is unadded unremoved.
    let texts = λ (fs : List Field). map (λ (f : Field). f.value) fs in
    ap texts (with_removed_named (λ other. same_field_name other name) e.remove (with_added e.add (with_set e.set fields)) (λ other same. list_any_congr same_names other name e.remove same ∙ unremoved))
    ∙ ap texts (with_added_named (λ other. same_field_name other name) e.add (with_set e.set fields) (λ other same. has_field_same other name e.add same ∙ unadded))
    ∙ set_one e.set fields name value is
