-- Names of fields that aren't passed on.
use Rattle.std.proofs.Common.{◌≡◌, ℕ, List, [], ◌∷◌, ◌++◌, Bool, true, false, ◌||◌, Bor, append-nil, filter, map, not, refl, sym, ap, ◌∙◌}
use Rattle.std.specs.List.{list_any}
use Rattle.std.specs.Prelude.{codes}
use Rattle.std.proofs.lemmas.List.Concat.{flat_map-cons}
use Rattle.std.proofs.lemmas.List.Folds.{list_any-append}
use Rattle.gw_text.specs.model.Fields.{Field, same_field_name}
use Rattle.gw_messages.specs.model.Values.{elements, values_of}
use Rattle.gw_replies.specs.declared.hop.TheConstants.{REQUEST_HOPS, RESPONSE_HOPS}
use Rattle.gw_replies.specs.model.Hops.{connection_options, request_hops, response_hops, without}

pub request_hops_are : map (λ name. name.now) REQUEST_HOPS.now ≡ request_hops
request_hops_are = refl

pub response_hops_are : map (λ name. name.now) RESPONSE_HOPS.now ≡ response_hops
response_hops_are = refl

pub any_of_texts : (p : List ℕ → Bool) (names : List (Bor (List ℕ))) → list_any (λ name. p name.now) names ≡ list_any p (map (λ name. name.now) names)
any_of_texts p [] = refl
any_of_texts p (n ∷ names) = ap (λ b. p n.now || b) (any_of_texts p names)

-- fields without those that some names test as the names of Connection do
pub without_by : (names options : List (List ℕ)) (fields : List Field)
    → ((test : List ℕ → Bool) → list_any test options ≡ list_any test (connection_options fields))
    → filter (λ f. not (list_any (same_field_name f.name) (names ++ options))) fields ≡ without names fields
without_by names options fields alike = ap (λ p. filter p fields) (λ i f. not (by f.name i))
  where
    by : (name : List ℕ) → list_any (same_field_name name) (names ++ options) ≡ list_any (same_field_name name) (names ++ connection_options fields)
    by name =
        list_any-append (same_field_name name) names options
        ∙ ap (λ b. list_any (same_field_name name) names || b) (alike (same_field_name name))
        ∙ sym (list_any-append (same_field_name name) names (connection_options fields))

-- the names that Connection has in the first field, and in the others
pub options_of_first : (f : Field) (fs : List Field) → connection_options (f ∷ fs) ≡ connection_options (f ∷ []) ++ connection_options fs
options_of_first f fs = by (same_field_name f.name (codes "connection")) refl
  where
    by : (b : Bool) → same_field_name f.name (codes "connection") ≡ b → connection_options (f ∷ fs) ≡ connection_options (f ∷ []) ++ connection_options fs
    by true e =
        rw e (flat_map-cons elements f.value (values_of (codes "connection") fs)
        ∙ ap (λ l. l ++ connection_options fs) (sym (flat_map-cons elements f.value [] ∙ append-nil (elements f.value))))
    by false e = rw e refl
