-- What std and http_header say of texts, in the words of the forms.
use Rattle.std.proofs.Common.{◌≡◌, ℕ, List, [], ◌∷◌, ◌++◌, length, drop, Bool, true, false, ◌↔◌, None, refl, sym, ap, ◌∙◌, rules, tests, nat_eq}
use Rattle.std.specs.Bool.{MatchBool, IsTrue}
use Rattle.std.specs.List.{starts_with}
use Rattle.std.specs.Str.Iter.{HasSubslice}
use Rattle.std.specs.Str.Pattern.{HasMatch, FindsText}
use Rattle.std.proofs.lemmas.Bool.{and_parts, le-leb, leb-true}
use Rattle.std.proofs.lemmas.List.Sums.{AllPass-from_list_all, list_all-from_AllPass}
use Rattle.std.proofs.lemmas.Bool.Decides.{Decides-eqb}
use Rattle.std.proofs.lemmas.Slice.Eq.{starts_is}
use Rattle.std.proofs.lemmas.Str.Pattern.{contains_text}
use Rattle.http_header.specs.Token as token
use Rattle.http_header.specs.Token.{IsToken}
use Rattle.gw_text.specs.model.RouteForms.{is_token_byte, is_token, has}

-- Both are RFC 9110's token.
pub token_is : (r : Bool) (t : List ℕ) → (IsTrue r ↔ IsToken t) → r ≡ is_token t
unfolding token.is_token_byte is_token_byte
token_is true t is =
    let there = is.0 refl in
    rw (le-leb _ _ there.0, list_all-from_AllPass is_token_byte t there.1) refl
token_is false t is = by _ refl
  where
    by : (b : Bool) → is_token t ≡ b → false ≡ is_token t
    by true there =
        let parts = and_parts _ _ there in
        is.1 (leb-true _ _ parts.0, AllPass-from_list_all is_token_byte t parts.1) ∙ sym there
    by false none = sym none

has_here : (t part : List ℕ) → starts_with nat_eq t part ≡ true → has t part ≡ true
has_here [] part here = here
has_here (b ∷ t) part here = rw here refl

-- What stands after a front is there.
has_after : (front part rest : List ℕ) → has (front ++ (part ++ rest)) part ≡ true
has_after [] part rest = has_here _ part ((starts_is Decides-eqb (part ++ rest) part _ refl).1 rest refl)
has_after (b ∷ front) part rest = rw (has_after front part rest) (search (rules, tests))

-- What is there has something before it and something after it.
subslice : (t part : List ℕ) → has t part ≡ true → HasSubslice t part
subslice [] part here = ([], drop (length part) [], (starts_is Decides-eqb [] part _ refl).0 here)
subslice (b ∷ t) part there = by _ refl (subslice t part)
  where
    by : (r : Bool) → starts_with nat_eq (b ∷ t) part ≡ r → (has t part ≡ true → HasSubslice t part) → HasSubslice (b ∷ t) part
    by true here later = ([], drop (length part) (b ∷ t), (starts_is Decides-eqb (b ∷ t) part _ refl).0 here)
    by false none later =
        let found = later (rw none at there) in
        (b ∷ found.0, found.1, ap (λ l. b ∷ l) found.2)

-- `contains` of a text.
pub has_is : (r : Bool) (part t : List ℕ) → MatchBool r (HasMatch (FindsText part) t) (FindsText part t None) → r ≡ has t part
has_is true part t found =
    let there = (contains_text true part t found).0 refl in
    sym (ap (λ l. has l part) there.2 ∙ has_after there.0 part there.1)
has_is false part t found = by _ refl
  where
    by : (r : Bool) → has t part ≡ r → false ≡ has t part
    by true there = (contains_text false part t found).1 (subslice t part there) ∙ sym there
    by false none = sym none
