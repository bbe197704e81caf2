-- A path begins with the elements of a prefix exactly where it begins with its bytes and then ends an element.
use Rattle.std.proofs.Common.{◌≡◌, ◌≢◌, ℕ, Bool, true, false, cond, ◌&&◌, IsTrue, ◌↔◌, List, [], ◌∷◌, ◌++◌, length, ◌≤◌, refl, sym, ap, subst, ◌∙◌, true≢false, eqb, eq-eqb}
use Rattle.std.proofs.Math.Bool.{and_assoc}
use Rattle.std.proofs.lemmas.Bool.{eqb-true, ne_eqb}
use Rattle.std.proofs.lemmas.List.{append_cancel_left}
use Rattle.std.proofs.lemmas.List.Prefix.{front_fits}
use Rattle.std.specs.Cmp.{first_so, second_so}
use Rattle.std.specs.List.{onto_first, starts_with}
use Rattle.std.specs.Str.{bytes_eq}
use Rattle.gw_text.specs.model.Paths.{elements, without_slash, is_path_prefix, BeginsWithPrefix, EndsElement, SLASH}

-- each list of p is the one at its place in q
abbrev firsts : List (List ℕ) → List (List ℕ) → Bool
firsts [] q = true
firsts (a ∷ p) [] = false
firsts (a ∷ p) (b ∷ q) = bytes_eq a b && firsts p q

starts_with-firsts : (p q : List (List ℕ)) → starts_with bytes_eq q p ≡ firsts p q
starts_with-firsts [] q = refl
starts_with-firsts (a ∷ p) [] = refl
starts_with-firsts (a ∷ p) (b ∷ q) = ap (λ c. bytes_eq a b && c) (starts_with-firsts p q)

-- the bytes of p begin q, and after them is nothing or a slash
abbrev pub goes_on : List ℕ → List ℕ → Bool
goes_on [] [] = true
goes_on [] (y ∷ ys) = eqb y SLASH
goes_on (x ∷ xs) [] = false
goes_on (x ∷ xs) (y ∷ ys) = eqb x y && goes_on xs ys

pub record HasFirst (parts : List (List ℕ)) : Type 0 where
  pub first : List ℕ
  pub others : List (List ℕ)
  pub is : parts ≡ first ∷ others

onto_first-HasFirst : (x : ℕ) (parts : List (List ℕ)) → HasFirst (onto_first x parts)
onto_first-HasFirst x [] = record { first = x ∷ []; others = []; is = refl }
onto_first-HasFirst x (p ∷ ps) = record { first = x ∷ p; others = ps; is = refl }

elements-HasFirst : (path : List ℕ) → HasFirst (elements path)
elements-HasFirst [] = record { first = []; others = []; is = refl }
elements-HasFirst (x ∷ xs) =
    elim (eqb x SLASH) as (λ c. HasFirst (cond c ([] ∷ elements xs) (onto_first x (elements xs)))) [
      | true ↦ record { first = []; others = elements xs; is = refl }
      | false ↦ onto_first-HasFirst x (elements xs)
    ]

firsts-nothing : (p : List (List ℕ)) → HasFirst p → firsts p [] ≡ false
firsts-nothing p h = ap (λ l. firsts l []) h.is

empty_onto : (y : ℕ) (p q : List (List ℕ)) → firsts ([] ∷ p) (onto_first y q) ≡ false
empty_onto y p [] = refl
empty_onto y p (b ∷ q) = refl

onto_empty : (x : ℕ) (p q : List (List ℕ)) → firsts (onto_first x p) ([] ∷ q) ≡ false
onto_empty x [] q = refl
onto_empty x (a ∷ p) q = refl

onto_onto : (x y : ℕ) (p q : List (List ℕ)) → HasFirst p → HasFirst q → firsts (onto_first x p) (onto_first y q) ≡ (eqb x y && firsts p q)
onto_onto x y [] q h k = absurd (cc h.is)
onto_onto x y (a ∷ p) [] h k = absurd (cc k.is)
onto_onto x y (a ∷ p) (b ∷ q) h k = and_assoc (eqb x y) (bytes_eq a b) (firsts p q)

one_more : (x y : ℕ) (p q : List (List ℕ)) → HasFirst p → HasFirst q → (c d : Bool) → eqb x SLASH ≡ c → eqb y SLASH ≡ d
    → firsts (cond c ([] ∷ p) (onto_first x p)) (cond d ([] ∷ q) (onto_first y q)) ≡ (eqb x y && firsts p q)
one_more x y p q h k true true s t = ap (λ c. c && firsts p q) (sym (eq-eqb x y (eqb-true x SLASH s ∙ sym (eqb-true y SLASH t))))
one_more x y p q h k true false s t =
    empty_onto y p q ∙ ap (λ c. c && firsts p q) (sym (ne_eqb x y (λ e. true≢false (sym s ∙ ap (λ z. eqb z SLASH) e ∙ t))))
one_more x y p q h k false true s t =
    onto_empty x p q ∙ ap (λ c. c && firsts p q) (sym (ne_eqb x y (λ e. true≢false (sym t ∙ ap (λ z. eqb z SLASH) (sym e) ∙ s))))
one_more x y p q h k false false s t = onto_onto x y p q h k

firsts-elements : (p q : List ℕ) → firsts (elements p) (elements q) ≡ goes_on p q
firsts-elements [] [] = refl
firsts-elements [] (y ∷ ys) =
    elim (eqb y SLASH) as (λ c. firsts ([] ∷ []) (cond c ([] ∷ elements ys) (onto_first y (elements ys))) ≡ c) [
      | true ↦ refl
      | false ↦ empty_onto y [] (elements ys)
    ]
firsts-elements (x ∷ xs) [] =
    elim (eqb x SLASH) as (λ c. firsts (cond c ([] ∷ elements xs) (onto_first x (elements xs))) ([] ∷ []) ≡ false) [
      | true ↦ firsts-nothing (elements xs) (elements-HasFirst xs)
      | false ↦ onto_empty x (elements xs) []
    ]
firsts-elements (x ∷ xs) (y ∷ ys) =
    one_more x y (elements xs) (elements ys) (elements-HasFirst xs) (elements-HasFirst ys) (eqb x SLASH) (eqb y SLASH) refl refl
    ∙ ap (λ c. eqb x y && c) (firsts-elements xs ys)

-- the test by elements is the test by bytes
pub is_path_prefix-goes_on : (value path : List ℕ) → is_path_prefix value path ≡ goes_on (without_slash value) path
is_path_prefix-goes_on value path =
    starts_with-firsts (elements (without_slash value)) (elements path) ∙ firsts-elements (without_slash value) path

pub goes_on-append : (p rest : List ℕ) → goes_on p (p ++ rest) ≡ goes_on [] rest
goes_on-append [] rest = refl
goes_on-append (x ∷ p) rest = ap (λ c. c && goes_on p (p ++ rest)) (eq-eqb x x refl) ∙ goes_on-append p rest

pub EndsElement-goes_on : (rest : List ℕ) → EndsElement rest → goes_on [] rest ≡ true
EndsElement-goes_on [] h = refl
EndsElement-goes_on (y ∷ rest) h = eq-eqb y SLASH h

goes_on-EndsElement : (rest : List ℕ) → goes_on [] rest ≡ true → EndsElement rest
goes_on-EndsElement [] h = tt
goes_on-EndsElement (y ∷ rest) h = eqb-true y SLASH h

goes_on-begins : (p path : List ℕ) → goes_on p path ≡ true → (rest : List ℕ) × (path ≡ p ++ rest) × EndsElement rest
goes_on-begins [] path h = (path, refl, goes_on-EndsElement path h)
goes_on-begins (x ∷ p) [] h = absurd (true≢false (sym h))
goes_on-begins (x ∷ p) (y ∷ path) h =
    let same : x ≡ y = eqb-true x y (first_so (eqb x y) (goes_on p path) h) in
    let more = goes_on-begins p path (second_so (eqb x y) (goes_on p path) h) in
    let tail : path ≡ p ++ more.0 = more.1 in
    let whole : y ∷ path ≡ x ∷ (p ++ more.0) = cc in
    (more.0, whole, more.2)

-- the definition by elements says what the one by bytes says
pub prefix-bytes : (value path : List ℕ) → IsTrue (is_path_prefix value path) ↔ BeginsWithPrefix value path
prefix-bytes value path = (
  (λ h. goes_on-begins (without_slash value) path (sym (is_path_prefix-goes_on value path) ∙ h)),
  (λ b. is_path_prefix-goes_on value path ∙ ap (goes_on (without_slash value)) b.1
      ∙ goes_on-append (without_slash value) b.0 ∙ EndsElement-goes_on b.0 b.2),
)

pub same_tests : (a b : Bool) (P : Type 0) → IsTrue a ↔ P → IsTrue b ↔ P → a ≡ b
same_tests true true P h k = refl
same_tests true false P h k = sym (k.1 (h.0 refl))
same_tests false true P h k = h.1 (k.0 refl)
same_tests false false P h k = refl

-- a prefix that fits is no longer than the path
pub prefix-length : (value path : List ℕ) → IsTrue (is_path_prefix value path) → length (without_slash value) ≤ length path
prefix-length value path h =
    let b = (prefix-bytes value path).0 h in
    front_fits path (without_slash value) b.0 b.1

-- where the path is the prefix and then a rest, the rest decides
pub rest-decides : (value path p rest : List ℕ) (b : Bool) → p ≡ without_slash value → path ≡ p ++ rest → IsTrue b ↔ EndsElement rest
    → IsTrue b ↔ BeginsWithPrefix value path
rest-decides value path p rest b same is h =
    let whole : path ≡ without_slash value ++ rest = is ∙ ap (λ q. q ++ rest) same in (
      (λ t. (rest, whole, h.0 t)),
      (λ k. h.1 (subst EndsElement (append_cancel_left (without_slash value) k.0 rest (sym k.1 ∙ whole)) k.2)),
    )

-- and where it doesn't begin with the prefix, it isn't one
pub no_rest-decides : (value path p : List ℕ) → p ≡ without_slash value → ((rest : List ℕ) → path ≢ p ++ rest) → IsTrue false ↔ BeginsWithPrefix value path
no_rest-decides value path p same none = (
  (λ t. absurd (true≢false (sym t))),
  (λ k. absurd (none k.0 (k.1 ∙ ap (λ q. q ++ k.0) (sym same)))),
)

-- one test in two words
pub is_path_prefix-from : (value path : List ℕ) (b : Bool) → IsTrue b ↔ BeginsWithPrefix value path → b ≡ is_path_prefix value path
is_path_prefix-from value path b h = same_tests b (is_path_prefix value path) (BeginsWithPrefix value path) h (prefix-bytes value path)
