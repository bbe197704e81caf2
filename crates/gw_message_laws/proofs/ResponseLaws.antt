-- The bytes of a backend come to one outcome.
use Rattle.std.proofs.Common.{◌≡◌, ◌⊎◌, ℕ, ◌+◌, ◌-◌, ◌≤◌, ◌<◌, Bool, true, false, List, [], length, arith, refl, sym, ap, ◌∙◌, subst, inl, inr, Option, Some, None}
use Rattle.httparse.proofs.GrammarLemmas.{response_unique}
use Rattle.gw_messages.specs.model.Bodies.{Body}
use Rattle.gw_messages.specs.model.Sections.{Section, whole_section, long_section, part_section, IsCut, ends_head}
use Rattle.gw_replies.specs.declared.fault.BackendFault.TheVariants as faults
use Rattle.gw_replies.specs.model.Responses.{Head, head_of, IsHead, Outcome, a_response, a_fault, is_refused, is_interim, is_bodiless, is_misframed, response_of, Extent, by_chunks, by_number, by_end, extent_of, IsBodyOf, unfinished, outcome_of, Responds, no_head, long_head, bad_head, refused_head, many_interim, interim, bodiless, misframed, bodied}
use Rattle.gw_message_laws.proofs.BodyLaws.{body_unique}
use Rattle.gw_message_laws.proofs.Cuts.{cut_unique}

head_unique : (bytes : List ℕ) (a b : Option Head) → IsHead bytes a → IsHead bytes b → a ≡ b
head_unique bytes None None x y = refl
head_unique bytes None (Some b) x y = absurd (x y.0 y.1)
head_unique bytes (Some a) None x y = absurd (y x.0 x.1)
head_unique bytes (Some a) (Some b) x y =
    let same = response_unique bytes x.0 y.0 [] [] x.1 y.1 in
    ap Some (x.2 ∙ ap head_of same.0 ∙ sym y.2)

body_of_unique : (extent : Extent) (before : ℕ) (bytes : List ℕ) (ended : Bool) (a b : Body) → IsBodyOf extent before bytes ended a → IsBodyOf extent before bytes ended b → a ≡ b
body_of_unique by_chunks before bytes ended a b x y = body_unique 8388608 (67108864 - before) None bytes a b x y
body_of_unique (by_number size) before bytes ended a b x y = body_unique 8388608 (67108864 - before) (Some size) bytes a b x y
body_of_unique by_end before bytes ended a b x y = x ∙ sym y

-- what the tests of a head lead to: those of a refused head, of an interim response, of one without a body, and of a misframed one
abbrev ByTests : Bool → Bool → Bool → Bool → Head → Bool → ℕ → ℕ → List ℕ → List ℕ → Bool → Outcome → Type 0
ByTests true second third fourth h to_head count before head rest ended outcome = outcome ≡ a_fault faults.Head
ByTests false true third fourth h to_head count before head rest ended outcome =
    ((16 ≤ count) × (outcome ≡ a_fault faults.Head)) ⊎ ((count < 16) × Responds to_head (count + 1) (before + length head) rest ended outcome)
ByTests false false true fourth h to_head count before head rest ended outcome = outcome ≡ a_response (response_of h [])
ByTests false false false true h to_head count before head rest ended outcome = outcome ≡ a_fault faults.Body
ByTests false false false false h to_head count before head rest ended outcome =
    (body : Body) × IsBodyOf (extent_of h.fields) (before + length head) rest ended body × (outcome ≡ outcome_of h body ended)

-- what a head leads to
abbrev ByHead : Option Head → Bool → ℕ → ℕ → List ℕ → List ℕ → Bool → Outcome → Type 0
ByHead None to_head count before head rest ended outcome = outcome ≡ a_fault faults.Head
ByHead (Some h) to_head count before head rest ended outcome =
    ByTests (is_refused h) (is_interim h) (is_bodiless to_head h.code) (is_misframed h.fields) h to_head count before head rest ended outcome

-- what a section leads to
abbrev BySection : Section → Bool → ℕ → ℕ → Bool → Outcome → Type 0
BySection part_section to_head count before ended outcome = outcome ≡ unfinished ended
BySection long_section to_head count before ended outcome = outcome ≡ a_fault faults.Head
BySection (whole_section head rest) to_head count before ended outcome = (h : Option Head) × IsHead head h × ByHead h to_head count before head rest ended outcome

abbrev Opened : Bool → ℕ → ℕ → List ℕ → Bool → Outcome → Type 0
Opened to_head count before bytes ended outcome = (section : Section) × IsCut ends_head 16384 bytes section × BySection section to_head count before ended outcome

-- what a head that is read leads to, by the values of its tests
tested : {to_head : Bool} {count before : ℕ} {bytes : List ℕ} {ended : Bool} {outcome : Outcome} (head rest : List ℕ) (h : Head) (first second third fourth : Bool)
    → IsCut ends_head 16384 bytes (whole_section head rest) → IsHead head (Some h)
    → is_refused h ≡ first → is_interim h ≡ second → is_bodiless to_head h.code ≡ third → is_misframed h.fields ≡ fourth
    → ByTests first second third fourth h to_head count before head rest ended outcome → Opened to_head count before bytes ended outcome
tested head rest h first second third fourth cut is e₁ e₂ e₃ e₄ t = (whole_section head rest, cut, (Some h, is, rw (e₁, e₂, e₃, e₄) t))

open_head : {to_head : Bool} {count before : ℕ} {bytes : List ℕ} {ended : Bool} {outcome : Outcome} → Responds to_head count before bytes ended outcome → Opened to_head count before bytes ended outcome
open_head (no_head cut e) = (part_section, cut, e)
open_head (long_head cut) = (long_section, cut, refl)
open_head (bad_head head rest cut is) = (whole_section head rest, cut, (None, is, refl))
open_head (refused_head head rest h cut is e₁) = tested head rest h true _ _ _ cut is e₁ refl refl refl refl
open_head (many_interim head rest h cut is e₁ e₂ many) = tested head rest h false true _ _ cut is e₁ e₂ refl refl (inl (many, refl))
open_head (interim head rest h cut is e₁ e₂ few d) = tested head rest h false true _ _ cut is e₁ e₂ refl refl (inr (few, d))
open_head (bodiless head rest h cut is e₁ e₂ e₃ e) = tested head rest h false false true _ cut is e₁ e₂ e₃ refl e
open_head (misframed head rest h cut is e₁ e₂ e₃ e₄) = tested head rest h false false false true cut is e₁ e₂ e₃ e₄ refl
open_head (bodied head rest h body cut is e₁ e₂ e₃ e₄ of e) = tested head rest h false false false false cut is e₁ e₂ e₃ e₄ (body, of, e)

same_section : {to_head : Bool} {count before : ℕ} {bytes : List ℕ} {ended : Bool} {outcome : Outcome} (section : Section) → IsCut ends_head 16384 bytes section
    → Responds to_head count before bytes ended outcome → BySection section to_head count before ended outcome
same_section {to_head} {count} {before} {bytes} {ended} {outcome} section cut y =
    let v = open_head y in
    subst (λ s. BySection s to_head count before ended outcome) (cut_unique ends_head 16384 bytes v.0 section v.1 cut) v.2

same_head : {to_head : Bool} {count before : ℕ} {bytes : List ℕ} {ended : Bool} {outcome : Outcome} (head rest : List ℕ) (h : Option Head)
    → IsCut ends_head 16384 bytes (whole_section head rest) → IsHead head h
    → Responds to_head count before bytes ended outcome → ByHead h to_head count before head rest ended outcome
same_head {to_head} {count} {before} {bytes} {ended} {outcome} head rest h cut is y =
    let v = same_section (whole_section head rest) cut y in
    subst (λ g. ByHead g to_head count before head rest ended outcome) (head_unique head v.0 h v.1 is) v.2

same_tests : {to_head : Bool} {count before : ℕ} {bytes : List ℕ} {ended : Bool} {outcome : Outcome} (head rest : List ℕ) (h : Head) (first second third fourth : Bool)
    → IsCut ends_head 16384 bytes (whole_section head rest) → IsHead head (Some h)
    → is_refused h ≡ first → is_interim h ≡ second → is_bodiless to_head h.code ≡ third → is_misframed h.fields ≡ fourth
    → Responds to_head count before bytes ended outcome → ByTests first second third fourth h to_head count before head rest ended outcome
same_tests head rest h first second third fourth cut is e₁ e₂ e₃ e₄ y = rw (e₁, e₂, e₃, e₄) at (same_head head rest (Some h) cut is y)

many_same : {to_head : Bool} {count before : ℕ} {rest : List ℕ} {ended : Bool} {outcome : Outcome} → 16 ≤ count
    → ((16 ≤ count) × (outcome ≡ a_fault faults.Head)) ⊎ ((count < 16) × Responds to_head (count + 1) before rest ended outcome) → outcome ≡ a_fault faults.Head
many_same many (inl x) = x.1
many_same many (inr x) = absurd (omega (arith, many, x.0))

few_same : {to_head : Bool} {count before : ℕ} {rest : List ℕ} {ended : Bool} {a b : Outcome} → count < 16
    → ((other : Outcome) → Responds to_head (count + 1) before rest ended other → a ≡ other)
    → ((16 ≤ count) × (b ≡ a_fault faults.Head)) ⊎ ((count < 16) × Responds to_head (count + 1) before rest ended b) → a ≡ b
few_same few same (inl x) = absurd (omega (arith, few, x.0))
few_same {b = b} few same (inr x) = same b x.1

responds_unique : {to_head : Bool} {count before : ℕ} {bytes : List ℕ} {ended : Bool} {a b : Outcome} → Responds to_head count before bytes ended a → Responds to_head count before bytes ended b → a ≡ b
responds_unique (no_head cut e) y = e ∙ sym (same_section part_section cut y)
responds_unique (long_head cut) y = sym (same_section long_section cut y)
responds_unique (bad_head head rest cut is) y = sym (same_head head rest None cut is y)
responds_unique (refused_head head rest h cut is e₁) y = sym (same_tests head rest h true _ _ _ cut is e₁ refl refl refl y)
responds_unique (many_interim head rest h cut is e₁ e₂ many) y = sym (many_same many (same_tests head rest h false true _ _ cut is e₁ e₂ refl refl y))
responds_unique (interim head rest h cut is e₁ e₂ few d) y =
    few_same few (λ other z. responds_unique d z) (same_tests head rest h false true _ _ cut is e₁ e₂ refl refl y)
responds_unique (bodiless head rest h cut is e₁ e₂ e₃ e) y = e ∙ sym (same_tests head rest h false false true _ cut is e₁ e₂ e₃ refl y)
responds_unique (misframed head rest h cut is e₁ e₂ e₃ e₄) y = sym (same_tests head rest h false false false true cut is e₁ e₂ e₃ e₄ y)
responds_unique {before = before} {ended = ended} (bodied head rest h body cut is e₁ e₂ e₃ e₄ of e) y =
    let v = same_tests head rest h false false false false cut is e₁ e₂ e₃ e₄ y in
    e ∙ ap (λ b. outcome_of h b ended) (body_of_unique (extent_of h.fields) (before + length head) rest ended body v.0 of v.1) ∙ sym v.2

pub outcome_unique : (to_head : Bool) (bytes : List ℕ) (ended : Bool) (a b : Outcome) → Responds to_head 0 0 bytes ended a → Responds to_head 0 0 bytes ended b → a ≡ b
outcome_unique to_head bytes ended a b x y = responds_unique x y
