-- The bytes of a connection give one list of steps.
use Rattle.std.proofs.Common.{◌≡◌, ℕ, ◌+◌, Bool, List, [], ◌∷◌, ◌++◌, refl, sym, ap, ap₂, ◌∙◌, subst, inl, inr, Option, Some, None}
use Rattle.httparse.proofs.GrammarLemmas.{request_unique}
use Rattle.gw_messages.specs.model.Bodies.{Body, whole_body, bad_body, part_body, IsBody}
use Rattle.gw_messages.specs.model.Sections.{Section, whole_section, long_section, part_section, IsCut, ends_head}
use Rattle.gw_frames.specs.declared.ended.Ended.{Ended}
use Rattle.gw_frames.specs.model.Heads.{Head, head_of, IsHead, Target, IsTarget, code_of}
use Rattle.gw_frames.specs.model.Requests.{Opening, Judgment, refused, opened, judgment_of, IsJudged, fault_code, Step, an_ask, a_refusal, an_end, Part, a_head, a_body, announced, after_no_head, after_no_body, whole_request, end_behind, Asks, no_head, long_head, bad_head, good_head, no_body, faulty_body, last_body, good_body}
use Rattle.gw_message_laws.proofs.BodyLaws.{body_unique}
use Rattle.gw_message_laws.proofs.Cuts.{cut_unique}
use Rattle.gw_message_laws.proofs.TargetLaws.{target_unique}

head_unique : (bytes : List ℕ) (a b : Option Head) → IsHead bytes a → IsHead bytes b → a ≡ b
head_unique bytes None None x y = refl
head_unique bytes None (Some b) x y = absurd (x y.0 y.1)
head_unique bytes (Some a) None x y = absurd (y x.0 x.1)
head_unique bytes (Some a) (Some b) x y =
    let same = request_unique bytes x.0 y.0 [] [] x.1 y.1 in
    ap Some (x.2 ∙ ap head_of same.0 ∙ sym y.2)

some_same : {A : Type 0} (a b : A) → Some a ≡ Some b → a ≡ b
some_same a b e = cc

-- a head has one judgment
judged_same : (head other : Head) (target target₂ : Option Target) (a b : Judgment) → head ≡ other → IsTarget head.target target → IsTarget other.target target₂
    → a ≡ judgment_of (code_of head target) head target → b ≡ judgment_of (code_of other target₂) other target₂ → a ≡ b
judged_same head other target target₂ a b same x y e f =
    let here = subst (λ h. IsTarget h.target target₂) (sym same) y in
    let targets : target ≡ target₂ = target_unique head.target target target₂ x here in
    e ∙ ap₂ (λ h t. judgment_of (code_of h t) h t) same targets ∙ sym f

judgment_unique : (bytes : List ℕ) (a b : Judgment) → IsJudged bytes a → IsJudged bytes b → a ≡ b
judgment_unique bytes a b (inl x) (inl y) = x.1 ∙ sym y.1
judgment_unique bytes a b (inl x) (inr y) = absurd (x.0 y.2.0 y.2.1)
judgment_unique bytes a b (inr x) (inl y) = absurd (y.0 x.2.0 x.2.1)
judgment_unique bytes a b (inr x) (inr y) =
    let same = some_same x.0 y.0 (head_unique bytes (Some x.0) (Some y.0) x.2 y.2) in
    judged_same x.0 y.0 x.1 y.1 a b same x.3 y.3 x.4 y.4

-- what a judgment leads to
abbrev ByJudgment : ℕ → List ℕ → Bool → Judgment → List Step → Type 0
ByJudgment count rest over (refused code) steps = steps ≡ a_refusal code ∷ []
ByJudgment count rest over (opened o) steps = (later : List Step) × Asks (a_body o) count rest over later × (steps ≡ announced o.expects ++ later)

-- what a section leads to
abbrev BySection : ℕ → List ℕ → Bool → Section → List Step → Type 0
BySection count bytes over part_section steps = steps ≡ after_no_head bytes over
BySection count bytes over long_section steps = steps ≡ a_refusal 431 ∷ []
BySection count bytes over (whole_section head rest) steps = (judgment : Judgment) × IsJudged head judgment × ByJudgment count rest over judgment steps

-- what the end of the connection leads to, or that it goes on
abbrev ByEnd : ℕ → Opening → List ℕ → List ℕ → Bool → Option Ended → List Step → Type 0
ByEnd count o body rest over (Some why) steps = steps ≡ an_ask (whole_request o body) ∷ an_end ∷ []
ByEnd count o body rest over None steps = (later : List Step) × Asks a_head (count + 1) rest over later × (steps ≡ an_ask (whole_request o body) ∷ later)

-- what a body leads to
abbrev ByBody : ℕ → Opening → Bool → Body → List Step → Type 0
ByBody count o over part_body steps = steps ≡ after_no_body over
ByBody count o over (bad_body fault) steps = steps ≡ a_refusal (fault_code fault) ∷ []
ByBody count o over (whole_body body rest) steps = ByEnd count o body rest over (end_behind (count + 1) o.request) steps

-- what the part that comes next leads to
abbrev ByPart : Part → ℕ → List ℕ → Bool → List Step → Type 0
ByPart a_head count bytes over steps = (section : Section) × IsCut ends_head 16384 bytes section × BySection count bytes over section steps
ByPart (a_body o) count bytes over steps = (body : Body) × IsBody 1048576 16777216 o.size bytes body × ByBody count o over body steps

by_part : {part : Part} {count : ℕ} {bytes : List ℕ} {over : Bool} {steps : List Step} → Asks part count bytes over steps → ByPart part count bytes over steps
by_part (no_head cut e) = (part_section, cut, e)
by_part (long_head cut) = (long_section, cut, refl)
by_part (bad_head {code = code} head rest cut judged) = (whole_section head rest, cut, (refused code, judged, refl))
by_part (good_head head rest o later cut judged d e) = (whole_section head rest, cut, (opened o, judged, (later, d, e)))
by_part (no_body is e) = (part_body, is, e)
by_part (faulty_body fault is e) = (bad_body fault, is, e)
by_part {part} {count} {bytes} {over} {steps} (last_body {o = o} body rest why is end e) =
    (whole_body body rest, is, subst (λ w. ByEnd count o body rest over w steps) (sym end) e)
by_part {part} {count} {bytes} {over} {steps} (good_body {o = o} body rest later is end d e) =
    (whole_body body rest, is, subst (λ w. ByEnd count o body rest over w steps) (sym end) (later, d, e))

same_section : {count : ℕ} {bytes : List ℕ} {over : Bool} {steps : List Step} (section : Section) → IsCut ends_head 16384 bytes section
    → Asks a_head count bytes over steps → BySection count bytes over section steps
same_section {count} {bytes} {over} {steps} section cut y =
    let v = by_part y in
    subst (λ s. BySection count bytes over s steps) (cut_unique ends_head 16384 bytes v.0 section v.1 cut) v.2

same_judgment : {count : ℕ} {bytes : List ℕ} {over : Bool} {steps : List Step} (head rest : List ℕ) (judgment : Judgment)
    → IsCut ends_head 16384 bytes (whole_section head rest) → IsJudged head judgment → Asks a_head count bytes over steps → ByJudgment count rest over judgment steps
same_judgment {count} {bytes} {over} {steps} head rest judgment cut judged y =
    let v = same_section (whole_section head rest) cut y in
    subst (λ j. ByJudgment count rest over j steps) (judgment_unique head v.0 judgment v.1 judged) v.2

same_body : {count : ℕ} {bytes : List ℕ} {over : Bool} {o : Opening} {steps : List Step} (body : Body) → IsBody 1048576 16777216 o.size bytes body
    → Asks (a_body o) count bytes over steps → ByBody count o over body steps
same_body {count} {bytes} {over} {o} {steps} body is y =
    let v = by_part y in
    subst (λ b. ByBody count o over b steps) (body_unique 1048576 16777216 o.size bytes v.0 body v.1 is) v.2

same_end : {count : ℕ} {bytes : List ℕ} {over : Bool} {o : Opening} {steps : List Step} (body rest : List ℕ) (end : Option Ended)
    → IsBody 1048576 16777216 o.size bytes (whole_body body rest) → end_behind (count + 1) o.request ≡ end
    → Asks (a_body o) count bytes over steps → ByEnd count o body rest over end steps
same_end {count} {bytes} {over} {o} {steps} body rest end is e y =
    subst (λ w. ByEnd count o body rest over w steps) e (same_body (whole_body body rest) is y)

joined : (front later other a b : List Step) → later ≡ other → a ≡ front ++ later → b ≡ front ++ other → a ≡ b
joined front later other a b same e f = e ∙ ap (λ (steps : List Step). front ++ steps) same ∙ sym f

asks_unique : {part : Part} {count : ℕ} {bytes : List ℕ} {over : Bool} {a b : List Step} → Asks part count bytes over a → Asks part count bytes over b → a ≡ b
asks_unique (no_head cut e) y = e ∙ sym (same_section part_section cut y)
asks_unique (long_head cut) y = sym (same_section long_section cut y)
asks_unique (bad_head {code = code} head rest cut judged) y = sym (same_judgment head rest (refused code) cut judged y)
asks_unique {a = a} {b = b} (good_head head rest o later cut judged d e) y =
    let v = same_judgment head rest (opened o) cut judged y in
    joined (announced o.expects) later v.0 a b (asks_unique d v.1) e v.2
asks_unique (no_body is e) y = e ∙ sym (same_body part_body is y)
asks_unique (faulty_body fault is e) y = e ∙ sym (same_body (bad_body fault) is y)
asks_unique (last_body body rest why is end e) y = e ∙ sym (same_end body rest (Some why) is end y)
asks_unique {a = a} {b = b} (good_body {o = o} body rest later is end d e) y =
    let v = same_end body rest None is end y in
    joined (an_ask (whole_request o body) ∷ []) later v.0 a b (asks_unique d v.1) e v.2

pub steps_unique : (part : Part) (count : ℕ) (bytes : List ℕ) (over : Bool) (a b : List Step) → Asks part count bytes over a → Asks part count bytes over b → a ≡ b
steps_unique part count bytes over a b x y = asks_unique x y
