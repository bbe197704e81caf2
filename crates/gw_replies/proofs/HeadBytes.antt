-- What a head's bytes are.
use Rattle.std.proofs.Common.{◌≡◌, ◌≢◌, ℕ, Some, ◌*◌, ◌≤◌, List, [], length, drop, take, map, sym, ap, ◌∙◌, arith, subst, length-append}
use Rattle.std.proofs.lemmas.List.{drop_all, length-drop}
use Rattle.httparse.specs.Grammar.{ResponseHead, print_response, ReadsResponse, status_code, reason_phrase}
use Rattle.httparse.proofs.GrammarLemmas.{response_unique}
use Rattle.httparse.specs.Spans.{IsResponseOf, span_bytes}
use Rattle.httparse.specs.declared.spans.HeaderSpan.{HeaderSpan}
use Rattle.httparse.specs.declared.spans.ResponseSpans.{ResponseSpans}
use Rattle.gw_text.specs.model.Fields.{Field as Plain}
use Rattle.gw_messages.specs.Spans.{field_at}
use Rattle.gw_messages.proofs.FieldSpans.{fields_are, fields_size}
use Rattle.gw_replies.specs.model.Responses.{Head as PlainHead, IsHead}

-- a head has at most a third as many fields as bytes
pub few_fields : (bytes : List ℕ) (h : ResponseHead) (rest : List ℕ) → ReadsResponse bytes h rest → 3 * length h.fields ≤ length bytes
unfolding print_response
few_fields bytes h rest reads =
    let fields = fields_size h.fields reads.0.fields in
    omega (arith, fields, simp length-append at (ap length reads.1))

-- a head that takes fewer bytes than there are isn't all of them
pub only_head : (bytes : List ℕ) (h k : ResponseHead) (rest : List ℕ) → ReadsResponse bytes k rest → ReadsResponse bytes h [] → length rest ≡ 0
only_head bytes h k rest found reads = sym (ap length ((response_unique bytes h k [] rest reads found).1))

-- the head that was found is all of the bytes
pub head_found : (bytes : List ℕ) (headers : List HeaderSpan) (r : ResponseSpans) (head : PlainHead) → IsResponseOf bytes headers r → r.len ≡ length bytes
    → head.code ≡ r.code → head.phrase ≡ span_bytes bytes r.reason
    → head.fields ≡ map (field_at bytes) (take r.headers headers) → IsHead bytes (Some head)
head_found bytes headers r head found whole code phrase fields =
    let at = found.1 in
    let none : drop r.len bytes ≡ [] = drop_all r.len bytes (omega arith) in (
      found.0,
      subst (λ (rest : List ℕ). ReadsResponse bytes found.0 rest) none at.reads,
      ap (λ (n : ℕ). record { code = n; phrase = head.phrase; fields = head.fields }) (code ∙ at.code)
          ∙ ap (λ (p : List ℕ). record { code = status_code found.0; phrase = p; fields = head.fields }) (phrase ∙ at.reason)
          ∙ ap (λ (fs : List Plain). record { code = status_code found.0; phrase = reason_phrase found.0.reason; fields = fs }) (fields ∙ fields_are bytes (take r.headers headers) found.0.fields at.fields),
    )

-- a head was found that isn't all of the bytes
pub other_head : (bytes : List ℕ) (headers : List HeaderSpan) (r : ResponseSpans) (h : ResponseHead) → IsResponseOf bytes headers r → r.len ≤ length bytes
    → r.len ≢ length bytes → ReadsResponse bytes h [] → ⊥
other_head bytes headers r h found fits part reads =
    let none : length (drop r.len bytes) ≡ 0 = only_head bytes h found.0 (drop r.len bytes) found.1.reads reads in
    part (omega (arith, none, length-drop r.len bytes))
