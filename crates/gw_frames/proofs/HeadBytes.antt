-- What a head's bytes are.
use Rattle.std.proofs.Common.{◌≡◌, ◌≢◌, ℕ, Some, ◌*◌, ◌≤◌, List, [], length, drop, take, map, sym, ap, ◌∙◌, arith, subst, length-append}
use Rattle.std.proofs.lemmas.List.{drop_all, length-drop}
use Rattle.httparse.specs.Grammar.{RequestHead, print_request, ReadsRequest}
use Rattle.httparse.proofs.GrammarLemmas.{request_unique}
use Rattle.httparse.specs.Spans.{IsRequestOf, span_bytes}
use Rattle.httparse.specs.declared.spans.HeaderSpan.{HeaderSpan}
use Rattle.httparse.specs.declared.spans.RequestSpans.{RequestSpans}
use Rattle.gw_text.specs.model.Fields.{Field as Plain}
use Rattle.gw_messages.specs.Spans.{field_at}
use Rattle.gw_messages.proofs.FieldSpans.{fields_are, fields_size}
use Rattle.gw_frames.specs.model.Heads.{Head as PlainHead, IsHead}

-- a head has at most a third as many fields as bytes
pub few_fields : (bytes : List ℕ) (h : RequestHead) (rest : List ℕ) → ReadsRequest bytes h rest → 3 * length h.fields ≤ length bytes
unfolding print_request
few_fields bytes h rest reads =
    let fields = fields_size h.fields reads.0.fields in
    omega (arith, fields, simp length-append at (ap length reads.1))

-- a head that takes fewer bytes than there are isn't all of them
pub only_head : (bytes : List ℕ) (h k : RequestHead) (rest : List ℕ) → ReadsRequest bytes k rest → ReadsRequest bytes h [] → length rest ≡ 0
only_head bytes h k rest found reads = sym (ap length ((request_unique bytes h k [] rest reads found).1))

-- the head that was found is all of the bytes
pub head_found : (bytes : List ℕ) (headers : List HeaderSpan) (r : RequestSpans) (head : PlainHead) → IsRequestOf bytes headers r → r.len ≡ length bytes
    → head.method ≡ span_bytes bytes r.method → head.target ≡ span_bytes bytes r.path → head.minor ≡ r.version
    → head.fields ≡ map (field_at bytes) (take r.headers headers) → IsHead bytes (Some head)
head_found bytes headers r head found whole method target minor fields =
    let at = found.1 in
    let none : drop r.len bytes ≡ [] = drop_all r.len bytes (omega arith) in (
      found.0,
      subst (λ (rest : List ℕ). ReadsRequest bytes found.0 rest) none at.reads,
      ap (λ (m : List ℕ). record { method = m; target = head.target; minor = head.minor; fields = head.fields }) (method ∙ at.method)
          ∙ ap (λ (t : List ℕ). record { method = found.0.method; target = t; minor = head.minor; fields = head.fields }) (target ∙ at.path)
          ∙ ap (λ (n : ℕ). record { method = found.0.method; target = found.0.target; minor = n; fields = head.fields }) (minor ∙ at.version)
          ∙ ap (λ (fs : List Plain). record { method = found.0.method; target = found.0.target; minor = found.0.minor; fields = fs }) (fields ∙ fields_are bytes (take r.headers headers) found.0.fields at.fields),
    )

-- a head was found that isn't all of the bytes
pub other_head : (bytes : List ℕ) (headers : List HeaderSpan) (r : RequestSpans) (h : RequestHead) → IsRequestOf bytes headers r → r.len ≤ length bytes
    → r.len ≢ length bytes → ReadsRequest bytes h [] → ⊥
other_head bytes headers r h found fits part reads =
    let none : length (drop r.len bytes) ≡ 0 = only_head bytes h found.0 (drop r.len bytes) found.1.reads reads in
    part (omega (arith, none, length-drop r.len bytes))
