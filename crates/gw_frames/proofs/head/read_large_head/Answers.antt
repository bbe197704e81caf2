-- Why the bytes are no head, and which head they are.
use Rattle.std.proofs.Common.{◌≡◌, ℕ, List, [], sym, ◌∙◌, arith, subst}
use Rattle.std.proofs.lemmas.List.{append-nil}
use Rattle.httparse.specs.Grammar.{ReadsRequest}
use Rattle.httparse.specs.Spans.{IsRequestOf, IsRequestWithin}
use Rattle.httparse.specs.declared.spans.HeaderSpan.{HeaderSpan}
use Rattle.gw_messages.proofs.FieldSpans.{all_written}
use Rattle.gw_frames.proofs.HeadBytes.{few_fields}
use Rattle.gw_frames.proofs.head.read_large_head.Goals as goal

pub returns-in-Err : goal.returns-in-Err
returns-in-Err c = λ h reads.
    let few = few_fields c.args.bytes.now h [] reads in
    let over = c.in-Err.ensures.no_room [] h [] (subst (λ (b : List ℕ). ReadsRequest b h []) (sym (append-nil c.args.bytes.now)) reads) in
    omega (arith, few, over, c.as_mut_slice.ensures.len, c.in_ok-spans.ensures.len)

pub copy_head-requires-clause-within : goal.copy_head-requires-clause-within
copy_head-requires-clause-within c =
    let within = rw c.in-Ok-Complete.field-0-is at c.in-Ok-Complete.ensures.within in
    let written : c.as_slice.result.now ≡ c.parse_request.new.headers = c.as_slice.ensures.value ∙ all_written _ _ _ (omega (arith, c.parse_request.auto.headers, c.as_mut_slice.ensures.len)) in
    subst (λ (spans : List HeaderSpan). IsRequestWithin c.args.bytes.now spans c.in-Ok-Complete.head) (sym written) within

pub copy_head-requires-clause-found : goal.copy_head-requires-clause-found
copy_head-requires-clause-found c =
    let found = rw c.in-Ok-Complete.field-0-is at c.in-Ok-Complete.ensures.complete in
    let written : c.as_slice.result.now ≡ c.parse_request.new.headers = c.as_slice.ensures.value ∙ all_written _ _ _ (omega (arith, c.parse_request.auto.headers, c.as_mut_slice.ensures.len)) in
    subst (λ (spans : List HeaderSpan). IsRequestOf c.args.bytes.now spans c.in-Ok-Complete.head) (sym written) found
