-- A head that announces no body.
use Rattle.std.proofs.Common.{◌≡◌, ℕ, List, false, option_map, ap, sym, ◌∙◌, ◌||◌, nat_lt, length, codes, arith}
use Rattle.std.proofs.lemmas.Bool.Decides.{nat_tests}
use Rattle.gw_text.specs.model.Fields.{Field}
use Rattle.gw_messages.specs.model.Values.{has_field, values_of}
use Rattle.gw_frames.specs.model.Heads.{Head, has_one_host, is_served_target}
use Rattle.gw_frames.specs.Targets.{target_of}
use Rattle.gw_frames.proofs.Framing.{unframed_few, unframed_number, unframed_passes}
use Rattle.gw_frames.proofs.rules.code_of.Goals as goal

unframed : (c : goal.Then-not-is_framed) → (has_field (codes "transfer-encoding") c.args.head.now.fields || has_field (codes "content-length") c.args.head.now.fields) ≡ false
unframed c =
    ap (λ (fields : List Field). has_field (codes "transfer-encoding") fields || has_field (codes "content-length") fields) (sym (c.as_slice-fields.ensures ∙ ap (λ (h : Head). h.fields) c.head.view_is))
    ∙ sym c.is_framed.ensures ∙ c.if-not-is_framed.true

pub returns-then-not-is_framed-clause-code : goal.returns-then-not-is_framed-clause-code
returns-then-not-is_framed-clause-code c =
    let few : nat_lt 100 (length c.args.head.now.fields) ≡ false = grind (arith, nat_tests, c.if-fields-gt-MOST_FIELDS.false, c.as_slice-fields.ensures, c.head.view_is) in
    unframed_passes c.args.head.now (option_map target_of c.args.target.now) few (sym c.is_unserved.ensures ∙ c.if-is_unserved.false)
    (ap (λ (text : List ℕ). is_served_target text (option_map target_of c.args.target.now)) (sym (c.bytes.ensures ∙ ap (λ (h : Head). h.target) c.head.view_is))
    ∙ sym c.is_served_target.ensures ∙ c.if-not-is_served_target.false)
    (ap (λ (fields : List Field). has_one_host (values_of (codes "host") fields) (option_map target_of c.args.target.now)) (sym (c.as_slice-fields.ensures ∙ ap (λ (h : Head). h.fields) c.head.view_is))
    ∙ sym c.has_one_host.ensures ∙ c.if-not-has_one_host.false)
    (unframed c)

pub returns-then-not-is_framed-clause-number : goal.returns-then-not-is_framed-clause-number
returns-then-not-is_framed-clause-number c = unframed_number c.args.head.now.fields (unframed c)

pub returns-then-not-is_framed-clause-few : goal.returns-then-not-is_framed-clause-few
returns-then-not-is_framed-clause-few c = unframed_few c.args.head.now.fields (unframed c)
