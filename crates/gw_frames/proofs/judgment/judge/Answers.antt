-- A head that is refused, and one that opens a request.
use Rattle.std.proofs.Common.{◌≡◌, sym, ap, ◌∙◌, subst, None, Option, List, ℕ}
use Rattle.std.specs.Option.{option_map}
use Rattle.http_uri.specs.declared.uri.Uri.{Uri}
use Rattle.gw_frames.specs.model.Heads.{Head, IsHead, IsTarget, code_of}
use Rattle.gw_frames.specs.Targets.{target_of}
use Rattle.gw_frames.proofs.Judging.{refused_by, opened_by}
use Rattle.gw_frames.proofs.judgment.judge.Goals as goal

pub returns-in-Some-code_of : goal.returns-in-Some-code_of
returns-in-Some-code_of c =
    refused_by c.args.bytes.now c.in-Some.head (option_map target_of c.in_ok-target.target) c.in-Some-code_of.code
    (subst (IsHead c.args.bytes.now) c.in-Some.is c.in_ok-head.ensures)
    (subst (λ (text : List ℕ). IsTarget text (option_map target_of c.in_ok-target.target)) (c.bytes.ensures ∙ ap (λ (h : Head). h.target) c.head.view_is) c.in_ok-target.ensures)
    (sym c.code_of.ensures.code ∙ c.in-Some-code_of.is)

pub returns-in_ok-open-in-Some-target : goal.returns-in_ok-open-in-Some-target
returns-in_ok-open-in-Some-target c =
    opened_by c.args.bytes.now c.in-Some.head (target_of c.in-Some-target.target) _
    (subst (IsHead c.args.bytes.now) c.in-Some.is c.in_ok-head.ensures)
    (subst (λ (t : Option Uri). IsTarget c.in-Some.head.target (option_map target_of t)) c.in-Some-target.is
    (subst (λ (text : List ℕ). IsTarget text (option_map target_of c.in_ok-target.target)) (c.bytes.ensures ∙ ap (λ (h : Head). h.target) c.head.view_is) c.in_ok-target.ensures))
    (subst (λ (t : Option Uri). code_of c.in-Some.head (option_map target_of t) ≡ None) c.in-Some-target.is (sym c.code_of.ensures.code ∙ c.in_default-code_of.is))
    c.in_ok-open-in-Some-target.ensures
