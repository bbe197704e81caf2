-- Where a head isn't whole.
use Rattle.std.proofs.Common.{refl, [], ◌∷◌, ap, sym, subst, ◌∙◌, Bool, if◌then◌else◌}
use Rattle.gw_frames.specs.model.Requests.{an_end, a_break}
use Rattle.gw_messages.specs.model.Sections.{are_empty_lines}
use Rattle.gw_frames.specs.Inlets.{Still}
use Rattle.gw_frames.specs.declared.inlet.Inlet.{Inlet}
use Rattle.gw_frames.specs.declared.ended.Ended.TheVariants as ends
use Rattle.gw_frames.proofs.Inlets.{ends_at_head, goes_to_end, head_needs, head_over}
use Rattle.gw_frames.proofs.inlet.Inlet.after_no_head.Goals as goal

pub returns-then-not-self-clause-need : goal.returns-then-not-self-clause-need
returns-then-not-self-clause-need c = head_needs c.args.self.now c.requires.head c.if-not-self.true c.requires.part

pub returns-then-are_empty_lines-clause-goes : goal.returns-then-are_empty_lines-clause-goes
returns-then-are_empty_lines-clause-goes c =
    let blank = sym (ap are_empty_lines c.bytes.ensures) ∙ sym c.are_empty_lines.ensures ∙ c.if-are_empty_lines.true in
    goes_to_end c.args.self.now c.end.new.self ends.Closed _ (ap (λ (i : Inlet). i.over) c.end.ensures.after) (ap (λ (i : Inlet). i.stage) c.end.ensures.after) c.end.ensures.step (λ more. ends_at_head _ _ ends.Closed more c.requires.head refl)
    (λ next over future. subst (λ (b : Bool). Still c.args.self.now next over ((if b then an_end else a_break) ∷ [])) blank (head_over c.args.self.now c.requires.head c.if-not-self.false c.requires.part next over future))

pub returns-clause-goes : goal.returns-clause-goes
returns-clause-goes c =
    let blank = sym (ap are_empty_lines c.bytes.ensures) ∙ sym c.are_empty_lines.ensures ∙ c.if-are_empty_lines.false in
    goes_to_end c.args.self.now c.end-2.new.self ends.Truncated _ (ap (λ (i : Inlet). i.over) c.end-2.ensures.after) (ap (λ (i : Inlet). i.stage) c.end-2.ensures.after) c.end-2.ensures.step (λ more. ends_at_head _ _ ends.Truncated more c.requires.head refl)
    (λ next over future. subst (λ (b : Bool). Still c.args.self.now next over ((if b then an_end else a_break) ∷ [])) blank (head_over c.args.self.now c.requires.head c.if-not-self.false c.requires.part next over future))
