-- What comes of a chunk's line.
use Rattle.std.proofs.Common.{◌≡◌, ℕ, ◌+◌, ◌-◌, ◌++◌, ◌∙◌, List, length, take, drop, refl, sym, ap, subst, arith, length-take}
use Rattle.gw_messages.specs.model.Bodies.{IsLine, bad_line, bad_body, part_body, bad_chunk, part_chunk}
use Rattle.gw_messages.specs.declared.fault.BodyFault.TheVariants.{Malformed}
use Rattle.gw_messages.specs.declared.body.Stage.{Stage}
use Rattle.gw_messages.specs.declared.body.Reading.TheVariants.{Chunked}
use Rattle.gw_messages.specs.Readings.{IsProgress, IsRest}
use Rattle.gw_messages.proofs.ChunkLines.{bad_more, seen_more}
use Rattle.gw_messages.proofs.Readings.{fewer, line_leads}
use Rattle.gw_messages.proofs.body.Decoder.take_line.Goals as goal

pub part-requires : goal.part-requires
part-requires c =
    let d = c.args.self.now in
    subst (λ (b : List ℕ). IsRest d.stage (d.limits.content - length d.content.items) (take (d.limits.encoded + 1 - d.taken) b) part_body) (sym c.read_line.ensures.same)
    (subst (λ (t : Stage). IsRest t (d.limits.content - length d.content.items) (take (d.limits.encoded + 1 - d.taken) c.args.buffer.now) part_body) (sym c.requires)
    (part_chunk c.in-Part.ensures.line))

pub returns-in-Bad-clause-stopped : goal.returns-in-Bad-clause-stopped
returns-in-Bad-clause-stopped c =
    λ next.
    let d = c.args.self.now in
    let more = seen_more (d.limits.encoded + 1 - d.taken) c.args.buffer.now next in (
      bad_body Malformed,
      subst (λ (t : Stage). IsRest t (d.limits.content - length d.content.items) (take (d.limits.encoded + 1 - d.taken) (c.args.buffer.now ++ next)) (bad_body Malformed)) (sym c.requires)
          (bad_chunk (subst (λ (s : List ℕ). IsLine s bad_line) (sym more.1) (bad_more (take (d.limits.encoded + 1 - d.taken) c.args.buffer.now) more.0 c.in-Bad.ensures.line))),
      refl,
    )

pub returns-in-Part-clause-stopped : goal.returns-in-Part-clause-stopped
returns-in-Part-clause-stopped c =
    subst (λ (b : List ℕ). IsProgress (Chunked c.args.self.now) b (Chunked c.args.self.now) c.read_line.new.self c.part.result) c.read_line.ensures.same c.part.ensures

pub invariant_of-self-clause-few : goal.invariant_of-self-clause-few
invariant_of-self-clause-few c =
    let most = c.args.self.now.limits.encoded + 1 - c.args.self.now.taken in
    omega (arith, c.in-Whole.ensures.within.1, length-take most c.args.buffer.now, c.args.self.now.few)

pub returns-clause-taken : goal.returns-clause-taken
returns-clause-taken c = λ _ next body comes.
    let d = c.args.self.now in
    let bytes = c.args.buffer.now in
    let after = c.skip.new.self in
    let size = c.in-Whole.size in
    let count = c.in-Whole.length in
    let room = d.limits.content - length d.content.items in
    let taken : after ≡ drop count bytes = c.skip.ensures ∙ ap (drop count) c.read_line.ensures.same in
    let leads = line_leads room d.limits.encoded d.taken count size d.content.items bytes after next comes.0 body d.few c.in-Whole.ensures.within.1 taken c.in-Whole.ensures.line
    (subst (λ (t : Stage). IsRest t room (take (d.limits.encoded + 1 - (d.taken + count)) (after ++ next)) comes.0) c.behind_line-self.ensures comes.1) comes.2 in (
      comes.0,
      subst (λ (t : Stage). IsRest t room (take (d.limits.encoded + 1 - d.taken) (bytes ++ next)) comes.0) (sym c.requires) leads.0,
      leads.1,
    )

pub returns-clause-smaller : goal.returns-clause-smaller
returns-clause-smaller c = λ _.
    let most = c.args.self.now.limits.encoded + 1 - c.args.self.now.taken in
    let within = c.in-Whole.ensures.within in
    fewer c.in-Whole.length most c.args.buffer.now c.skip.new.self within.0 (omega (arith, within.0, within.1)) (c.skip.ensures ∙ ap (drop c.in-Whole.length) c.read_line.ensures.same)
