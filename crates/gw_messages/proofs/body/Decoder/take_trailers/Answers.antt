-- What comes of the body behind its last chunk.
use Rattle.std.proofs.Common.{ℕ, ◌+◌, ◌-◌, ◌++◌, List, length, take, drop, refl, sym, ap, ◌∙◌, subst, arith}
use Rattle.gw_messages.specs.model.Bodies.{bad_body}
use Rattle.gw_messages.specs.declared.fault.BodyFault.TheVariants.{LongTrailers}
use Rattle.gw_messages.specs.model.Sections.{ends_trailers, long_section}
use Rattle.gw_messages.specs.Readings.{IsProgress, IsRest}
use Rattle.gw_messages.specs.declared.body.Stage.{Stage}
use Rattle.gw_messages.specs.declared.body.Reading.TheVariants.{Chunked}
use Rattle.gw_messages.proofs.Readings.{finished_progress, long_seen}
use Rattle.gw_messages.proofs.body.Decoder.take_trailers.Goals as goal

pub returns-then-length-most : goal.returns-then-length-most
returns-then-length-most c =
    subst (λ (b : List ℕ). IsProgress (Chunked c.args.self.now) b (Chunked c.args.self.now) c.find_trailers.new.self c.part.result) c.find_trailers.ensures.same c.part.ensures

pub returns-then-most-gt-MOST_TRAILERS : goal.returns-then-most-gt-MOST_TRAILERS
returns-then-most-gt-MOST_TRAILERS c =
    λ next. (
      bad_body LongTrailers,
      subst (λ (t : Stage). IsRest t (c.args.self.now.limits.content - length c.args.self.now.content.items) (take (c.args.self.now.limits.encoded + 1 - c.args.self.now.taken) (c.args.buffer.now ++ next)) (bad_body LongTrailers)) (sym c.requires)
          (long_section, long_seen ends_trailers (c.args.self.now.limits.encoded + 1 - c.args.self.now.taken) c.args.buffer.now next (omega arith) c.in-Long.ensures.found, refl),
      refl,
    )

pub returns-else-most-gt-MOST_TRAILERS : goal.returns-else-most-gt-MOST_TRAILERS
returns-else-most-gt-MOST_TRAILERS c =
    subst (λ (b : List ℕ). IsProgress (Chunked c.args.self.now) b (Chunked c.args.self.now) c.find_trailers.new.self c.part-in-Long.result) c.find_trailers.ensures.same c.part-in-Long.ensures

pub returns-in-Part : goal.returns-in-Part
returns-in-Part c =
    subst (λ (b : List ℕ). IsProgress (Chunked c.args.self.now) b (Chunked c.args.self.now) c.find_trailers.new.self c.part-in-Part.result) c.find_trailers.ensures.same c.part-in-Part.ensures

pub returns-else-length-most : goal.returns-else-length-most
returns-else-length-most c =
    let found = c.in-Whole.ensures.found in
    subst (λ (b : List ℕ). IsProgress (Chunked c.args.self.now) c.args.buffer.now (Chunked c.finished.new.self) b c.finished.result)
    (sym (c.advance.ensures ∙ ap (drop c.in-Whole.length) c.find_trailers.ensures.same))
    (finished_progress c.args.self.now c.finished.new.self c.in-Whole.length c.args.buffer.now c.finished.result c.requires found.0 found.1 (omega arith) c.args.self.now.few c.finished.ensures)
