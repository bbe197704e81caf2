-- What comes of a chunk's data.
use Rattle.std.proofs.Common.{◌≡◌, ℕ, ◌+◌, ◌-◌, ◌++◌, List, length, take, refl, sym, ap, ◌∙◌, subst, arith, length-append, length-take}
use Rattle.gw_messages.specs.model.Bodies.{bad_body, part_body, stopped_chunk, behind}
use Rattle.gw_messages.specs.declared.fault.BodyFault.TheVariants.{Malformed, TooBig}
use Rattle.gw_messages.specs.declared.chunk.Data.TheVariants as datas
use Rattle.gw_messages.specs.declared.body.Stage.{Stage}
use Rattle.gw_messages.specs.Readings.{IsRest, within_after}
use Rattle.gw_messages.proofs.ChunkData.{big_more, malformed_more, data_size}
use Rattle.gw_messages.proofs.Readings.{data_leads, data_seen, data_stops}
use Rattle.gw_messages.proofs.body.Decoder.take_data.Goals as goal

pub returns-in-TooBig-clause-stopped : goal.returns-in-TooBig-clause-stopped
returns-in-TooBig-clause-stopped c = λ next.
    let d = c.args.self.now in
    let bytes = c.args.buffer.now in
    let seen = take (d.limits.encoded + 1 - d.taken) bytes in
    let big = data_seen d.limits.content _ (length d.content.items) c.args.size _ seen datas.TooBig (c.len.ensures ∙ d.content.ok.0) (c.first-seen.ensures ∙ ap (take (d.limits.encoded + 1 - d.taken)) c.bytes.ensures) c.in-TooBig.ensures in (
      bad_body TooBig,
      subst (λ (t : Stage). IsRest t (d.limits.content - length d.content.items) (take (d.limits.encoded + 1 - d.taken) (bytes ++ next)) (bad_body TooBig)) (sym c.requires)
          (data_stops (d.limits.content - length d.content.items) (d.limits.encoded + 1 - d.taken) c.args.size bytes next TooBig
          (λ more. big_more (d.limits.content - length d.content.items) c.args.size seen more big)),
      refl,
    )

pub returns-in-Malformed-clause-stopped : goal.returns-in-Malformed-clause-stopped
returns-in-Malformed-clause-stopped c = λ next.
    let d = c.args.self.now in
    let bytes = c.args.buffer.now in
    let seen = take (d.limits.encoded + 1 - d.taken) bytes in
    let wrong = data_seen d.limits.content _ (length d.content.items) c.args.size _ seen datas.Malformed (c.len.ensures ∙ d.content.ok.0) (c.first-seen.ensures ∙ ap (take (d.limits.encoded + 1 - d.taken)) c.bytes.ensures) c.in-Malformed.ensures in (
      bad_body Malformed,
      subst (λ (t : Stage). IsRest t (d.limits.content - length d.content.items) (take (d.limits.encoded + 1 - d.taken) (bytes ++ next)) (bad_body Malformed)) (sym c.requires)
          (data_stops (d.limits.content - length d.content.items) (d.limits.encoded + 1 - d.taken) c.args.size bytes next Malformed
          (λ more. malformed_more (d.limits.content - length d.content.items) c.args.size seen more wrong)),
      refl,
    )

pub part-requires : goal.part-requires
part-requires c =
    let d = c.args.self.now in
    let seen = take (d.limits.encoded + 1 - d.taken) c.args.buffer.now in
    let part = data_seen d.limits.content _ (length d.content.items) c.args.size _ seen datas.Part (c.len.ensures ∙ d.content.ok.0) (c.first-seen.ensures ∙ ap (take (d.limits.encoded + 1 - d.taken)) c.bytes.ensures) c.in-Part.ensures in
    subst (λ (t : Stage). IsRest t (d.limits.content - length d.content.items) seen part_body) (sym c.requires)
    (λ chunk some line. stopped_chunk c.args.size seen some line (sym part) refl)

pub returns-clause-taken : goal.returns-clause-taken
returns-clause-taken c = λ _ next body comes.
    let d = c.args.self.now in
    let bytes = c.args.buffer.now in
    let after = c.skip.new.self in
    let count = c.args.size + 2 in
    let seen = take (d.limits.encoded + 1 - d.taken) bytes in
    let seen_is = c.first-seen.ensures ∙ ap (take (d.limits.encoded + 1 - d.taken)) c.bytes.ensures in
    let is_data = data_seen d.limits.content _ (length d.content.items) c.args.size _ seen datas.Whole (c.len.ensures ∙ d.content.ok.0) seen_is c.in-Whole.ensures in
    let enough = data_size (d.limits.content - length d.content.items) c.args.size seen _ _ is_data in
    let piece = take c.args.size c.first-seen.result.now in
    let piece_is : piece ≡ take c.args.size seen = ap (take c.args.size) seen_is in
    let items = c.in_ok-extend_from_slice.ensures.items in
    let left : d.limits.content - length c.extend_from_slice.new.self.items ≡ d.limits.content - length d.content.items - c.args.size =
    omega (arith, enough, ap length items, length-append d.content.items piece, ap length piece_is, length-take c.args.size seen) in
    let leads = data_leads (d.limits.content - length d.content.items) (d.limits.content - length c.extend_from_slice.new.self.items) d.limits.encoded d.taken c.args.size count d.content.items piece bytes after next comes.0 body
    d.few refl left c.skip.ensures piece_is is_data comes.1
    (comes.2 ∙ ap (λ (content : List ℕ). within_after d.limits.encoded (d.taken + count) (after ++ next) (behind content comes.0)) items) in (
      behind piece comes.0,
      subst (λ (t : Stage). IsRest t (d.limits.content - length d.content.items) (take (d.limits.encoded + 1 - d.taken) (bytes ++ next)) (behind piece comes.0)) (sym c.requires) leads.0,
      leads.1,
    )
