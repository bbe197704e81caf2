-- The part that got room has its slices.
use Rattle.std.proofs.Common.{◌<◌, arith, length}
use Rattle.std.proofs.lemmas.List.{length-set}
use Rattle.gw_store.proofs.Parts.{room_more, slices_kept}
use Rattle.gw_store.proofs.by_service.reserve_each.Goals as goal

pub returns-in_err-reserve-clause-slices : goal.returns-in_err-reserve-clause-slices
returns-in_err-reserve-clause-slices c =
    slices_kept c.parts.parts.items c.parts.number c.index_mut.result.now c.reserve.new.self _ c.index_mut.ensures.value c.reserve.ensures.slices c.parts.invariant.slices

pub parts-preserved : goal.parts-preserved
parts-preserved c =
    let parts = c.parts.parts.items in
    let i = c.parts.number in
    let within : i < length parts = omega (arith, c.parts-test.true, c.len.ensures, c.parts.parts.ok.0) in
    record {
      slices = slices_kept parts i c.index_mut.result.now c.reserve.new.self _ c.index_mut.ensures.value c.reserve.ensures.slices c.parts.invariant.slices;
      within = omega (arith, within, length-set parts i c.reserve.new.self);
      room = room_more parts i c.reserve.new.self within c.in_ok-reserve.ensures.ok c.parts.invariant.room;
    }
