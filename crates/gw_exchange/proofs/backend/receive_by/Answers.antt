use Rattle.std.proofs.Common.{◌≡◌, ◌∙◌, ◌+◌, ◌++◌, [], Ok, Err, ap, take, length, length-append, rules, arith, refl, is_some}
use Rattle.std.proofs.lemmas.List.{length-take-le}
use Rattle.gw_exchange.specs.declared.fault.ExchangeFault.TheVariants.{Backend, NoMemory}
use Rattle.gw_link.specs.declared.order.UpstreamCall.TheVariants.{Receive}
use Rattle.gw_exchange.proofs.Ending.{at_socket, comes_fault, no_call, none_refused}
use Rattle.gw_exchange.proofs.Limits.{byte_fault}
use Rattle.gw_exchange.proofs.Receiving.{begins, few_on, goes_on, more_given, received_failed, received_more}
use Rattle.gw_exchange.proofs.backend.receive_by.Goals as goal

pub pieces-init : goal.pieces-init
pieces-init g c = record {
  so_far = ([], begins _ _ _ c.requires.stands c.requires.unended);
  few = search rules;
  connected = c.requires.connected;
  at = refl;
  later = search rules;
  goes = g.met.U.Upstream.becomes_self _;
}

pub returns-in-Err-clause-comes : goal.returns-in-Err-clause-comes
returns-in-Err-clause-comes g c =
    let i = c.pieces.invariant.so_far in
    received_failed _ _ _ _ _ _ _ i.1 c.in-Err.ensures.kept

pub returns-in-Err-step_of-clause-comes : goal.returns-in-Err-step_of-clause-comes
returns-in-Err-step_of-clause-comes g c =
    let i = c.pieces.invariant.so_far in
    let size = length-take-le c.in-Ok.size c.receive.new.buf c.in-Ok.ensures.within in
    received_more _ _ _ _ _ _ _ _ (Err NoMemory) i.1 c.in-Ok.ensures.receives (omega (arith, size, c.in-Ok.ensures.within, c.receive.auto.buf)) (tt {0})

pub returns-in-Ok-Done-clause-comes : goal.returns-in-Ok-Done-clause-comes
returns-in-Ok-Done-clause-comes g c =
    let i = c.pieces.invariant.so_far in
    let size = length-take-le c.in-Ok.size c.receive.new.buf c.in-Ok.ensures.within in
    rw c.into_inner.ensures (received_more _ _ _ _ _ _ _ _ (Ok c.in-Ok-Done.response.value) i.1 c.in-Ok.ensures.receives (omega (arith, size, c.in-Ok.ensures.within, c.receive.auto.buf))
    (rw c.in-Ok-Done.field-0-is at (c.in-Ok-Done.ensures.settles c.args.reader.now.to_head i.0 i.1.stands)))

pub returns-in-Ok-Fault-clause-comes : goal.returns-in-Ok-Fault-clause-comes
returns-in-Ok-Fault-clause-comes g c =
    let i = c.pieces.invariant.so_far in
    let size = length-take-le c.in-Ok.size c.receive.new.buf c.in-Ok.ensures.within in
    let answer = rw c.in-Ok-Fault.field-0-is at (c.in-Ok-Fault.ensures.answers c.args.reader.now.to_head i.0 i.1.stands) in
    let settled = rw c.in-Ok-Fault.field-0-is at (c.in-Ok-Fault.ensures.settles c.args.reader.now.to_head i.0 i.1.stands) in
    received_more _ _ _ _ _ _ _ _ (Err (Backend c.in-Ok-Fault.fault)) i.1 c.in-Ok.ensures.receives (omega (arith, size, c.in-Ok.ensures.within, c.receive.auto.buf)) (comes_fault _ _ _ _ (byte_fault answer _ refl) settled)

pub returns-in-Ok-Fault-clause-cause : goal.returns-in-Ok-Fault-clause-cause
returns-in-Ok-Fault-clause-cause g c =
    let i = c.pieces.invariant.so_far in
    let answer = rw c.in-Ok-Fault.field-0-is at (c.in-Ok-Fault.ensures.answers c.args.reader.now.to_head i.0 i.1.stands) in
    λ is. absurd (no_call _ (byte_fault answer _ refl) is)

pub pieces-smaller : goal.pieces-smaller
pieces-smaller g c =
    let i = c.pieces.invariant.so_far in
    let size = length-take-le c.in-Ok.size c.receive.new.buf c.in-Ok.ensures.within in
    let need = rw c.in-Ok-Need.field-0-is at (c.in-Ok-Need.ensures.answers c.args.reader.now.to_head i.0 i.1.stands) in
    let few = few_on _ i.0 (take c.in-Ok.size c.receive.new.buf) need in
    omega (arith, size, few.0, few.1, i.1.counted, c.pieces.invariant.few)

pub pieces-preserved : goal.pieces-preserved
pieces-preserved g c =
    let i = c.pieces.invariant.so_far in
    let piece = take c.in-Ok.size c.receive.new.buf in
    let size = length-take-le c.in-Ok.size c.receive.new.buf c.in-Ok.ensures.within in
    let need = rw c.in-Ok-Need.field-0-is at (c.in-Ok-Need.ensures.answers c.args.reader.now.to_head i.0 i.1.stands) in
    let counted : c.pieces.given + c.in-Ok.size ≡ length (i.0 ++ piece) = omega (arith, size, i.1.counted, length-append i.0 piece) in
    record {
      so_far = (
        i.0 ++ piece,
        goes_on _ _ _ _ _ i.0 piece
            (c.step_of.ensures.stands (c.in-Ok-Need.is ∙ ap Ok c.in-Ok-Need.field-0-is) _ i.0 i.1.stands)
            c.in-Ok-Need.ensures.over counted need (more_given _ _ _ i.0 piece i.1.told c.in-Ok.ensures.receives),
      );
      few = omega (arith, counted, (few_on _ i.0 piece need).1);
      connected = ap is_some c.in-Ok.ensures.stays ∙ c.pieces.invariant.connected;
      at = c.in-Ok.ensures.stays ∙ c.pieces.invariant.at;
      later = search rules;
      goes = g.met.U.Upstream.becomes_then _ _ _ c.pieces.invariant.goes c.in-Ok.ensures.goes;
    }

pub returns-in-Err-clause-refused : goal.returns-in-Err-clause-refused
returns-in-Err-clause-refused g c = λ to at.
    g.met.U.Upstream.refuses_later c.args.up.now c.pieces.up c.receive.new.self Receive to c.pieces.invariant.goes
    (at_socket (g.U.Upstream.refuses c.pieces.up c.receive.new.self Receive) (g.U.Upstream.at c.pieces.up) to (c.pieces.invariant.at ∙ at) c.in-Err.ensures.refused)

pub returns-in-Ok-Fault-clause-refused : goal.returns-in-Ok-Fault-clause-refused
returns-in-Ok-Fault-clause-refused g c =
    let i = c.pieces.invariant.so_far in
    let answer = rw c.in-Ok-Fault.field-0-is at (c.in-Ok-Fault.ensures.answers c.args.reader.now.to_head i.0 i.1.stands) in
    λ to at. none_refused (g.U.Upstream.refuses c.args.up.now c.receive.new.self) to c.in-Ok-Fault.fault (byte_fault answer _ refl)
