-- What came of the next link.
use Rattle.std.proofs.Common.{refl}
use Rattle.gw_edge.specs.Accepting.{Told}
use Rattle.gw_edge.proofs.Accepting.{closed_then, given_then, gives_none}
use Rattle.gw_admin.proofs.serve.admin_next.Goals as goal

pub returns-in-Ok-None-clause-next : goal.returns-in-Ok-None-clause-next
returns-in-Ok-None-clause-next g c =
    let none = gives_none _ _ (rw c.in-Ok-None.field-0-is at c.in-Ok-None.ensures.next) in
    (none.0, none.1, c.in-Ok-None.ensures.unclosed, refl, refl)

pub returns-in-Ok-clause-next : goal.returns-in-Ok-clause-next
returns-in-Ok-clause-next g c =
    let before : Told = record { left = g.A.Conn.Link.left c.in-Ok-Some.link; written = g.A.Conn.Link.written c.in-Ok-Some.link } in
    let after : Told = record { left = g.A.Conn.Link.left c.serve_admin-result.new.link; written = g.A.Conn.Link.written c.serve_admin-result.new.link } in (
      before,
      after,
      record {
        given = given_then _ _ _ _ (rw c.in-Ok-Some.field-0-is at c.in-Ok-Some.ensures.next) c.close.ensures.kept;
        closes = closed_then _ _ after _ c.in-Ok-Some.ensures.unclosed c.close.ensures.closes;
      },
      c.in-Ok.ensures.served,
    )

pub returns-in-Err-result-clause-next : goal.returns-in-Err-result-clause-next
returns-in-Err-result-clause-next g c =
    let before : Told = record { left = g.A.Conn.Link.left c.in-Ok-Some.link; written = g.A.Conn.Link.written c.in-Ok-Some.link } in
    let after : Told = record { left = g.A.Conn.Link.left c.serve_admin-result.new.link; written = g.A.Conn.Link.written c.serve_admin-result.new.link } in (
      before,
      after,
      record {
        given = given_then _ _ _ _ (rw c.in-Ok-Some.field-0-is at c.in-Ok-Some.ensures.next) c.close.ensures.kept;
        closes = closed_then _ _ after _ c.in-Ok-Some.ensures.unclosed c.close.ensures.closes;
      },
      c.in-Err-result.ensures.broken,
    )
