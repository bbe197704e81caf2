-- A piece is served by calls or by a poll.
use Rattle.std.proofs.Common.{subst}
use Rattle.gw_conns.specs.Standing.{Stands}
use Rattle.gw_conns.specs.declared.connection.Connection.{Connection}
use Rattle.gw_conns.proofs.Standing.{if_ok}
use Rattle.gw_conns.proofs.connection.Connection.take.Goals as goal

pub returns-in-Called-clause-served : goal.returns-in-Called-clause-served
returns-in-Called-clause-served g c =
    if_ok c.call.result _ _ (λ flow served p bytes parts text at stands.
    let s = served p bytes parts text at (subst (λ (x : Connection). Stands x p bytes parts text) c.in-Called.is stands) in
    record { served = s; stands = λ more. s.took.stands }) c.call.ensures.served

pub returns-in-Polled-clause-served : goal.returns-in-Polled-clause-served
returns-in-Polled-clause-served g c =
    if_ok c.poll_once.result _ _ (λ flow served p bytes parts text at stands.
    served p bytes parts text at (subst (λ (x : Connection). Stands x p bytes parts text) c.in-Polled.is stands)) c.poll_once.ensures.served
