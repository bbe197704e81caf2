-- A new connection, served to its end.
use Rattle.std.proofs.Common.{[], refl}
use Rattle.gw_admin.specs.Answering.{place_of}
use Rattle.gw_admin.proofs.Causes.{on_err}
use Rattle.gw_admin.proofs.Linking.{has_broken, has_served}
use Rattle.gw_admin.proofs.serve.serve_admin.Goals as goal

pub pieces-requires-clause-serving : goal.pieces-requires-clause-serving
pieces-requires-clause-serving g c = record { bytes = []; parts = []; reading = c.new-conn.ensures.reading; few = c.new-conn.ensures.few }

pub returns-in_err-ended-clause-broken : goal.returns-in_err-ended-clause-broken
returns-in_err-ended-clause-broken g c = on_err c.from_residual.result (has_broken (place_of g.N.HubName.doors g.N.HubName.controller) c.pieces.new.conn _ _ _ _ c.in_err-ended.ensures.stopped)

pub returns-clause-served : goal.returns-clause-served
returns-clause-served g c = has_served (place_of g.N.HubName.doors g.N.HubName.controller) c.pieces.new.conn _ _ _ _ _ c.in_ok-ended.ensures.ran refl
