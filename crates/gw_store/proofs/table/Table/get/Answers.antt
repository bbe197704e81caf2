-- The object of the key, or none, by the place of the key.
use Rattle.std.proofs.Common.{ap, ◌∙◌, Some}
use Rattle.gw_store.proofs.Places.{stored-standing, stored-missing}
use Rattle.gw_store.proofs.table.Table.get.Goals as goal

pub returns-in-Ok : goal.returns-in-Ok
returns-in-Ok g c =
    let place = rw c.as_slice.ensures.value at c.in-Ok.ensures.place
    in rw (← c.self.view_is) (ap Some c.index.ensures ∙ stored-standing g.T.Keyed.key c.args.key.now _ _ _ place)

pub returns-in-Err : goal.returns-in-Err
returns-in-Err g c =
    let place = rw c.as_slice.ensures.value at c.in-Err.ensures.place
    in rw (← c.self.view_is) (stored-missing g.T.Keyed.key c.args.key.now _ _ place)
