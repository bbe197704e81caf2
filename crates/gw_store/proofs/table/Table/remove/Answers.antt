-- A removal at the place of the key.
use Rattle.gw_store.proofs.Places.{remove-standing, remove-missing, ordered-remove, keys-remove}
use Rattle.gw_store.proofs.table.Table.remove.Goals as goal

pub remove_at-requires-clause-table : goal.remove_at-requires-clause-table
remove_at-requires-clause-table g c =
    rw (← c.self.view_is) (record { order = ordered-remove g.T.Keyed.key _ _ c.self.invariant.order; keys = keys-remove g.T.Keyed.key _ _ c.self.invariant.keys })

pub returns-in-Ok-clause-stored : goal.returns-in-Ok-clause-stored
returns-in-Ok-clause-stored g c =
    let place = rw c.as_slice.ensures.value at c.in-Ok.ensures.place
    in rw (c.remove_at.ensures.stored, ← c.self.view_is) (remove-standing g.T.Keyed.key c.args.key.now _ _ place)

pub returns-in-Err-clause-stored : goal.returns-in-Err-clause-stored
returns-in-Err-clause-stored g c =
    let place = rw c.as_slice.ensures.value at c.in-Err.ensures.place
    in rw (← c.self.view_is) (remove-missing g.T.Keyed.key c.args.key.now _ _ place)
