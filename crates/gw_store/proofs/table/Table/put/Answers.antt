-- A put at the place of the key.
use Rattle.std.proofs.Common.{◌∙◌, ap, set}
use Rattle.gw_store.proofs.Places.{put-standing, put-missing, ordered-set, ordered-insert, keys-insert, keys_after-set}
use Rattle.gw_store.proofs.table.Table.put.Goals as goal

pub set-requires-clause-table : goal.set-requires-clause-table
set-requires-clause-table g c =
    let place = rw (c.as_slice.ensures.value, c.key.ensures.value, c.deref.ensures) at c.in-Ok.ensures.place in
    let form = rw c.deref.ensures at c.key.ensures.form in
    rw (c.stored.ensures, ← c.self.view_is) (record { order = ordered-set g.T.Keyed.key _ _ _ c.self.invariant.order place; keys = keys_after-set g.T.Keyed.key _ _ _ c.self.invariant.keys form })

pub insert-requires-clause-table : goal.insert-requires-clause-table
insert-requires-clause-table g c =
    let place = rw (c.as_slice.ensures.value, c.key.ensures.value, c.deref.ensures) at c.in-Err.ensures.place in
    let form = rw c.deref.ensures at c.key.ensures.form in
    rw (c.stored-in-Err.ensures, ← c.self.view_is) (record { order = ordered-insert g.T.Keyed.key _ _ _ c.self.invariant.order place; keys = keys-insert g.T.Keyed.key _ _ _ c.self.invariant.keys form })

pub returns-in-Ok-clause-stored : goal.returns-in-Ok-clause-stored
returns-in-Ok-clause-stored g c =
    let place = rw (c.as_slice.ensures.value, c.key.ensures.value, c.deref.ensures) at c.in-Ok.ensures.place
    in rw (c.set.ensures.stored, c.stored.ensures, c.first-first.ensures, c.index.ensures, ← c.self.view_is) (put-standing g.T.Keyed.key _ _ _ _ _ place)

pub returns-in-Err-clause-stored : goal.returns-in-Err-clause-stored
returns-in-Err-clause-stored g c =
    let place = rw (c.as_slice.ensures.value, c.key.ensures.value, c.deref.ensures) at c.in-Err.ensures.place
    in rw (c.insert.ensures.stored, c.stored-in-Err.ensures, ← c.self.view_is) (put-missing g.T.Keyed.key _ _ _ _ place)
