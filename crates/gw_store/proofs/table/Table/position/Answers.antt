-- The objects of the key are those at its place.
use Rattle.std.proofs.Common.{sym}
use Rattle.gw_store.proofs.Places.{same_at, same_nowhere, found_at, stands_within, stored-missing}
use Rattle.gw_store.proofs.table.Table.position.Goals as goal

pub returns-in-Ok-clause-place : goal.returns-in-Ok-clause-place
returns-in-Ok-clause-place g c =
    let place = rw c.as_slice.ensures.value at c.in-Ok.ensures.place
    in rw (← c.self.view_is) (λ i d within. same_at g.T.Keyed.key c.args.key.now _ _ i d place within)

pub returns-in-Ok-clause-found : goal.returns-in-Ok-clause-found
returns-in-Ok-clause-found g c =
    let place = rw c.as_slice.ensures.value at c.in-Ok.ensures.place
    in rw (← c.self.view_is) (found_at g.T.Keyed.key c.args.key.now _ _ place)

pub returns-in-Err-clause-place : goal.returns-in-Err-clause-place
returns-in-Err-clause-place g c =
    let place = rw c.as_slice.ensures.value at c.in-Err.ensures.place
    in rw (← c.self.view_is) (λ i d within. same_nowhere g.T.Keyed.key c.args.key.now _ _ i d place within)

pub returns-in-Err-clause-found : goal.returns-in-Err-clause-found
returns-in-Err-clause-found g c =
    let place = rw c.as_slice.ensures.value at c.in-Err.ensures.place
    in rw (← c.self.view_is) (sym (stored-missing g.T.Keyed.key c.args.key.now _ _ place))

pub returns-in-Ok-clause-within : goal.returns-in-Ok-clause-within
returns-in-Ok-clause-within g c =
    let place = rw c.as_slice.ensures.value at c.in-Ok.ensures.place
    in rw (← c.self.view_is) (stands_within g.T.Keyed.key c.args.key.now _ _ place)
