-- What a step of a connection leaves as it was, of all that it is lent.
use Rattle.std.specs.Prelude.{◌≡◌, ◌≤◌}
use Rattle.gw_link.specs.Pieces.{Keeps}
use Rattle.gw_link.specs.declared.link.Link.{Ghosts as LinkWords}
use Rattle.gw_link.specs.declared.upstream.Upstream.{Ghosts as UpstreamWords}
use Rattle.gw_snap.specs.Lists.{BeginsWith}
use Rattle.gw_worker.specs.model.Workers.{Worker}

-- A worker's pass has seen what it had seen, or more. Of the rest of it only the count of refused readings may change.
pub record PassStays (before after : Worker) : Type 0 where
  pub later : BeginsWith before.pass.seen after.pass.seen
  pub fixed : after.pass.fixed ≡ before.pass.fixed
  pub book : after.pass.book ≡ before.pass.book
  pub ahead : after.pass.ahead ≡ before.pass.ahead

-- Nothing is read of a link, and its count of faults never falls.
pub record LinkStays {K : Type 0} (k : LinkWords K) (before after : K) : Type 0 where
  pub unread : Keeps (k.left before) (k.left after)
  pub later : k.faults before ≤ k.faults after

-- An upstream has become what further calls make of it, and its count of faults never falls.
pub record UpstreamStays {U : Type 0} (u : UpstreamWords U) (before after : U) : Type 0 where
  pub later : u.faults before ≤ u.faults after
  pub becomes : u.becomes before after
