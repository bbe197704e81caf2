-- What a step of a polled connection leaves of its link as it was.
use Rattle.std.specs.Prelude.{◌≡◌, ◌≤◌}
use Rattle.gw_link.specs.Pieces.{Keeps}
use Rattle.gw_polling.specs.Polls.{NoneCame}
use Rattle.gw_polling.specs.declared.poll_link.PollLink.{Ghosts as LinkWords}

-- Nothing is read of a link, its end neither; no mark came; it is the same source, and its counts of faults and of waits never fall.
pub record LinkStays {K : Type 0} (k : LinkWords K) (before after : K) : Type 0 where
  pub unread : Keeps (k.left before) (k.left after)
  pub unended : Keeps (k.end before) (k.end after)
  pub unmarked : NoneCame (k.marks before) (k.marks after)
  pub same : k.source after ≡ k.source before
  pub later : k.faults before ≤ k.faults after
  pub unread_waits : k.read_waits after ≡ k.read_waits before
  pub write_waits : k.write_waits before ≤ k.write_waits after

-- The same of a link that may be read.
pub record LinkGoesOn {K : Type 0} (k : LinkWords K) (before after : K) : Type 0 where
  pub unended : Keeps (k.end before) (k.end after)
  pub unmarked : NoneCame (k.marks before) (k.marks after)
  pub same : k.source after ≡ k.source before
  pub later : k.faults before ≤ k.faults after
  pub read_waits : k.read_waits before ≤ k.read_waits after
  pub write_waits : k.write_waits before ≤ k.write_waits after
