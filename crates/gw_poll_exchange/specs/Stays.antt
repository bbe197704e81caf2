-- What a step of an exchange that is polled leaves of its upstream as it was.
use Rattle.std.specs.Prelude.{◌≡◌, ◌≤◌}
use Rattle.gw_polling.specs.Polls.{NoneCame}
use Rattle.gw_polling.specs.declared.poll_upstream.PollUpstream.{Ghosts as UpstreamWords}

-- An upstream has become what further polls make of it: no mark came; it is the same source, and its counts never fall.
pub record UpstreamStays {U : Type 0} (u : UpstreamWords U) (before after : U) : Type 0 where
  pub becomes : u.becomes before after
  pub unmarked : NoneCame (u.marks before) (u.marks after)
  pub same : u.source after ≡ u.source before
  pub later : u.faults before ≤ u.faults after
  pub waits : u.waits before ≤ u.waits after
