-- An open connection of a crowd, and its number.
use Rattle.std.specs.Prelude.{ℕ}
use Rattle.gw_poll.specs.declared.conn_future.ConnFuture.{ConnFuture}

pub record Member (K U : Type 0) : Type 0 where
  pub number : ℕ
  pub conn : ConnFuture K U
