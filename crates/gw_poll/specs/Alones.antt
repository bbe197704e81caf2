-- What a connection comes to that has its worker for itself.
use Rattle.std.specs.Prelude.{ℕ, List, Option, Some, Result, Ok, Err}
use Rattle.gw_answers.specs.model.ServedRows.{ServedRow}
use Rattle.gw_frames.specs.declared.ended.Ended.{Ended}
use Rattle.gw_link.specs.declared.order.UpstreamCall.{UpstreamCall}
use Rattle.gw_text.specs.model.Addresses.{Socket}
use Rattle.gw_worker.specs.Flows.{Outside}
use Rattle.gw_worker.specs.Workers.{IsAt}
use Rattle.gw_worker.specs.declared.serve.ConnFault.{ConnFault}
use Rattle.gw_worker.specs.model.Sessions.{Place}
use Rattle.gw_worker.specs.model.Workers.{Worker}
use Rattle.gw_poll.specs.Courses.{Follows, GivesUp}
use Rattle.gw_poll.specs.Histories.{History, IsSession, Went}
use Rattle.gw_poll.specs.declared.course.Course.{Course}

-- It went on to its end: the history continued is a whole session.
pub record IsServed (refuses : UpstreamCall → Socket → Type 0) (p : Place) (w w' : Worker) (rows : List ServedRow) (h : History) (left left' : Option (List ℕ)) (o o' : Outside) (why : Ended) : Type 0 where
  pub h' : History
  pub went : Went refuses p w w' h h' left left' o o'
  pub session : IsSession p h' rows (Some why)

-- Each history for which it stood is served to its end, or it is given up behind it.
abbrev pub ComesTo : (UpstreamCall → Socket → Type 0) → Worker → Worker → Course → Course → Option (List ℕ) → Option (List ℕ) → Outside → Outside → Result Ended ConnFault → Type 0
ComesTo refuses w w' c c' left left' o o' (Ok why) = (p : Place) (h : History) → IsAt w p → Follows p c h → IsServed refuses p w w' c'.conn.rows h left left' o o' why
ComesTo refuses w w' c c' left left' o o' (Err fault) = (p : Place) (h : History) → IsAt w p → Follows p c h → GivesUp refuses p w w' c' h left left' o o'
