-- A task as contracts see it.
use Rattle.gw_command.specs.Starts.{Task, a_status, an_explanation, a_replay, a_generation, a_service}
use Rattle.gw_command.specs.declared.task.Task.{Task as Held}
use Rattle.gw_command.specs.declared.task.Task.TheVariants.{Status, Explanation, Replay, Generate, Serve}

abbrev pub seen_task : Held → Task
seen_task Status = a_status
seen_task (Explanation at q) = an_explanation at q
seen_task (Replay workers polled) = a_replay workers polled
seen_task (Generate words) = a_generation words
seen_task (Serve workers conns admin polled) = a_service workers conns admin polled
