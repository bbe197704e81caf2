-- What a call answers that reads words.
use Rattle.std.specs.Prelude.{◌≡◌, ◌*◌, ◌<◌, ◌≤◌, ⊤, length, Option, None, Some, Result, Ok, Err}
use Rattle.gw_command.specs.declared.words.UsageFault.{UsageFault}
use Rattle.gw_command.specs.declared.words.UsageFault.TheVariants.{Usage, NoMemory}
use Rattle.gw_command.specs.declared.words.Command.{Command as Read}
use Rattle.gw_command.specs.declared.words.Command.TheVariants.{Status, Explain, Replay, Generate, Serve}
use Rattle.gw_command.specs.Words.{Command, status, explain, replay, generate, serve, most_workers, most_routes, most_requests}

-- What the words give, unless memory ran out; Usage only where they give nothing.
abbrev pub Reads : {X Y : Type 0} → (X → Y) → Option Y → Result X UsageFault → Type 0
Reads view given (Ok x) = given ≡ Some (view x)
Reads view given (Err Usage) = given ≡ None
Reads view given (Err NoMemory) = Unit {0}

-- A command as contracts see it.
abbrev pub seen : Read → Command
seen (Status words) = status words
seen (Explain words) = explain words
seen (Replay words) = replay words
seen (Generate words) = generate words
seen (Serve words) = serve words

-- The numbers that a command is given are within their bounds: a door of the number is among the doors that it is given, and
-- there is a worker, and no more than there may be, of all doors together where they are served. A script has a Route, and no more Routes
-- and requests than it may have.
abbrev pub IsWithin : Read → Type 0
IsWithin (Status words) = ⊤
IsWithin (Explain words) = words.at < length words.doors
IsWithin (Replay words) = (0 < words.workers) × (words.workers ≤ most_workers)
IsWithin (Generate words) = (0 < words.routes) × (words.routes ≤ most_routes) × (words.requests ≤ most_requests)
IsWithin (Serve words) = (0 < words.workers) × (words.workers * length words.doors ≤ most_workers)
