-- What is read so far, then the rest, is all.
use Rattle.std.proofs.Common.{◌≡◌, map, drop}
use Rattle.gw_command.specs.Words.{after, doors_of}
use Rattle.gw_command.proofs.words.each_door.Given as goal

abbrev pub invariant-words : goal.invariant-words
invariant-words l =
    doors_of (map (λ word. word.now) l.words) ≡ after l.doors.items (doors_of (map (λ word. word.now) (drop l.word-index l.words)))
