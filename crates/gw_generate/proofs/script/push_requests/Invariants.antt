-- What is written so far, then the rest of the requests, is all.
use Rattle.std.proofs.Common.{◌≡◌, ◌≤◌, ◌+◌, ◌*◌, ◌++◌, length, drop, string_bytes}
use Rattle.std.specs.List.{enumerate_from, flat_map}
use Rattle.gw_generate.specs.Lines.{request_lines}
use Rattle.gw_generate.specs.Scripts.{text_of}
use Rattle.gw_generate.proofs.script.push_requests.Given as goal

abbrev pub invariant-picks : goal.invariant-picks
invariant-picks l = record {
  lines : string_bytes l.script ++ flat_map (λ request. text_of (request_lines (length l.picks) l.digits request)) (enumerate_from l.number (drop l.number l.picks))
      ≡ string_bytes l.fn.script ++ flat_map (λ request. text_of (request_lines (length l.picks) l.digits request)) (enumerate_from 0 l.picks);
  size : length (string_bytes l.script) ≤ length (string_bytes l.fn.script) + 256 * l.number;
}
