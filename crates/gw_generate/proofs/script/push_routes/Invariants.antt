-- What is written so far, then the rest of the Routes, is all.
use Rattle.std.proofs.Common.{◌≡◌, ◌≤◌, ◌+◌, ◌*◌, ◌++◌, length, drop, string_bytes}
use Rattle.std.specs.List.{enumerate_from, flat_map}
use Rattle.gw_generate.specs.Lines.{route_lines}
use Rattle.gw_generate.specs.Scripts.{text_of}
use Rattle.gw_generate.proofs.script.push_routes.Given as goal

abbrev pub invariant-digits : goal.invariant-digits
invariant-digits l = record {
  lines : string_bytes l.script ++ flat_map (λ route. text_of (route_lines (length l.digits) route)) (enumerate_from l.number (drop l.number l.digits))
      ≡ string_bytes l.fn.script ++ flat_map (λ route. text_of (route_lines (length l.digits) route)) (enumerate_from 0 l.digits);
  size : length (string_bytes l.script) ≤ length (string_bytes l.fn.script) + 512 * l.number;
}
