-- The script is within the limit of an input, and it is written or run.
use Rattle.std.proofs.Common.{◌≡◌, ◌≤◌, ◌+◌, ◌*◌, length, arith, ap}
use Rattle.gw_command.specs.Words.{GenerateWords}
use Rattle.gateward.proofs.output.generation_output.Goals as goal

pub run_output-requires : goal.run_output-requires
run_output-requires g c =
    let routes : c.words.inside.routes ≡ c.args.words.routes = ap (λ (w : GenerateWords). w.routes) c.words.view_is in
    let requests : c.words.inside.requests ≡ c.args.words.requests = ap (λ (w : GenerateWords). w.requests) c.words.view_is in
    let size : length c.in_ok-script.script ≤ 1024 + 512 * c.words.inside.routes + 256 * c.words.inside.requests = c.in_ok-script.ensures.size in
    let few : c.args.words.routes ≤ 4000 = c.requires.few in
    let most : c.args.words.requests ≤ 100000 = c.requires.requests in
    rw c.bytes.ensures (omega (arith, size, routes, requests, few, most))
