-- When no slice is left, the sockets in the set are those of all slices, each once.
use Rattle.std.proofs.Common.{◌≡◌, drop, [], ◌∙◌, arith}
use Rattle.std.proofs.lemmas.List.{drop_all}
use Rattle.gw_text.specs.model.References.{sockets_of}
use Rattle.gw_backend.proofs.Inserts.{inserted}
use Rattle.gw_backend.proofs.sockets.gather.Goals as goal

pub returns : goal.returns
unfolding sockets_of
returns c =
    let none : drop c.slices.slice-index c.args.slices.now ≡ [] = drop_all c.slices.slice-index c.args.slices.now (omega arith) in
    let all = rw none at c.slices.invariant in
    all ∙ inserted _
