use Rattle.std.proofs.Common.{◌≤◌, ◌<◌, length, ◌∙◌, sym, arith}
use Rattle.std.proofs.lemmas.List.{length-take-le}
use Rattle.gw_link.proofs.LinkLemmas.{in_one_piece_some, in_one_piece_within}
use Rattle.gw_link.proofs.mem_link.MemLinkLink.read.Goals as goal

pub slice_bounds-read-end : goal.slice_bounds-read-end
slice_bounds-read-end c = rw c.in_one_piece-size.ensures (in_one_piece_within c.args.self.now (length c.args.buf.now))

pub slice_bounds-read-end-2 : goal.slice_bounds-read-end-2
slice_bounds-read-end-2 c =
    let within : c.in_one_piece-size.result ≤ length c.args.buf.now =
    rw c.in_one_piece-size.ensures (in_one_piece_within c.args.self.now (length c.args.buf.now)) in
    sym (length-take-le c.in_one_piece-size.result c.args.buf.now within)

pub read-requires : goal.read-requires
read-requires c =
    let within : c.in_one_piece-size.result ≤ length c.args.buf.now =
    rw c.in_one_piece-size.ensures (in_one_piece_within c.args.self.now (length c.args.buf.now)) in
    let some : 0 < c.in_one_piece-size.result =
    rw c.in_one_piece-size.ensures (in_one_piece_some c.args.self.now (length c.args.buf.now) c.requires) in
    omega (arith, length-take-le c.in_one_piece-size.result c.args.buf.now within)

pub returns-clause-size : goal.returns-clause-size
returns-clause-size c =
    let within : c.in_one_piece-size.result ≤ length c.args.buf.now =
    rw c.in_one_piece-size.ensures (in_one_piece_within c.args.self.now (length c.args.buf.now)) in
    let size = length-take-le c.in_one_piece-size.result c.args.buf.now within ∙ c.in_one_piece-size.ensures in
    rw (← size, ← c.self.view_is) c.read.ensures.size

pub returns-clause-after : goal.returns-clause-after
returns-clause-after c =
    let within : c.in_one_piece-size.result ≤ length c.args.buf.now =
    rw c.in_one_piece-size.ensures (in_one_piece_within c.args.self.now (length c.args.buf.now)) in
    let size = length-take-le c.in_one_piece-size.result c.args.buf.now within ∙ c.in_one_piece-size.ensures in
    rw (← size, ← c.self.view_is, c.read.ensures.after)
