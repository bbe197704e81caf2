use Rattle.std.proofs.Common.{◌≡◌, ◌∙◌, ap, subst, append_assoc, arith, rules}
use Rattle.gw_text.specs.model.Addresses.{socket_of, socket_text}
use Rattle.gw_text.proofs.Sockets.{IsInRange, socket_of-socket_text}
use Rattle.gw_text.proofs.socket.Socket.print.Goals as goal

pub returns : goal.returns
returns c =
    let text : c.from_vec.result ≡ socket_text c.args.self.now = simp append_assoc (search rules) in
    let in_range : IsInRange c.args.self.now = subst IsInRange c.self.view_is (record { a = omega arith; b = omega arith; c = omega arith; d = omega arith; port = omega arith }) in
    record { text = text; parsed = ap socket_of text ∙ socket_of-socket_text c.args.self.now in_range }
