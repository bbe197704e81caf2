-- The line is written piece by piece.
use Rattle.std.proofs.Common.{string_bytes}
use Rattle.gw_generate.proofs.Writing.{request_written}
use Rattle.gw_generate.proofs.line.push_send.Goals as goal

pub returns-clause-line : goal.returns-clause-line
returns-clause-line c =
    request_written (string_bytes c.args.script.now) (string_bytes c.push_numbered.new.script) (string_bytes c.push_numbered-2.new.script) (string_bytes c.push_numbered-3.new.script)
    (string_bytes c.push_str.new.self) (string_bytes c.push_host.new.script) (string_bytes c.push_str-2.new.self) (string_bytes c.push_str-3.new.self) c.args.number c.args.route c.args.digit
    c.in_ok-push_numbered.ensures.text c.in_ok-push_numbered-2.ensures.text c.in_ok-push_numbered-3.ensures.text c.in_ok-push_str.ensures.bytes c.in_ok-push_host.ensures.host
    c.in_ok-push_str-2.ensures.bytes c.in_ok-push_str-3.ensures.bytes
