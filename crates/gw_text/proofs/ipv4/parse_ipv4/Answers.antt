use Rattle.std.proofs.Common.{◌∙◌}
use Rattle.gw_text.proofs.Sockets.{ipv4_parsed}
use Rattle.gw_text.proofs.ipv4.parse_ipv4.Goals as goal

pub returns : goal.returns
returns c = c.ok.ensures.value ∙ ipv4_parsed c.args.text.now c.parse_ascii.result c.parse_ascii.ensures
