use Rattle.std.proofs.Common.{◌∙◌, rules}
use Rattle.gw_text.proofs.Decimals.{port_parsed}
use Rattle.gw_text.proofs.socket.port_of.Goals as goal

pub returns : goal.returns
returns c = c.ok.ensures.value ∙ port_parsed c.args.s.now c.parse.result (search rules) c.parse.ensures.value.0
