use Rattle.gw_forms.proofs.FormLemmas.{token_is}
use Rattle.gw_forms.proofs.predicate.is_token.Goals as goal

pub returns : goal.returns
returns c = token_is c.is_token.result c.args.text.now c.is_token.ensures
