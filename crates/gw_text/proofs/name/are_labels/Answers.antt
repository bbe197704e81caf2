use Rattle.std.proofs.Common.{rules, tests}
use Rattle.std.proofs.lemmas.Iterator.Search.{all_from_yields_List}
use Rattle.std.proofs.lemmas.Iterator.Splits.{YieldsList-from_slice_split}
use Rattle.gw_text.specs.model.Forms as forms
use Rattle.gw_text.proofs.name.are_labels.Goals as goal

pub returns : goal.returns
returns c = all_from_yields_List forms.is_label _ _ _ c.all.ensures.ran
    (YieldsList-from_slice_split _ forms.is_dot c.args.text.now c.split.ensures.rest c.split.ensures.done c.split.ensures.closure (λ x r q k. search (rules, tests)))
    (λ x b q k. search (rules, tests))
