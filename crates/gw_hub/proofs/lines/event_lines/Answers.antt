-- The pieces that the line feeds leave, without the blank ones.
use Rattle.std.proofs.Common.{not, rules, tests}
use Rattle.std.proofs.lemmas.Iterator.Consumers.{YieldsList-at, YieldsList-from_filter, map_from_collect}
use Rattle.std.proofs.lemmas.Iterator.Splits.{YieldsList-from_slice_split}
use Rattle.gw_store.specs.Lines.{is_blank}
use Rattle.gw_hub.proofs.lines.event_lines.Goals as goal

pub returns : goal.returns
returns c =
    let pieces = YieldsList-from_slice_split _ _ c.args.input.now c.split.ensures.rest c.split.ensures.done c.split.ensures.closure (λ x r q k. search (rules, tests)) in
    map_from_collect _ c.collect.ensures.ran (YieldsList-from_filter _ (λ line. not (is_blank line)) (YieldsList-at c.filter.ensures.source pieces) c.filter.ensures.closure (λ x r q k. search (rules, tests)))
