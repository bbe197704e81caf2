-- A key in the middle is lower or higher, or is the one that is looked for.
use Rattle.std.proofs.Common.{◌≡◌, ◌∙◌, sym, ap, ◌+◌, ◌-◌, ◌/◌, ◌<◌, arith, get_or, length, map, refl, rules}
use Rattle.std.proofs.lemmas.List.{get_or-map, length-map}
use Rattle.std.specs.declared.cmp.Ordering.TheVariants.{Less, Equal, Greater}
use Rattle.gw_text.specs.model.Names.{Key, key_order}
use Rattle.gw_text.proofs.Keys.{equal_exactly, key_total}
use Rattle.gw_cells.proofs.InOrder.{above_more, below_more}
use Rattle.gw_kept.proofs.Ordering.{higher_than, lower_than}
use Rattle.gw_kept.proofs.place.place_in.Goals as goal

pub halves-preserved-in-Less : goal.halves-preserved-in-Less
halves-preserved-in-Less g c =
    let key = g.T.Kept.key_of in
    let list = c.args.list.now in
    let name = c.formed-key.result.now in
    let middle = c.halves.low + (c.halves.high - c.halves.low) / 2 in
    let item = c.item_at.result.now in
    let within : middle < length list = omega arith in
    let at : key item ≡ get_or (map key list) middle (key item) = ap key (c.item_at.ensures item) ∙ sym (get_or-map key list middle item (key item) within) in
    let less : key_order (key item) name ≡ Less = search rules in
    record {
      within = omega arith;
      ordered = omega arith;
      lower = below_more key_order key_total name (map key list) middle (key item) c.requires (rw (length-map list key) within) at less;
      higher = c.halves.invariant.higher;
    }

pub halves-preserved : goal.halves-preserved
halves-preserved g c =
    let key = g.T.Kept.key_of in
    let list = c.args.list.now in
    let name = c.formed-key.result.now in
    let middle = c.halves.low + (c.halves.high - c.halves.low) / 2 in
    let item = c.item_at.result.now in
    let within : middle < length list = omega arith in
    let at : key item ≡ get_or (map key list) middle (key item) = ap key (c.item_at.ensures item) ∙ sym (get_or-map key list middle item (key item) within) in
    let greater : key_order (key item) name ≡ Greater = search rules in
    record {
      within = omega arith;
      ordered = omega arith;
      lower = c.halves.invariant.lower;
      higher = rw (← length-map list key) (above_more key_order key_total name (map key list) middle (key item) c.requires (rw (length-map list key) within) at greater);
    }

pub returns-in-Equal : goal.returns-in-Equal
returns-in-Equal g c =
    let key = g.T.Kept.key_of in
    let list = c.args.list.now in
    let name = c.args.key.now in
    let middle = c.halves.low + (c.halves.high - c.halves.low) / 2 in
    let item = c.item_at.result.now in
    let within : middle < length list = omega arith in
    let bound : middle < length (map key list) = rw (length-map list key) within in
    let equal : key_order (key item) name ≡ Equal = search rules in
    let same : key item ≡ name = (equal_exactly (key item) name (key_order (key item) name) c.key.ensures.form c.formed-key.ensures.form refl).0 equal in
    let own : (d : Key) → get_or (map key list) middle d ≡ name = λ d. get_or-map key list middle item d within ∙ sym (ap key (c.item_at.ensures item)) ∙ same in
    record {
      within = omega arith;
      lower = lower_than name (map key list) middle c.requires bound own;
      higher = rw (← length-map list key) (higher_than name (map key list) middle c.requires bound own);
      own = λ taken. own;
    }
