-- A name in the middle is lower or higher, or is the one that is looked for.
use Rattle.std.proofs.Common.{◌≡◌, ◌+◌, ◌-◌, ◌/◌, ◌<◌, subst, ℕ, arith, length, rules}
use Rattle.std.specs.List.{AllWithin}
use Rattle.std.specs.declared.cmp.Ordering.TheVariants.{Less, Equal, Greater}
use Rattle.gw_stamp.proofs.Placing.{above_more, below_more, missing, standing}
use Rattle.gw_stamp.specs.Names.{name_order}
use Rattle.gw_stamp.proofs.place.place_in.Goals as goal

pub halves-preserved-in-Less : goal.halves-preserved-in-Less
halves-preserved-in-Less c =
    let list = c.args.list.now in
    let name = c.args.name.now in
    let middle = c.halves.low + (c.halves.high - c.halves.low) / 2 in
    let item = c.entry_at.result.now in
    let within : middle < length list = omega arith in
    let less : name_order item.name name ≡ Less = search rules in
    record {
      within = omega arith;
      ordered = omega arith;
      lower = below_more name list c.requires middle item within (c.entry_at.ensures item) less;
      higher = c.halves.invariant.higher;
    }

pub halves-preserved : goal.halves-preserved
halves-preserved c =
    let list = c.args.list.now in
    let name = c.args.name.now in
    let middle = c.halves.low + (c.halves.high - c.halves.low) / 2 in
    let item = c.entry_at.result.now in
    let within : middle < length list = omega arith in
    let greater : name_order item.name name ≡ Greater = search rules in
    record {
      within = omega arith;
      ordered = omega arith;
      lower = c.halves.invariant.lower;
      higher = above_more name list c.requires middle item within (c.entry_at.ensures item) greater;
    }

pub returns-in-Equal-clause-place : goal.returns-in-Equal-clause-place
returns-in-Equal-clause-place c =
    let list = c.args.list.now in
    let name = c.args.name.now in
    let middle = c.halves.low + (c.halves.high - c.halves.low) / 2 in
    let item = c.entry_at.result.now in
    let within : middle < length list = omega arith in
    let equal : name_order item.name name ≡ Equal = search rules in
    standing name list c.requires middle item within (c.entry_at.ensures item) equal

pub returns-clause-place : goal.returns-clause-place
returns-clause-place c =
    let list = c.args.list.now in
    let name = c.args.name.now in
    let same : c.halves.high ≡ c.halves.low = omega arith in
    missing name list c.requires c.halves.low (omega arith) c.halves.invariant.lower
    (subst (λ (i : ℕ). AllWithin (λ x. name_order x.name name ≡ Greater) list i (length list)) same c.halves.invariant.higher)
