-- What stands before one that is below is below too, and what stands behind one that is above is above.
use Rattle.std.proofs.Common.{◌≡◌, sym, ◌+◌, ◌-◌, ◌/◌, ◌<◌, arith, length}
use Rattle.std.specs.declared.cmp.Ordering.TheVariants.{Less, Greater}
use Rattle.gw_rows.proofs.Ordered.{is_total}
use Rattle.gw_rows.specs.model.Precedence.{precedence}
use Rattle.gw_cells.specs.Cells.{rows_in}
use Rattle.gw_cells.proofs.InOrder.{above_more, below_more}
use Rattle.gw_cells.proofs.rows.place_in.Goals as goal

pub halves-preserved-in-Less : goal.halves-preserved-in-Less
halves-preserved-in-Less c =
    let cell = rows_in c.args.cell.now in
    let row = c.args.row.now in
    let middle = c.halves.low + (c.halves.high - c.halves.low) / 2 in
    let within : middle < length cell = omega arith in
    let less : precedence c.at.result.now row ≡ Less = sym c.in-Less.ensures.value in
    record {
      within = omega arith;
      ordered = omega arith;
      below = λ sorted. below_more precedence is_total row cell middle c.at.result.now sorted within c.at.ensures less;
      above = c.halves.invariant.above;
    }

pub halves-preserved : goal.halves-preserved
halves-preserved c =
    let cell = rows_in c.args.cell.now in
    let row = c.args.row.now in
    let middle = c.halves.low + (c.halves.high - c.halves.low) / 2 in
    let within : middle < length cell = omega arith in
    let greater : precedence c.at.result.now row ≡ Greater = sym c.in-Greater.ensures.value in
    record {
      within = omega arith;
      ordered = omega arith;
      below = c.halves.invariant.below;
      above = λ sorted. above_more precedence is_total row cell middle c.at.result.now sorted within c.at.ensures greater;
    }
