-- A text that isn't parsed is no number below the count.
use Rattle.std.proofs.Common.{◌∙◌, sym}
use Rattle.gw_requests.proofs.Numbers.{not_read}
use Rattle.gw_requests.proofs.number.number_below.Goals as goal

pub returns-in_default-2-clause-number : goal.returns-in_default-2-clause-number
returns-in_default-2-clause-number c =
    not_read c.args.count c.args.word.now c.parse.result c.in_default.field-0 c.ranges.count.fits
    (rw (← c.as_bytes.ensures.value) (sym c.is_decimal.ensures ∙ c.if-not-is_decimal.false)) c.parse.ensures.value.0 c.in_default.is
