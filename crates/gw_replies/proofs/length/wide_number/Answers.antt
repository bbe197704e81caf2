-- The digits so far are above the most.
use Rattle.std.proofs.Common.{◌≡◌, ℕ, ◌+◌, ◌*◌, ◌-◌, ◌<◌, ◌≤◌, Option, MatchOption, length, get_or, arith, sym, subst}
use Rattle.std.specs.Str.Parse.{digits_value}
use Rattle.gw_replies.proofs.Lengths.{above_here}
use Rattle.gw_replies.proofs.length.wide_number.Goals as goal

pub returns-in_err-checked_mul : goal.returns-in_err-checked_mul
returns-in_err-checked_mul c =
    let inside : c.digits.digit-index < length c.args.digits.now = omega arith in
    let more : 18446744073709551615 < c.digits.number * 10 + (get_or c.args.digits.now c.digits.digit-index 0 - 48) = omega (arith, c.in_err-checked_mul.ensures) in
    subst (λ (r : Option ℕ). MatchOption r (18446744073709551615 < digits_value 10 c.args.digits.now) (λ n. (n ≤ 18446744073709551615) × (n ≡ digits_value 10 c.args.digits.now))) (sym c.from_residual.ensures)
    (above_here 18446744073709551615 c.digits.number c.digits.digit-index c.args.digits.now inside c.requires c.digits.invariant.value more)

pub returns-in_err-number : goal.returns-in_err-number
returns-in_err-number c =
    let inside : c.digits.digit-index < length c.args.digits.now = omega arith in
    let more : 18446744073709551615 < c.digits.number * 10 + (get_or c.args.digits.now c.digits.digit-index 0 - 48) = omega (arith, c.in_err-number.ensures, c.in_ok-checked_mul.ensures, c.from.ensures) in
    subst (λ (r : Option ℕ). MatchOption r (18446744073709551615 < digits_value 10 c.args.digits.now) (λ n. (n ≤ 18446744073709551615) × (n ≡ digits_value 10 c.args.digits.now))) (sym c.from_residual-in_err-number.ensures)
    (above_here 18446744073709551615 c.digits.number c.digits.digit-index c.args.digits.now inside c.requires c.digits.invariant.value more)
