-- The digits so far are above the most.
use Rattle.std.proofs.Common.{◌≡◌, ◌+◌, ◌<◌, true, length, get_or, drop, arith, subst, ℕ}
use Rattle.std.proofs.lemmas.List.{drop_more}
use Rattle.std.proofs.lemmas.List.Sums.{AllPass-from_list_all}
use Rattle.std.specs.Char.{is_ascii_digit}
use Rattle.gw_messages.proofs.Numbers.{above}
use Rattle.gw_messages.proofs.number.number_up_to.Goals as goal

pub returns-then-number-most : goal.returns-then-number-most
returns-then-number-most c =
    let inside : c.digits.digit-index < length c.args.digits.now = omega arith in
    let is_digit : is_ascii_digit (get_or c.args.digits.now c.digits.digit-index 0) ≡ true = AllPass-from_list_all is_ascii_digit c.args.digits.now c.requires.digits c.digits.digit-index 0 inside in
    subst (λ (n : ℕ). c.args.most < n) (rw (drop_more c.args.digits.now c.digits.digit-index 0 inside) at c.digits.invariant.value)
    (above c.args.most c.digits.number (get_or c.args.digits.now c.digits.digit-index 0) (drop (c.digits.digit-index + 1) c.args.digits.now) is_digit (omega arith))
