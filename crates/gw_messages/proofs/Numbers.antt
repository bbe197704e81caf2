-- Numbers in digits.
use Rattle.std.proofs.Common.{◌≡◌, ℕ, ◌+◌, ◌*◌, ◌-◌, ◌≤◌, ◌<◌, true, List, [], ◌∷◌, arith}
use Rattle.std.specs.Char.{digit_value, is_ascii_digit}
use Rattle.std.proofs.lemmas.Bool.Decides.{nat_tests}
use Rattle.std.specs.Str.Parse.{digits_value_after}

-- further digits don't make it smaller
pub after_least : (n : ℕ) (ds : List ℕ) → n ≤ digits_value_after 10 n ds
after_least n [] = omega arith
after_least n (d ∷ ds) = omega (arith, after_least (n * 10 + digit_value d) ds)

digit_is : (c : ℕ) → is_ascii_digit c ≡ true → digit_value c ≡ c - 48
digit_is c e = grind (arith, nat_tests)

-- a front that is above a number, with any digits behind it
pub above : (most number d : ℕ) (rest : List ℕ) → is_ascii_digit d ≡ true → most < number * 10 + (d - 48) → most < digits_value_after 10 number (d ∷ rest)
above most number d rest is_digit more =
    omega (arith, after_least (number * 10 + digit_value d) rest, digit_is d is_digit)
