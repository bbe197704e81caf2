-- What std parses of the digits of a seed.
use Rattle.std.proofs.Common.{◌≡◌, ◌^◌, ℕ, true, false, List, Some, None, Result, Ok, Err, cond, Bool, nat_lt, refl, arith}
use Rattle.std.specs.Result.{result_ok}
use Rattle.std.specs.Str.Parse.{digits_value, ParsesUnsigned}
use Rattle.std.proofs.lemmas.Bool.{ltb-true}
use Rattle.std.proofs.lemmas.Bool.Decides.{nat_tests}
use Rattle.std.proofs.lemmas.Str.Parse.{parse_digits}
use Rattle.gw_text.proofs.Decimals.{both, digits, some_digit}
use Rattle.gw_text.specs.model.Addresses.{is_decimal}
use Rattle.gw_requests.specs.Numbers.{number_below}

none_if : (b : Bool) (x : ℕ) → (b ≡ true → ⊥) → cond b (Some x) None ≡ None
none_if true x h = absurd (h refl)
none_if false x h = refl

-- each number of 64 bits is a seed
pub seed_parsed : {E : Type 0} (t : List ℕ) (r : Result ℕ E) → is_decimal t ≡ true → ParsesUnsigned 64 10 t r → number_below (2 ^ 64) t ≡ result_ok r
unfolding number_below
seed_parsed {E = E} t (Ok n) plain h =
    let k = parse_digits digits {E = E} 64 t (Ok n) h (both _ _ plain).0 in
    let fits : nat_lt (digits_value 10 t) (2 ^ 64) ≡ true = grind (arith, nat_tests, k.0.1) in
    rw (plain, fits, k.1)
seed_parsed {E = E} t (Err e) plain h =
    let k = parse_digits digits {E = E} 64 t (Err e) h (both _ _ plain).0 in
    none_if _ (digits_value 10 t) (λ passes. k (some_digit t plain, ltb-true (digits_value 10 t) (2 ^ 64) (both _ _ passes).1))

-- and other words are none
pub no_digits : (t : List ℕ) → is_decimal t ≡ false → number_below (2 ^ 64) t ≡ None
unfolding number_below
no_digits t other = rw other refl
