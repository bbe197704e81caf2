-- Decimal numbers: what std parses of a text of digits, and that each number is written by its decimal alone.
use Rattle.std.proofs.Common.{◌≡◌, ℕ, ◌+◌, ◌^◌, ◌<◌, ◌≤◌, ◌&&◌, ◌||◌, ◌==◌, Bool, true, false, List, [], ◌∷◌, length, get_or, inl, inr, refl, sym, arith, nat_le, Some, None, Result, Ok, Err}
use Rattle.std.specs.Char.{is_ascii_digit}
use Rattle.std.specs.Fmt.{decimal}
use Rattle.std.specs.List.{list_all}
use Rattle.std.specs.Result.{result_ok}
use Rattle.std.specs.Str.Parse.{digits_value, ParsesUnsigned}
use Rattle.std.proofs.NetLemmas.Options.{cond_some}
use Rattle.std.proofs.lemmas.Bool.{cases_lt}
use Rattle.std.proofs.lemmas.Bool.Decides.{nat_tests}
use Rattle.std.proofs.lemmas.Fmt.{decimal_digit, digits_decimal, digits_value-decimal, decimal-digits_value, first_decimal}
use Rattle.std.proofs.lemmas.Str.Parse.{IsNumeralModel, numerals_by_value, parse_digits}
use Rattle.gw_text.specs.model.Addresses.{is_leading, is_decimal, number_up_to, port_of}

pub digits : IsNumeralModel (λ ds. list_all is_ascii_digit ds ≡ true) (digits_value 10)
digits = numerals_by_value _ (record { empty = refl; parts = λ c cs h. grind (arith, nat_tests); more = λ c cs h k. grind (arith, nat_tests) })

pub both : (a b : Bool) → (a && b) ≡ true → (a ≡ true) × (b ≡ true)
both true b e = (refl, e)
both false b e = cc

pub some_digit : (t : List ℕ) → is_decimal t ≡ true → 0 < length t
some_digit [] e = cc
some_digit (b ∷ t) e = omega arith

pub port_parsed : {E : Type 0} (t : List ℕ) (r : Result ℕ E) → is_decimal t ≡ true → ParsesUnsigned 16 10 t r → result_ok r ≡ port_of t
unfolding number_up_to
port_parsed {E = E} t (Ok n) plain h =
    let k = parse_digits digits {E = E} 16 t (Ok n) h (both _ _ plain).0 in
    let fits : nat_le (digits_value 10 t) 65535 ≡ true = grind (arith, nat_tests, k.0.1) in
    rw (plain, fits, k.1)
port_parsed {E = E} t (Err e) plain h =
    let k = parse_digits digits {E = E} 16 t (Err e) h (both _ _ plain).0 in
    elim (nat_le (digits_value 10 t) 65535) as (λ b. nat_le (digits_value 10 t) 65535 ≡ b → None ≡ port_of t) [
      | true ↦ λ fits. absurd (k (some_digit t plain, grind (arith, nat_tests)))
      | false ↦ λ fits. rw (plain, fits)
    ] refl

or_true : (b : Bool) → (b || true) ≡ true
or_true true = refl
or_true false = refl

is_decimal-above : (t : List ℕ) → list_all is_ascii_digit t ≡ true → 48 < get_or t 0 0 → is_decimal t ≡ true
is_decimal-above [] all above = absurd (omega (arith, above))
is_decimal-above (b ∷ t) all above =
    let k = both (is_ascii_digit b) (list_all is_ascii_digit t) all in
    let other : (b == 48) ≡ false = grind (arith, nat_tests, above) in
    rw (k.0, k.1, other) (or_true _)

is_decimal-digit : (n : ℕ) → n < 10 → is_decimal ((48 + n) ∷ []) ≡ true
is_decimal-digit n h = let digit : is_ascii_digit (48 + n) ≡ true = grind (arith, nat_tests) in rw digit

is_decimal-decimal : (n : ℕ) → n < 2 ^ 64 → is_decimal (decimal n) ≡ true
is_decimal-decimal n h =
    elim (cases_lt n 10) [
      | inl one ↦ rw (decimal_digit n one) (is_decimal-digit n one)
      | inr more ↦ is_decimal-above (decimal n) (digits_decimal digits n h) (first_decimal n (omega arith) h)
    ]

-- A number is written by its decimal,
pub number_up_to-decimal : (limit n : ℕ) → limit < 2 ^ 64 → n ≤ limit → number_up_to limit (decimal n) ≡ Some n
unfolding number_up_to
number_up_to-decimal limit n small h =
    let value : digits_value 10 (decimal n) ≡ n = digits_value-decimal digits n (omega arith) in
    let fits : nat_le n limit ≡ true = grind (arith, nat_tests) in
    rw (is_decimal-decimal n (omega arith), value, fits)

one_digit : (t : List ℕ) → (length t == 1 || is_leading (get_or t 0 0)) ≡ true → get_or t 0 0 ≡ 48 → length t ≡ 1
one_digit t plain zero_first = let k : (length t == 1 || is_leading 48) ≡ true = rw zero_first at plain in grind (arith, nat_tests)

-- and by no other text.
pub decimal-number_up_to : (limit n : ℕ) (t : List ℕ) → limit < 2 ^ 64 → number_up_to limit t ≡ Some n → (n ≤ limit) × (t ≡ decimal n)
unfolding number_up_to
decimal-number_up_to limit n t small e =
    let some = cond_some _ (digits_value 10 t) n e in
    let k = both (is_decimal t) (nat_le (digits_value 10 t) limit) some.0 in
    let plain = both (list_all is_ascii_digit t) _ k.0 in
    let fits : digits_value 10 t ≤ limit = grind (arith, nat_tests, k.1) in
    let spelled : decimal (digits_value 10 t) ≡ t = decimal-digits_value digits t plain.0 (some_digit t k.0) (one_digit t plain.1) (omega arith) in
    rw (← some.1) (fits, sym spelled)
