-- What std parses of a text of digits.
use Rattle.std.proofs.Common.{◌≡◌, ◌∙◌, ap, ℕ, ◌^◌, ◌<◌, ◌&&◌, true, false, cond, List, length, Bool, refl, sym, arith, nat_lt, Option, Some, None, Result, Ok, Err}
use Rattle.std.specs.Str.Parse.{digits_value, ParsesUnsigned}
use Rattle.std.proofs.lemmas.Bool.{ltb-true}
use Rattle.std.proofs.lemmas.Str.Parse.{parse_digits}
use Rattle.gw_text.proofs.Decimals.{both, digits, some_digit}
use Rattle.gw_text.specs.model.Addresses.{is_decimal}
use Rattle.gw_requests.specs.Numbers.{number_below}

-- the number that is parsed, where it is less than the count
abbrev pub parsed_below : {E : Type 0} → ℕ → Result ℕ E → Option ℕ
parsed_below count (Ok n) = cond (nat_lt n count) (Some n) None
parsed_below count (Err e) = None

none_if : (b : Bool) (x : ℕ) → (b ≡ true → ⊥) → None ≡ cond b (Some x) None
none_if true x h = absurd (h refl)
none_if false x h = refl

pub number_read : {E : Type 0} (count : ℕ) (t : List ℕ) (r : Result ℕ E) → count < 2 ^ 64 → is_decimal t ≡ true → ParsesUnsigned 64 10 t r
    → number_below count t ≡ parsed_below count r
unfolding number_below
number_read {E = E} count t (Ok n) small plain h =
    let k = parse_digits digits {E = E} 64 t (Ok n) h (both _ _ plain).0 in
    rw (plain, k.1) refl
number_read {E = E} count t (Err e) small plain h =
    let k = parse_digits digits {E = E} 64 t (Err e) h (both _ _ plain).0 in
    sym (none_if _ (digits_value 10 t) (λ passes. k (some_digit t plain, omega (arith, small, ltb-true (digits_value 10 t) count (both _ _ passes).1))))

pub not_read : {E : Type 0} (count : ℕ) (t : List ℕ) (r : Result ℕ E) (e : E) → count < 2 ^ 64 → is_decimal t ≡ true → ParsesUnsigned 64 10 t r
    → r ≡ Err e → None ≡ number_below count t
not_read count t r e small plain h is = sym (number_read count t r small plain h ∙ ap (parsed_below count) is)
