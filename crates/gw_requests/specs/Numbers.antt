-- Numbers in decimal digits.
use Rattle.std.specs.Prelude.{ℕ, List, ◌&&◌, nat_lt, if◌then◌else◌, Option, None, Some}
use Rattle.std.specs.Str.Parse.{digits_value}
use Rattle.gw_text.specs.model.Addresses.{is_decimal}

-- The number that decimal digits write, without a leading zero, where it is less than the count.
unfoldable pub number_below : ℕ → List ℕ → Option ℕ
number_below count t = if is_decimal t && nat_lt (digits_value 10 t) count then Some (digits_value 10 t) else None
