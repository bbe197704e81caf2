-- The parameters of a query. Source: HTTPQueryParamMatch of the Gateway API reference.
use Rattle.std.specs.Prelude.{ℕ, List, [], ◌==◌, bytes_eq, map, find, Option, Some, None, option_map}
use Rattle.std.specs.List.{before_first, after_first, slice_split}
use Rattle.percent_encoding.specs.Percent.{percent_decode}

-- A parameter of a query: its name and value, in which each `%` with two hexadecimal digits stands for the byte of that number, and
-- `+` for itself. Source: HTTPQueryParamMatch; RFC 3986 section 2.1.
pub record Parameter : Type 0 where
  pub name : List ℕ
  pub value : List ℕ

-- The part of a query between two `&`, cut at its first `=`; a part without one has the empty value.
abbrev pub parameter_of : List ℕ → Parameter
parameter_of part = record {
  name = percent_decode (before_first (λ b. b == 61) part);
  value = percent_decode (after_first (λ b. b == 61) part);
}

-- The parameters of a query; without a query there are none.
abbrev pub parameters_of : Option (List ℕ) → List Parameter
parameters_of None = []
parameters_of (Some query) = map parameter_of (slice_split (λ b. b == 38) query)

-- The value of the first parameter of the name, where there is one.
abbrev pub first_value : List ℕ → List Parameter → Option (List ℕ)
first_value name parameters = option_map (λ p. p.value) (find (λ p. bytes_eq p.name name) parameters)
