-- Which of two rows of one listener stands before the other where both fit a request. Source: HTTPRouteSpec.hostnames and
-- HTTPRouteRule.matches of the Gateway API reference.
use Rattle.std.specs.Prelude.{◌≡◌, ℕ, List, [], ◌∷◌, Bool, true, false, fold, length, is_some}
use Rattle.std.specs.Option.{option_map_or}
use Rattle.std.specs.Ordering.{nat_cmp, int_cmp, bool_cmp, is_lt, on, flip_args, then_cmp}
use Rattle.std.specs.declared.cmp.Ordering.{Ordering}
use Rattle.std.specs.declared.cmp.Ordering.TheVariants.{Equal}
use Rattle.gw_rows.specs.model.Fitting.{counted_headers, counted_query_params}
use Rattle.gw_rows.specs.model.Rows.{Row}
use Rattle.gw_text.specs.declared.types.PathMatchType.{PathMatchType}
use Rattle.gw_text.specs.declared.types.PathMatchType.TheVariants as path_types
use Rattle.gw_text.specs.model.Hostnames.{precise_length, written_length}
use Rattle.gw_text.specs.model.Names.{key_order}

-- The row of which there is more stands before.
abbrev pub most : (Row → ℕ) → Row → Row → Ordering
most count = on count (flip_args nat_cmp)

-- The row that has it stands before one that doesn't.
abbrev pub having : (Row → Bool) → Row → Row → Ordering
having test = on test (flip_args bool_cmp)

-- The row of which the number is smaller stands before.
abbrev pub least : (Row → ℕ) → Row → Row → Ordering
least number = on number nat_cmp

-- The characters of its precise hostname; a wildcard or none counts 0.
abbrev pub precise_characters : Row → ℕ
precise_characters r = option_map_or precise_length r.hostname 0

-- The characters of its hostname as it is written; none counts 0.
abbrev pub hostname_characters : Row → ℕ
hostname_characters r = option_map_or written_length r.hostname 0

-- The type of a path match is Exact.
abbrev pub is_exact_type : PathMatchType → Bool
is_exact_type path_types.Exact = true
is_exact_type path_types.PathPrefix = false
is_exact_type (path_types.Other name) = false

-- The parts of precedence, in their order.
abbrev pub parts : List (Row → Row → Ordering)
parts =
    -- "the largest number of: characters in a matching non-wildcard hostname; characters in a matching hostname"
    most precise_characters
    ∷ most hostname_characters
    -- "'Exact' path match"
    ∷ having (λ r. is_exact_type r.test.path.sort)
    -- "'Prefix' path match with largest number of characters"
    ∷ most (λ r. length r.test.path.value)
    -- "Method match"
    ∷ having (λ r. is_some r.test.method)
    -- "Largest number of header matches"
    ∷ most (λ r. length (counted_headers r.test.headers))
    -- "Largest number of query param matches"
    ∷ most (λ r. length (counted_query_params r.test.query_params))
    -- "The oldest Route based on creation timestamp"
    ∷ on (λ r. r.created) int_cmp
    -- "The Route appearing first in alphabetical order by {namespace}/{name}"
    ∷ on (λ r. r.key) key_order
    -- "the FIRST matching rule (in list order) with a match meeting the above criteria"; then the first match of that rule, and the
    -- first hostname of the Route
    ∷ least (λ r. r.rule)
    ∷ least (λ r. r.place)
    ∷ least (λ r. r.host_place)
    ∷ []

-- Which of two rows stands before the other: Less where the first does. The first part in which they differ decides.
unfoldable pub precedence : Row → Row → Ordering
precedence = fold then_cmp (λ a b. Equal) parts

-- The first of two rows is the better one.
abbrev pub better : Row → Row → Bool
better a b = is_lt (precedence a b)

-- The rows are of one Route, rule, match and hostname.
pub record AreOneRow (a b : Row) : Type 0 where
  pub key : a.key ≡ b.key
  pub rule : a.rule ≡ b.rule
  pub place : a.place ≡ b.place
  pub host_place : a.host_place ≡ b.host_place
