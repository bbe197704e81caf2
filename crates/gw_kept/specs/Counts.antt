-- How many Routes are attached to the listeners of Gateways.
use Rattle.std.specs.Prelude.{◌≡◌, ℕ, List, slice_index}
use Rattle.std.specs.List.{count_by}
use Rattle.gw_kept.specs.Numbers.{at_key}
use Rattle.gw_kept.specs.declared.counts.Counts.{Counts}
use Rattle.gw_eval.specs.Kept.{KeptRoute, is_kept_at}
use Rattle.gw_text.specs.model.Names.{Key}

-- The number of the listener at this place of the Gateway of this key: 0 where nothing stands, and beyond the end.
abbrev pub number_at : Counts → Key → ℕ → ℕ
number_at counts key place = slice_index (at_key counts.namespaces key) place

-- At each place stands how many of these Routes are attached there.
abbrev pub AreCounts : List KeptRoute → Counts → Type 0
AreCounts kept counts = (key : Key) (place : ℕ) → number_at counts key place ≡ count_by (is_kept_at key place) kept
