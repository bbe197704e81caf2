-- The weighted pick, a round robin whose picks are spread as evenly as the weights allow. That weights are shares of
-- their sum is BackendRef.weight of the Gateway API reference; which pick is the next is this project's choice.
use Rattle.std.specs.Prelude.{◌≡◌, ℕ, ◌+◌, ◌*◌, ◌%◌, ◌<◌, ◌≤◌, Bool, ◌&&◌, ◌||◌, ◌==◌, nat_lt, ℤ, pos, ◌-ℤ◌, int_le, List, [], ◌∷◌, Option, None, Some, if◌then◌else◌, length, sum, count_by, find, fold, take, replicate, slice_index, slice_get, slice_set, is_some, unwrap_or}
use Rattle.std.specs.List.{range_with_len, list_all}
use Rattle.std.specs.Map.{lookup}
use Rattle.std.specs.Str.{bytes_eq}
use Rattle.gw_text.specs.model.Names.{Key, same_key}

-- What i claims after k picks, of which n i were its own: (k + 1) * w_i - n_i * W, W being the sum of the weights.
abbrev pub claim : List ℕ → ℕ → (ℕ → ℕ) → ℕ → ℤ
claim weights k n i = pos ((k + 1) * slice_index weights i) -ℤ pos (n i * sum weights)

-- The next pick: the least i with the greatest claim, and none where the weights' sum is 0.
abbrev pub pick_after : List ℕ → ℕ → (ℕ → ℕ) → Option ℕ
pick_after weights k n =
    let places = range_with_len 0 (length weights) in
    if sum weights == 0 then None
    else find (λ i. list_all (λ j. int_le (claim weights k n j) (claim weights k n i)) places) places

-- Weights, and the number of picks of each since the numbers were last 0.
pub record Shares : Type 0 where
  pub weights : List ℕ
  pub drawn : List ℕ

-- A number 0 for each weight.
abbrev pub zeros : List ℕ → List ℕ
zeros weights = replicate (length weights) 0

-- The pick over the numbers that are kept.
abbrev pub pick : List ℕ → List ℕ → Option ℕ
pick weights drawn = pick_after weights (sum drawn) (slice_index drawn)

-- One more pick of i.
abbrev pub counted : List ℕ → ℕ → List ℕ
counted drawn i = slice_set drawn i (slice_index drawn i + 1)

-- After a pick its number is one more. Where there are as many picks as the weights' sum, all numbers are 0 again.
abbrev pub after_pick : List ℕ → List ℕ → Option ℕ → List ℕ
after_pick weights drawn None = drawn
after_pick weights drawn (Some i) =
    if sum (counted drawn i) == sum weights then zeros weights else counted drawn i

-- What the numbers keep: no i is a whole pick ahead of its share, and a round isn't over; without weights they are 0.
pub record IsKept (weights drawn : List ℕ) : Type 0 where
  pub lengths : length drawn ≡ length weights
  pub shared : 0 < sum weights → (i : ℕ) → slice_index drawn i * sum weights < sum drawn * slice_index weights i + sum weights
  pub unfinished : 0 < sum weights → sum drawn < sum weights
  pub without : sum weights ≡ 0 → drawn ≡ zeros weights

-- The numbers after these picks, from numbers 0.
abbrev pub drawn_after : List ℕ → List ℕ → List ℕ
drawn_after weights picks = fold (λ drawn i. after_pick weights drawn (Some i)) (zeros weights) picks

-- Picks made one after the other from numbers 0.
abbrev pub ArePicks : List ℕ → List ℕ → Type 0
ArePicks weights picks = (k : ℕ) → k < length picks → pick weights (drawn_after weights (take k picks)) ≡ slice_get picks k

-- How many of the first k picks are i.
abbrev pub times : List ℕ → ℕ → ℕ → ℕ
times picks k i = count_by (λ j. j == i) (take k picks)

-- After any k of the picks, each i was picked less than once more than its share of k, exactly its share where the sum
-- divides k, and the next pick is that over all earlier picks.
pub record AreFair (weights picks : List ℕ) : Type 0 where
  pub near : (k i : ℕ) → k ≤ length picks → times picks k i * sum weights < k * slice_index weights i + sum weights
  pub exact : (k i : ℕ) → k ≤ length picks → k % sum weights ≡ 0 → times picks k i * sum weights ≡ k * slice_index weights i
  pub next : (k : ℕ) → k < length picks → pick_after weights k (times picks k) ≡ slice_get picks k

-- What picks are counted for: the backends of a Route's rule, or the endpoints of a Service's port.
pub record Choice : Type 0 where
  pub name : Key
  pub number : ℕ
  pub weights : List ℕ

-- Two choices are the same where their keys, numbers and weights are.
abbrev pub same_choice : Choice → Choice → Bool
same_choice c d = same_key c.name d.name && c.number == d.number && bytes_eq c.weights d.weights

-- Whether a book, the list of its choices with their numbers, keeps numbers of a choice.
abbrev pub holds : Choice → List (Choice × List ℕ) → Bool
holds c book = is_some (lookup (same_choice c) book)

-- The numbers of a choice in a book; one that isn't there has numbers 0.
abbrev pub numbers_of : Choice → List (Choice × List ℕ) → List ℕ
numbers_of c book = unwrap_or (lookup (same_choice c) book) (zeros c.weights)

-- The book with these numbers of a choice, which keeps its place or comes last.
abbrev pub with_numbers : Choice → List ℕ → List (Choice × List ℕ) → List (Choice × List ℕ)
with_numbers c drawn [] = (c, drawn) ∷ []
with_numbers c drawn (e ∷ book) = if same_choice c e.0 then (e.0, drawn) ∷ book else e ∷ with_numbers c drawn book

-- A book is emptied exactly where a new choice comes while it holds 4,096.
abbrev pub with_room : Choice → List (Choice × List ℕ) → List (Choice × List ℕ)
with_room c book = if holds c book || nat_lt (length book) 4096 then book else []

-- The pick of a choice, and the book after it.
abbrev pub drawn_from : Choice → List (Choice × List ℕ) → Option ℕ
drawn_from c book = pick c.weights (numbers_of c book)

-- The book after a pick of a choice.
abbrev pub after_draw : Choice → List (Choice × List ℕ) → List (Choice × List ℕ)
after_draw c book = with_numbers c (after_pick c.weights (numbers_of c book) (drawn_from c book)) (with_room c book)
