-- What is drawn for a script, by the generator PCG32 (O'Neill, "PCG: a family of simple fast space-efficient statistically good algorithms for
-- random number generation", XSH RR 64/32).
use Rattle.std.specs.Prelude.{ℕ, zero, suc, ◌%◌, List, [], ◌∷◌, map}
use Rattle.rand_core.specs.Pcg32Seed.{pcg32_seed}
use Rattle.rand_pcg.specs.Lcg.{Lcg}
use Rattle.rand_pcg.specs.Pcg.{pcg32, pcg32_of_seed}

-- The generator of a seed.
unfoldable pub generator_of : ℕ → Lcg
generator_of seed = pcg32_of_seed (pcg32_seed 16 seed)

-- Its next so many words, one after the other.
abbrev pub words_of : Lcg → ℕ → List ℕ
words_of generator zero = []
words_of generator (suc count) = (pcg32 generator).0 ∷ words_of (pcg32 generator).1 count

-- The generator behind so many words.
abbrev pub behind : Lcg → ℕ → Lcg
behind generator zero = generator
behind generator (suc count) = behind (pcg32 generator).1 count

-- The next so many words, each modulo a number.
abbrev pub drawn : Lcg → ℕ → ℕ → List ℕ
drawn generator count below = map (λ word. word % below) (words_of generator count)

-- A digit for each Route: the first words of the generator.
abbrev pub digits_of : ℕ → ℕ → List ℕ
digits_of seed routes = drawn (generator_of seed) routes 10

-- The number of a Route for each request: the words behind those.
abbrev pub picks_of : ℕ → ℕ → ℕ → List ℕ
picks_of seed routes requests = drawn (behind (generator_of seed) routes) requests routes
