-- One word more of a generator.
use Rattle.std.proofs.Common.{◌≡◌, ◌∙◌, ◌<◌, ◌+◌, ◌-◌, ◌%◌, ◌++◌, ℕ, zero, suc, List, [], ◌∷◌, length, refl, sym, ap, arith, append_assoc}
use Rattle.std.specs.List.{All}
use Rattle.std.proofs.lemmas.List.Elements.{All-nil, All-cons}
use Rattle.std.proofs.lemmas.Nat.{mod_below}
use Rattle.rand_pcg.specs.Lcg.{Lcg}
use Rattle.rand_pcg.specs.Pcg.{pcg32}
use Rattle.gw_generate.specs.Draws.{behind, drawn}

left_is : (count i : ℕ) → i < count → count - i ≡ suc (count - (i + 1))
left_is count i within = omega (arith, within)

module _ (generator after : Lcg) (word count i : ℕ) (within : i < count) (next : (word, after) ≡ pcg32 generator) where
  pub drawn_more : (below : ℕ) (done items all : List ℕ) → items ≡ done ++ word % below ∷ [] → done ++ drawn generator (count - i) below ≡ all
      → items ++ drawn after (count - (i + 1)) below ≡ all
  drawn_more below done items all pushed so_far =
      ap (λ (t : List ℕ). t ++ drawn after (count - (i + 1)) below) pushed
      ∙ append_assoc done (word % below ∷ []) (drawn after (count - (i + 1)) below)
      ∙ ap (λ (p : ℕ × Lcg). done ++ p.0 % below ∷ drawn p.1 (count - (i + 1)) below) next
      ∙ ap (λ (n : ℕ). done ++ drawn generator n below) (sym (left_is count i within))
      ∙ so_far

  pub behind_more : behind after (count - (i + 1)) ≡ behind generator (count - i)
  behind_more = ap (λ (p : ℕ × Lcg). behind p.1 (count - (i + 1))) next ∙ ap (behind generator) (sym (left_is count i within))

-- as many are drawn as are wanted
pub drawn_length : (generator : Lcg) (count below : ℕ) → length (drawn generator count below) ≡ count
drawn_length generator zero below = refl
drawn_length generator (suc count) below = ap suc (drawn_length (pcg32 generator).1 count below)

-- each of them is below the number
pub drawn_below : (generator : Lcg) (count below : ℕ) → 0 < below → All (λ word. word < below) (drawn generator count below)
drawn_below generator zero below some = All-nil (λ word. word < below)
drawn_below generator (suc count) below some =
    All-cons (λ word. word < below) ((pcg32 generator).0 % below) (drawn (pcg32 generator).1 count below) (mod_below (pcg32 generator).0 below some)
    (drawn_below (pcg32 generator).1 count below some)
