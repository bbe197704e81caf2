-- The text of a whole script.
use Rattle.std.proofs.Common.{◌≡◌, ◌∙◌, ◌++◌, ◌+◌, ◌*◌, ◌≤◌, ℕ, List, length, refl, sym, ap, arith}
use Rattle.std.specs.List.{enumerate_from, flat_map}
use Rattle.gw_generate.specs.Draws.{behind, digits_of, generator_of, picks_of}
use Rattle.gw_generate.specs.Lines.{object_lines, request_lines, route_lines}
use Rattle.gw_generate.specs.Scripts.{script_text, text_of}
use Rattle.gw_generate.specs.declared.line.TheConstants.{OBJECTS}
use Rattle.gw_generate.proofs.Drawing.{drawn_length}
use Rattle.gw_generate.proofs.Writing.{text_of_parts}

-- what stands in the code for the first lines
pub objects_are : OBJECTS.now ≡ text_of object_lines
objects_are = refl

objects_length : length (text_of object_lines) ≡ 761
objects_length = refl

-- the text by the lists that were drawn
abbrev written : ℕ → List ℕ → ℕ → List ℕ → List ℕ → List ℕ
written routes digits requests again picks =
    text_of object_lines ++ flat_map (λ r. text_of (route_lines routes r)) (enumerate_from 0 digits)
    ++ flat_map (λ r. text_of (request_lines requests again r)) (enumerate_from 0 picks)

module _ (seed routes requests : ℕ) (digits again picks s1 s2 s3 : List ℕ) (digits_are : digits ≡ digits_of seed routes) (again_are : again ≡ digits_of seed routes)
    (picks_are : picks ≡ picks_of seed routes requests) (first : s1 ≡ text_of object_lines) where
  digits_length : length digits ≡ routes
  digits_length = ap length digits_are ∙ drawn_length (generator_of seed) routes 10

  picks_length : length picks ≡ requests
  picks_length = ap length picks_are ∙ drawn_length (behind (generator_of seed) routes) requests routes

  pub script_is : s2 ≡ s1 ++ flat_map (λ r. text_of (route_lines (length digits) r)) (enumerate_from 0 digits)
      → s3 ≡ s2 ++ flat_map (λ r. text_of (request_lines (length picks) again r)) (enumerate_from 0 picks) → s3 ≡ script_text seed routes requests
  unfolding script_text
  script_is second third =
      third
      ∙ ap (λ (t : List ℕ). t ++ flat_map (λ r. text_of (request_lines (length picks) again r)) (enumerate_from 0 picks)) (second ∙ ap (λ (t : List ℕ). t ++ flat_map (λ r. text_of (route_lines (length digits) r)) (enumerate_from 0 digits)) first)
      ∙ ap (λ (n : ℕ). written n digits (length picks) again picks) digits_length
      ∙ ap (λ (n : ℕ). written routes digits n again picks) picks_length
      ∙ ap (λ (ds : List ℕ). written routes ds requests again picks) digits_are
      ∙ ap (λ (ds : List ℕ). written routes (digits_of seed routes) requests ds picks) again_are
      ∙ ap (λ (ps : List ℕ). written routes (digits_of seed routes) requests (digits_of seed routes) ps) picks_are
      ∙ sym (text_of_parts object_lines (route_lines routes) (enumerate_from 0 (digits_of seed routes)) (request_lines requests (digits_of seed routes)) (enumerate_from 0 (picks_of seed routes requests)))

  pub script_fits : length s2 ≤ length s1 + 512 * length digits → length s3 ≤ length s2 + 256 * length picks → length s3 ≤ 1024 + 512 * routes + 256 * requests
  script_fits second third =
      let start : length s1 ≡ 761 = ap length first ∙ objects_length in
      let more : length s2 ≤ length s1 + 512 * routes = rw (← digits_length) second in
      let most : length s3 ≤ length s2 + 256 * requests = rw (← picks_length) third in
      omega (arith, start, more, most)
