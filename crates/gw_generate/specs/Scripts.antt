-- The script of a seed, of so many Routes and so many requests.
use Rattle.std.specs.Prelude.{ℕ, List, [], ◌∷◌, ◌++◌}
use Rattle.std.specs.List.{enumerate_from, flat_map}
use Rattle.gw_generate.specs.Draws.{digits_of, picks_of}
use Rattle.gw_generate.specs.Lines.{object_lines, route_lines, request_lines}

-- Its lines: the objects that all Routes need, each Route by its number from 0, and each request by its number from 0.
abbrev pub script_lines : ℕ → ℕ → ℕ → List (List ℕ)
script_lines seed routes requests =
    object_lines
    ++ flat_map (route_lines routes) (enumerate_from 0 (digits_of seed routes))
    ++ flat_map (request_lines requests (digits_of seed routes)) (enumerate_from 0 (picks_of seed routes requests))

-- Lines as a text, each with a line feed, which is 10.
abbrev pub text_of : List (List ℕ) → List ℕ
text_of lines = flat_map (λ line. line ++ 10 ∷ []) lines

-- Its text.
unfoldable pub script_text : ℕ → ℕ → ℕ → List ℕ
script_text seed routes requests = text_of (script_lines seed routes requests)
