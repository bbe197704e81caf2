-- Plain words: a command, then options of its table, each at most once and a flag by its name alone, and then DOORs where it takes them.
use Rattle.std.specs.Prelude.{◌≡◌, ℕ, List, [], ◌∷◌, ◌++◌, Bool, true, false, not, ◌&&◌, ◌==◌, codes, bytes_eq, if◌then◌else◌, Option, Some, option_map, find, flat_map, filter}
use Rattle.std.specs.List.{list_all, list_any}
use Rattle.gw_text.specs.model.Chains.{◌>>=◌}
use Rattle.gw_command.specs.Words.{StatusWords, ExplainWords, ReplayWords, GenerateWords, ServeWords, status, explain, replay, generate, serve, controller_by, doors_of, explain_by, replay_by, generate_by, serve_by, command_of}

-- An option as it is given: in one word, `--name=value`, or in two, `--name value`.
pub record Given : Type 0 where
  pub name : List ℕ
  pub value : List ℕ
  pub is_joined : Bool

-- The words of an option.
abbrev pub written : Given → List (List ℕ)
written o =
    if o.is_joined then (codes "--" ++ o.name ++ codes "=" ++ o.value) ∷ []
    else (codes "--" ++ o.name) ∷ o.value ∷ []

-- What stands in plain words.
pub record Plain : Type 0 where
  pub options : List Given
  pub doors : List (List ℕ)

-- The words, after the command.
abbrev pub plain_words : Plain → List (List ℕ)
plain_words p = flat_map written p.options ++ p.doors

-- A text that isn't empty and doesn't begin with `-`, which is 45.
abbrev pub is_plain_text : List ℕ → Bool
is_plain_text [] = false
is_plain_text (b ∷ bs) = not (b == 45)

-- One of the names.
abbrev pub is_among : List (List ℕ) → List ℕ → Bool
is_among names name = list_any (bytes_eq name) names

-- The options are of the table, each at most once.
abbrev pub is_each_once : List (List ℕ) → List Given → Bool
is_each_once table [] = true
is_each_once table (o ∷ options) =
    is_among table o.name && is_each_once (filter (λ name. not (bytes_eq o.name name)) table) options

-- The options are of the table, each at most once, and no value or DOOR is empty or begins with `-`.
abbrev pub is_plain : List (List ℕ) → Plain → Bool
is_plain table p =
    is_each_once table p.options && (list_all (λ o. is_plain_text o.value) p.options && list_all is_plain_text p.doors)

-- The value that an option is given.
abbrev pub value_given : List ℕ → List Given → Option (List ℕ)
value_given name options = option_map (λ o. o.value) (find (λ o. bytes_eq o.name name) options)

-- The options of `status`.
abbrev pub status_options : List (List ℕ)
status_options = codes "controller" ∷ []

-- What plain words give `status`: the controller that is given, or the default, and each DOOR in order, if all are DOORs.
abbrev pub plain_status : Plain → Option StatusWords
plain_status p = do
  doors ← doors_of p.doors
  Some (record { controller = controller_by (value_given (codes "controller") p.options); doors = doors })

-- The options of `explain`.
abbrev pub explain_options : List (List ℕ)
explain_options = codes "controller" ∷ codes "at" ∷ codes "request" ∷ []

-- What plain words give `explain`.
abbrev pub plain_explain : Plain → Option ExplainWords
plain_explain p =
    explain_by (value_given (codes "controller") p.options) (value_given (codes "at") p.options) (value_given (codes "request") p.options) p.doors

-- What stands in plain words of a command with a flag: its options with a value, whether the flag is given between them, and its DOORs.
pub record Flagged : Type 0 where
  pub before : List Given
  pub is_given : Bool
  pub behind : List Given
  pub doors : List (List ℕ)

-- The words, after the command, where the flag has this name.
abbrev pub flagged_words : List ℕ → Flagged → List (List ℕ)
flagged_words flag p =
    flat_map written p.before ++ (if p.is_given then (codes "--" ++ flag) ∷ [] else []) ++ flat_map written p.behind ++ p.doors

-- What they are without the flag.
abbrev pub without_flag : Flagged → Plain
without_flag p = record { options = p.before ++ p.behind; doors = p.doors }

-- The options of `replay` that have a value.
abbrev pub replay_options : List (List ℕ)
replay_options = codes "controller" ∷ codes "workers" ∷ []

-- What plain words give `replay`.
abbrev pub plain_replay : Flagged → Option ReplayWords
plain_replay p =
    replay_by (value_given (codes "controller") (p.before ++ p.behind)) (value_given (codes "workers") (p.before ++ p.behind)) p.is_given p.doors

-- The options of `generate` that have a value.
abbrev pub generate_options : List (List ℕ)
generate_options = codes "seed" ∷ codes "routes" ∷ codes "requests" ∷ []

-- What plain words give `generate`.
abbrev pub plain_generate : Flagged → Option GenerateWords
plain_generate p =
    generate_by (value_given (codes "seed") (p.before ++ p.behind)) (value_given (codes "routes") (p.before ++ p.behind))
    (value_given (codes "requests") (p.before ++ p.behind)) p.is_given

-- The options of `serve` that have a value.
abbrev pub serve_options : List (List ℕ)
serve_options = codes "controller" ∷ codes "workers" ∷ codes "conns" ∷ codes "admin" ∷ []

-- What plain words give `serve`.
abbrev pub plain_serve : Flagged → Option ServeWords
plain_serve p =
    serve_by (value_given (codes "controller") (p.before ++ p.behind)) (value_given (codes "workers") (p.before ++ p.behind))
    (value_given (codes "conns") (p.before ++ p.behind)) (value_given (codes "admin") (p.before ++ p.behind)) p.is_given p.doors

-- Plain words are read as they stand: an option's value is the one after its name, a flag is given where its name stands, and what
-- follows the options are DOORs, of which `generate` has none. So only a value can make them wrong, or that a request, an admin socket,
-- or a number of a script is wanting.
pub record ReadsPlain (words : List (List ℕ)) : Type 0 where
  pub status : (p : Plain) → is_plain status_options p ≡ true → words ≡ codes "status" ∷ plain_words p
      → command_of words ≡ option_map status (plain_status p)
  pub explain : (p : Plain) → is_plain explain_options p ≡ true → words ≡ codes "explain" ∷ plain_words p
      → command_of words ≡ option_map explain (plain_explain p)
  pub replay : (p : Flagged) → is_plain replay_options (without_flag p) ≡ true → words ≡ codes "replay" ∷ flagged_words (codes "polled") p
      → command_of words ≡ option_map replay (plain_replay p)
  pub generate : (p : Flagged) → p.doors ≡ [] → is_plain generate_options (without_flag p) ≡ true
      → words ≡ codes "generate" ∷ flagged_words (codes "run") p → command_of words ≡ option_map generate (plain_generate p)
  pub serve : (p : Flagged) → is_plain serve_options (without_flag p) ≡ true → words ≡ codes "serve" ∷ flagged_words (codes "polled") p
      → command_of words ≡ option_map serve (plain_serve p)
