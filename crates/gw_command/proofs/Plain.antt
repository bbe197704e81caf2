-- Plain words are read as they stand.
use Rattle.std.proofs.Common.{◌≡◌, ◌∙◌, ◌==◌, ap, ap₂, subst, refl, sym, true, false, true≢false, Bool, ◌||◌, if◌then◌else◌, bytes_eq, codes, List, [], ◌∷◌, ◌++◌, fold, map, length, Some, None, option_map}
use Rattle.std.proofs.lemmas.Slice.Eq.{bytes_eq-Decides}
use Rattle.clap.specs.Walk.{Row, Text, first_of, has_row, more_values, with_default}
use Rattle.clap.specs.Faults.{defaults_fault}
use Rattle.clap.specs.Simple.{App, built}
use Rattle.clap.specs.Kinds.{Kinds}
use Rattle.clap.specs.declared.parser.matches.ValueSource.TheVariants.{DefaultValue}
use Rattle.clap.proofs.OnLiterals.{clap_on_literals}
use Rattle.clap.proofs.WalkLemmas.{both}
use Rattle.gw_text.specs.model.Chains.{◌>>=◌}
use Rattle.gw_command.specs.Words.{status, status_app, explain, explain_app, controller_by, doors_of, doors_in, found_in, status_in, status_of, explain_in, explain_by, explain_of, replay, replay_app, replay_in, replay_by, replay_of, generate, generate_app, generate_in, generate_by, generate_of, is_given, serve, serve_app, serve_in, serve_by, serve_of, command_of}
use Rattle.gw_command.specs.Plain.{Plain, Flagged, plain_words, flagged_words, without_flag, is_plain, is_each_once, is_among, status_options, plain_status, explain_options, plain_explain, replay_options, plain_replay, generate_options, plain_generate, serve_options, plain_serve, value_given, ReadsPlain}
use Rattle.gw_command.proofs.Tables.{IsOption, IsFlag, TakesDoors, TakesThese, takes_these, TakesFlag, option_row, door_rows, no_flag_row, flagged_rows, plain_taken, flagged_taken, value_in_rows, value_in_flagged, flag_in_flagged, doors_in_rows, doors_in_flagged, none_is, or_true, same_both, at_none}

-- what is so of the first name of a table, and of the others, is so of each
here : (P : Text → Type 0) (known name : Text) (table : List Text) → P known → (is_among table name ≡ true → P name) → is_among (known ∷ table) name ≡ true → P name
here P known name table first others among = go (bytes_eq name known) refl among
  where
    go : (b : Bool) → bytes_eq name known ≡ b → (b || is_among table name) ≡ true → P name
    go true same e = subst P (sym ((bytes_eq-Decides name known).0 same)) first
    go false same e = others e

nobody : (P : Text → Type 0) (name : Text) → is_among [] name ≡ true → P name
nobody P name among = absurd (true≢false (sym among))

abbrev rows_in : Plain → List Row
rows_in p = map option_row p.options ++ door_rows p.doors

-- ---- status

abbrev for_status : App
for_status = built status_app

status_doors : TakesDoors for_status.top
status_doors = record { by_index = refl; by_id = refl; again = refl }

status_has : IsOption for_status.top.rules (codes "controller")
unfolding clap_on_literals
status_has = record {
  needed = false;
  by_long = refl;
  by_id = refl;
  joined = λ value. refl;
  joined_dashes = λ value. refl;
  no_door = refl;
  apart = refl;
  apart_dashes = refl;
}

status_each : (P : Text → Type 0) → P (codes "controller") → (name : Text) → is_among status_options name ≡ true → P name
status_each P a name = here P (codes "controller") name [] a (nobody P name)

status_found : (p : Plain) → is_plain status_options p ≡ true → found_in status_app (codes "status" ∷ plain_words p) ≡ Some (rows_in p)
unfolding found_in
status_found p plain =
    ap (λ (r : Kinds × List Row). if length r.0 == 0 then Some r.1 else None)
    (plain_taken for_status status_options p status_doors refl (status_each (IsOption for_status.top.rules) status_has) plain refl)

abbrev no_door : Text → Type 0
no_door name = bytes_eq name (codes "door") ≡ false

others_of : (table : List Text) (p : Plain) → ((name : Text) → is_among table name ≡ true → no_door name) → is_plain table p ≡ true → doors_in (rows_in p) ≡ p.doors
others_of table p others plain = doors_in_rows p.options p.doors (none_is (codes "door") table p.options others (both (is_each_once table p.options) _ plain).0)

status_read : (p : Plain) → is_plain status_options p ≡ true → status_of (codes "status" ∷ plain_words p) ≡ plain_status p
unfolding status_of status_in
status_read p plain =
    ap (λ found. found >>= status_in) (status_found p plain)
    ∙ ap₂ (λ controller doors. doors_of doors >>= λ ds. Some (record { controller = controller_by controller; doors = ds }))
    (value_in_rows (codes "controller") p.options p.doors refl) (others_of status_options p (status_each no_door refl) plain)

-- ---- explain

abbrev for_explain : App
for_explain = built explain_app

explain_doors : TakesDoors for_explain.top
explain_doors = record { by_index = refl; by_id = refl; again = refl }

explain_has_controller : IsOption for_explain.top.rules (codes "controller")
unfolding clap_on_literals
explain_has_controller = record {
  needed = false;
  by_long = refl;
  by_id = refl;
  joined = λ value. refl;
  joined_dashes = λ value. refl;
  no_door = refl;
  apart = refl;
  apart_dashes = refl;
}

explain_has_at : IsOption for_explain.top.rules (codes "at")
unfolding clap_on_literals
explain_has_at = record {
  needed = false;
  by_long = refl;
  by_id = refl;
  joined = λ value. refl;
  joined_dashes = λ value. refl;
  no_door = refl;
  apart = refl;
  apart_dashes = refl;
}

explain_has_request : IsOption for_explain.top.rules (codes "request")
unfolding clap_on_literals
explain_has_request = record {
  needed = false;
  by_long = refl;
  by_id = refl;
  joined = λ value. refl;
  joined_dashes = λ value. refl;
  no_door = refl;
  apart = refl;
  apart_dashes = refl;
}

explain_each : (P : Text → Type 0) → P (codes "controller") → P (codes "at") → P (codes "request") → (name : Text) → is_among explain_options name ≡ true → P name
explain_each P a b c name =
    here P (codes "controller") name (codes "at" ∷ codes "request" ∷ []) a
    (here P (codes "at") name (codes "request" ∷ []) b (here P (codes "request") name [] c (nobody P name)))

explain_found : (p : Plain) → is_plain explain_options p ≡ true → found_in explain_app (codes "explain" ∷ plain_words p) ≡ Some (rows_in p)
unfolding found_in
explain_found p plain =
    ap (λ (r : Kinds × List Row). if length r.0 == 0 then Some r.1 else None)
    (plain_taken for_explain explain_options p explain_doors refl (explain_each (IsOption for_explain.top.rules) explain_has_controller explain_has_at explain_has_request) plain refl)

explain_values : (p : Plain) → is_plain explain_options p ≡ true → explain_in (rows_in p) ≡ plain_explain p
explain_values p plain =
    ap₂ (λ controller at. explain_by controller at (first_of (codes "request") (rows_in p)) (doors_in (rows_in p)))
    (value_in_rows (codes "controller") p.options p.doors refl) (value_in_rows (codes "at") p.options p.doors refl)
    ∙ ap₂ (λ request doors. explain_by (value_given (codes "controller") p.options) (value_given (codes "at") p.options) request doors)
    (value_in_rows (codes "request") p.options p.doors refl) (others_of explain_options p (explain_each no_door refl refl refl) plain)

explain_read : (p : Plain) → is_plain explain_options p ≡ true → explain_of (codes "explain" ∷ plain_words p) ≡ plain_explain p
unfolding explain_of
explain_read p plain = ap (λ found. found >>= explain_in) (explain_found p plain) ∙ explain_values p plain

-- ---- replay

abbrev for_replay : App
for_replay = built replay_app

replay_doors : TakesDoors for_replay.top
replay_doors = record { by_index = refl; by_id = refl; again = refl }

replay_has_controller : IsOption for_replay.top.rules (codes "controller")
unfolding clap_on_literals
replay_has_controller = record {
  needed = false;
  by_long = refl;
  by_id = refl;
  joined = λ value. refl;
  joined_dashes = λ value. refl;
  no_door = refl;
  apart = refl;
  apart_dashes = refl;
}

replay_has_workers : IsOption for_replay.top.rules (codes "workers")
unfolding clap_on_literals
replay_has_workers = record {
  needed = false;
  by_long = refl;
  by_id = refl;
  joined = λ value. refl;
  joined_dashes = λ value. refl;
  no_door = refl;
  apart = refl;
  apart_dashes = refl;
}

replay_each : (P : Text → Type 0) → P (codes "controller") → P (codes "workers") → (name : Text) → is_among replay_options name ≡ true → P name
replay_each P a b name = here P (codes "controller") name (codes "workers" ∷ []) a (here P (codes "workers") name [] b (nobody P name))

replay_has_polled : IsFlag for_replay.top.rules (codes "polled")
unfolding clap_on_literals
replay_has_polled = record { by_long = refl; alone = refl; alone_dashes = refl }

-- the flag that is given needs no default
replay_polled_given : (rows : List Row) → has_row (codes "polled") rows ≡ true
    → (defaults_fault rows for_replay.top.rules ≡ []) × (fold with_default rows for_replay.top.rules ≡ rows)
unfolding defaults_fault
replay_polled_given rows there = (simp (or_true, same_both, there) refl, simp (same_both, there) refl)

-- and one that isn't given has it
replay_polled_left_out : (rows : List Row) → has_row (codes "polled") rows ≡ false
    → (defaults_fault rows for_replay.top.rules ≡ []) × (fold with_default rows for_replay.top.rules ≡ rows ++ no_flag_row (codes "polled") ∷ [])
unfolding defaults_fault
replay_polled_left_out rows none = (
  simp (or_true, same_both, none) refl,
  simp (same_both, none) (at_none (codes "polled") (more_values DefaultValue (codes "false" ∷ [])) (no_flag_row (codes "polled") ∷ []) rows none),
)

replay_takes : TakesFlag for_replay.top replay_options (codes "polled")
replay_takes = record {
  options = replay_each (IsOption for_replay.top.rules) replay_has_controller replay_has_workers;
  flag = replay_has_polled;
  others = replay_each (λ name. (bytes_eq name (codes "polled") ≡ false) × (bytes_eq (codes "polled") name ≡ false)) (refl, refl) (refl, refl);
  no_door = (refl, refl);
  again = refl;
  given = replay_polled_given;
  left_out = replay_polled_left_out;
  check = λ rows. refl;
}

replay_found : (p : Flagged) → is_plain replay_options (without_flag p) ≡ true
    → found_in replay_app (codes "replay" ∷ flagged_words (codes "polled") p) ≡ Some (flagged_rows (codes "polled") p)
unfolding found_in
replay_found p plain =
    ap (λ (r : Kinds × List Row). if length r.0 == 0 then Some r.1 else None)
    (flagged_taken for_replay replay_options (codes "polled") p replay_takes (takes_these replay_doors p.doors) plain)

replay_values : (p : Flagged) → is_plain replay_options (without_flag p) ≡ true → replay_in (flagged_rows (codes "polled") p) ≡ plain_replay p
replay_values p plain =
    let rows : List Row = flagged_rows (codes "polled") p in
    ap₂ (λ controller workers. replay_by controller workers (is_given (first_of (codes "polled") rows)) (doors_in rows))
    (value_in_flagged (codes "controller") (codes "polled") p refl refl) (value_in_flagged (codes "workers") (codes "polled") p refl refl)
    ∙ ap₂ (replay_by (value_given (codes "controller") (p.before ++ p.behind)) (value_given (codes "workers") (p.before ++ p.behind)))
    (flag_in_flagged replay_options (codes "polled") p replay_takes plain) (doors_in_flagged replay_options (codes "polled") p replay_takes plain)

replay_read : (p : Flagged) → is_plain replay_options (without_flag p) ≡ true → replay_of (codes "replay" ∷ flagged_words (codes "polled") p) ≡ plain_replay p
unfolding replay_of
replay_read p plain = ap (λ found. found >>= replay_in) (replay_found p plain) ∙ replay_values p plain

-- ---- generate

abbrev for_generate : App
for_generate = built generate_app

generate_has_seed : IsOption for_generate.top.rules (codes "seed")
unfolding clap_on_literals
generate_has_seed = record {
  needed = false;
  by_long = refl;
  by_id = refl;
  joined = λ value. refl;
  joined_dashes = λ value. refl;
  no_door = refl;
  apart = refl;
  apart_dashes = refl;
}

generate_has_routes : IsOption for_generate.top.rules (codes "routes")
unfolding clap_on_literals
generate_has_routes = record {
  needed = false;
  by_long = refl;
  by_id = refl;
  joined = λ value. refl;
  joined_dashes = λ value. refl;
  no_door = refl;
  apart = refl;
  apart_dashes = refl;
}

generate_has_requests : IsOption for_generate.top.rules (codes "requests")
unfolding clap_on_literals
generate_has_requests = record {
  needed = false;
  by_long = refl;
  by_id = refl;
  joined = λ value. refl;
  joined_dashes = λ value. refl;
  no_door = refl;
  apart = refl;
  apart_dashes = refl;
}

generate_has_run : IsFlag for_generate.top.rules (codes "run")
unfolding clap_on_literals
generate_has_run = record { by_long = refl; alone = refl; alone_dashes = refl }

generate_each : (P : Text → Type 0) → P (codes "seed") → P (codes "routes") → P (codes "requests") → (name : Text) → is_among generate_options name ≡ true → P name
generate_each P a b c name =
    here P (codes "seed") name (codes "routes" ∷ codes "requests" ∷ []) a
    (here P (codes "routes") name (codes "requests" ∷ []) b (here P (codes "requests") name [] c (nobody P name)))

generate_option : (name : Text) → is_among generate_options name ≡ true → IsOption for_generate.top.rules name
generate_option = generate_each (IsOption for_generate.top.rules) generate_has_seed generate_has_routes generate_has_requests

-- the flag that is given needs no default
run_given : (rows : List Row) → has_row (codes "run") rows ≡ true
    → (defaults_fault rows for_generate.top.rules ≡ []) × (fold with_default rows for_generate.top.rules ≡ rows)
unfolding defaults_fault
run_given rows there = (simp (or_true, same_both, there) refl, simp (same_both, there) refl)

-- and one that isn't given has it
run_left_out : (rows : List Row) → has_row (codes "run") rows ≡ false
    → (defaults_fault rows for_generate.top.rules ≡ []) × (fold with_default rows for_generate.top.rules ≡ rows ++ no_flag_row (codes "run") ∷ [])
unfolding defaults_fault
run_left_out rows none = (
  simp (or_true, same_both, none) refl,
  simp (same_both, none) (at_none (codes "run") (more_values DefaultValue (codes "false" ∷ [])) (no_flag_row (codes "run") ∷ []) rows none),
)

generate_takes : TakesFlag for_generate.top generate_options (codes "run")
generate_takes = record {
  options = generate_option;
  flag = generate_has_run;
  others = generate_each (λ name. (bytes_eq name (codes "run") ≡ false) × (bytes_eq (codes "run") name ≡ false)) (refl, refl) (refl, refl) (refl, refl);
  no_door = (refl, refl);
  again = refl;
  given = run_given;
  left_out = run_left_out;
  check = λ rows. refl;
}

-- the words have no DOORs
generate_found : (p : Flagged) → p.doors ≡ [] → is_plain generate_options (without_flag p) ≡ true
    → found_in generate_app (codes "generate" ∷ flagged_words (codes "run") p) ≡ Some (flagged_rows (codes "run") p)
unfolding found_in
generate_found p none plain =
    ap (λ (r : Kinds × List Row). if length r.0 == 0 then Some r.1 else None)
    (flagged_taken for_generate generate_options (codes "run") p generate_takes (subst (TakesThese for_generate.top) (sym none) tt) plain)

generate_values : (p : Flagged) → is_plain generate_options (without_flag p) ≡ true → generate_in (flagged_rows (codes "run") p) ≡ plain_generate p
generate_values p plain =
    let rows : List Row = flagged_rows (codes "run") p in
    ap₂ (λ seed routes. generate_by seed routes (first_of (codes "requests") rows) (is_given (first_of (codes "run") rows)))
    (value_in_flagged (codes "seed") (codes "run") p refl refl) (value_in_flagged (codes "routes") (codes "run") p refl refl)
    ∙ ap₂ (generate_by (value_given (codes "seed") (p.before ++ p.behind)) (value_given (codes "routes") (p.before ++ p.behind)))
    (value_in_flagged (codes "requests") (codes "run") p refl refl) (flag_in_flagged generate_options (codes "run") p generate_takes plain)

generate_read : (p : Flagged) → p.doors ≡ [] → is_plain generate_options (without_flag p) ≡ true → generate_of (codes "generate" ∷ flagged_words (codes "run") p) ≡ plain_generate p
unfolding generate_of
generate_read p none plain = ap (λ found. found >>= generate_in) (generate_found p none plain) ∙ generate_values p plain

-- ---- serve

abbrev for_serve : App
for_serve = built serve_app

serve_doors : TakesDoors for_serve.top
serve_doors = record { by_index = refl; by_id = refl; again = refl }

serve_has_controller : IsOption for_serve.top.rules (codes "controller")
unfolding clap_on_literals
serve_has_controller = record {
  needed = false;
  by_long = refl;
  by_id = refl;
  joined = λ value. refl;
  joined_dashes = λ value. refl;
  no_door = refl;
  apart = refl;
  apart_dashes = refl;
}

serve_has_workers : IsOption for_serve.top.rules (codes "workers")
unfolding clap_on_literals
serve_has_workers = record {
  needed = false;
  by_long = refl;
  by_id = refl;
  joined = λ value. refl;
  joined_dashes = λ value. refl;
  no_door = refl;
  apart = refl;
  apart_dashes = refl;
}

serve_has_conns : IsOption for_serve.top.rules (codes "conns")
unfolding clap_on_literals
serve_has_conns = record {
  needed = false;
  by_long = refl;
  by_id = refl;
  joined = λ value. refl;
  joined_dashes = λ value. refl;
  no_door = refl;
  apart = refl;
  apart_dashes = refl;
}

serve_has_admin : IsOption for_serve.top.rules (codes "admin")
unfolding clap_on_literals
serve_has_admin = record {
  needed = false;
  by_long = refl;
  by_id = refl;
  joined = λ value. refl;
  joined_dashes = λ value. refl;
  no_door = refl;
  apart = refl;
  apart_dashes = refl;
}

serve_each : (P : Text → Type 0) → P (codes "controller") → P (codes "workers") → P (codes "conns") → P (codes "admin")
    → (name : Text) → is_among serve_options name ≡ true → P name
serve_each P a b c d name =
    here P (codes "controller") name (codes "workers" ∷ codes "conns" ∷ codes "admin" ∷ []) a
    (here P (codes "workers") name (codes "conns" ∷ codes "admin" ∷ []) b
    (here P (codes "conns") name (codes "admin" ∷ []) c (here P (codes "admin") name [] d (nobody P name))))

serve_has_polled : IsFlag for_serve.top.rules (codes "polled")
unfolding clap_on_literals
serve_has_polled = record { by_long = refl; alone = refl; alone_dashes = refl }

-- the flag that is given needs no default
serve_polled_given : (rows : List Row) → has_row (codes "polled") rows ≡ true
    → (defaults_fault rows for_serve.top.rules ≡ []) × (fold with_default rows for_serve.top.rules ≡ rows)
unfolding defaults_fault
serve_polled_given rows there = (simp (or_true, same_both, there) refl, simp (same_both, there) refl)

-- and one that isn't given has it
serve_polled_left_out : (rows : List Row) → has_row (codes "polled") rows ≡ false
    → (defaults_fault rows for_serve.top.rules ≡ []) × (fold with_default rows for_serve.top.rules ≡ rows ++ no_flag_row (codes "polled") ∷ [])
unfolding defaults_fault
serve_polled_left_out rows none = (
  simp (or_true, same_both, none) refl,
  simp (same_both, none) (at_none (codes "polled") (more_values DefaultValue (codes "false" ∷ [])) (no_flag_row (codes "polled") ∷ []) rows none),
)

serve_takes : TakesFlag for_serve.top serve_options (codes "polled")
serve_takes = record {
  options = serve_each (IsOption for_serve.top.rules) serve_has_controller serve_has_workers serve_has_conns serve_has_admin;
  flag = serve_has_polled;
  others = serve_each (λ name. (bytes_eq name (codes "polled") ≡ false) × (bytes_eq (codes "polled") name ≡ false)) (refl, refl) (refl, refl) (refl, refl) (refl, refl);
  no_door = (refl, refl);
  again = refl;
  given = serve_polled_given;
  left_out = serve_polled_left_out;
  check = λ rows. refl;
}

serve_found : (p : Flagged) → is_plain serve_options (without_flag p) ≡ true
    → found_in serve_app (codes "serve" ∷ flagged_words (codes "polled") p) ≡ Some (flagged_rows (codes "polled") p)
unfolding found_in
serve_found p plain =
    ap (λ (r : Kinds × List Row). if length r.0 == 0 then Some r.1 else None)
    (flagged_taken for_serve serve_options (codes "polled") p serve_takes (takes_these serve_doors p.doors) plain)

serve_values : (p : Flagged) → is_plain serve_options (without_flag p) ≡ true → serve_in (flagged_rows (codes "polled") p) ≡ plain_serve p
serve_values p plain =
    let rows : List Row = flagged_rows (codes "polled") p in
    ap₂ (λ controller workers. serve_by controller workers (first_of (codes "conns") rows) (first_of (codes "admin") rows) (is_given (first_of (codes "polled") rows)) (doors_in rows))
    (value_in_flagged (codes "controller") (codes "polled") p refl refl) (value_in_flagged (codes "workers") (codes "polled") p refl refl)
    ∙ ap₂ (λ conns admin.
    serve_by (value_given (codes "controller") (p.before ++ p.behind)) (value_given (codes "workers") (p.before ++ p.behind)) conns admin (is_given (first_of (codes "polled") rows)) (doors_in rows))
    (value_in_flagged (codes "conns") (codes "polled") p refl refl) (value_in_flagged (codes "admin") (codes "polled") p refl refl)
    ∙ ap₂ (serve_by (value_given (codes "controller") (p.before ++ p.behind)) (value_given (codes "workers") (p.before ++ p.behind))
    (value_given (codes "conns") (p.before ++ p.behind)) (value_given (codes "admin") (p.before ++ p.behind)))
    (flag_in_flagged serve_options (codes "polled") p serve_takes plain) (doors_in_flagged serve_options (codes "polled") p serve_takes plain)

serve_read : (p : Flagged) → is_plain serve_options (without_flag p) ≡ true → serve_of (codes "serve" ∷ flagged_words (codes "polled") p) ≡ plain_serve p
unfolding serve_of
serve_read p plain = ap (λ found. found >>= serve_in) (serve_found p plain) ∙ serve_values p plain

pub plain_is_read : (words : List Text) → ReadsPlain words
plain_is_read words = record {
  status = λ p plain are. ap command_of are ∙ ap (option_map status) (status_read p plain);
  explain = λ p plain are. ap command_of are ∙ ap (option_map explain) (explain_read p plain);
  replay = λ p plain are. ap command_of are ∙ ap (option_map replay) (replay_read p plain);
  generate = λ p none plain are. ap command_of are ∙ ap (option_map generate) (generate_read p none plain);
  serve = λ p plain are. ap command_of are ∙ ap (option_map serve) (serve_read p plain);
}
