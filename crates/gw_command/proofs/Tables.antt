-- What a command makes of plain words, where its options have one value each and it takes a flag, or DOORs, or both.
use Rattle.std.proofs.Common.{◌≡◌, ◌∙◌, ℕ, refl, sym, ap, subst, true, false, List, [], ◌∷◌, ◌++◌, map, codes, Option, Some, None, ◌==◌, ◌&&◌, ◌||◌, bytes_eq, option_map, option_and_then, unwrap_or, slice_get, is_some, cond, if◌then◌else◌, Bool, not, append_assoc, append-nil, true≢false}
use Rattle.std.specs.List.{fold, list_all, find, flat_map, filter}
use Rattle.std.proofs.lemmas.List.Concat.{flat_map-append}
use Rattle.std.proofs.lemmas.Slice.Eq.{bytes_eq-Decides}
use Rattle.clap.specs.Lexer.{long_of}
use Rattle.clap.specs.Walk.{Row, Rule, Walk, Text, positional, idle, option, walk_from, walked, used, settled, settled_rows, nothing_held, finished, at_row, without, with_values, more_values, has_row, arg_by_long, reading_by, arg_by_id, arg_by_index, is_empty, with_default, first_of, is_pending}
use Rattle.clap.specs.Simple.{App, Shape, entered, with_index, filled, new_rule}
use Rattle.clap.specs.Kinds.{Kinds, or_else}
use Rattle.clap.specs.Faults.{walk_fault, turn_fault, settle_fault, defaults_fault, check_fault, entered_fault}
use Rattle.clap.specs.declared.builder.action.ArgAction.TheVariants.{Set}
use Rattle.clap.specs.declared.builder.value_parser.Reading.{Reading}
use Rattle.clap.specs.declared.builder.value_parser.Reading.TheVariants.{AsWritten}
use Rattle.clap.specs.declared.parser.matches.ValueSource.TheVariants.{CommandLine, DefaultValue}
use Rattle.clap.proofs.WalkLemmas.{both}
use Rattle.clap.proofs.SimpleLemmas.{is_false, is_nil}
use Rattle.gw_command.specs.Words.{door_rule, doors_in, flag_rule, is_given}
use Rattle.gw_command.specs.Plain.{Given, Plain, Flagged, written, plain_words, flagged_words, without_flag, is_plain, is_each_once, is_among, is_plain_text, value_given}

-- ---- rows

abbrev pub row : Text → List Text → Row
row id values = record { id = id; values = values; count = None; source = Some CommandLine; reading = AsWritten }

abbrev pub option_row : Given → Row
option_row o = row o.name (o.value ∷ [])

abbrev pub door_rows : List Text → List Row
door_rows [] = []
door_rows (d ∷ ds) = row (codes "door") (d ∷ ds) ∷ []

neither : (a b : Bool) → (a || b) ≡ false → (a ≡ false) × (b ≡ false)
neither true b e = absurd (true≢false e)
neither false b e = (refl, e)

-- a change of the row of an id comes after rows without that id
at_past : (id : Text) (change : Row → List Row) (missing front rows : List Row) → has_row id front ≡ false
    → at_row id change missing (front ++ rows) ≡ front ++ at_row id change missing rows
at_past id change missing [] rows none = refl
at_past id change missing (r ∷ front) rows none =
    let parts = neither (bytes_eq r.id id) (has_row id front) none in
    rw parts.0 (ap (λ rs. r ∷ rs) (at_past id change missing front rows parts.1))

pub at_none : (id : Text) (change : Row → List Row) (missing rows : List Row) → has_row id rows ≡ false → at_row id change missing rows ≡ rows ++ missing
at_none id change missing rows none =
    ap (at_row id change missing) (sym (append-nil rows)) ∙ at_past id change missing rows [] none

added : (id : Text) (how : Reading) (value : Text) (rows : List Row) → has_row id rows ≡ false
    → with_values id how CommandLine (value ∷ []) (without id rows) ≡ rows ++ record (row id (value ∷ [])) { reading = how } ∷ []
added id how value rows none =
    ap (with_values id how CommandLine (value ∷ [])) (at_none id (λ _. []) [] rows none ∙ append-nil rows)
    ∙ at_none id (more_values CommandLine (value ∷ [])) (record (row id (value ∷ [])) { reading = how } ∷ []) rows none

abbrev door : Rule
door = with_index 1 (filled door_rule)

door_added : (rows : List Row) (done : List Text) (d : Text) → has_row (codes "door") rows ≡ false
    → used door (d ∷ []) (rows ++ door_rows done) ≡ rows ++ door_rows (done ++ d ∷ [])
door_added rows [] d none = at_past (codes "door") (more_values CommandLine (d ∷ [])) (row (codes "door") (d ∷ []) ∷ []) rows [] none
door_added rows (e ∷ es) d none = at_past (codes "door") (more_values CommandLine (d ∷ [])) (row (codes "door") (d ∷ []) ∷ []) rows (door_rows (e ∷ es)) none

and_false : (b : Bool) → (b && false) ≡ false
and_false true = refl
and_false false = refl

pub or_true : (b : Bool) → (b || true) ≡ true
or_true true = refl
or_true false = refl

pub same_both : {X : Type 0} (b : Bool) (x : X) → cond b x x ≡ x
same_both true x = refl
same_both false x = refl

-- arguments without defaults leave the rows
no_defaults : (rows : List Row) (c : List Rule) → list_all (λ (a : Rule). is_empty a.defaults) c ≡ true → fold with_default rows c ≡ rows
no_defaults rows [] e = refl
no_defaults rows (a ∷ c) e =
    let parts = both (is_empty a.defaults) _ e in
    ap (λ rs. fold with_default rs c) (rw (is_nil _ parts.0) (same_both (has_row a.id rows) rows)) ∙ no_defaults rows c parts.1

no_default_fault : (rows : List Row) (c : List Rule) → list_all (λ (a : Rule). is_empty a.defaults) c ≡ true → defaults_fault rows c ≡ []
unfolding defaults_fault
no_default_fault rows [] e = refl
no_default_fault rows (a ∷ c) e =
    let parts = both (is_empty a.defaults) _ e in
    rw (parts.0, or_true (has_row a.id rows), is_nil _ parts.0, same_both (has_row a.id rows) rows) (no_default_fault rows c parts.1)

no_row_behind : (id : Text) (front rows : List Row) → has_row id front ≡ false → has_row id rows ≡ false → has_row id (front ++ rows) ≡ false
no_row_behind id [] rows none others = others
no_row_behind id (x ∷ front) rows none others =
    let parts = neither (bytes_eq x.id id) (has_row id front) none in
    rw parts.0 (no_row_behind id front rows parts.1 others)

has_row_added : (id : Text) (rows : List Row) (r : Row) → has_row id rows ≡ false → bytes_eq r.id id ≡ false → has_row id (rows ++ r ∷ []) ≡ false
has_row_added id rows r none other = no_row_behind id rows (r ∷ []) none (rw other refl)

no_door_row : (id : Text) (ds : List Text) → bytes_eq (codes "door") id ≡ false → has_row id (door_rows ds) ≡ false
no_door_row id [] other = refl
no_door_row id (d ∷ ds) other = rw other refl

-- a name that is left in the table without another
still_among : (other : Text) (table : List Text) (name : Text) → is_among (filter (λ n. not (bytes_eq other n)) table) name ≡ true
    → (is_among table name ≡ true) × (bytes_eq other name ≡ false)
still_among other [] name among = absurd (true≢false (sym among))
still_among other (n ∷ table) name among = go (bytes_eq other n) refl (still_among other table name) among
  where
    rest : List Text
    rest = filter (λ n. not (bytes_eq other n)) table

    Left : List Text → Type 0
    Left names = (is_among names name ≡ true) × (bytes_eq other name ≡ false)

    here : (b : Bool) → bytes_eq name n ≡ b → bytes_eq other n ≡ false → (is_among rest name ≡ true → Left table) → (b || is_among rest name) ≡ true
        → ((b || is_among table name) ≡ true) × (bytes_eq other name ≡ false)
    here true same differs further e = (refl, rw ((bytes_eq-Decides name n).0 same) differs)
    here false same differs further e = further e

    go : (b : Bool) → bytes_eq other n ≡ b → (is_among rest name ≡ true → Left table) → is_among (cond (not b) (n ∷ rest) rest) name ≡ true → Left (n ∷ table)
    go true same further e =
        let left = further e in
        (rw left.0 (or_true (bytes_eq name n)), left.1)
    go false same further e = here (bytes_eq name n) refl same further e

-- ---- a table

-- an option with one value, as a built command has it
abbrev pub option_rule : Bool → Text → Rule
option_rule needed name = filled (record (new_rule name) { long = Some name; action = Some Set; required = needed })

-- the command has this option
pub record IsOption (c : List Rule) (name : Text) : Type 0 where
  pub needed : Bool
  pub by_long : arg_by_long c name ≡ Some (option_rule needed name)
  pub by_id : arg_by_id c name ≡ Some (option_rule needed name)
  pub joined : (value : Text) → long_of (codes "--" ++ name ++ codes "=" ++ value) ≡ Some (name, Some value)
  pub joined_dashes : (value : Text) → bytes_eq (codes "--" ++ name ++ codes "=" ++ value) (45 ∷ 45 ∷ []) ≡ false
  pub no_door : bytes_eq name (codes "door") ≡ false
  pub apart : long_of (codes "--" ++ name) ≡ Some (name, None)
  pub apart_dashes : bytes_eq (codes "--" ++ name) (45 ∷ 45 ∷ []) ≡ false

-- a flag, as a built command has it
abbrev pub flag : Text → Rule
flag name = filled (flag_rule name)

-- the rows of a flag that is given, and of one that isn't
abbrev pub flag_row : Text → Row
flag_row name = record { id = name; values = codes "true" ∷ []; count = None; source = Some CommandLine; reading = reading_by (flag name) }

abbrev pub no_flag_row : Text → Row
no_flag_row name = record { id = name; values = codes "false" ∷ []; count = None; source = Some DefaultValue; reading = reading_by (flag name) }

-- the command has this flag
pub record IsFlag (c : List Rule) (name : Text) : Type 0 where
  pub by_long : arg_by_long c name ≡ Some (flag name)
  pub alone : long_of (codes "--" ++ name) ≡ Some (name, None)
  pub alone_dashes : bytes_eq (codes "--" ++ name) (45 ∷ 45 ∷ []) ≡ false

-- the command takes this flag beside the options of a table, which are other words, and gives no other argument a default
pub record TakesFlag (s : Shape) (table : List Text) (name : Text) : Type 0 where
  pub options : (option : Text) → is_among table option ≡ true → IsOption s.rules option
  pub flag : IsFlag s.rules name
  pub others : (option : Text) → is_among table option ≡ true → (bytes_eq option name ≡ false) × (bytes_eq name option ≡ false)
  pub no_door : (bytes_eq name (codes "door") ≡ false) × (bytes_eq (codes "door") name ≡ false)
  pub again : s.args_override_self ≡ false
  pub given : (rows : List Row) → has_row name rows ≡ true → (defaults_fault rows s.rules ≡ []) × (fold with_default rows s.rules ≡ rows)
  pub left_out : (rows : List Row) → has_row name rows ≡ false → (defaults_fault rows s.rules ≡ []) × (fold with_default rows s.rules ≡ rows ++ no_flag_row name ∷ [])
  pub check : (rows : List Row) → check_fault s rows false ≡ []

-- the command takes DOORs, and refuses a second use
pub record TakesDoors (s : Shape) : Type 0 where
  pub by_index : arg_by_index s.rules 1 ≡ Some door
  pub by_id : arg_by_id s.rules (codes "door") ≡ Some door
  pub again : s.args_override_self ≡ false

-- it takes DOORs where there are some
abbrev pub TakesThese : Shape → List Text → Type 0
TakesThese s [] = Unit {0}
TakesThese s (d ∷ ds) = TakesDoors s

pub takes_these : {s : Shape} → TakesDoors s → (ds : List Text) → TakesThese s ds
takes_these t [] = tt
takes_these t (d ∷ ds) = t

-- with the defaults behind them these rows are all rows, and the command takes them
pub record IsCompleted (s : Shape) (rows all : List Row) : Type 0 where
  pub fault : defaults_fault rows s.rules ≡ []
  pub defaults : fold with_default rows s.rules ≡ all
  pub check : check_fault s all false ≡ []

-- no option of a table without a name is called so
pub none_is : (id : Text) (table : List Text) (options : List Given) → ((name : Text) → is_among table name ≡ true → bytes_eq name id ≡ false)
    → is_each_once table options ≡ true → list_all (λ (o : Given). not (bytes_eq o.name id)) options ≡ true
none_is id table [] others once = refl
none_is id table (o ∷ options) others once =
    let parts = both (is_among table o.name) _ once in
    rw (others o.name parts.0) (none_is id (filter (λ n. not (bytes_eq o.name n)) table) options
    (λ name among. others name (still_among o.name table name among).0) parts.1)

-- and so none has its row
no_row : (id : Text) (options : List Given) → list_all (λ (o : Given). not (bytes_eq o.name id)) options ≡ true → has_row id (map option_row options) ≡ false
no_row id [] others = refl
no_row id (o ∷ options) others =
    let parts = both (not (bytes_eq o.name id)) _ others in
    rw (is_false _ parts.0) (no_row id options parts.1)

-- what is so of options and of others behind them is so of both
each_of : (test : Given → Bool) (options others : List Given) → list_all test (options ++ others) ≡ true → (list_all test options ≡ true) × (list_all test others ≡ true)
each_of test [] others all = (refl, all)
each_of test (o ∷ options) others all =
    let parts = both (test o) _ all in
    let rest = each_of test options others parts.1 in
    (rw parts.0 rest.0, rest.1)

none_of : (id : Text) (table : List Text) (before behind : List Given) → ((name : Text) → is_among table name ≡ true → bytes_eq name id ≡ false) → is_each_once table (before ++ behind) ≡ true
    → (list_all (λ (o : Given). not (bytes_eq o.name id)) before ≡ true) × (list_all (λ (o : Given). not (bytes_eq o.name id)) behind ≡ true)
none_of id table before behind others once = each_of (λ (o : Given). not (bytes_eq o.name id)) before behind (none_is id table (before ++ behind) others once)

-- a row that is there, among others
has_row_there : (id : Text) (front : List Row) (r : Row) (rows : List Row) → bytes_eq r.id id ≡ true → has_row id (front ++ r ∷ rows) ≡ true
has_row_there id [] r rows same = rw same refl
has_row_there id (x ∷ front) r rows same = rw (has_row_there id front r rows same) (or_true (bytes_eq x.id id))

-- plain words of a command with a flag have these rows: where the flag isn't given, its default is behind them
abbrev pub flagged_rows : Text → Flagged → List Row
flagged_rows name p =
    if p.is_given then map option_row p.before ++ flag_row name ∷ (map option_row p.behind ++ door_rows p.doors)
    else (map option_row (p.before ++ p.behind) ++ door_rows p.doors) ++ no_flag_row name ∷ []

-- options and DOORs have no row of the flag
no_flag_among : {s : Shape} (table : List Text) (name : Text) (p : Plain) → TakesFlag s table name → is_plain table p ≡ true
    → has_row name (map option_row p.options ++ door_rows p.doors) ≡ false
no_flag_among table name p t plain =
    let parts = both (is_each_once table p.options) _ plain in
    no_row_behind name (map option_row p.options) (door_rows p.doors)
    (no_row name p.options (none_is name table p.options (λ option among. (t.others option among).0) parts.0))
    (no_door_row name p.doors t.no_door.1)

-- ---- the walk

abbrev after_option : List Row → Option (Text × List Text) → Walk
after_option rows pending = record { held = record { rows = rows; pending = pending; skip = 0 }; waiting = idle; position = 1; is_trailing = false; stopped = None }

abbrev after_name : List Row → Text → Walk
after_name rows name = record { held = record { rows = rows; pending = Some (name, []); skip = 0 }; waiting = option name; position = 1; is_trailing = false; stopped = None }

abbrev after_door : List Row → Text → Walk
after_door rows d = record { held = record { rows = rows; pending = Some (codes "door", d ∷ []); skip = 0 }; waiting = positional; position = 1; is_trailing = false; stopped = None }

module _ (app : App) where
  abbrev walk_on : Walk → List Text → Walk
  walk_on = fold (walked app.top.rules [])

  abbrev end_fault : Walk → Kinds
  end_fault w =
      or_else (entered_fault app w.stopped) (or_else (settle_fault app.top.rules app.top.args_override_self w.held)
      (or_else (defaults_fault (settled app.top.rules w.held).rows app.top.rules) (check_fault app.top (finished app.top.rules w.held) (is_some (entered app w.stopped)))))

  abbrev pub read_from : Walk → List Text → Kinds × List Row
  read_from w words = (or_else (walk_fault app.top [] w words) (end_fault (walk_on w words)), finished app.top.rules (walk_on w words).held)

  next : (w after : Walk) (word : Text) (words : List Text) → turn_fault app.top [] w word ≡ [] → walked app.top.rules [] w word ≡ after
      → read_from w (word ∷ words) ≡ read_from after words
  unfolding walk_fault
  next w after word words none is =
      ap (λ ks. (or_else (or_else ks (walk_fault app.top [] (walked app.top.rules [] w word) words)) (end_fault (walk_on (walked app.top.rules [] w word) words)), finished app.top.rules (walk_on (walked app.top.rules [] w word) words).held)) none
      ∙ ap (λ v. read_from v words) is

  -- `--name=value`, where what is pending is settled into `rows`
  joined_next : (held : List Row) (pending : Option (Text × List Text)) (rows : List Row) (name value : Text) (words : List Text)
      → IsOption app.top.rules name → app.top.args_override_self ≡ false
      → settle_fault app.top.rules false (after_option held pending).held ≡ [] → settled_rows app.top.rules pending held ≡ rows → has_row name rows ≡ false
      → read_from (after_option held pending) ((codes "--" ++ name ++ codes "=" ++ value) ∷ words) ≡ read_from (after_option (rows ++ row name (value ∷ []) ∷ []) None) words
  unfolding walked
  joined_next held pending rows name value words o again none is new =
      next (after_option held pending) (after_option (rows ++ row name (value ∷ []) ∷ []) None) (codes "--" ++ name ++ codes "=" ++ value) words
      (simp (o.joined_dashes value, o.joined value, o.by_long, again, none, is, new) refl)
      (simp (o.joined_dashes value, o.joined value, o.by_long, is) (ap (λ rs. after_option rs None) (added name AsWritten value rows new)))

  -- `--name value`, where what is pending is settled into `rows`
  apart_next : (held : List Row) (pending : Option (Text × List Text)) (rows : List Row) (name : Text) (b : ℕ) (bs : Text) (words : List Text)
      → IsOption app.top.rules name → app.top.args_override_self ≡ false → (b == 45) ≡ false
      → settle_fault app.top.rules false (after_option held pending).held ≡ [] → settled_rows app.top.rules pending held ≡ rows
      → read_from (after_option held pending) ((codes "--" ++ name) ∷ (b ∷ bs) ∷ words) ≡ read_from (after_option rows (Some (name, (b ∷ bs) ∷ []))) words
  unfolding walked
  apart_next held pending rows name b bs words o again other none is =
      next (after_option held pending) (after_name rows name) (codes "--" ++ name) ((b ∷ bs) ∷ words)
      (simp (o.apart_dashes, o.apart, o.by_long, again, none) refl)
      (simp (o.apart_dashes, o.apart, o.by_long, is) refl)
      ∙ next (after_name rows name) (after_option rows (Some (name, (b ∷ bs) ∷ []))) (b ∷ bs) words
      (simp other refl)
      (simp (other, o.by_id, (bytes_eq-Decides name name).1 refl) refl)

  -- a value that is pending after its name
  pending_settles : (rows : List Row) (name value : Text) → IsOption app.top.rules name → app.top.args_override_self ≡ false → has_row name rows ≡ false
      → (settle_fault app.top.rules false (after_option rows (Some (name, value ∷ []))).held ≡ []) × (settled_rows app.top.rules (Some (name, value ∷ [])) rows ≡ rows ++ row name (value ∷ []) ∷ [])
  pending_settles rows name value o again new = (simp (o.by_id, new) refl, simp o.by_id (added name AsWritten value rows new))

  -- a flag, where what is pending is settled into `rows`
  flag_next : (held : List Row) (pending : Option (Text × List Text)) (rows : List Row) (name : Text) (words : List Text)
      → IsFlag app.top.rules name → app.top.args_override_self ≡ false
      → settle_fault app.top.rules false (after_option held pending).held ≡ [] → settled_rows app.top.rules pending held ≡ rows → has_row name rows ≡ false
      → read_from (after_option held pending) ((codes "--" ++ name) ∷ words) ≡ read_from (after_option (rows ++ flag_row name ∷ []) None) words
  unfolding walked
  flag_next held pending rows name words f again none is new =
      next (after_option held pending) (after_option (rows ++ flag_row name ∷ []) None) (codes "--" ++ name) words
      (simp (f.alone_dashes, f.alone, f.by_long, again, none, is, new) refl)
      (simp (f.alone_dashes, f.alone, f.by_long, is) (ap (λ rs. after_option rs None) (added name (reading_by (flag name)) (codes "true") rows new)))

  -- the first DOOR
  first_door : (held : List Row) (pending : Option (Text × List Text)) (rows : List Row) (b : ℕ) (bs : Text) (words : List Text)
      → TakesDoors app.top → (b == 45) ≡ false
      → settle_fault app.top.rules false (after_option held pending).held ≡ [] → settled_rows app.top.rules pending held ≡ rows
      → read_from (after_option held pending) ((b ∷ bs) ∷ words) ≡ read_from (after_door rows (b ∷ bs)) words
  unfolding walked
  first_door held pending rows b bs words t other none is =
      next (after_option held pending) (after_door rows (b ∷ bs)) (b ∷ bs) words
      (simp (other, t.by_index, t.again, none, and_false (is_pending door pending)) refl)
      (simp (other, t.by_index, is, and_false (is_pending door pending)) refl)

  -- a further DOOR
  next_door : (rows : List Row) (done : List Text) (d : Text) (b : ℕ) (bs : Text) (words : List Text)
      → TakesDoors app.top → (b == 45) ≡ false → has_row (codes "door") rows ≡ false
      → read_from (after_door (rows ++ door_rows done) d) ((b ∷ bs) ∷ words) ≡ read_from (after_door (rows ++ door_rows (done ++ d ∷ [])) (b ∷ bs)) words
  unfolding walked
  next_door rows done d b bs words t other none =
      next (after_door (rows ++ door_rows done) d) (after_door (rows ++ door_rows (done ++ d ∷ [])) (b ∷ bs)) (b ∷ bs) words
      (simp (other, t.by_index, t.by_id, t.again) refl)
      (simp (other, t.by_index, t.by_id) (ap (λ rs. after_door rs (b ∷ bs)) (door_added rows done d none)))

  -- the end of the words
  ends : (w : Walk) (rows all : List Row) → app.top.args_override_self ≡ false → w.stopped ≡ None → settle_fault app.top.rules false w.held ≡ [] → settled_rows app.top.rules w.held.pending w.held.rows ≡ rows
      → IsCompleted app.top rows all → read_from w [] ≡ ([], all)
  unfolding walk_fault
  ends w rows all again stopped none is complete = simp (stopped, again, none, is, complete.fault, complete.defaults, complete.check) refl

  doors_read : (rows : List Row) (done : List Text) (d : Text) (ds : List Text) (all : List Row) → TakesDoors app.top → has_row (codes "door") rows ≡ false → list_all is_plain_text ds ≡ true
      → IsCompleted app.top (rows ++ door_rows (done ++ d ∷ ds)) all
      → read_from (after_door (rows ++ door_rows done) d) ds ≡ ([], all)
  doors_read rows done d [] all t none plain complete =
      ends (after_door (rows ++ door_rows done) d) (rows ++ door_rows (done ++ d ∷ [])) all t.again refl (simp t.by_id refl) (simp t.by_id (door_added rows done d none)) complete
  doors_read rows done d ([] ∷ ds) all t none plain complete = absurd (true≢false (sym plain))
  doors_read rows done d ((b ∷ bs) ∷ ds) all t none plain complete =
      let parts = both _ _ plain in
      let whole : (done ++ d ∷ []) ++ (b ∷ bs) ∷ ds ≡ done ++ d ∷ (b ∷ bs) ∷ ds = append_assoc done (d ∷ []) ((b ∷ bs) ∷ ds) in
      next_door rows done d b bs ds t (is_false _ parts.0) none
      ∙ doors_read rows (done ++ d ∷ []) (b ∷ bs) ds all t none parts.1 (subst (λ es. IsCompleted app.top (rows ++ door_rows es) all) (sym whole) complete)

  -- the DOORs after the options
  rest_read : (held : List Row) (pending : Option (Text × List Text)) (rows : List Row) (ds : List Text) (all : List Row)
      → app.top.args_override_self ≡ false → TakesThese app.top ds
      → settle_fault app.top.rules false (after_option held pending).held ≡ [] → settled_rows app.top.rules pending held ≡ rows → has_row (codes "door") rows ≡ false
      → list_all is_plain_text ds ≡ true → IsCompleted app.top (rows ++ door_rows ds) all
      → read_from (after_option held pending) ds ≡ ([], all)
  rest_read held pending rows [] all again t none is no_door plain complete =
      ends (after_option held pending) (rows ++ []) all again refl none (is ∙ sym (append-nil rows)) complete
  rest_read held pending rows ([] ∷ ds) all again t none is no_door plain complete = absurd (true≢false (sym plain))
  rest_read held pending rows ((b ∷ bs) ∷ ds) all again t none is no_door plain complete =
      let parts = both _ _ plain in
      first_door held pending rows b bs ds t (is_false _ parts.0) none is
      ∙ ap (λ rs. read_from (after_door rs (b ∷ bs)) ds) (sym (append-nil rows))
      ∙ doors_read rows [] (b ∷ bs) ds all t no_door parts.1 complete

  option_read : (held : List Row) (pending : Option (Text × List Text)) (rows : List Row) (name value : Text) (is_joined : Bool) (words : List Text) (answer : Kinds × List Row)
      → app.top.args_override_self ≡ false → IsOption app.top.rules name → has_row name rows ≡ false
      → settle_fault app.top.rules false (after_option held pending).held ≡ [] → settled_rows app.top.rules pending held ≡ rows → is_plain_text value ≡ true
      → ((held' : List Row) (pending' : Option (Text × List Text)) → settle_fault app.top.rules false (after_option held' pending').held ≡ []
      → settled_rows app.top.rules pending' held' ≡ rows ++ row name (value ∷ []) ∷ [] → read_from (after_option held' pending') words ≡ answer)
      → read_from (after_option held pending) (written (record { name = name; value = value; is_joined = is_joined }) ++ words) ≡ answer
  option_read held pending rows name value true words answer again o new none is text onward =
      joined_next held pending rows name value words o again none is new ∙ onward (rows ++ row name (value ∷ []) ∷ []) None refl refl
  option_read held pending rows name [] false words answer again o new none is text onward = absurd (true≢false (sym text))
  option_read held pending rows name (b ∷ bs) false words answer again o new none is text onward =
      let settles = pending_settles rows name (b ∷ bs) o again new in
      apart_next held pending rows name b bs words o again (is_false _ text) none is ∙ onward rows (Some (name, (b ∷ bs) ∷ [])) settles.0 settles.1

  -- options that are still to come, of which none has a row yet, and others that come later: what is left of the table is for those
  options_read : (table : List Text) (options others : List Given) (held : List Row) (pending : Option (Text × List Text)) (rows : List Row) (words : List Text) (answer : Kinds × List Row)
      → app.top.args_override_self ≡ false → ((name : Text) → is_among table name ≡ true → IsOption app.top.rules name × (has_row name rows ≡ false))
      → settle_fault app.top.rules false (after_option held pending).held ≡ [] → settled_rows app.top.rules pending held ≡ rows
      → is_each_once table (options ++ others) ≡ true → list_all (λ (o : Given). is_plain_text o.value) options ≡ true
      → ((left : List Text) (held' : List Row) (pending' : Option (Text × List Text))
      → ((name : Text) → is_among left name ≡ true → (is_among table name ≡ true) × (has_row name (rows ++ map option_row options) ≡ false))
      → settle_fault app.top.rules false (after_option held' pending').held ≡ [] → settled_rows app.top.rules pending' held' ≡ rows ++ map option_row options
      → is_each_once left others ≡ true → read_from (after_option held' pending') words ≡ answer)
      → read_from (after_option held pending) (flat_map written options ++ words) ≡ answer
  options_read table [] others held pending rows words answer again known none is once texts onward =
      onward table held pending (λ name among. (among, rw append-nil (known name among).1)) none (is ∙ sym (append-nil rows)) once
  options_read table (o ∷ options) others held pending rows words answer again known none is once texts onward =
      let parts = both (is_among table o.name) _ once in
      let here = known o.name parts.0 in
      let values = both (is_plain_text o.value) _ texts in
      let later : (name : Text) → is_among (filter (λ n. not (bytes_eq o.name n)) table) name ≡ true → IsOption app.top.rules name × (has_row name (rows ++ option_row o ∷ []) ≡ false) =
      λ name among.
      let left = still_among o.name table name among in
      let before = known name left.0 in
      (before.0, has_row_added name rows (option_row o) before.1 left.1) in
      let all : (rows ++ option_row o ∷ []) ++ map option_row options ≡ rows ++ map option_row (o ∷ options) = append_assoc rows (option_row o ∷ []) (map option_row options) in
      ap (read_from (after_option held pending)) (append_assoc (written o) (flat_map written options) words)
      ∙ option_read held pending rows o.name o.value o.is_joined (flat_map written options ++ words) answer again here.0 here.1 none is values.0
      (λ held' pending' none' is'.
      options_read (filter (λ n. not (bytes_eq o.name n)) table) options others held' pending' (rows ++ option_row o ∷ []) words answer again later none' is' parts.1 values.1
      (λ left held'' pending'' within none'' is''.
      onward left held'' pending'' (λ name among.
      let further = within name among in
      ((still_among o.name table name further.0).0, ap (has_row name) (sym all) ∙ further.1)) none'' (is'' ∙ all)))

  -- plain words without a flag are taken, and have a row for each option and one for the DOORs, with the defaults behind them
  completed_taken : (table : List Text) (p : Plain) (all : List Row) → app.top.args_override_self ≡ false → TakesThese app.top p.doors
      → ((name : Text) → is_among table name ≡ true → IsOption app.top.rules name) → is_plain table p ≡ true
      → IsCompleted app.top (map option_row p.options ++ door_rows p.doors) all
      → read_from (walk_from nothing_held) (plain_words p) ≡ ([], all)
  completed_taken table p all again t known plain complete =
      let parts = both (is_each_once table p.options) _ plain in
      let texts = both (list_all (λ (o : Given). is_plain_text o.value) p.options) _ parts.1 in
      options_read table p.options [] [] None [] p.doors ([], all) again (λ name among. (known name among, refl)) refl refl
      (rw append-nil parts.0) texts.0
      (λ left held pending within none is once.
      rest_read held pending (map option_row p.options) p.doors all again t none is
      (no_row (codes "door") p.options (none_is (codes "door") table p.options (λ name among. (known name among).no_door) parts.0)) texts.1 complete)

  -- where the command gives no argument a default
  pub plain_taken : (table : List Text) (p : Plain) → TakesDoors app.top → list_all (λ (a : Rule). is_empty a.defaults) app.top.rules ≡ true
      → ((name : Text) → is_among table name ≡ true → IsOption app.top.rules name) → is_plain table p ≡ true
      → check_fault app.top (map option_row p.options ++ door_rows p.doors) false ≡ []
      → read_from (walk_from nothing_held) (plain_words p) ≡ ([], map option_row p.options ++ door_rows p.doors)
  plain_taken table p t defaults known plain check =
      let rows : List Row = map option_row p.options ++ door_rows p.doors in
      completed_taken table p rows t.again (takes_these t p.doors) known plain
      (record { fault = no_default_fault rows app.top.rules defaults; defaults = no_defaults rows app.top.rules defaults; check = check })

  -- words with a flag are taken
  flag_taken : (table : List Text) (name : Text) (before behind : List Given) (ds : List Text) → TakesFlag app.top table name → TakesThese app.top ds
      → is_each_once table (before ++ behind) ≡ true → list_all (λ (o : Given). is_plain_text o.value) (before ++ behind) ≡ true → list_all is_plain_text ds ≡ true
      → read_from (walk_from nothing_held) (flat_map written before ++ (codes "--" ++ name) ∷ (flat_map written behind ++ ds))
      ≡ ([], map option_row before ++ flag_row name ∷ (map option_row behind ++ door_rows ds))
  flag_taken table name before behind ds t doors once texts plain =
      let rows : List Row = map option_row before ++ flag_row name ∷ [] in
      let all : List Row = map option_row before ++ flag_row name ∷ (map option_row behind ++ door_rows ds) in
      let whole : (rows ++ map option_row behind) ++ door_rows ds ≡ all =
      append_assoc rows (map option_row behind) (door_rows ds) ∙ append_assoc (map option_row before) (flag_row name ∷ []) (map option_row behind ++ door_rows ds) in
      let parts = each_of (λ (o : Given). is_plain_text o.value) before behind texts in
      let no_flags = none_of name table before behind (λ option among. (t.others option among).0) once in
      let no_doors = none_of (codes "door") table before behind (λ option among. (t.options option among).no_door) once in
      options_read table before behind [] None [] ((codes "--" ++ name) ∷ (flat_map written behind ++ ds)) ([], all) t.again (λ option among. (t.options option among, refl)) refl refl once parts.0
      (λ left held pending within none is once'.
      flag_next held pending (map option_row before) name (flat_map written behind ++ ds) t.flag t.again none is (no_row name before no_flags.0)
      ∙ options_read left behind [] rows None rows ds ([], all) t.again
      (λ option among.
      let inside = within option among in
      (t.options option inside.0, has_row_added option (map option_row before) (flag_row name) inside.1 (t.others option inside.0).1)) refl refl
      (rw append-nil once') parts.1
      (λ left' held' pending' within' none' is' once''.
      let given = t.given all (has_row_there name (map option_row before) (flag_row name) (map option_row behind ++ door_rows ds) ((bytes_eq-Decides name name).1 refl)) in
      let no_door : has_row (codes "door") (rows ++ map option_row behind) ≡ false =
      no_row_behind (codes "door") rows (map option_row behind)
      (has_row_added (codes "door") (map option_row before) (flag_row name) (no_row (codes "door") before no_doors.0) t.no_door.0) (no_row (codes "door") behind no_doors.1) in
      rest_read held' pending' (rows ++ map option_row behind) ds all t.again doors none' is' no_door plain
      (subst (λ rs. IsCompleted app.top rs all) (sym whole) (record { fault = given.0; defaults = given.1; check = t.check all }))))

  -- and without it, where it has its default
  no_flag_taken : (table : List Text) (name : Text) (p : Plain) → TakesFlag app.top table name → TakesThese app.top p.doors → is_plain table p ≡ true
      → read_from (walk_from nothing_held) (plain_words p) ≡ ([], (map option_row p.options ++ door_rows p.doors) ++ no_flag_row name ∷ [])
  no_flag_taken table name p t doors plain =
      let rows : List Row = map option_row p.options ++ door_rows p.doors in
      let left_out = t.left_out rows (no_flag_among table name p t plain) in
      completed_taken table p (rows ++ no_flag_row name ∷ []) t.again doors t.options plain
      (record { fault = left_out.0; defaults = left_out.1; check = t.check (rows ++ no_flag_row name ∷ []) })

  -- plain words of a command with a flag are taken
  pub flagged_taken : (table : List Text) (name : Text) (p : Flagged) → TakesFlag app.top table name → TakesThese app.top p.doors → is_plain table (without_flag p) ≡ true
      → read_from (walk_from nothing_held) (flagged_words name p) ≡ ([], flagged_rows name p)
  flagged_taken table name p t doors plain = go p.is_given
    where
      before : List Text
      before = flat_map written p.before

      behind : List Text
      behind = flat_map written p.behind

      go : (b : Bool) → read_from (walk_from nothing_held) (flagged_words name (record p { is_given = b })) ≡ ([], flagged_rows name (record p { is_given = b }))
      go true =
          let parts = both (is_each_once table (p.before ++ p.behind)) _ plain in
          let texts = both (list_all (λ (o : Given). is_plain_text o.value) (p.before ++ p.behind)) _ parts.1 in
          ap (read_from (walk_from nothing_held))
          (append_assoc (before ++ (codes "--" ++ name) ∷ []) behind p.doors ∙ append_assoc before ((codes "--" ++ name) ∷ []) (behind ++ p.doors))
          ∙ flag_taken table name p.before p.behind p.doors t doors parts.0 texts.0 texts.1
      go false =
          ap (λ words. read_from (walk_from nothing_held) (words ++ p.doors))
          (ap (λ words. words ++ behind) (append-nil before) ∙ sym (flat_map-append written p.before p.behind))
          ∙ no_flag_taken table name (without_flag p) t doors plain

-- ---- what is read of the rows

-- the value of an option, where other rows are behind those of these options
value_among : (name : Text) (options others : List Given) (rows : List Row) → first_of name rows ≡ value_given name others
    → first_of name (map option_row options ++ rows) ≡ value_given name (options ++ others)
value_among name [] others rows behind = behind
value_among name (o ∷ options) others rows behind = go (bytes_eq o.name name) (value_among name options others rows behind)
  where
    go : (b : Bool) → first_of name (map option_row options ++ rows) ≡ value_given name (options ++ others)
        → option_and_then (λ (r : Row). slice_get r.values 0) (cond b (Some (option_row o)) (find (λ (r : Row). bytes_eq r.id name) (map option_row options ++ rows)))
        ≡ option_map (λ (g : Given). g.value) (cond b (Some o) (find (λ (g : Given). bytes_eq g.name name) (options ++ others)))
    go true e = refl
    go false e = e

-- where only DOORs are behind them
pub value_in_rows : (name : Text) (options : List Given) (ds : List Text) → bytes_eq (codes "door") name ≡ false
    → first_of name (map option_row options ++ door_rows ds) ≡ value_given name options
value_in_rows name options ds other = value_among name options [] (door_rows ds) (no_door ds) ∙ ap (value_given name) (append-nil options)
  where
    no_door : (ds : List Text) → first_of name (door_rows ds) ≡ None
    no_door [] = refl
    no_door (d ∷ ds) = rw other refl

-- the DOORs
pub doors_in_rows : (options : List Given) (ds : List Text) → list_all (λ (o : Given). not (bytes_eq o.name (codes "door"))) options ≡ true
    → doors_in (map option_row options ++ door_rows ds) ≡ ds
doors_in_rows [] [] others = refl
doors_in_rows [] (d ∷ ds) others = refl
doors_in_rows (o ∷ options) ds others =
    let parts = both (not (bytes_eq o.name (codes "door"))) _ others in
    rw (is_false _ parts.0) (doors_in_rows options ds parts.1)

-- rows of other ids in front are passed over
found_behind : (id : Text) (front rows : List Row) → has_row id front ≡ false
    → find (λ (r : Row). bytes_eq r.id id) (front ++ rows) ≡ find (λ (r : Row). bytes_eq r.id id) rows
found_behind id [] rows none = refl
found_behind id (x ∷ front) rows none =
    let parts = neither (bytes_eq x.id id) (has_row id front) none in
    rw parts.0 (found_behind id front rows parts.1)

-- and one behind is not found
found_before : (id : Text) (rows : List Row) (r : Row) → bytes_eq r.id id ≡ false
    → find (λ (x : Row). bytes_eq x.id id) (rows ++ r ∷ []) ≡ find (λ (x : Row). bytes_eq x.id id) rows
found_before id [] r other = rw other refl
found_before id (x ∷ rows) r other = ap (cond (bytes_eq x.id id) (Some x)) (found_before id rows r other)

abbrev first_value : Option Row → Option Text
first_value = option_and_then (λ (r : Row). slice_get r.values 0)

abbrev values_found : Option Row → List Text
values_found found = unwrap_or (option_map (λ (r : Row). r.values) found) []

-- an option's value is not touched by a flag's row
pub value_in_flagged : (id name : Text) (p : Flagged) → bytes_eq name id ≡ false → bytes_eq (codes "door") id ≡ false
    → first_of id (flagged_rows name p) ≡ value_given id (p.before ++ p.behind)
value_in_flagged id name p other no_door = go p.is_given
  where
    go : (b : Bool) → first_of id (flagged_rows name (record p { is_given = b })) ≡ value_given id (p.before ++ p.behind)
    go true =
        value_among id p.before p.behind (flag_row name ∷ (map option_row p.behind ++ door_rows p.doors))
        (rw other (value_in_rows id p.behind p.doors no_door))
    go false =
        ap first_value (found_before id (map option_row (p.before ++ p.behind) ++ door_rows p.doors) (no_flag_row name) other)
        ∙ value_in_rows id (p.before ++ p.behind) p.doors no_door

-- whether the flag is given
pub flag_in_flagged : {s : Shape} (table : List Text) (name : Text) (p : Flagged) → TakesFlag s table name → is_plain table (without_flag p) ≡ true
    → is_given (first_of name (flagged_rows name p)) ≡ p.is_given
flag_in_flagged table name p t plain = go p.is_given
  where
    once : is_each_once table (p.before ++ p.behind) ≡ true
    once = (both (is_each_once table (p.before ++ p.behind)) _ plain).0

    same : bytes_eq name name ≡ true
    same = (bytes_eq-Decides name name).1 refl

    go : (b : Bool) → is_given (first_of name (flagged_rows name (record p { is_given = b }))) ≡ b
    go true =
        ap (λ found. is_given (first_value found))
        (found_behind name (map option_row p.before) (flag_row name ∷ (map option_row p.behind ++ door_rows p.doors))
        (no_row name p.before (none_of name table p.before p.behind (λ option among. (t.others option among).0) once).0))
        ∙ rw same refl
    go false =
        ap (λ found. is_given (first_value found))
        (found_behind name (map option_row (p.before ++ p.behind) ++ door_rows p.doors) (no_flag_row name ∷ []) (no_flag_among table name (without_flag p) t plain))
        ∙ rw same refl

-- and the DOORs
pub doors_in_flagged : {s : Shape} (table : List Text) (name : Text) (p : Flagged) → TakesFlag s table name → is_plain table (without_flag p) ≡ true
    → doors_in (flagged_rows name p) ≡ p.doors
doors_in_flagged table name p t plain = go p.is_given
  where
    once : is_each_once table (p.before ++ p.behind) ≡ true
    once = (both (is_each_once table (p.before ++ p.behind)) _ plain).0

    no_option : (id : Text) → is_among table id ≡ true → bytes_eq id (codes "door") ≡ false
    no_option id among = (t.options id among).no_door

    go : (b : Bool) → doors_in (flagged_rows name (record p { is_given = b })) ≡ p.doors
    go true =
        let none = none_of (codes "door") table p.before p.behind no_option once in
        ap values_found
        (found_behind (codes "door") (map option_row p.before) (flag_row name ∷ (map option_row p.behind ++ door_rows p.doors)) (no_row (codes "door") p.before none.0))
        ∙ rw t.no_door.0 (doors_in_rows p.behind p.doors none.1)
    go false =
        ap values_found (found_before (codes "door") (map option_row (p.before ++ p.behind) ++ door_rows p.doors) (no_flag_row name) t.no_door.0)
        ∙ doors_in_rows (p.before ++ p.behind) p.doors (none_is (codes "door") table (p.before ++ p.behind) no_option once)
