-- What is replied to requests that ask for what is held.
use Rattle.std.specs.Prelude.{ℕ, List, ◌++◌, codes, flat_map, Option, None, Some}
use Rattle.std.specs.List.{enumerate_from}
use Rattle.serde_json.specs.Data.{Data, number, unsigned, string, object, member, no_members, Members, put}
use Rattle.gw_text.specs.model.Forms.{host_text, printed}
use Rattle.gw_text.specs.model.Hostnames.{Host}
use Rattle.gw_text.specs.model.Names.{joined}
use Rattle.gw_json.specs.Lines.{line_of}
use Rattle.gw_rows.specs.model.Rows.{Row, Rows}
use Rattle.gw_admin_texts.specs.declared.reply.Status.TheVariants.{Ok}
use Rattle.gw_admin_texts.specs.model.Replies.{Reply, with_body}

-- The number of changes for which the lines before it stand.
abbrev pub front_data : ℕ → Data
front_data front = object (member (codes "front") (number (unsigned front)) no_members)

-- The program is there.
abbrev pub health_reply : Reply
health_reply = with_body Ok (codes "ok\n")

-- The statuses after so many changes.
abbrev pub status_reply : List ℕ → ℕ → Reply
status_reply statuses front = with_body Ok (statuses ++ line_of (front_data front))

-- The members, with the name of a row's listener.
abbrev pub with_listener : Row → Members → Members
with_listener row members = put (codes "listener") (string (printed row.name)) members

-- The members, with a row's Route, and the places of its rule and match.
abbrev pub with_route : Row → Members → Members
with_route row members =
    put (codes "rule") (number (unsigned row.rule))
    (put (codes "route") (string (printed (joined row.key)))
    (put (codes "match") (number (unsigned row.place)) members))

-- The members, with the hostname of a row, if it has one.
abbrev pub with_hostname : Option Host → Members → Members
with_hostname None members = members
with_hostname (Some h) members = put (codes "hostname") (string (printed (host_text h))) members

-- A row of the door of this number: its listener, its Route with the places of the rule and the match, and its hostname.
unfoldable pub row_data : ℕ → Row → Data
row_data door row =
    object (with_hostname row.hostname
    (with_route row
    (with_listener row
    (member (codes "door") (number (unsigned door)) no_members))))

-- The rows of the door of this number.
abbrev pub rows_text : ℕ → List Row → List ℕ
rows_text door rows = flat_map (λ row. line_of (row_data door row)) rows

-- The rows of doors, of which the first has this number.
abbrev pub tables_text : ℕ → List Rows → List ℕ
tables_text first tables = flat_map (λ e. rows_text e.0 e.1.rows) (enumerate_from first tables)

-- The rows of all doors after so many changes.
unfoldable pub table_reply : List Rows → ℕ → Reply
table_reply tables front = with_body Ok (tables_text 0 tables ++ line_of (front_data front))
