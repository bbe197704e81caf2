-- Which listener of a door takes a request, and which of its rows serves it. Source: Listener.hostname and GatewaySpec.listeners of the
-- Gateway API reference.
use Rattle.std.specs.Prelude.{ℕ, List, Bool, true, ◌&&◌, ◌==◌, filter, Option}
use Rattle.std.specs.Option.{option_map_or}
use Rattle.std.specs.Ordering.{nat_cmp, on, flip_args, then_cmp}
use Rattle.std.specs.declared.cmp.Ordering.{Ordering}
use Rattle.gw_frames.specs.model.Requests.{Request}
use Rattle.gw_rows.specs.model.Fitting.{fits}
use Rattle.gw_rows.specs.model.Precedence.{precedence}
use Rattle.gw_rows.specs.model.Rows.{Row, Rows, ServedListener, foremost}
use Rattle.gw_text.specs.model.Chains.{◌>>=◌}
use Rattle.gw_text.specs.model.Hostnames.{covers, precise_length, written_length}

-- The listener takes requests for this host: its hostname covers it, or it has none.
abbrev pub takes_host : List ℕ → ServedListener → Bool
takes_host host l = option_map_or (λ h. covers h host) l.hostname true

-- The characters of its precise hostname; a wildcard or none counts 0.
abbrev pub precise_characters : ServedListener → ℕ
precise_characters l = option_map_or precise_length l.hostname 0

-- The characters of its hostname as it is written; none counts 0.
abbrev pub hostname_characters : ServedListener → ℕ
hostname_characters l = option_map_or written_length l.hostname 0

-- Which of two listeners is more specific: a precise hostname is more so than a wildcard, a longer wildcard than a shorter one, and any
-- than none.
abbrev pub specificity : ServedListener → ServedListener → Ordering
specificity = then_cmp (on precise_characters (flip_args nat_cmp)) (on hostname_characters (flip_args nat_cmp))

-- The listener that takes a request for this host: the most specific one. "Requests must be handled by the most specific matching
-- Listener": listener isolation. Source: GatewaySpec.listeners.
unfoldable pub listener_at : List ServedListener → List ℕ → Option ServedListener
listener_at listeners host = foremost specificity (filter (takes_host host) listeners)

-- The row is one of this listener, and fits the request.
abbrev pub fits_at : ServedListener → Request → Row → Bool
fits_at l q row = (row.listener == l.number) && fits row q

-- The row that serves a request: of those of the listener that takes it, and that fit, the one that precedence puts first.
unfoldable pub row_at : Rows → Request → Option Row
row_at rows q = listener_at rows.listeners q.host >>= λ l. foremost precedence (filter (fits_at l q) rows.rows)
