-- What a worker lends.
use Rattle.std.specs.Prelude.{ℕ, List, [], ◌∷◌}
use Rattle.std.specs.Arc.{arc_value}
use Rattle.std.specs.Borrow.{Lends, MutBor, Fml}
use denote.Struct.Tuple.{Tuple}
use Rattle.crossbeam_utils.specs.declared.rule.Protocol.{Ghosts as Ruling}
use Rattle.gw_match.specs.contracts.tables.Tables.{the_row as tables_row}
use Rattle.gw_match.specs.model.Telling.{Stands, Tables}
use Rattle.gw_snap.specs.Readers.{AllKnow, unknown}
use Rattle.gw_snap.specs.contracts.pass.RuledPass.{the_row as pass_row}
use Rattle.gw_snap.specs.contracts.rule.OneOpening.{the_row as rule_row}
use Rattle.gw_snap.specs.declared.known.Known.{Known}
use Rattle.gw_snap.specs.declared.rule.OneOpening.{OneOpening}
use Rattle.gw_snap.specs.declared.shown.Shown.{Shown}
use Rattle.gw_snap.specs.declared.told.Told.{Ghosts as Telling}
use Rattle.gw_store.specs.contracts.event.Entry.{the_row as entry_row}
use Rattle.gw_store.specs.declared.event.Entry.{Entry}
use Rattle.gw_text.specs.contracts.doors.Doors.{the_row as doors_row}
use Rattle.gw_text.specs.contracts.text.Text.{the_row as text_row}
use Rattle.gw_text.specs.model.Doors.{Door}
use Rattle.gw_worker.specs.contracts.worker.Worker.{the_row}
use Rattle.gw_worker.specs.model.Workers.{Pass, Worker}

-- How tables stand for a list of changes.
abbrev pub telling : Telling Tables Entry (List Door × List ℕ)
telling = record { tells = λ t list. Stands t list; fixed = λ t. (t.doors, t.controller); blank = ([], []) }

-- The rule of their snapshots.
abbrev pub ruling : Ruling OneOpening (Shown Tables Entry) (Known (List Door × List ℕ))
ruling = record {
  holds = λ shown readers. ∥ telling.tells (arc_value shown.value) shown.list.list ∥₁ × AllKnow shown.list.book (telling.fixed (arc_value shown.value)) readers;
  first = unknown telling.blank;
}

-- The worker ends with the last value behind r as its pass.
abbrev pub LendsPass : MutBor Worker → MutBor Pass → Fml
LendsPass w r = Lends the_row (pass_row tables_row rule_row entry_row (Tuple (doors_row ∷ text_row ∷ [])) telling ruling) w r (λ p. record w.now { pass = p })
