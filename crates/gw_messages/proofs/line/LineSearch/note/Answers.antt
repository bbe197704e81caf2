-- A line that goes on.
use Rattle.std.proofs.Common.{◌≡◌, true, ◌||◌, sym, ◌∙◌, refl}
use Rattle.std.specs.List.{list_any}
use Rattle.httparse.specs.Grammar.{is_ows}
use Rattle.gw_messages.proofs.LineSearches.{either, noted}
use Rattle.gw_messages.proofs.line.LineSearch.note.Goals.{then-self, else-self}
use Rattle.gw_messages.proofs.line.LineSearch.note.Goals as goal

pub returns-then-has_blank-clause-kept : goal.returns-then-has_blank-clause-kept
returns-then-has_blank-clause-kept c =
    let some : (c.has_byte-self.result || list_any is_ows c.args.front.now) ≡ true =
    elim c.if-self.branch [
      | then-self w ↦ rw w.if-self.true refl
      | else-self w ↦ either c.has_byte-self.result _ cc
    ] in
    noted _ c.args.front.now refl c.requires (sym c.has_byte.ensures ∙ c.if-not-has_byte.true) c.has_byte-self.ensures some
