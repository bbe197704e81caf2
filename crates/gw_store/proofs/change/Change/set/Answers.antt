-- What stood there is at hand.
use Rattle.std.proofs.Common.{◌≡◌, ◌∙◌, ap, arith, get_or, length, refl, set, Some, sym}
use Rattle.std.proofs.lemmas.List.{length-set}
use Rattle.gw_store.proofs.Undoing.{set_back, there_set}
use Rattle.gw_store.proofs.change.Change.set.Goals as goal

pub returns-clause-undoable : goal.returns-clause-undoable
returns-clause-undoable g c =
    let items = c.args.list.now.items in
    let had : c.replace-had.result ≡ get_or items c.args.at c.index_mut.result.now = c.replace-had.ensures.value ∙ c.index_mut.ensures.value in
    record {
      list = sym (ap (λ x. set (set items c.args.at c.replace-had.new.dest) c.args.at x) had ∙ set_back items c.args.at c.replace-had.new.dest c.index_mut.result.now);
      within = omega (arith, c.requires, length-set items c.args.at c.replace-had.new.dest);
      room = refl;
    }

pub returns-clause-put : goal.returns-clause-put
returns-clause-put g c = there_set c.args.list.now.items c.args.at c.replace-had.new.dest c.requires ∙ ap (λ x. Some x) c.replace-had.ensures.after
