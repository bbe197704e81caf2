-- Nothing stood there.
use Rattle.std.proofs.Common.{◌≡◌, ◌∙◌, ap, arith, length, sym}
use Rattle.std.proofs.lemmas.List.Edits.{length-insert}
use Rattle.gw_store.proofs.Undoing.{insert_back, there_insert}
use Rattle.gw_store.proofs.change.Change.insert.Goals as goal

pub returns-clause-undoable : goal.returns-clause-undoable
returns-clause-undoable g c =
    let items = c.args.list.now.items in
    record {
      list = rw (c.insert.ensures.items, c.unwrap.ensures) (sym (insert_back items c.args.at c.args.item c.requires.place));
      within = rw (c.insert.ensures.items, c.unwrap.ensures) (omega (arith, c.requires.place, length-insert items c.args.at c.args.item c.requires.place));
      room = omega (arith, c.requires.room, rw c.unwrap.ensures at c.insert.ensures.len, (c.insert.ensures.in_place c.requires.room).1.0);
    }

pub returns-clause-put : goal.returns-clause-put
returns-clause-put g c = rw (c.insert.ensures.items, c.unwrap.ensures) (there_insert c.args.list.now.items c.args.at c.args.item c.requires.place)
