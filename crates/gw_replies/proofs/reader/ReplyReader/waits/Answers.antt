-- A head or a body that isn't whole.
use Rattle.std.proofs.Common.{sym, subst}
use Rattle.gw_replies.specs.Replies.{IsOpen}
use Rattle.gw_replies.proofs.Replies.{head_unfinished, needs, still_reads}
use Rattle.gw_replies.proofs.reader.ReplyReader.waits.Goals as goal

pub returns-in-Part-clause-need : goal.returns-in-Part-clause-need
returns-in-Part-clause-need c = λ is.
    needs c.args.self.now (subst IsOpen (sym c.in-Head.is) tt) c.if-over.false (head_unfinished c.args.self.now c.in-Head.is c.in-Part.ensures.found)

pub returns-in-Body-clause-need : goal.returns-in-Body-clause-need
returns-in-Body-clause-need c = λ is.
    needs c.args.self.now (subst IsOpen (sym c.in-Body.is) tt) c.if-over.false (still_reads c.args.self.now c.in-Body.field-0 c.in-Body.reading c.in-Body.is (c.waits.ensures.part is))
