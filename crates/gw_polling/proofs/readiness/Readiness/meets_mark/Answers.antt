use Rattle.std.proofs.Common.{◌≡◌, rules}
use Rattle.gw_polling.specs.PollMemory.{after_mark}
use Rattle.gw_polling.proofs.ReadLemmas.{marked_has, none_left}
use Rattle.gw_polling.proofs.readiness.Readiness.meets_mark.Goals as goal

pub returns-clause-had : goal.returns-clause-had
returns-clause-had c = λ is. marked_has c.args.self.now (search rules)

pub returns-clause-none : goal.returns-clause-none
returns-clause-none c = λ none.
    let after : c.wait.new.self ≡ after_mark c.args.self.now = search rules in
    rw after (none_left c.args.self.now none)
