-- Asking whether a worker is ahead changes nothing of it, where it isn't.
use Rattle.std.proofs.Common.{◌≡◌, ◌∙◌, ℕ, List, ap, refl}
use Rattle.gw_snap.specs.Lists.{Seen}
use Rattle.gw_store.specs.declared.event.Entry.{Entry}
use Rattle.gw_text.specs.model.Doors.{Door}
use Rattle.gw_replay.proofs.Serving.{same_worker, served_as}
use Rattle.gw_replay.proofs.connections.take_published.Goals as goal

pub returns-clause-served : goal.returns-clause-served
returns-clause-served g c = λ p bytes parts text at stands.
    let was : c.pass.result.now ≡ c.take.new.worker.pass = c.pass.ensures.value in
    let same : record { pass = c.ahead.new.pass; books = c.take.new.worker.books } ≡ c.take.new.worker
    = same_worker c.take.new.worker (record { pass = c.ahead.new.pass; books = c.take.new.worker.books })
    (c.ahead.ensures.seen ∙ ap (λ (q : Seen Entry (List Door × List ℕ)). q.seen) was) (c.ahead.ensures.fixed ∙ ap (λ (q : Seen Entry (List Door × List ℕ)). q.fixed) was)
    (c.ahead.ensures.book ∙ ap (λ (q : Seen Entry (List Door × List ℕ)). q.book) was) (c.ahead.ensures.refused ∙ ap (λ (q : Seen Entry (List Door × List ℕ)). q.refused) was)
    (c.if-ahead.ensures.ahead ∙ ap (λ (q : Seen Entry (List Door × List ℕ)). q.ahead) was) refl in
    served_as same (c.in-Ok.ensures.served p bytes parts text at stands)
