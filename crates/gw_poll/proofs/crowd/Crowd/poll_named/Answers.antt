-- The connection with the number is taken out and polled.
use Rattle.std.proofs.Common.{◌∙◌, ◌∷◌, ap, refl, subst, sym, IsPermutation}
use Rattle.std.proofs.lemmas.List.Sorted.{IsPermutation-swap_remove}
use Rattle.gw_poll.proofs.Crowding.{among_members, turns_more, turns_past}
use Rattle.gw_poll.specs.Courses.{CanGoOn}
use Rattle.gw_poll.specs.Members.{Member}
use Rattle.gw_poll.proofs.crowd.Crowd.poll_named.Goals as goal

pub poll_one-requires-clause-going : goal.poll_one-requires-clause-going
poll_one-requires-clause-going g c =
    subst (λ (m : Member _ _). CanGoOn m.conn.course (g.U.PollUpstream.at m.conn.up)) (sym c.swap_remove-member.ensures.value)
    (c.requires.open_at c.in-Some.at c.swap_remove-member.result (rw c.deref.ensures.value at c.in-Some.ensures.found.0)).0

pub returns-in_default-clause-turns : goal.returns-in_default-clause-turns
returns-in_default-clause-turns g c = λ first before named done next t.
    turns_past g.K.PollLink g.U.PollUpstream _ _ first _ before _ _ _ named done c.args.number t next
    (sym (among_members c.args.number c.args.self.now.members.items) ∙ (rw c.deref.ensures.value at c.in_default.ensures.none refl))

pub returns-clause-turns : goal.returns-clause-turns
returns-clause-turns g c = λ first before named done next t.
    let taken = c.swap_remove-member in
    let less = rw c.deref.ensures.value at c.in-Some.ensures.found.0 in
    let named_so = rw c.deref.ensures.value at c.in-Some.ensures.found.1 taken.result in
    turns_more g.K.PollLink g.U.PollUpstream _ _ _ first _ _ before _ _ _ _ _ _ taken.result named done c.args.number t next
    (subst (λ left. IsPermutation c.args.self.now.members.items (taken.result ∷ left)) (sym taken.ensures.items) (IsPermutation-swap_remove c.args.self.now.members.items c.in-Some.at taken.result less taken.ensures.value))
    (ap (λ (m : Member _ _). m.number) taken.ensures.value ∙ named_so)
    c.poll_one.ensures.polls c.poll_one.ensures.task
