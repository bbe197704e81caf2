-- All that is named is polled, and those that wait are open again.
use Rattle.std.proofs.Common.{◌≡◌, ◌∙◌, ◌+◌, ◌∷◌, drop, get_or, refl, rules}
use Rattle.std.proofs.lemmas.Bool.Decides.{Decides-eqb}
use Rattle.std.proofs.lemmas.List.{drop_more}
use Rattle.std.proofs.lemmas.Map.Made.{IsDistinct-from_AllPairs}
use Rattle.gw_lists.proofs.Beginnings.{begins_with-self, begins_with-trans}
use Rattle.gw_poll.proofs.Crowding.{can_turn_again, parted, turned, turns_none}
use Rattle.gw_poll.proofs.crowd.Crowd.turn.Goals as goal

pub named-init : goal.named-init
named-init g c = record {
  turns = rw (c.in_ok-waiting.ensures.items, c.in_ok-gone.ensures.items)
      (turns_none g.K.PollLink g.U.PollUpstream _ _ _ _ _ c.requires.can_turn.open_at (IsDistinct-from_AllPairs Decides-eqb _ c.requires.can_turn.different));
  waiting_room = search rules;
  gone_room = search rules;
  room = refl;
  fixed = refl;
  door = refl;
  later = begins_with-self _;
  task = λ fact holds. holds;
}

pub named-preserved : goal.named-preserved
named-preserved g c =
    let i = c.named.invariant in
    let named = c.args.ready.now in
    let at = c.named.number-index in
    let next : drop at named ≡ get_or named at 0 ∷ drop (at + 1) named = drop_more named at 0 (rw c.as_slice-number-items.ensures at c.named-test.true) in
    record {
      turns = (rw i.door at c.poll_named.ensures.turns c.args.self.now.worker c.args.self.now.members.items named at (rw c.as_slice-number-items.ensures next)) i.turns;
      waiting_room = rw c.poll_named.ensures.waiting_room i.waiting_room;
      gone_room = rw c.poll_named.ensures.gone_room i.gone_room;
      room = c.poll_named.ensures.room ∙ i.room;
      fixed = c.poll_named.ensures.fixed ∙ i.fixed;
      door = c.poll_named.ensures.door ∙ i.door;
      later = begins_with-trans _ _ _ i.later c.poll_named.ensures.later;
      task = λ fact holds. c.poll_named.ensures.task fact (i.task fact holds);
    }

pub poll_named-requires-clause-open_at : goal.poll_named-requires-clause-open_at
poll_named-requires-clause-open_at g c = rw c.named.invariant.door c.named.invariant.turns.left_open

pub returns-clause-turned : goal.returns-clause-turned
returns-clause-turned g c =
    turned g.K.PollLink g.U.PollUpstream _ c.args.self.now _ _ _ _ _ _ c.named.invariant.turns (rw c.as_slice-number-items.ensures at c.named-test.false) (rw c.unwrap.ensures at c.append.ensures.items) c.named.invariant.door c.requires.can_turn

pub returns-clause-parted : goal.returns-clause-parted
returns-clause-parted g c = rw (rw c.unwrap.ensures at c.append.ensures.items) (parted g.K.PollLink g.U.PollUpstream _ _ _ _ _ _ _ _ _ _ c.named.invariant.turns)

pub returns-clause-can_turn : goal.returns-clause-can_turn
returns-clause-can_turn g c =
    can_turn_again g.K.PollLink g.U.PollUpstream _ c.args.self.now _ _ _ _ _ _ c.named.invariant.turns (rw c.unwrap.ensures at c.append.ensures.items) c.named.invariant.door c.named.invariant.fixed c.requires.can_turn
