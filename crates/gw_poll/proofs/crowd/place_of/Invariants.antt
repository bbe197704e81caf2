use Rattle.std.proofs.Common.{◌≡◌, ◌==◌, drop}
use Rattle.std.specs.List.{list_any}
use Rattle.gw_poll.proofs.crowd.place_of.Given as goal

abbrev pub invariant-members : goal.invariant-members
invariant-members g l = list_any (λ member. member.number == l.number) (drop l.at l.members) ≡ list_any (λ member. member.number == l.number) l.members
