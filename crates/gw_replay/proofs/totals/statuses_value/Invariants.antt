-- The members so far are those of the counts so far.
use Rattle.std.proofs.Common.{◌≡◌, fold, take}
use Rattle.std.specs.Fmt.{decimal}
use Rattle.serde_json.specs.Data.{number, unsigned, no_members, put}
use Rattle.serde_json.specs.View.{members_view}
use Rattle.gw_replay.proofs.totals.statuses_value.Given as goal

abbrev pub invariant-counts : goal.invariant-counts
invariant-counts l = members_view l.members.entries ≡ fold (λ members e. put (decimal e.0) (number (unsigned e.1)) members) no_members (take l.count-index l.count-items)
