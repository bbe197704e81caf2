-- A link that stays so in one step stays so over several.
use Rattle.std.proofs.Common.{refl, ◌∙◌, arith}
use Rattle.gw_link.proofs.KeptLemmas.{keeps_self, keeps_then}
use Rattle.gw_polling.specs.declared.poll_link.PollLink.{Ghosts as LinkWords}
use Rattle.gw_poll.specs.Stays.{LinkGoesOn, LinkStays}

pub link_self : {K : Type 0} (k : LinkWords K) (link : K) → LinkStays k link link
link_self k link = record {
  unread = keeps_self (k.left link);
  unended = keeps_self (k.end link);
  unmarked = λ none. none;
  same = refl;
  later = omega arith;
  unread_waits = refl;
  write_waits = omega arith;
}

pub link_then : {K : Type 0} (k : LinkWords K) (a b c : K) → LinkStays k a b → LinkStays k b c → LinkStays k a c
link_then k a b c first second = record {
  unread = keeps_then (k.left a) (k.left b) (k.left c) first.unread second.unread;
  unended = keeps_then (k.end a) (k.end b) (k.end c) first.unended second.unended;
  unmarked = λ none. second.unmarked (first.unmarked none);
  same = second.same ∙ first.same;
  later = omega (arith, first.later, second.later);
  unread_waits = second.unread_waits ∙ first.unread_waits;
  write_waits = omega (arith, first.write_waits, second.write_waits);
}

-- a link that isn't read goes on
pub goes_unread : {K : Type 0} (k : LinkWords K) (a b : K) → LinkStays k a b → LinkGoesOn k a b
goes_unread k a b stays = record {
  unended = stays.unended;
  unmarked = stays.unmarked;
  same = stays.same;
  later = stays.later;
  read_waits = omega (arith, stays.unread_waits);
  write_waits = stays.write_waits;
}

pub link_goes_then : {K : Type 0} (k : LinkWords K) (a b c : K) → LinkGoesOn k a b → LinkGoesOn k b c → LinkGoesOn k a c
link_goes_then k a b c first second = record {
  unended = keeps_then (k.end a) (k.end b) (k.end c) first.unended second.unended;
  unmarked = λ none. second.unmarked (first.unmarked none);
  same = second.same ∙ first.same;
  later = omega (arith, first.later, second.later);
  read_waits = omega (arith, first.read_waits, second.read_waits);
  write_waits = omega (arith, first.write_waits, second.write_waits);
}
