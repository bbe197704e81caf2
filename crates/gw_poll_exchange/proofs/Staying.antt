-- An upstream that stays so in one step stays so over several.
use Rattle.std.proofs.Common.{refl, ◌∙◌, arith}
use Rattle.gw_polling.specs.declared.poll_upstream.PollUpstream.{Ghosts as UpstreamWords}
use Rattle.gw_poll_exchange.specs.Stays.{UpstreamStays}

-- the law of an upstream is its first argument
pub up_self : {U : Type 0} (u : UpstreamWords U) → ((x : U) → u.becomes x x) → (up : U) → UpstreamStays u up up
up_self u becomes_self up = record {
  becomes = becomes_self up;
  unmarked = λ none. none;
  same = refl;
  later = omega arith;
  waits = omega arith;
}

pub up_then : {U : Type 0} (u : UpstreamWords U) → ((x y z : U) → u.becomes x y → u.becomes y z → u.becomes x z) → (a b c : U)
    → UpstreamStays u a b → UpstreamStays u b c → UpstreamStays u a c
up_then u becomes_then a b c first second = record {
  becomes = becomes_then a b c first.becomes second.becomes;
  unmarked = λ none. second.unmarked (first.unmarked none);
  same = second.same ∙ first.same;
  later = omega (arith, first.later, second.later);
  waits = omega (arith, first.waits, second.waits);
}
