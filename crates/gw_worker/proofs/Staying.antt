-- What stays as it was in one step stays so over several.
use Rattle.std.proofs.Common.{refl, ◌∙◌, arith}
use Rattle.gw_link.proofs.KeptLemmas.{keeps_self, keeps_then}
use Rattle.gw_link.specs.declared.link.Link.{Ghosts as LinkWords}
use Rattle.gw_link.specs.declared.upstream.Upstream.{Ghosts as UpstreamWords}
use Rattle.gw_lists.proofs.Beginnings.{begins_with-self, begins_with-trans}
use Rattle.gw_worker.specs.Stays.{LinkStays, PassStays, UpstreamStays}
use Rattle.gw_worker.specs.model.Workers.{Worker}

pub pass_self : (w : Worker) → PassStays w w
pass_self w = record { later = begins_with-self w.pass.seen; fixed = refl; book = refl; ahead = refl }

pub pass_then : (a b c : Worker) → PassStays a b → PassStays b c → PassStays a c
pass_then a b c first second = record {
  later = begins_with-trans a.pass.seen b.pass.seen c.pass.seen first.later second.later;
  fixed = second.fixed ∙ first.fixed;
  book = second.book ∙ first.book;
  ahead = second.ahead ∙ first.ahead;
}

pub link_self : {K : Type 0} (k : LinkWords K) (link : K) → LinkStays k link link
link_self k link = record { unread = keeps_self (k.left link); later = omega arith }

pub link_then : {K : Type 0} (k : LinkWords K) (a b c : K) → LinkStays k a b → LinkStays k b c → LinkStays k a c
link_then k a b c first second = record {
  unread = keeps_then (k.left a) (k.left b) (k.left c) first.unread second.unread;
  later = omega (arith, first.later, second.later);
}

-- the law of an upstream is its first argument
pub up_self : {U : Type 0} (u : UpstreamWords U) → ((x : U) → u.becomes x x) → (up : U) → UpstreamStays u up up
up_self u becomes_self up = record { later = omega arith; becomes = becomes_self up }

pub up_then : {U : Type 0} (u : UpstreamWords U) → ((x y z : U) → u.becomes x y → u.becomes y z → u.becomes x z) → (a b c : U)
    → UpstreamStays u a b → UpstreamStays u b c → UpstreamStays u a c
up_then u becomes_then a b c first second = record {
  later = omega (arith, first.later, second.later);
  becomes = becomes_then a b c first.becomes second.becomes;
}
