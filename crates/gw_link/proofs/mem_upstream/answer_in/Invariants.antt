use Rattle.std.proofs.Common.{◌≡◌, drop, fold, option_copied, unwrap_or}
use Rattle.gw_link.specs.Upstreams.{own_answer, answer_after, answer_at}
use Rattle.gw_link.proofs.mem_upstream.answer_in.Given as goal

abbrev pub invariant-orders : goal.invariant-orders
invariant-orders l = fold (answer_after l.to) (unwrap_or (option_copied l.answer) (own_answer l.to)) (drop l.order-index l.orders) ≡ answer_at l.to l.orders
