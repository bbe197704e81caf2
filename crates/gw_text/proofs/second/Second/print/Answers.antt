use Rattle.std.proofs.Common.{◌≡◌, ◌/◌, ◌∙◌, ap, arith}
use Rattle.std.proofs.lemmas.Result.{IfOk-weaker}
use Rattle.gw_text.specs.model.Moments.{second_of, second_text, civil_text, civil_after}
use Rattle.gw_text.proofs.Calendar.{date_of-date_after}
use Rattle.gw_text.proofs.Moments.{civil-civil_after, second_of-second_text}
use Rattle.gw_text.proofs.second.Second.print.Goals as goal

pub text_of-text-requires : goal.text_of-text-requires
text_of-text-requires c = (date_of-date_after c.from_days_since_min-date.result (c.since_first-seconds.result / 86400) (omega (arith, c.since_first-seconds.ensures.bound)) c.from_days_since_min-date.ensures).1

is_text : (c : goal.After-from_bytes) → c.text_of-text.result ≡ second_text c.args.self.now
unfolding second_text
is_text c =
    c.text_of-text.ensures
    ∙ ap civil_text (civil-civil_after c.from_days_since_min-date.result c.from_second-time.result c.since_first-seconds.result c.since_first-seconds.ensures.bound c.from_days_since_min-date.ensures c.from_second-time.ensures.seconds ∙ ap civil_after c.since_first-seconds.ensures.value)

pub returns-clause-text : goal.returns-clause-text
returns-clause-text c = rw (is_text c) at c.from_bytes.ensures

pub returns-clause-again : goal.returns-clause-again
returns-clause-again c =
    let named = ap second_of (is_text c) ∙ second_of-second_text c.args.self.now in
    IfOk-weaker c.from_bytes.result _ _ (λ text same. ap second_of same ∙ named) c.from_bytes.ensures
