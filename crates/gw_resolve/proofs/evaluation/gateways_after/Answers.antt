-- The status of a Gateway more is evaluated; in the end the statuses tell the same of each key as those of all.
use Rattle.std.proofs.Common.{◌≡◌, ◌∙◌, ◌<◌, ◌≤◌, IfSome, List, ap, arith, get_or, length, rules, subst, sym}
use Rattle.std.specs.Prelude.{if◌then◌else◌}
use Rattle.gw_text.specs.model.Names.{Key, same_key}
use Rattle.gw_deps.specs.Touching.{Touched}
use Rattle.gw_eval.specs.Results.{gateway_status_at}
use Rattle.gw_kept.specs.Held.{gateway_status_key}
use Rattle.gw_kept.specs.Places.{kept_at}
use Rattle.gw_resolve.proofs.Keeping.{all_gateways_told, status_under}
use Rattle.gw_resolve.proofs.Telling.{told_all, told_more}
use Rattle.gw_resolve.proofs.evaluation.gateways_after.Goals as goal

pub replaced-requires-clause-own : goal.replaced-requires-clause-own
replaced-requires-clause-own g c =
    let key : c.deref.result.now ≡ c.deref-in-keys.result.now = c.deref.ensures ∙ sym c.deref-in-keys.ensures in
    subst (λ (k : Key). IfSome c.in_ok-share_status.field-0 (λ st. gateway_status_key st ≡ k)) key
    (status_under c.args.doors.now c.args.kept.now.controller c.args.world.now.world c.deref.result.now c.in_ok-share_status.field-0 (c.in_ok-share_status.ensures ∙ c.in_ok-status.ensures.status))

pub keys-preserved : goal.keys-preserved
keys-preserved g c =
    let f = gateway_status_at c.args.doors.now c.args.kept.now.controller c.args.world.now.world in
    let keys = c.args.touched.now.gateways in
    let i = c.keys.key-index in
    let e = c.deref-in-keys.result.now in
    let before = c.keys.all in
    let items : c.as_slice-key-items.result.now ≡ keys = c.as_slice-key-items.ensures.value ∙ ap (λ (t : Touched). t.gateways) c.touched.view_is in
    let bound : i < length c.as_slice-key-items.result.now = search rules in
    let at : c.key-item.result ≡ get_or c.as_slice-key-items.result.now i c.key-item.result = search rules in
    let within : i < length keys = rw items at bound in
    let here : e ≡ get_or keys i e = subst (λ (k : Key). k ≡ get_or keys i k) (sym c.deref-in-keys.ensures) (at ∙ ap (λ ks. get_or ks i c.key-item.result) items) in
    let fresh : c.in_ok-share_status.field-0 ≡ f e = c.in_ok-share_status.ensures ∙ c.in_ok-status.ensures.status ∙ ap f (c.deref.ensures ∙ sym c.deref-in-keys.ensures) in
    let found : (k : Key) → kept_at gateway_status_key k c.in_ok-all-2.all ≡ (if same_key e k then c.in_ok-share_status.field-0 else kept_at gateway_status_key k before) =
    c.in_ok-all-2.ensures.found in
    record {
      order = c.in_ok-all-2.ensures.order;
      told = told_more f (λ k. kept_at gateway_status_key k before) (λ k. kept_at gateway_status_key k c.in_ok-all-2.all) keys i e within here c.keys.invariant.told
          (λ k. found k ∙ ap (λ o. if same_key e k then o else kept_at gateway_status_key k before) fresh);
      steps = omega (arith, c.in_ok-status.ensures.steps, c.keys.invariant.steps);
    }

pub returns-clause-statuses : goal.returns-clause-statuses
returns-clause-statuses g c =
    let doors = c.args.doors.now in
    let controller = c.args.kept.now.controller in
    let w = c.args.world.now.world in
    let keys = c.args.touched.now.gateways in
    let i = c.keys.key-index in
    let items : c.as_slice-key-items.result.now ≡ keys = c.as_slice-key-items.ensures.value ∙ ap (λ (t : Touched). t.gateways) c.touched.view_is in
    let end : length c.as_slice-key-items.result.now ≤ i = search rules in
    let past : length keys ≤ i = rw items at end in
    all_gateways_told doors controller w c.keys.all (rw c.gateways-gateways.ensures.value at c.gateways-gateways.ensures.order) c.keys.invariant.order
    (told_all (gateway_status_at doors controller w) (λ k. kept_at gateway_status_key k c.keys.all) keys i past c.keys.invariant.told)
