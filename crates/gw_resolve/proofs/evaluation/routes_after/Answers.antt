-- A Route more is evaluated; in the end what is kept tells the same of each key as what is kept of all.
use Rattle.std.proofs.Common.{◌≡◌, ◌∙◌, ◌<◌, ◌≤◌, List, ap, arith, get_or, length, rules, subst, sym}
use Rattle.std.specs.Prelude.{if◌then◌else◌}
use Rattle.gw_text.specs.model.Names.{Key, same_key}
use Rattle.gw_deps.specs.Touching.{Touched}
use Rattle.gw_eval.specs.Kept.{KeptRoute, kept_route_at, kept_routes_of}
use Rattle.gw_kept.specs.Held.{Held, kept_route_key}
use Rattle.gw_kept.specs.Places.{kept_at}
use Rattle.gw_resolve.proofs.Keeping.{all_routes_told}
use Rattle.gw_resolve.proofs.Telling.{told_all, told_more}
use Rattle.gw_resolve.proofs.evaluation.routes_after.Goals as goal

pub keys-preserved : goal.keys-preserved
keys-preserved g c =
    let controller = c.args.former.now.controller in
    let w = c.args.world.now.world in
    let keys = c.args.touched.now.routes in
    let i = c.keys.key-index in
    let e = c.deref.result.now in
    let before = c.keys.kept in
    let after = c.in_ok-kept-2.kept in
    let items : c.as_slice-key-items.result.now ≡ keys = c.as_slice-key-items.ensures.value ∙ ap (λ (t : Touched). t.routes) c.touched.view_is in
    let bound : i < length c.as_slice-key-items.result.now = search rules in
    let at : c.key-item.result ≡ get_or c.as_slice-key-items.result.now i c.key-item.result = search rules in
    let within : i < length keys = rw items at bound in
    let here : e ≡ get_or keys i e = subst (λ (k : Key). k ≡ get_or keys i k) (sym c.deref.ensures) (at ∙ ap (λ ks. get_or ks i c.key-item.result) items) in
    let name : before.controller ≡ controller = ap (λ (h : Held). h.controller) c.keys.invariant.same in
    record {
      told = told_more (kept_route_at controller w) (λ k. kept_at kept_route_key k before.kept) (λ k. kept_at kept_route_key k after.kept) keys i e within here c.keys.invariant.told
          (λ k. c.in_ok-kept-2.ensures.found k ∙ ap (λ n. if same_key e k then kept_route_at n w e else kept_at kept_route_key k before.kept) name);
      same = c.in_ok-kept-2.ensures.same ∙ ap (λ (h : Held). record h { kept = after.kept }) c.keys.invariant.same;
      steps = omega (arith, c.with_route.ensures.steps, c.keys.invariant.steps);
    }

pub returns-clause-kept : goal.returns-clause-kept
returns-clause-kept g c =
    let controller = c.args.former.now.controller in
    let w = c.args.world.now.world in
    let keys = c.args.touched.now.routes in
    let i = c.keys.key-index in
    let items : c.as_slice-key-items.result.now ≡ keys = c.as_slice-key-items.ensures.value ∙ ap (λ (t : Touched). t.routes) c.touched.view_is in
    let end : length c.as_slice-key-items.result.now ≤ i = search rules in
    let past : length keys ≤ i = rw items at end in
    let is : c.keys.kept.kept ≡ kept_routes_of controller w =
    all_routes_told controller w c.keys.kept.kept (rw c.routes-routes.ensures.value at c.routes-routes.ensures.order) (rw c.kept-kept.ensures.value at c.kept-kept.ensures.order)
    (told_all (kept_route_at controller w) (λ k. kept_at kept_route_key k c.keys.kept.kept) keys i past c.keys.invariant.told) in
    c.keys.invariant.same ∙ ap (λ (kept : List KeptRoute). record c.args.former.now { kept = kept }) is
