-- The doors of a Gateway more are served anew; in the end those of all touched ones.
use Rattle.std.proofs.Common.{◌≡◌, ◌∙◌, ◌<◌, ◌≤◌, List, ap, get_or, length, map, rules, subst, sym}
use Rattle.gw_text.specs.model.Names.{Key}
use Rattle.gw_deps.specs.Touching.{Touched}
use Rattle.gw_kept.specs.Held.{Held, ServedDoor, served_anew}
use Rattle.gw_resolve.proofs.Telling.{doors_end, doors_left, doors_more}
use Rattle.gw_resolve.proofs.evaluation.doors_after.Goals as goal

pub gateways-preserved : goal.gateways-preserved
gateways-preserved c =
    let doors = c.args.doors.now in
    let former = c.args.former in
    let controller = former.controller in
    let w = c.args.world.now.world in
    let keys = c.args.touched.now.gateways in
    let i = c.gateways.gateway-index in
    let e = c.deref.result.now in
    let before = c.gateways.kept in
    let after = c.in_ok-kept.kept in
    let items : c.as_slice-gateway-items.result.now ≡ keys = c.as_slice-gateway-items.ensures.value ∙ ap (λ (t : Touched). t.gateways) c.touched.view_is in
    let bound : i < length c.as_slice-gateway-items.result.now = search rules in
    let at : c.gateway-item.result ≡ get_or c.as_slice-gateway-items.result.now i c.gateway-item.result = search rules in
    let within : i < length keys = rw items at bound in
    let here : e ≡ get_or keys i e = subst (λ (k : Key). k ≡ get_or keys i k) (sym c.deref.ensures) (at ∙ ap (λ ks. get_or ks i c.gateway-item.result) items) in
    let name : before.controller ≡ controller = ap (λ (h : Held). h.controller) c.gateways.invariant.same in
    let anew : after ≡ record before { doors = map (served_anew doors controller w e) before.doors } =
    c.in_ok-kept.ensures ∙ ap (λ (n : List _). record before { doors = map (served_anew doors n w e) before.doors }) name in
    record {
      doors = doors_more doors controller w keys i e before.doors after.doors _ within here c.gateways.invariant.doors (ap (λ (h : Held). h.doors) anew);
      same = anew
          ∙ ap (λ (h : Held). record h { doors = map (served_anew doors controller w e) before.doors }) c.gateways.invariant.same
          ∙ ap (λ (ds : List ServedDoor). record former { doors = ds }) (sym (ap (λ (h : Held). h.doors) anew));
    }

pub returns : goal.returns
returns c =
    let doors = c.args.doors.now in
    let former = c.args.former in
    let controller = former.controller in
    let w = c.args.world.now.world in
    let keys = c.args.touched.now.gateways in
    let i = c.gateways.gateway-index in
    let items : c.as_slice-gateway-items.result.now ≡ keys = c.as_slice-gateway-items.ensures.value ∙ ap (λ (t : Touched). t.gateways) c.touched.view_is in
    let end : length c.as_slice-gateway-items.result.now ≤ i = search rules in
    let past : length keys ≤ i = rw items at end in
    c.gateways.invariant.same
    ∙ ap (λ (ds : List ServedDoor). record former { doors = ds })
    (doors_end doors controller w keys i c.gateways.kept.doors _ past c.gateways.invariant.doors ∙ doors_left doors controller w keys former.doors c.requires)
