use Rattle.std.proofs.Common.{◌≡◌, ◌∙◌, ◌<◌, ◌&&◌, not, length, take, get_or, refl, nat_eq, rules}
use Rattle.std.specs.List.{list_any}
use Rattle.gw_eval.specs.Counting.{attaches}
use Rattle.gw_eval.proofs.Places.{below_more, counted_more, small_yet}
use Rattle.gw_eval.proofs.attached.count_row.Goals as goal

pub places-preserved : goal.places-preserved
places-preserved c =
    let places = c.as_slice-places.result.now in
    let i = c.places.index in
    let place = get_or places i 0 in
    let taken = attaches c.args.earlier.now c.args.entry.now.gateway in
    let counts : c.is_counted-is_counted.result ≡ (not (list_any (nat_eq place) (take i places)) && not (taken place)) = search rules in
    record {
      size = c.count_place.ensures.length ∙ c.places.invariant.size;
      counted = counted_more c.args.row.now c.places.row c.count_place.new.row places i place taken c.is_counted-is_counted.result
          c.places-test.true refl counts c.places.invariant.size c.places.invariant.counted c.count_place.ensures.numbers;
      below = λ other above. below_more places i place c.places.highest c.places-test.true refl c.places.invariant.below other (rw (← c.max-highest.ensures) above);
    }

pub count_place-requires : goal.count_place-requires
count_place-requires c holds within =
    let places = c.as_slice-places.result.now in
    let place = get_or places c.places.index 0 in
    let taken = attaches c.args.earlier.now c.args.entry.now.gateway in
    let among = list_any (nat_eq place) (take c.places.index places) in
    let counts : c.is_counted-is_counted.result ≡ (not among && not (taken place)) = search rules in
    let here : place < length c.args.row.now = rw (← c.places.invariant.size) within in
    small_yet among (taken place) c.is_counted-is_counted.result (get_or c.args.row.now place 0) (get_or c.places.row place 0) _ counts holds (c.places.invariant.counted place here) (c.requires place here)
