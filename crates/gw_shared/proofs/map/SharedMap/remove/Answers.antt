-- The bucket of the key loses its entry.
use Rattle.std.proofs.Common.{◌≡◌, ◌∙◌, refl, rules, ap, cond, bytes_eq, ◌<◌, length, None}
use Rattle.gw_shared.specs.model.Buckets.{bucket_of, value_at, with_bucket, without}
use Rattle.gw_shared.proofs.Placing.{changed, nothing, removed_value}
use Rattle.gw_shared.proofs.map.SharedMap.remove.Goals as goal

pub returns-then-len-eq0 : goal.returns-then-len-eq0
returns-then-len-eq0 g c = λ other.
    let none : length c.args.self.now ≡ 0 = search rules in
    nothing c.args.self.now other (bytes_eq other c.args.key.now) none

pub returns : goal.returns
returns g c = λ other.
    let key = c.args.key.now in
    let hash = c.hash_of-hash.result in
    let old = c.args.self.now in
    let bucket : c.bucket_of.result.now ≡ bucket_of hash old = c.bucket_of.ensures ∙ ap (bucket_of hash) c.self.view_is in
    let there : 0 < length old = search rules in
    let entries : c.in_ok-slots.slots.items ≡ without hash key (bucket_of hash old) = c.in_ok-slots.ensures ∙ ap (without hash key) bucket in
    let now : value_at (with_bucket hash c.in_ok-slots.slots.items old) other ≡ cond (bytes_eq other key) None (value_at old other) =
    ap (λ es. value_at (with_bucket hash es old) other) entries ∙ removed_value key other old hash c.hash_of-hash.ensures there in
    changed c.set.result c.set.new.self old hash c.in_ok-slots.slots.items other (bytes_eq other key) None (value_at old other)
    c.set.ensures.set c.set.ensures.kept now refl
