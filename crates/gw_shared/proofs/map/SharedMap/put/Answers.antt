-- The bucket of the key gets a new entry, in place of the one that was there.
use Rattle.std.proofs.Common.{◌≡◌, ◌∙◌, ap, cond, bytes_eq, ◌∷◌, [], ◌++◌, Some}
use Rattle.gw_shared.specs.model.Buckets.{bucket_of, value_at, with_bucket, without}
use Rattle.gw_shared.proofs.Placing.{changed, put_value}
use Rattle.gw_shared.proofs.map.SharedMap.put.Goals as goal

pub returns : goal.returns
returns g c = λ other.
    let key = c.args.key.now in
    let hash = c.hash_of-hash.result in
    let old = c.make_room.new.self in
    let bucket : c.bucket_of.result.now ≡ bucket_of hash old = c.bucket_of.ensures ∙ ap (bucket_of hash) c.self.view_is in
    let entries : c.push.new.self.items ≡ without hash key (bucket_of hash old) ++ record { hash = hash; key = key; value = c.args.value } ∷ [] =
    c.in_ok-push.ensures.items
    ∙ ap (λ s. s ++ c.in_ok-slot.slot ∷ []) (c.in_ok-slots.ensures ∙ ap (without hash key) bucket)
    ∙ ap (λ e. without hash key (bucket_of hash old) ++ e ∷ []) c.in_ok-slot.ensures in
    let now : value_at (with_bucket hash c.push.new.self.items old) other ≡ cond (bytes_eq other key) (Some c.args.value) (value_at old other) =
    ap (λ es. value_at (with_bucket hash es old) other) entries ∙ put_value key other c.args.value old hash c.hash_of-hash.ensures c.in_ok-make_room.ensures.room in
    let was : value_at old other ≡ value_at c.args.self.now other = c.make_room.ensures.values other in
    changed c.set.result c.set.new.self old hash c.push.new.self.items other (bytes_eq other key) (Some c.args.value) (value_at c.args.self.now other)
    c.set.ensures.set c.set.ensures.kept (now ∙ ap (λ v. cond (bytes_eq other key) (Some c.args.value) v) was) was
