-- A prefix that fits is no longer than the path.
use Rattle.std.proofs.Common.{◌≤◌, length, subst, sym}
use Rattle.gw_path.proofs.Elements.{prefix-length}
use Rattle.gw_path.proofs.replace_prefix.Goals as goal

pub split_at-requires : goal.split_at-requires
split_at-requires c =
    subst (λ p. length p ≤ length c.args.path.now) (sym c.trimmed.ensures) (prefix-length c.args.prefix.now c.args.path.now c.requires)
