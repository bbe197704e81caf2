-- A match that fits is a prefix of the path, of whichever type it is.
use Rattle.std.proofs.Common.{◌≡◌, ◌∙◌, ap}
use Rattle.gw_text.specs.model.Matches.{PathMatch}
use Rattle.gw_filters.proofs.Fitting.{fits_as_prefix}
use Rattle.gw_filters.proofs.path.modified.Goals as goal

pub replace_prefix-requires : goal.replace_prefix-requires
replace_prefix-requires c =
    let prefix = c.bytes-in-Some-ReplacePrefixMatch in
    let value : prefix.result.now ≡ c.args.m.now.value = prefix.ensures ∙ ap (λ (m : PathMatch). m.value) c.m.view_is in
    rw (value, c.bytes.ensures) (fits_as_prefix c.args.m.now.sort c.args.m.now.value c.args.path.now c.requires)
