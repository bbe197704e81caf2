-- How the served listeners of a door differ.
use Rattle.std.specs.Prelude.{◌≡◌, ◌≢◌, ◌<◌, ℕ, List, true, false, Some, length, slice_get}
use Rattle.std.specs.declared.cmp.Ordering.TheVariants.{Equal}
use Rattle.gw_match.specs.model.Choice.{specificity, takes_host}
use Rattle.gw_rows.specs.model.Rows.{ServedListener}
use Rattle.gw_text.specs.model.Hostnames.{same_hostname}

-- Any two at different places have different hostnames; two without hostname would have the same.
abbrev pub HaveDifferentHostnames : List ServedListener → Type 0
HaveDifferentHostnames listeners = (i j : ℕ) (a b : ServedListener) → i ≢ j → slice_get listeners i ≡ Some a → slice_get listeners j ≡ Some b
    → same_hostname a.hostname b.hostname ≡ false

-- Of any two at different places that take requests for one host, one is more specific than the other.
abbrev pub DifferInSpecificity : List ServedListener → Type 0
DifferInSpecificity listeners = (host : List ℕ) (i j : ℕ) (a b : ServedListener) → 0 < length host → i ≢ j
    → slice_get listeners i ≡ Some a → slice_get listeners j ≡ Some b → takes_host host a ≡ true → takes_host host b ≡ true → specificity a b ≢ Equal
