-- The members that are read stand in the order of the object's map.
use Rattle.std.proofs.Common.{◌≡◌, ℕ, List, [], ◌∷◌, String, Global, string_bytes, string_cmp, nat_cmp, Less}
use Rattle.std.specs.Cmp.Lexicographic.{slice_cmp}
use Rattle.std.specs.List.{AllByRecursion}
use Rattle.std.specs.List.Sorted.{IsStrictlySortedBy}
use Rattle.std.specs.Map.{keys_of}
use Rattle.serde_json.specs.View.{members_view}
use Rattle.serde_json.specs.declared.value.Value.{Value}
use Rattle.gw_json.specs.Fields.{Node, named_from, IsInByteOrder}

below_all : (k : String Global) (path : List ℕ) (es : List (String Global × Value)) → AllByRecursion (λ y. string_cmp k y ≡ Less) (keys_of es)
    → AllByRecursion (λ y. slice_cmp nat_cmp (string_bytes k) y ≡ Less) (keys_of (named_from path (members_view es)))
below_all k path [] below = tt
below_all k path (e ∷ es) below = (below.0, below_all k path es below.1)

named_ascend : (path : List ℕ) (es : List (String Global × Value)) → IsStrictlySortedBy string_cmp (keys_of es) → IsInByteOrder (named_from path (members_view es))
unfolding IsStrictlySortedBy
named_ascend path [] ascend = tt
named_ascend path (e ∷ es) ascend = (below_all e.0 path es ascend.0, named_ascend path es ascend.1)

pub names_ascend : (members : List (List ℕ × Node)) (path : List ℕ) (es : List (String Global × Value)) → members ≡ named_from path (members_view es)
    → IsStrictlySortedBy string_cmp (keys_of es) → IsInByteOrder members
names_ascend members path es is ascend = rw is (named_ascend path es ascend)
