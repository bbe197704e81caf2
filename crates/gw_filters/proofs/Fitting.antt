-- A match that fits a path is a prefix of it, of whichever type it is.
use Rattle.std.proofs.Common.{◌≡◌, refl, sym, subst, ℕ, ◌-◌, Bool, true, false, IsTrue, List, [], ◌++◌, length, take, codes, nat_eq, append-nil, true≢false}
use Rattle.std.proofs.lemmas.Bool.Decides.{Decides-eqb}
use Rattle.std.proofs.lemmas.Slice.Eq.{bytes_eq-Decides, ends_is}
use Rattle.std.specs.List.{ends_with}
use Rattle.gw_text.specs.declared.types.PathMatchType.{PathMatchType}
use Rattle.gw_text.specs.declared.types.PathMatchType.TheVariants as path_types
use Rattle.gw_text.specs.model.Paths.{BeginsWithPrefix, is_path_prefix}
use Rattle.gw_path.proofs.Elements.{prefix-bytes}
use Rattle.gw_text.specs.model.Matches.{fits_by}

-- A path begins with itself as a prefix: what is left is its slash, or nothing.
begins_with_itself : (path : List ℕ) → BeginsWithPrefix path path
begins_with_itself path = by (ends_with nat_eq path (codes "/")) refl
  where
    by : (b : Bool) → ends_with nat_eq path (codes "/") ≡ b → BeginsWithPrefix path path
    by true e =
        let cut : path ≡ take (length path - 1) path ++ codes "/" =
        (ends_is Decides-eqb path (codes "/") (ends_with nat_eq path (codes "/")) refl).0 e in
        (codes "/", rw e cut, refl)
    by false e = ([], rw e (sym (append-nil path)), tt)

pub fits_as_prefix : (sort : PathMatchType) (value path : List ℕ) → IsTrue (fits_by sort value path) → IsTrue (is_path_prefix value path)
fits_as_prefix path_types.Exact value path h =
    let same : value ≡ path = (bytes_eq-Decides value path).0 h in
    (prefix-bytes value path).1 (subst (λ (p : List ℕ). BeginsWithPrefix value p) same (begins_with_itself value))
fits_as_prefix path_types.PathPrefix value path h = h
fits_as_prefix (path_types.Other name) value path h = absurd (true≢false (sym h))
