-- A text spells one target.
use Rattle.std.proofs.Common.{◌≡◌, ℕ, List, [], Option, Some, None, IsSome, refl, ap}
use Rattle.std.specs.Option.{ForSome, ForNone}
use Rattle.http_uri.specs.declared.uri.Uri.{Uri}
use Rattle.http_uri.specs.Grammar.{IsForm}
use Rattle.http_uri.proofs.Theorems.{Spells_unique}
use Rattle.gw_frames.specs.model.Heads.{Target, IsTarget}

-- a scheme stands before an authority
with_authority : (text : List ℕ) (scheme authority : Option (List ℕ)) (kept : List ℕ) → IsForm text scheme authority kept → ForSome scheme (λ _. IsSome authority)
with_authority text None authority kept h = λ x e. cc
with_authority text (Some s) None kept h = absurd h
with_authority text (Some s) (Some a) kept h = λ x e. refl

-- an authority without a scheme stands alone
stands_alone : (text : List ℕ) (scheme authority : Option (List ℕ)) (kept : List ℕ) → IsForm text scheme authority kept → ForNone scheme (ForSome authority (λ _. kept ≡ []))
stands_alone text None None kept h = λ none x e. cc
stands_alone text None (Some a) kept h = λ none x e. h.3
stands_alone text (Some s) authority kept h = λ none x e. cc

-- the URI with a target's parts
abbrev uri_of : (text : List ℕ) (t : Target) → IsTarget text (Some t) → Uri
uri_of text t x = record {
  scheme = t.scheme;
  authority = t.authority;
  path_and_query = t.path_and_query;
  absolute = with_authority text t.scheme t.authority t.path_and_query x.1;
  authority_alone = stands_alone text t.scheme t.authority t.path_and_query x.1;
}

same_parts : (s a s₂ a₂ : Option (List ℕ)) (k k₂ : List ℕ) → s ≡ s₂ → a ≡ a₂ → k ≡ k₂
    → ◌≡◌ {A = Target} (record { scheme = s; authority = a; path_and_query = k }) (record { scheme = s₂; authority = a₂; path_and_query = k₂ })
same_parts s a s₂ a₂ k k₂ scheme authority kept = rw (scheme, authority, kept) refl

pub target_unique : (text : List ℕ) (t u : Option Target) → IsTarget text t → IsTarget text u → t ≡ u
target_unique text None None x y = refl
target_unique text None (Some u) x y = absurd (x u y)
target_unique text (Some t) None x y = absurd (y t x)
target_unique text (Some t) (Some u) x y =
    let same = Spells_unique text (uri_of text t x) (uri_of text u y) x y in
    ap Some (same_parts t.scheme t.authority u.scheme u.authority t.path_and_query u.path_and_query same.0 same.1 same.2)
