-- What is left of the books where memory is wanted behind a pick.
use Rattle.std.proofs.Common.{◌≡◌, ℕ, ◌⊎◌, List, [], Option, Some, None, Result, Ok, Err, OnErr, inl, inr, refl, sym}
use Rattle.gw_text.specs.model.References.{BackendState, invalid_kind, not_permitted, not_found, bad_protocol, no_endpoints, ready}
use Rattle.gw_text.specs.model.Plans.{Backend}
use Rattle.gw_answers.specs.declared.books.Books.{Books}
use Rattle.gw_answers.specs.Left.{AreLeft, IsLeft}
use Rattle.gw_frames.specs.model.Requests.{Request}
use Rattle.gw_rows.specs.model.Rows.{Row}
use Rattle.gw_text.specs.model.Picks.{Choice}
use Rattle.gw_answers.specs.model.Decisions.{Chosen, after_backend, after_endpoint, by_state}

-- The pick of an endpoint leaves the picks of backends.
pub backends_stay : (books : Books) (b : Backend) (s : BackendState) → (after_endpoint books b s).backends ≡ books.backends
backends_stay books b invalid_kind = refl
backends_stay books b not_permitted = refl
backends_stay books b not_found = refl
backends_stay books b bad_protocol = refl
backends_stay books b no_endpoints = refl
backends_stay books b (ready sockets) = refl

-- All was picked.
pub as_after : (before after : Books) → AreLeft before after after
as_after before after = record { backends = inr (inl refl); endpoints = inr (inl refl) }

-- The backend was picked, and no endpoint.
pub behind_pick : (before : Books) (backends : List (Choice × List ℕ)) (b : Option Backend)
    → AreLeft before (after_backend (record before { backends = backends }) b) (record before { backends = backends })
behind_pick before backends None = record { backends = inr (inl refl); endpoints = inl refl }
behind_pick before backends (Some b) = record {
  backends = inr (inl (sym (backends_stay (record before { backends = backends }) b b.state)));
  endpoints = inl refl;
}

-- What a state comes to has nothing to do with the picks of backends.
pub by_endpoints : (chosen : Chosen) (row : Row) (q : Request) (books : Books) (backends : List (Choice × List ℕ)) (b : Backend) (s : BackendState)
    → by_state chosen row q (record books { backends = backends }) b s ≡ by_state chosen row q books b s
by_endpoints chosen row q books backends b invalid_kind = refl
by_endpoints chosen row q books backends b not_permitted = refl
by_endpoints chosen row q books backends b not_found = refl
by_endpoints chosen row q books backends b bad_protocol = refl
by_endpoints chosen row q books backends b no_endpoints = refl
by_endpoints chosen row q books backends b (ready sockets) = refl

-- What holds in any case holds where memory is wanted.
pub on_err : {T E X : Type 0} (result : Result T E) → X → OnErr result X
on_err (Ok value) x = tt
on_err (Err fault) x = x
