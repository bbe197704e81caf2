-- What is written has no floats.
use Rattle.std.proofs.Common.{◌≡◌, ℕ, List, [], ◌∷◌, false, Option, Some, None, refl, fold}
use Rattle.std.specs.Fmt.{decimal}
use Rattle.serde_json.specs.Data.{Members, no_members, number, put, unsigned}
use Rattle.serde_json.specs.Written.{has_float}
use Rattle.gw_answers.specs.model.ServedRows.{ServedRow}
use Rattle.gw_frames.specs.declared.ended.Ended.{Ended}
use Rattle.gw_frames.specs.declared.ended.Ended.TheVariants.{Closed, Truncated, Asked, Enough, Refused}
use Rattle.gw_json.proofs.Floats.{HasNoFloat, HasNoFloat-member, HasNoFloat-nil, HasNoFloat-put}
use Rattle.gw_text.specs.model.Names.{Key}
use Rattle.gw_replay.specs.Lines.{counts_of, ended_data, put_code, put_if, put_route, row_data, row_members, statuses_data, totals_data}

if_has_none : {A : Type 0} (name : List ℕ) (text : A → List ℕ) (x : Option A) (ms : Members) → HasNoFloat ms → HasNoFloat (put_if name text x ms)
if_has_none name text None ms none = none
if_has_none name text (Some x) ms none = HasNoFloat-put _ _ refl none

route_has_none : (key : Option Key) (row : ServedRow) (ms : Members) → HasNoFloat ms → HasNoFloat (put_route key row ms)
route_has_none None row ms none = none
route_has_none (Some key) row ms none = HasNoFloat-put _ _ refl (HasNoFloat-put _ _ refl (HasNoFloat-put _ _ refl none))

row_has_none : (name : List ℕ) (line : ℕ) (row : ServedRow) → HasNoFloat (row_members name line row)
row_has_none name line row = HasNoFloat-member refl (HasNoFloat-member refl (HasNoFloat-member refl (HasNoFloat-member refl HasNoFloat-nil)))

pub row_has_no_float : (name : List ℕ) (line : ℕ) (row : ServedRow) (forward : Option (List ℕ)) → has_float (row_data name line row forward) ≡ false
unfolding row_data
row_has_no_float name line row forward =
    (if_has_none _ _ forward _ (if_has_none _ _ row.fault _ (if_has_none _ _ row.endpoint _ (if_has_none _ _ row.backend _
    (route_has_none row.route row _ (if_has_none _ _ row.listener _ (row_has_none name line row))))))).none

code_has_none : (why : Ended) (ms : Members) → HasNoFloat ms → HasNoFloat (put_code why ms)
code_has_none Closed ms none = none
code_has_none Truncated ms none = none
code_has_none Asked ms none = none
code_has_none Enough ms none = none
code_has_none (Refused code) ms none = HasNoFloat-put _ _ refl none

pub end_has_no_float : (name : List ℕ) (line : ℕ) (why : Ended) → has_float (ended_data name line why) ≡ false
unfolding ended_data
end_has_no_float name line why = (code_has_none why _ (HasNoFloat-member refl (HasNoFloat-member refl (HasNoFloat-member refl HasNoFloat-nil)))).none

counts_have_none : (counts : List (ℕ × ℕ)) (ms : Members) → HasNoFloat ms
    → HasNoFloat (fold (λ members e. put (decimal e.0) (number (unsigned e.1)) members) ms counts)
counts_have_none [] ms none = none
counts_have_none (e ∷ counts) ms none = counts_have_none counts (put (decimal e.0) (number (unsigned e.1)) ms) (HasNoFloat-put _ _ refl none)

statuses_have_no_float : (statuses : List ℕ) → has_float (statuses_data statuses) ≡ false
unfolding statuses_data
statuses_have_no_float statuses = (counts_have_none (counts_of statuses) no_members HasNoFloat-nil).none

pub totals_have_no_float : (changes front refused : ℕ) (statuses : List ℕ) (skipped : ℕ) → has_float (totals_data changes front refused statuses skipped) ≡ false
totals_have_no_float changes front refused statuses skipped = rw (statuses_have_no_float statuses) refl
