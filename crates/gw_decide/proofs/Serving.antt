-- The row that serves a request fits it, so its path match fits its path.
use Rattle.std.proofs.Common.{◌≡◌, Bool, true, false, ◌&&◌, if◌then◌else◌, is_some, List, [], ◌∷◌, filter, find, Option, Some, None, refl, sym, ap, ◌∙◌}
use Rattle.std.specs.Option.{option_map_or}
use mathlib.Core.Bool.{true≢false}
use Rattle.gw_decide.specs.Seen.{path_fits}
use Rattle.gw_decide.specs.model.Verdicts.{Verdict, redirect, nothing, choose, verdict_by, redirect_in, sends_nothing}
use Rattle.gw_frames.specs.model.Requests.{Request}
use Rattle.gw_match.specs.model.Choice.{fits_at, listener_at, row_at}
use Rattle.gw_rows.specs.model.Fitting.{fits}
use Rattle.gw_rows.specs.model.Precedence.{precedence}
use Rattle.gw_rows.specs.model.Rows.{Row, Rows, ServedListener, foremost}
use Rattle.gw_text.specs.model.Chains.{◌>>=◌}
use Rattle.gw_text.specs.model.Matches as matches

both : (a b : Bool) → (a && b) ≡ true → (a ≡ true) × (b ≡ true)
both true b e = (refl, e)
both false b e = absurd (true≢false (sym e))

module _ {T : Type 0} (p test : T → Bool) where
  kept_if_found : (b : Bool) (x : T) (xs : List T) → test x ≡ b → p x ≡ true → option_map_or p (find test (filter p xs)) true ≡ true → option_map_or p (find test (x ∷ filter p xs)) true ≡ true
  kept_if_found true x xs e here rest = rw e here
  kept_if_found false x xs e here rest = rw e rest

  kept_if : (b : Bool) (x : T) (xs : List T) → p x ≡ b → option_map_or p (find test (filter p xs)) true ≡ true → option_map_or p (find test (filter p (x ∷ xs))) true ≡ true
  kept_if true x xs e rest = rw e (kept_if_found (test x) x xs refl e rest)
  kept_if false x xs e rest = rw e rest

  -- what is found among those that pass passes
  found_kept : (xs : List T) → option_map_or p (find test (filter p xs)) true ≡ true
  found_kept [] = refl
  found_kept (x ∷ xs) = kept_if (p x) x xs refl (found_kept xs)

path_from_fits : (row : Row) (q : Request) → fits row q ≡ true → matches.path_fits row.test.path q.path ≡ true
unfolding fits
path_from_fits row q all = (both _ _ (both _ _ all).1).0

option_weaker : {T : Type 0} (p r : T → Bool) (o : Option T) → ((x : T) → p x ≡ true → r x ≡ true) → option_map_or p o true ≡ true → option_map_or r o true ≡ true
option_weaker p r None weaker all = refl
option_weaker p r (Some x) weaker all = weaker x all

path_fits_at : (rows : List Row) (q : Request) (l : Option ServedListener) → option_map_or (λ r. matches.path_fits r.test.path q.path) (l >>= λ l. foremost precedence (filter (fits_at l q) rows)) true ≡ true
path_fits_at rows q None = refl
path_fits_at rows q (Some l) =
    option_weaker (fits_at l q) (λ r. matches.path_fits r.test.path q.path) (foremost precedence (filter (fits_at l q) rows)) (λ r fit. path_from_fits r q (both _ _ fit).1) (found_kept (fits_at l q) _ rows)

serving_row_fits : (rows : Rows) (q : Request) → option_map_or (λ r. matches.path_fits r.test.path q.path) (row_at rows q) true ≡ true
unfolding row_at
serving_row_fits rows q = path_fits_at rows.rows q (listener_at rows.listeners q.host)

verdict_path : (redirects stops : Bool) (row : Row) (q : Request) → matches.path_fits row.test.path q.path ≡ true → path_fits (if redirects then redirect row else (if stops then nothing row else choose row)) q ≡ true
verdict_path true stops row q fit = fit
verdict_path false true row q fit = fit
verdict_path false false row q fit = fit

-- so that of the row of a verdict does
pub served_path_fits : (verdict : Verdict) (row : Row) (rows : Rows) (q : Request) → verdict ≡ verdict_by row → Some row ≡ row_at rows q → path_fits verdict q ≡ true
served_path_fits verdict row rows q e serves =
    let fit : matches.path_fits row.test.path q.path ≡ true = ap (λ o. option_map_or (λ (r : Row). matches.path_fits r.test.path q.path) o true) serves ∙ serving_row_fits rows q
    in ap (λ v. path_fits v q) e ∙ verdict_path (is_some (redirect_in row.plan)) (sends_nothing row.plan) row q fit
