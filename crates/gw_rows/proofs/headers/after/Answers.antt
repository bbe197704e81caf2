-- What is left behind a front, where the text begins so.
use Rattle.std.proofs.Common.{◌≡◌, ◌+◌, sym, subst, ℕ, Bool, true, false, List, ◌++◌, length, take, drop, Option, Some, None, MatchOption, Bor}
use Rattle.std.specs.Str.{bytes_eq}
use Rattle.gw_rows.specs.Combined.{Continues, Differs}
use Rattle.gw_rows.proofs.Combined.{prefix_found, prefix_missing}
use Rattle.gw_rows.proofs.headers.after.Goals as goal

pub returns : goal.returns
returns c = by c.strip_prefix.result c.strip_prefix.ensures.cases
  where
    text : List ℕ
    text = c.args.text.now

    front : List ℕ
    front = c.args.front.now

    by : (r : Option (Bor (List ℕ)))
        → MatchOption r (bytes_eq (take (length front) text) front ≡ false) (λ x. (bytes_eq (take (length front) text) front ≡ true) × (x.now ≡ drop (length front) text) × (length x.now + length front ≡ length text))
        → MatchOption r (Differs text front) (λ left. Continues text front left.now)
    by None missing = prefix_missing front text missing
    by (Some left) found = subst (Continues text front) (sym found.1) (prefix_found front text found.0)
