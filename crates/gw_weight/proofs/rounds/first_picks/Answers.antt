-- Each pick is the next over the numbers so far, and whatever the picks, they are fair.
use Rattle.std.proofs.Common.{◌≡◌, ◌++◌, ◌∷◌, [], ap, ◌∙◌, sym, subst, arith, Some}
use Rattle.std.proofs.lemmas.List.Sums.{fold_push}
use Rattle.gw_text.specs.model.Picks.{Shares, ArePicks, after_pick, drawn_after, pick, zeros}
use Rattle.gw_weight.proofs.Fairness.{ArePicks-fair, ArePicks-push}
use Rattle.gw_weight.proofs.rounds.first_picks.Goals as goal

pub returns-in_err-shares-clause-fair : goal.returns-in_err-shares-clause-fair
returns-in_err-shares-clause-fair c picks = ArePicks-fair c.args.weights.now picks c.requires.some

pub returns-in_err-push-in-Some-clause-fair : goal.returns-in_err-push-in-Some-clause-fair
returns-in_err-push-in-Some-clause-fair c picks = ArePicks-fair c.args.weights.now picks c.requires.some

pub returns-clause-fair : goal.returns-clause-fair
returns-clause-fair c picks = ArePicks-fair c.args.weights.now picks c.requires.some

pub loop-turn-preserved : goal.loop-turn-preserved
loop-turn-preserved c =
    let ws = c.args.weights.now in
    let picks = c.loop-turn.picks.items in
    let i = c.in-Some.picked in
    let before = c.loop-turn.invariant in
    let items : c.push.new.self.items ≡ picks ++ i ∷ [] = c.in_ok-push-in-Some.ensures.items in
    let is : pick ws (drawn_after ws picks) ≡ Some i = sym (c.in-Some.ensures.pick ∙ (λ t. pick (before.weights t) (before.drawn t))) in
    let after = c.in-Some.ensures.after in
    let drawn : c.next.new.self.drawn ≡ drawn_after ws (picks ++ i ∷ []) =
    ap (λ (s : Shares). s.drawn) after ∙ (λ t. after_pick (before.weights t) (before.drawn t) (Some i))
    ∙ sym (fold_push (λ d j. after_pick ws d (Some j)) (zeros ws) picks i) in
    record {
      weights = ap (λ (s : Shares). s.weights) after ∙ before.weights;
      drawn = drawn ∙ ap (drawn_after ws) (sym items);
      picks = subst (ArePicks ws) (sym items) (ArePicks-push ws picks i before.picks is);
      count = omega (arith, c.in_ok-push-in-Some.ensures.len, before.count);
    }
