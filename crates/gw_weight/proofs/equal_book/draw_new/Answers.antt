-- The new entry, and what each keeps.
use Rattle.std.proofs.Common.{◌≡◌, ap, ◌∙◌, sym, subst, map, replicate, rules}
use Rattle.gw_text.specs.model.Picks.{Choice as Plain, Shares, with_numbers, after_pick, pick, zeros}
use Rattle.gw_weight.specs.Books.{equal_choice_of, entry_of, HasRoomForKey, IsBookOf}
use Rattle.gw_weight.proofs.Entries.{eq-equal_choice, insert-seen, insert-Kept}
use Rattle.gw_weight.proofs.equal_book.draw_new.Goals as goal

pub returns-clause-after : goal.returns-clause-after
returns-clause-after c =
    let ws = replicate c.args.choice.now.count 1 in
    let drawn : c.next-picked.new.self.drawn ≡ after_pick ws (zeros ws) (pick ws (zeros ws)) = search rules in
    ap (map (entry_of equal_choice_of)) c.in_ok-insert.ensures.entries
    ∙ insert-seen equal_choice_of _ c.in_ok-key.key c.next-picked.new.self (λ k. eq-equal_choice c.in_ok-key.key k) c.args.turns.now.entries
    ∙ ap (λ (d : Plain). with_numbers d c.next-picked.new.self.drawn (map (entry_of equal_choice_of) c.args.turns.now.entries)) c.in_ok-key.ensures
    ∙ ap (λ n. with_numbers (equal_choice_of c.args.choice.now) n (map (entry_of equal_choice_of) c.args.turns.now.entries)) drawn

pub returns-clause-kept : goal.returns-clause-kept
returns-clause-kept c asked book room =
    let weights : c.next-picked.new.self.weights ≡ (equal_choice_of c.in_ok-key.key).weights =
    ap (λ (s : Shares). s.weights) (c.next-picked.ensures.after) ∙ ap (λ (s : Shares). s.weights) c.new-counted.ensures
    ∙ ap (λ (d : Plain). d.weights) (sym c.in_ok-key.ensures) in
    subst (IsBookOf equal_choice_of (HasRoomForKey asked)) (sym c.in_ok-insert.ensures.entries)
    (insert-Kept equal_choice_of (HasRoomForKey asked) _ c.in_ok-key.key c.next-picked.new.self (λ k. eq-equal_choice c.in_ok-key.key k) weights
    (subst (HasRoomForKey asked) (sym c.in_ok-key.ensures) room) c.args.turns.now.entries book)
