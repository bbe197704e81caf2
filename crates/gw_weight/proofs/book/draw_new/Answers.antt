-- The new entry, and what each keeps.
use Rattle.std.proofs.Common.{◌≡◌, ap, ◌∙◌, sym, subst, map, rules}
use Rattle.gw_text.specs.model.Picks.{Choice as Plain, Shares, with_numbers, after_pick, pick, zeros}
use Rattle.gw_weight.specs.Books.{choice_of, entry_of, HasRoomFor, IsBookOf}
use Rattle.gw_weight.proofs.Entries.{eq-same_choice, insert-seen, insert-Kept}
use Rattle.gw_weight.proofs.book.draw_new.Goals as goal

pub returns-clause-after : goal.returns-clause-after
returns-clause-after c =
    let ws = c.args.choice.now.weights.items in
    let drawn : c.next-picked.new.self.drawn ≡ after_pick ws (zeros ws) (pick ws (zeros ws)) = search rules in
    ap (map (entry_of choice_of)) c.in_ok-insert.ensures.entries
    ∙ insert-seen choice_of _ c.in_ok-key.key c.next-picked.new.self (λ k. eq-same_choice c.in_ok-key.key k) c.args.shares.now.entries
    ∙ ap (λ (d : Plain). with_numbers d c.next-picked.new.self.drawn (map (entry_of choice_of) c.args.shares.now.entries)) c.in_ok-key.ensures
    ∙ ap (λ n. with_numbers (choice_of c.args.choice.now) n (map (entry_of choice_of) c.args.shares.now.entries)) drawn

pub returns-clause-kept : goal.returns-clause-kept
returns-clause-kept c asked book room =
    let weights : c.next-picked.new.self.weights ≡ (choice_of c.in_ok-key.key).weights =
    ap (λ (s : Shares). s.weights) (c.next-picked.ensures.after) ∙ ap (λ (s : Shares). s.weights) c.in_ok-counted.ensures ∙ c.as_slice.ensures.value
    ∙ ap (λ (d : Plain). d.weights) (sym c.in_ok-key.ensures) in
    subst (IsBookOf choice_of (HasRoomFor asked)) (sym c.in_ok-insert.ensures.entries)
    (insert-Kept choice_of (HasRoomFor asked) _ c.in_ok-key.key c.next-picked.new.self (λ k. eq-same_choice c.in_ok-key.key k) weights
    (subst (HasRoomFor asked) (sym c.in_ok-key.ensures) room) c.args.shares.now.entries book)
