-- A choice that is held is drawn from at its place; another is put last, after room was made.
use Rattle.std.proofs.Common.{◌≡◌, ap, ◌∙◌, sym, subst, true≢false}
use Rattle.gw_text.specs.model.Picks.{Choice as Plain, holds}
use Rattle.gw_weight.specs.Books.{choice_of, HasRoomFor, IsBookOf}
use Rattle.gw_weight.proofs.Entries.{asked-same_choice, either, held-room, more-IsBookOf, more-room, new-First, own-room, place-Drawn, room-IsBookOf}
use Rattle.gw_weight.proofs.book.Book.draw.Goals as goal

pub returns-in_err-ask-clause-known : goal.returns-in_err-ask-clause-known
returns-in_err-ask-clause-known c held =
    let ch : Plain = record { name = c.args.name.now; number = c.args.number; weights = c.args.weights.now } in
    let before = c.self.inside in
    absurd (true≢false (sym (c.in_err-ask.ensures.succeeds
    (held-room choice_of (HasRoomFor before.asked) ch before.shares.entries c.self.invariant (ap (holds ch) c.self.view_is ∙ held)))))

pub invariant_of-self-in-Some : goal.invariant_of-self-in-Some
invariant_of-self-in-Some c =
    let asked = c.ask.new.choice in
    let before = c.self.inside in
    let kept = more-IsBookOf choice_of (HasRoomFor before.asked) (HasRoomFor asked) before.shares.entries
    (more-room before.asked asked c.ask.ensures.namespace c.ask.ensures.name c.ask.ensures.weights) c.self.invariant in
    (place-Drawn choice_of (HasRoomFor asked) _ _ (asked-same_choice asked _ c.in_ok-ask.ensures.ok) before.shares.entries c.draw_at.new.shares.entries c.in-Some.place asked
    c.args.self.now c.draw_at.result (sym c.in-Some.ensures.index) kept c.self.view_is c.draw_at.ensures).kept

pub returns-in-Some-clause-pick : goal.returns-in-Some-clause-pick
returns-in-Some-clause-pick c =
    let asked = c.ask.new.choice in
    let before = c.self.inside in
    let kept = more-IsBookOf choice_of (HasRoomFor before.asked) (HasRoomFor asked) before.shares.entries
    (more-room before.asked asked c.ask.ensures.namespace c.ask.ensures.name c.ask.ensures.weights) c.self.invariant in
    (place-Drawn choice_of (HasRoomFor asked) _ _ (asked-same_choice asked _ c.in_ok-ask.ensures.ok) before.shares.entries c.draw_at.new.shares.entries c.in-Some.place asked
    c.args.self.now c.draw_at.result (sym c.in-Some.ensures.index) kept c.self.view_is c.draw_at.ensures).next

pub returns-in-Some-clause-after : goal.returns-in-Some-clause-after
returns-in-Some-clause-after c =
    let asked = c.ask.new.choice in
    let before = c.self.inside in
    let kept = more-IsBookOf choice_of (HasRoomFor before.asked) (HasRoomFor asked) before.shares.entries
    (more-room before.asked asked c.ask.ensures.namespace c.ask.ensures.name c.ask.ensures.weights) c.self.invariant in
    (place-Drawn choice_of (HasRoomFor asked) _ _ (asked-same_choice asked _ c.in_ok-ask.ensures.ok) before.shares.entries c.draw_at.new.shares.entries c.in-Some.place asked
    c.args.self.now c.draw_at.result (sym c.in-Some.ensures.index) kept c.self.view_is c.draw_at.ensures).after

pub returns-in-Some-clause-fair : goal.returns-in-Some-clause-fair
returns-in-Some-clause-fair c =
    let asked = c.ask.new.choice in
    let before = c.self.inside in
    let kept = more-IsBookOf choice_of (HasRoomFor before.asked) (HasRoomFor asked) before.shares.entries
    (more-room before.asked asked c.ask.ensures.namespace c.ask.ensures.name c.ask.ensures.weights) c.self.invariant in
    (place-Drawn choice_of (HasRoomFor asked) _ _ (asked-same_choice asked _ c.in_ok-ask.ensures.ok) before.shares.entries c.draw_at.new.shares.entries c.in-Some.place asked
    c.args.self.now c.draw_at.result (sym c.in-Some.ensures.index) kept c.self.view_is c.draw_at.ensures).fair

pub invariant_of-self-2 : goal.invariant_of-self-2
invariant_of-self-2 c =
    let asked = c.ask.new.choice in
    let before = c.self.inside in
    let book = more-IsBookOf choice_of (HasRoomFor before.asked) (HasRoomFor asked) before.shares.entries
    (more-room before.asked asked c.ask.ensures.namespace c.ask.ensures.name c.ask.ensures.weights) c.self.invariant in
    let room = room-IsBookOf choice_of (HasRoomFor asked) before.shares.entries c.make_room.new.choices.entries c.make_room.ensures book in
    either (IsBookOf choice_of (HasRoomFor asked) c.draw_new.new.shares.entries) (c.draw_new.new.shares.entries ≡ c.make_room.new.choices.entries) c.draw_new.result
    (c.draw_new.ensures.kept asked room (own-room asked)) c.draw_new.ensures.err (λ e. subst (IsBookOf choice_of (HasRoomFor asked)) (sym e) room)

pub returns-clause-pick : goal.returns-clause-pick
returns-clause-pick c =
    let asked = c.ask.new.choice in
    (new-First choice_of _ _ (asked-same_choice asked _ c.in_ok-ask.ensures.ok) c.self.inside.shares.entries c.make_room.new.choices.entries c.draw_new.new.shares.entries asked
    c.args.self.now c.draw_new.result c.in_ok-ask.ensures.ok (sym c.in_default.ensures.found) c.make_room.ensures c.self.view_is
    c.draw_new.ensures.pick c.draw_new.ensures.after c.draw_new.ensures.fair).next

pub returns-clause-after : goal.returns-clause-after
returns-clause-after c =
    let asked = c.ask.new.choice in
    (new-First choice_of _ _ (asked-same_choice asked _ c.in_ok-ask.ensures.ok) c.self.inside.shares.entries c.make_room.new.choices.entries c.draw_new.new.shares.entries asked
    c.args.self.now c.draw_new.result c.in_ok-ask.ensures.ok (sym c.in_default.ensures.found) c.make_room.ensures c.self.view_is
    c.draw_new.ensures.pick c.draw_new.ensures.after c.draw_new.ensures.fair).after

pub returns-clause-known : goal.returns-clause-known
returns-clause-known c =
    let asked = c.ask.new.choice in
    (new-First choice_of _ _ (asked-same_choice asked _ c.in_ok-ask.ensures.ok) c.self.inside.shares.entries c.make_room.new.choices.entries c.draw_new.new.shares.entries asked
    c.args.self.now c.draw_new.result c.in_ok-ask.ensures.ok (sym c.in_default.ensures.found) c.make_room.ensures c.self.view_is
    c.draw_new.ensures.pick c.draw_new.ensures.after c.draw_new.ensures.fair).known

pub returns-clause-fair : goal.returns-clause-fair
returns-clause-fair c =
    let asked = c.ask.new.choice in
    (new-First choice_of _ _ (asked-same_choice asked _ c.in_ok-ask.ensures.ok) c.self.inside.shares.entries c.make_room.new.choices.entries c.draw_new.new.shares.entries asked
    c.args.self.now c.draw_new.result c.in_ok-ask.ensures.ok (sym c.in_default.ensures.found) c.make_room.ensures c.self.view_is
    c.draw_new.ensures.pick c.draw_new.ensures.after c.draw_new.ensures.fair).fair
