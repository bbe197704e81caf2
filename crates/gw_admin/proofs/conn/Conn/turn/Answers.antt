-- What each step comes to.
use Rattle.std.proofs.Common.{List, [], map, None, refl, arith, subst, sym, append-nil}
use Rattle.gw_frames.specs.Inlets.{StandsFor as InletStandsFor, is_over}
use Rattle.gw_frames.specs.declared.ended.Ended.TheVariants.{Closed, Refused, Truncated}
use Rattle.gw_frames.specs.declared.step.Step.TheVariants as steps
use Rattle.gw_frames.specs.model.Requests.{Step}
use Rattle.gw_lists.proofs.Beginnings.{begins_with-self}
use Rattle.gw_message_laws.proofs.Ends.{behind_break, behind_continue, behind_refusal}
use Rattle.gw_admin.specs.Answering.{place_of}
use Rattle.gw_admin.specs.model.Sessions.{a_close, a_cut, a_refused, a_wait, step_of}
use Rattle.gw_admin.proofs.Causes.{on_err}
use Rattle.gw_admin.proofs.Turning.{all_behind, broke_before, broke_within, ends_by, goes_on, needs_more, never, step_behind, takes_text, turned_by, keeps_takes}
use Rattle.gw_link.proofs.KeptLemmas.{keeps_self}
use Rattle.gw_admin.proofs.conn.Conn.turn.Goals as goal

pub returns-in_err-next-clause-broke : goal.returns-in_err-next-clause-broke
returns-in_err-next-clause-broke g c = on_err c.from_residual.result (λ bytes parts r.
    broke_before (place_of g.N.HubName.doors g.N.HubName.controller) _ bytes bytes parts [] _ _ (begins_with-self bytes) (omega arith)
    (subst (λ (l : List Step). InletStandsFor c.next.new.self bytes l) (sym (append-nil (map step_of parts))) (c.in_err-next.ensures.err bytes (map step_of parts) r.stands.inlet))
    (begins_with-self _) (never _) (keeps_self _))

pub returns-in-Need-clause-turned : goal.returns-in-Need-clause-turned
returns-in-Need-clause-turned g c = λ bytes parts r.
    let so = c.in_ok-next.ensures in
    needs_more (place_of g.N.HubName.doors g.N.HubName.controller) _ bytes parts _ _ (keeps_self _)
    (step_behind c.next.new.self bytes (map step_of parts) steps.Need r.unended (rw c.in-Need.is at (so.stands bytes (map step_of parts) r.stands.inlet)))
    r.stands.asks r.unended
    (all_behind _ bytes (map step_of parts) steps.Need r.unended ((rw c.in-Need.is at (so.all bytes (map step_of parts) r.stands.inlet)) tt))

pub returns-in_ok-write-in-Continue-clause-turned : goal.returns-in_ok-write-in-Continue-clause-turned
returns-in_ok-write-in-Continue-clause-turned g c = λ bytes parts r.
    let inlet = step_behind c.next.new.self bytes (map step_of parts) steps.Continue r.unended (rw c.in-Continue.is at (c.in_ok-next.ensures.stands bytes (map step_of parts) r.stands.inlet)) in
    turned_by (place_of g.N.HubName.doors g.N.HubName.controller) _ _ bytes parts a_wait _ _ None inlet r.stands.asks
    (record { answered = begins_with-self _; ticks = refl; wrote = takes_text _ _ _ c.in_ok-write-in-Continue.ensures.ok })
    (goes_on (is_over c.next.new.self) bytes parts a_wait (behind_continue 0 Closed (map step_of parts) r.unended))

pub returns-in_err-write-in-Continue-clause-broke : goal.returns-in_err-write-in-Continue-clause-broke
returns-in_err-write-in-Continue-clause-broke g c = on_err c.from_residual-in_err-write-in-Continue.result (λ bytes parts r.
    let inlet = step_behind c.next.new.self bytes (map step_of parts) steps.Continue r.unended (rw c.in-Continue.is at (c.in_ok-next.ensures.stands bytes (map step_of parts) r.stands.inlet)) in
    broke_within (place_of g.N.HubName.doors g.N.HubName.controller) _ bytes parts a_wait _ _ _ inlet (begins_with-self _) refl (append-nil _) c.in_err-write-in-Continue.ensures.err)

pub returns-in_ok-reply-in-Ask-clause-turned : goal.returns-in_ok-reply-in-Ask-clause-turned
returns-in_ok-reply-in-Ask-clause-turned g c = λ bytes parts r.
    c.in_ok-reply-in-Ask.ensures.turned bytes parts (record {
      inlet = rw c.deref.ensures (step_behind c.next.new.self bytes (map step_of parts) (steps.Ask c.in-Ask.request) r.unended (rw c.in-Ask.is at (c.in_ok-next.ensures.stands bytes (map step_of parts) r.stands.inlet)));
      asks = r.stands.asks;
      unended = r.unended;
    })

pub returns-in_err-reply-in-Ask-clause-broke : goal.returns-in_err-reply-in-Ask-clause-broke
returns-in_err-reply-in-Ask-clause-broke g c = on_err c.from_residual-in_err-reply-in-Ask.result (λ bytes parts r.
    c.in_err-reply-in-Ask.ensures.broke bytes parts (record {
      inlet = rw c.deref.ensures (step_behind c.next.new.self bytes (map step_of parts) (steps.Ask c.in-Ask.request) r.unended (rw c.in-Ask.is at (c.in_ok-next.ensures.stands bytes (map step_of parts) r.stands.inlet)));
      asks = r.stands.asks;
      unended = r.unended;
    }))

pub returns-in_ok-refuse-in-Bad-clause-turned : goal.returns-in_ok-refuse-in-Bad-clause-turned
returns-in_ok-refuse-in-Bad-clause-turned g c = λ bytes parts r.
    let code = c.in-Bad.code in
    let inlet = step_behind c.next.new.self bytes (map step_of parts) (steps.Bad code) r.unended (rw c.in-Bad.is at (c.in_ok-next.ensures.stands bytes (map step_of parts) r.stands.inlet)) in
    turned_by (place_of g.N.HubName.doors g.N.HubName.controller) _ _ bytes parts (a_refused code) _ _ _ inlet r.stands.asks
    (record { answered = begins_with-self _; ticks = refl; wrote = takes_text _ _ _ c.in_ok-refuse-in-Bad.ensures.ok })
    (ends_by c.next.new.self bytes parts (a_refused code) (Refused code) inlet (behind_refusal 0 Closed (map step_of parts) code r.unended))

pub returns-in_err-refuse-in-Bad-clause-broke : goal.returns-in_err-refuse-in-Bad-clause-broke
returns-in_err-refuse-in-Bad-clause-broke g c = on_err c.from_residual-in_err-refuse-in-Bad.result (λ bytes parts r.
    let code = c.in-Bad.code in
    let inlet = step_behind c.next.new.self bytes (map step_of parts) (steps.Bad code) r.unended (rw c.in-Bad.is at (c.in_ok-next.ensures.stands bytes (map step_of parts) r.stands.inlet)) in
    broke_within (place_of g.N.HubName.doors g.N.HubName.controller) _ bytes parts (a_refused code) _ _ _ inlet (begins_with-self _) refl (append-nil _) c.in_err-refuse-in-Bad.ensures.err)

pub returns-in-End-clause-turned : goal.returns-in-End-clause-turned
returns-in-End-clause-turned g c = λ bytes parts r.
    let inlet = step_behind c.next.new.self bytes (map step_of parts) steps.End r.unended (rw c.in-End.is at (c.in_ok-next.ensures.stands bytes (map step_of parts) r.stands.inlet)) in
    turned_by (place_of g.N.HubName.doors g.N.HubName.controller) _ _ bytes parts a_close _ _ _ inlet r.stands.asks
    (record { answered = begins_with-self _; ticks = refl; wrote = keeps_takes _ _ (keeps_self _) })
    (ends_by c.next.new.self bytes parts a_close _ inlet (c.ended_or.ensures bytes parts (record { inlet = inlet; asks = r.stands.asks; unended = r.unended })))

pub returns-in-Truncated-clause-turned : goal.returns-in-Truncated-clause-turned
returns-in-Truncated-clause-turned g c = λ bytes parts r.
    let inlet = step_behind c.next.new.self bytes (map step_of parts) steps.Truncated r.unended (rw c.in-Truncated.is at (c.in_ok-next.ensures.stands bytes (map step_of parts) r.stands.inlet)) in
    turned_by (place_of g.N.HubName.doors g.N.HubName.controller) _ _ bytes parts a_cut _ _ _ inlet r.stands.asks
    (record { answered = begins_with-self _; ticks = refl; wrote = keeps_takes _ _ (keeps_self _) })
    (ends_by c.next.new.self bytes parts a_cut Truncated inlet (behind_break 0 Closed (map step_of parts) r.unended))

pub reply-requires-clause-few : goal.reply-requires-clause-few
reply-requires-clause-few g c = omega (arith, rw c.in-Ask.is at (c.in_ok-next.ensures.fewer c.requires.serving.bytes (map step_of c.requires.serving.parts) c.requires.serving.reading.stands.inlet), c.requires.serving.few)

pub returns-in-Need-clause-few : goal.returns-in-Need-clause-few
returns-in-Need-clause-few g c = omega (arith, rw c.in-Need.is at (c.in_ok-next.ensures.fewer c.requires.serving.bytes (map step_of c.requires.serving.parts) c.requires.serving.reading.stands.inlet), c.requires.serving.few)

pub returns-in_ok-write-in-Continue-clause-fewer : goal.returns-in_ok-write-in-Continue-clause-fewer
returns-in_ok-write-in-Continue-clause-fewer g c = λ is. rw c.in-Continue.is at (c.in_ok-next.ensures.fewer c.requires.serving.bytes (map step_of c.requires.serving.parts) c.requires.serving.reading.stands.inlet)

pub returns-in_ok-write-in-Continue-clause-few : goal.returns-in_ok-write-in-Continue-clause-few
returns-in_ok-write-in-Continue-clause-few g c = omega (arith, rw c.in-Continue.is at (c.in_ok-next.ensures.fewer c.requires.serving.bytes (map step_of c.requires.serving.parts) c.requires.serving.reading.stands.inlet), c.requires.serving.few)

pub returns-in_ok-reply-in-Ask-clause-fewer : goal.returns-in_ok-reply-in-Ask-clause-fewer
returns-in_ok-reply-in-Ask-clause-fewer g c = λ is. rw c.in_ok-reply-in-Ask.ensures.inlet (rw c.in-Ask.is at (c.in_ok-next.ensures.fewer c.requires.serving.bytes (map step_of c.requires.serving.parts) c.requires.serving.reading.stands.inlet))

pub returns-in_ok-reply-in-Ask-clause-few : goal.returns-in_ok-reply-in-Ask-clause-few
returns-in_ok-reply-in-Ask-clause-few g c =
    rw (c.in_ok-reply-in-Ask.ensures.inlet, c.in_ok-reply-in-Ask.ensures.asks) (omega (arith, rw c.in-Ask.is at (c.in_ok-next.ensures.fewer c.requires.serving.bytes (map step_of c.requires.serving.parts) c.requires.serving.reading.stands.inlet), c.requires.serving.few))

pub returns-in_ok-refuse-in-Bad-clause-few : goal.returns-in_ok-refuse-in-Bad-clause-few
returns-in_ok-refuse-in-Bad-clause-few g c = omega (arith, rw c.in-Bad.is at (c.in_ok-next.ensures.fewer c.requires.serving.bytes (map step_of c.requires.serving.parts) c.requires.serving.reading.stands.inlet), c.requires.serving.few)

pub returns-in-End-clause-few : goal.returns-in-End-clause-few
returns-in-End-clause-few g c = omega (arith, rw c.in-End.is at (c.in_ok-next.ensures.fewer c.requires.serving.bytes (map step_of c.requires.serving.parts) c.requires.serving.reading.stands.inlet), c.requires.serving.few)

pub returns-in-Truncated-clause-few : goal.returns-in-Truncated-clause-few
returns-in-Truncated-clause-few g c = omega (arith, rw c.in-Truncated.is at (c.in_ok-next.ensures.fewer c.requires.serving.bytes (map step_of c.requires.serving.parts) c.requires.serving.reading.stands.inlet), c.requires.serving.few)
