-- How connections end.
use Rattle.std.proofs.Common.{◌≡◌, ℕ, ◌+◌, Bool, true, false, List, [], ◌∷◌, ◌++◌, Some, None, ap, refl, sym, subst, ◌∙◌, unwrap_or, if◌then◌else◌}
use Rattle.std.proofs.lemmas.List.{append-nil}
use Rattle.gw_frames.specs.Inlets.{StandsFor, StillAt, ended_at, is_over, IsFuture}
use Rattle.gw_frames.specs.declared.ended.Ended.{Ended}
use Rattle.gw_frames.specs.declared.ended.Ended.TheVariants.{Closed, Refused, Truncated}
use Rattle.gw_frames.specs.declared.inlet.Inlet.{Inlet}
use Rattle.gw_frames.specs.declared.inlet.Stage.{Stage}
use Rattle.gw_frames.specs.declared.inlet.Stage.TheVariants.{Head, Body as Reads, Closing, Done}
use Rattle.gw_frames.specs.model.Requests.{Asks, Part, Request, Step, a_break, a_continue, a_head, a_refusal, after_no_body, after_no_head, an_ask, an_end, announced, end_behind, ended, ended_after, no_head, long_head, bad_head, good_head, no_body, faulty_body, last_body, good_body}
use Rattle.gw_messages.specs.model.Sections.{are_empty_lines}

future : (over : Bool) → IsFuture over [] over
future false = tt
future true = (refl, refl)

-- the steps of an inlet that ended are all
pub all_of_ended : (i : Inlet) (bytes : List ℕ) (steps : List Step) (why : Ended) → StandsFor i bytes steps → ended steps ≡ Some why
    → Asks a_head 0 bytes (is_over i) steps
all_of_ended i bytes steps why stands is =
    let at : ended_at i.stage i.count [] ≡ Some why = sym (stands.told []) ∙ ap ended (append-nil steps) ∙ is in
    let all : Asks a_head 0 (bytes ++ []) i.over (steps ++ []) = stands.leads [] i.over [] (future i.over) (done i.stage at) in
    subst (λ (b : List ℕ). Asks a_head 0 b i.over steps) (append-nil bytes) (subst (λ (s : List Step). Asks a_head 0 (bytes ++ []) i.over s) (append-nil steps) all)
  where
    done : (s : Stage) → ended_at s i.count [] ≡ Some why → StillAt s i.count (i.buffer ++ []) i.over []
    done Head e = absurd (cc e)
    done (Reads o r) e = absurd (cc e)
    done (Closing w) e = absurd (cc e)
    done (Done w) e = refl

-- the steps of a connection that didn't end, and one more
pub behind_ask : (n : ℕ) (why : Ended) (steps : List Step) (q : Request) → ended_after n why steps ≡ None
    → ended_after n why (steps ++ an_ask q ∷ []) ≡ None
behind_ask n why [] q none = refl
behind_ask n why (an_ask r ∷ steps) q none = behind_ask (n + 1) (unwrap_or (end_behind (n + 1) r) Closed) steps q none
behind_ask n why (a_continue ∷ steps) q none = behind_ask n why steps q none
behind_ask n why (a_refusal code ∷ steps) q none = none
behind_ask n why (an_end ∷ steps) q none = none
behind_ask n why (a_break ∷ steps) q none = none

pub behind_continue : (n : ℕ) (why : Ended) (steps : List Step) → ended_after n why steps ≡ None
    → ended_after n why (steps ++ a_continue ∷ []) ≡ None
behind_continue n why [] none = refl
behind_continue n why (an_ask r ∷ steps) none = behind_continue (n + 1) (unwrap_or (end_behind (n + 1) r) Closed) steps none
behind_continue n why (a_continue ∷ steps) none = behind_continue n why steps none
behind_continue n why (a_refusal code ∷ steps) none = none
behind_continue n why (an_end ∷ steps) none = none
behind_continue n why (a_break ∷ steps) none = none

pub behind_refusal : (n : ℕ) (why : Ended) (steps : List Step) (code : ℕ) → ended_after n why steps ≡ None
    → ended_after n why (steps ++ a_refusal code ∷ []) ≡ Some (Refused code)
behind_refusal n why [] code none = refl
behind_refusal n why (an_ask r ∷ steps) code none = behind_refusal (n + 1) (unwrap_or (end_behind (n + 1) r) Closed) steps code none
behind_refusal n why (a_continue ∷ steps) code none = behind_refusal n why steps code none
behind_refusal n why (a_refusal c ∷ steps) code none = absurd (cc none)
behind_refusal n why (an_end ∷ steps) code none = absurd (cc none)
behind_refusal n why (a_break ∷ steps) code none = absurd (cc none)

pub behind_break : (n : ℕ) (why : Ended) (steps : List Step) → ended_after n why steps ≡ None
    → ended_after n why (steps ++ a_break ∷ []) ≡ Some Truncated
behind_break n why [] none = refl
behind_break n why (an_ask r ∷ steps) none = behind_break (n + 1) (unwrap_or (end_behind (n + 1) r) Closed) steps none
behind_break n why (a_continue ∷ steps) none = behind_break n why steps none
behind_break n why (a_refusal c ∷ steps) none = absurd (cc none)
behind_break n why (an_end ∷ steps) none = absurd (cc none)
behind_break n why (a_break ∷ steps) none = absurd (cc none)

pub behind_end : (n : ℕ) (why : Ended) (steps : List Step) → ended_after n why steps ≡ None
    → (last : Ended) × (ended_after n why (steps ++ an_end ∷ []) ≡ Some last)
behind_end n why [] none = (why, refl)
behind_end n why (an_ask r ∷ steps) none = behind_end (n + 1) (unwrap_or (end_behind (n + 1) r) Closed) steps none
behind_end n why (a_continue ∷ steps) none = behind_end n why steps none
behind_end n why (a_refusal c ∷ steps) none = absurd (cc none)
behind_end n why (an_end ∷ steps) none = absurd (cc none)
behind_end n why (a_break ∷ steps) none = absurd (cc none)

announced_none : (b : Bool) (n : ℕ) (why : Ended) (later : List Step) → ended_after n why (announced b ++ later) ≡ ended_after n why later
announced_none false n why later = refl
announced_none true n why later = refl

no_head_ends : (b : Bool) (n : ℕ) (why : Ended) → ended_after n why ((if b then an_end else a_break) ∷ []) ≡ None → ⊥
no_head_ends false n why none = absurd (cc none)
no_head_ends true n why none = absurd (cc none)

-- Where all bytes have come, the connection ended.
pub over_ends : {part : Part} {count : ℕ} {bytes : List ℕ} {over : Bool} {steps : List Step} → Asks part count bytes over steps → over ≡ true
    → (why : Ended) → ended_after count why steps ≡ None → ⊥
over_ends {count = count} {bytes = bytes} (no_head cut is) over why none =
    no_head_ends (are_empty_lines bytes) count why (sym (ap (ended_after count why) (is ∙ ap (after_no_head bytes) over)) ∙ none)
over_ends (long_head cut) over why none = absurd (cc none)
over_ends (bad_head head rest cut judged) over why none = absurd (cc none)
over_ends {count = count} (good_head head rest o later cut judged asks is) over why none =
    over_ends asks over why (sym (announced_none o.expects count why later) ∙ sym (ap (ended_after count why) is) ∙ none)
over_ends {count = count} (no_body body is) over why none =
    let ends = sym (ap (ended_after count why) (is ∙ ap after_no_body over)) ∙ none in
    absurd (cc ends)
over_ends {count = count} (faulty_body fault body is) over why none =
    let ends = sym (ap (ended_after count why) is) ∙ none in
    absurd (cc ends)
over_ends {count = count} (last_body body rest last is ends so) over why none =
    let ends = sym (ap (ended_after count why) so) ∙ none in
    absurd (cc ends)
over_ends {count = count} (good_body body rest later is goes asks so) over why none =
    over_ends asks over _ (sym (ap (ended_after count why) so) ∙ none)
