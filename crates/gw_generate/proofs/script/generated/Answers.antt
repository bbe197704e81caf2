-- What is written is the script's text, of what was drawn.
use Rattle.std.proofs.Common.{◌∙◌, ◌++◌, List, ℕ, ap}
use Rattle.rand_pcg.specs.Lcg.{Lcg}
use Rattle.gw_generate.specs.Draws.{behind, drawn}
use Rattle.gw_generate.specs.declared.line.TheConstants.{OBJECTS}
use Rattle.gw_generate.proofs.Drawing.{drawn_below, drawn_length}
use Rattle.gw_generate.proofs.Scripting.{objects_are, script_fits, script_is}
use Rattle.gw_generate.proofs.script.generated.Goals as goal

pub push_routes-requires : goal.push_routes-requires
push_routes-requires c = rw (c.as_slice.ensures.value, c.in_ok-digits.ensures.words, drawn_length c.generator-words.result c.args.routes 10) c.ranges.routes.fits

pub push_requests-requires-clause-few : goal.push_requests-requires-clause-few
push_requests-requires-clause-few c = rw (c.as_slice-3.ensures.value, c.in_ok-picks.ensures.words, drawn_length c.drawn.new.generator c.args.requests c.args.routes) c.ranges.requests.fits

pub push_requests-requires-clause-within : goal.push_requests-requires-clause-within
push_requests-requires-clause-within c =
    rw (c.as_slice-3.ensures.value, c.in_ok-picks.ensures.words, c.as_slice-2.ensures.value, c.in_ok-digits.ensures.words, drawn_length c.generator-words.result c.args.routes 10)
    (drawn_below c.drawn.new.generator c.args.requests c.args.routes c.requires.some)

pub returns-clause-text : goal.returns-clause-text
returns-clause-text c =
    let digits = c.in_ok-digits.ensures.words ∙ ap (λ (g : Lcg). drawn g c.args.routes 10) c.generator-words.ensures in
    let after = c.in_ok-digits.ensures.behind ∙ ap (λ (g : Lcg). behind g c.args.routes) c.generator-words.ensures in
    let picks = c.in_ok-picks.ensures.words ∙ ap (λ (g : Lcg). drawn g c.args.requests c.args.routes) after in
    let first = c.in_ok-push_str.ensures.bytes ∙ ap (λ (t : List ℕ). t ++ OBJECTS.now) c.new-script.ensures.bytes ∙ objects_are in
    c.finished.ensures ∙ script_is _ _ _ _ _ _ _ _ _ (c.as_slice.ensures.value ∙ digits) (c.as_slice-2.ensures.value ∙ digits) (c.as_slice-3.ensures.value ∙ picks) first
    c.in_ok-push_routes.ensures.lines c.in_ok-push_requests.ensures.lines

pub returns-clause-size : goal.returns-clause-size
returns-clause-size c =
    let digits = c.in_ok-digits.ensures.words ∙ ap (λ (g : Lcg). drawn g c.args.routes 10) c.generator-words.ensures in
    let after = c.in_ok-digits.ensures.behind ∙ ap (λ (g : Lcg). behind g c.args.routes) c.generator-words.ensures in
    let picks = c.in_ok-picks.ensures.words ∙ ap (λ (g : Lcg). drawn g c.args.requests c.args.routes) after in
    let first = c.in_ok-push_str.ensures.bytes ∙ ap (λ (t : List ℕ). t ++ OBJECTS.now) c.new-script.ensures.bytes ∙ objects_are in
    rw c.finished.ensures (script_fits _ _ _ _ _ _ _ _ _ (c.as_slice.ensures.value ∙ digits) (c.as_slice-2.ensures.value ∙ digits) (c.as_slice-3.ensures.value ∙ picks) first
    c.in_ok-push_routes.ensures.size c.in_ok-push_requests.ensures.size)
