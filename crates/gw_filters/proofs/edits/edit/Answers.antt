-- What holds of the edited fields holds of the result.
use Rattle.std.proofs.Common.{◌≡◌, ◌∙◌, sym, ap, subst, List, rules}
use Rattle.std.proofs.lemmas.Result.{IfOk-weaker}
use Rattle.gw_text.specs.model.Fields.{Field}
use Rattle.gw_text.specs.model.Filters.{Edits}
use Rattle.gw_filters.specs.Laws.{HasEachSet, HasNoRemoved, KeepsOthers}
use Rattle.gw_filters.specs.model.Editing.{edited}
use Rattle.gw_filters.proofs.Settings.{each_set_once, no_removed_left}
use Rattle.gw_filters.proofs.Untouched.{nothing_changed, others_kept}
use Rattle.gw_filters.proofs.edits.edit.Goals as goal

pub returns-clause-value : goal.returns-clause-value
unfolding edited
returns-clause-value c = search rules

-- What holds of the edited fields.
holds : (e : Edits) (fields : List Field) (P : List Field → Type 0) → P (edited e fields) → (all : List Field) → all ≡ edited e fields → P all
holds e fields P h all is = subst P (sym is) h

pub returns-clause-others : goal.returns-clause-others
returns-clause-others c =
    let e = c.args.by.now in
    let fields = c.args.fields.now in
    IfOk-weaker c.with_removed.result _ _ (holds e fields (KeepsOthers e fields) (others_kept e fields)) (returns-clause-value c)

pub returns-clause-set : goal.returns-clause-set
returns-clause-set c =
    let e = c.args.by.now in
    let fields = c.args.fields.now in
    IfOk-weaker c.with_removed.result _ _ (holds e fields (HasEachSet e) (each_set_once e fields)) (returns-clause-value c)

pub returns-clause-removed : goal.returns-clause-removed
returns-clause-removed c =
    let e = c.args.by.now in
    let fields = c.args.fields.now in
    IfOk-weaker c.with_removed.result _ _ (holds e fields (HasNoRemoved e) (no_removed_left e fields)) (returns-clause-value c)

pub returns-clause-nothing : goal.returns-clause-nothing
returns-clause-nothing c = λ none.
    let fields = c.args.fields.now in
    IfOk-weaker c.with_removed.result _ _ (λ all is. is ∙ ap (λ (e : Edits). edited e fields) none ∙ nothing_changed fields) (returns-clause-value c)
