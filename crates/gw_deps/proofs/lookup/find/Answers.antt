-- The found key is the one that is looked for, since both have their forms.
use Rattle.std.proofs.Common.{◌≡◌, ◌∙◌, Some, ap, get_or, rules}
use Rattle.std.proofs.lemmas.Fn.{always_returns_same}
use Rattle.gw_text.specs.model.Names.{key_order}
use Rattle.gw_text.specs.model.Stored.{stored_key}
use Rattle.gw_store.proofs.Places.{stored-standing, stored-missing}
use Rattle.gw_deps.proofs.Finding.{alike_standing, alike_missing, place_of_found, missing}
use Rattle.gw_deps.proofs.lookup.find.Goals as goal

pub returns-in-Ok-clause-found : goal.returns-in-Ok-clause-found
returns-in-Ok-clause-found g c =
    let key = g.T.Keyed.key in
    let name = c.args.key.now in
    let stored = c.args.stored.now in
    let item = c.index-stored-at.result in
    let here : item ≡ get_or stored c.in-Ok.at item = search rules in
    let place = place_of_found key name stored c.in-Ok.at item c.requires c.in-Ok.ensures.bound here (rw c.deref.ensures at c.key-form.ensures.form) c.formed-key.ensures.form
    (c.in-Ok.ensures.position (λ s. key_order (stored_key key s) name) (always_returns_same _ _ _ (λ a r q k. search rules))) in
    ap Some here ∙ stored-standing key name stored c.in-Ok.at item place

pub returns-in-Ok-clause-alike : goal.returns-in-Ok-clause-alike
returns-in-Ok-clause-alike g c =
    let key = g.T.Keyed.key in
    let name = c.args.key.now in
    let stored = c.args.stored.now in
    let item = c.index-stored-at.result in
    let here : item ≡ get_or stored c.in-Ok.at item = search rules in
    let place = place_of_found key name stored c.in-Ok.at item c.requires c.in-Ok.ensures.bound here (rw c.deref.ensures at c.key-form.ensures.form) c.formed-key.ensures.form
    (c.in-Ok.ensures.position (λ s. key_order (stored_key key s) name) (always_returns_same _ _ _ (λ a r q k. search rules))) in
    alike_standing key name stored c.in-Ok.at place

pub returns-in-Err-clause-found : goal.returns-in-Err-clause-found
returns-in-Err-clause-found g c =
    let key = g.T.Keyed.key in
    let name = c.args.key.now in
    stored-missing key name c.args.stored.now c.in-Err.field-0 (missing key name c.args.stored.now c.in-Err.field-0 c.requires c.in-Err.ensures.bound
    (c.in-Err.ensures.position (λ s. key_order (stored_key key s) name) (always_returns_same _ _ _ (λ a r q k. search rules))))

pub returns-in-Err-clause-alike : goal.returns-in-Err-clause-alike
returns-in-Err-clause-alike g c =
    let key = g.T.Keyed.key in
    let name = c.args.key.now in
    alike_missing key name c.args.stored.now c.in-Err.field-0 (missing key name c.args.stored.now c.in-Err.field-0 c.requires c.in-Err.ensures.bound
    (c.in-Err.ensures.position (λ s. key_order (stored_key key s) name) (always_returns_same _ _ _ (λ a r q k. search rules))))
