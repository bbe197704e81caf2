-- The first part in which two rows differ decides. Rows between which nothing is decided are one row: keys with one text are one key.
use Rattle.std.proofs.Common.{◌≡◌, ◌∙◌, ap, length, is_some, sym, rules}
use Rattle.std.specs.Ordering.{int_cmp, on, ordering_then}
use Rattle.gw_text.specs.model.Names.{key_order}
use Rattle.gw_rows.specs.model.Fitting.{counted_headers, counted_query_params}
use Rattle.gw_rows.specs.model.Precedence.{having, hostname_characters, is_exact_type, least, most, precedence, precise_characters}
use Rattle.gw_rows.proofs.Ordered.{asked_for, one_row, then_first, tied_before}
use Rattle.gw_rows.proofs.order.precedence.Goals as goal

pub returns-clause-value : goal.returns-clause-value
unfolding precedence
returns-clause-value c =
    let a = c.args.a.now in
    let b = c.args.b.now in
    let by_0 : c.most.result ≡ most precise_characters a b = search rules in
    let by_1 : c.then_with.result ≡ ordering_then c.most.result (most hostname_characters a b) = then_first c.most.result c.then_with.result (most hostname_characters a b) c.then_with.ensures (λ p. search rules) in
    let by_2 : c.then_with-2.result ≡ ordering_then c.then_with.result (having (λ r. is_exact_type r.test.path.sort) a b) = then_first c.then_with.result c.then_with-2.result (having (λ r. is_exact_type r.test.path.sort) a b) c.then_with-2.ensures (λ p. search rules) in
    let by_3 : c.then_with-3.result ≡ ordering_then c.then_with-2.result (most (λ r. length r.test.path.value) a b) = then_first c.then_with-2.result c.then_with-3.result (most (λ r. length r.test.path.value) a b) c.then_with-3.ensures (λ p. search rules) in
    let by_4 : c.then_with-4.result ≡ ordering_then c.then_with-3.result (having (λ r. is_some r.test.method) a b) = then_first c.then_with-3.result c.then_with-4.result (having (λ r. is_some r.test.method) a b) c.then_with-4.ensures (λ p. search rules) in
    let by_5 : c.then_with-5.result ≡ ordering_then c.then_with-4.result (most (λ r. length (counted_headers r.test.headers)) a b) = then_first c.then_with-4.result c.then_with-5.result (most (λ r. length (counted_headers r.test.headers)) a b) c.then_with-5.ensures (λ p. search rules) in
    let by_6 : c.then_with-6.result ≡ ordering_then c.then_with-5.result (most (λ r. length (counted_query_params r.test.query_params)) a b) = then_first c.then_with-5.result c.then_with-6.result (most (λ r. length (counted_query_params r.test.query_params)) a b) c.then_with-6.ensures (λ p. search rules) in
    let by_7 : c.then_with-7.result ≡ ordering_then c.then_with-6.result (on (λ r. r.created) int_cmp a b) = then_first c.then_with-6.result c.then_with-7.result (on (λ r. r.created) int_cmp a b) c.then_with-7.ensures (λ p. search rules) in
    let by_8 : c.then_with-8.result ≡ ordering_then c.then_with-7.result (on (λ r. r.key) key_order a b) = then_first c.then_with-7.result c.then_with-8.result (on (λ r. r.key) key_order a b) c.then_with-8.ensures (λ p. search rules) in
    let by_9 : c.then_with-9.result ≡ ordering_then c.then_with-8.result (least (λ r. r.rule) a b) = then_first c.then_with-8.result c.then_with-9.result (least (λ r. r.rule) a b) c.then_with-9.ensures (λ p. search rules) in
    let by_10 : c.then_with-10.result ≡ ordering_then c.then_with-9.result (least (λ r. r.place) a b) = then_first c.then_with-9.result c.then_with-10.result (least (λ r. r.place) a b) c.then_with-10.ensures (λ p. search rules) in
    let by_11 : c.then_with-11.result ≡ ordering_then c.then_with-10.result (least (λ r. r.host_place) a b) = then_first c.then_with-10.result c.then_with-11.result (least (λ r. r.host_place) a b) c.then_with-11.ensures (λ p. search rules) in
    by_11 ∙ ap (λ o. ordering_then o (least (λ r. r.host_place) a b)) (by_10 ∙ ap (λ o. ordering_then o (least (λ r. r.place) a b)) (by_9 ∙ ap (λ o. ordering_then o (least (λ r. r.rule) a b)) (by_8 ∙ ap (λ o. ordering_then o (on (λ r. r.key) key_order a b)) (by_7 ∙ ap (λ o. ordering_then o (on (λ r. r.created) int_cmp a b)) (by_6 ∙ ap (λ o. ordering_then o (most (λ r. length (counted_query_params r.test.query_params)) a b)) (by_5 ∙ ap (λ o. ordering_then o (most (λ r. length (counted_headers r.test.headers)) a b)) (by_4 ∙ ap (λ o. ordering_then o (having (λ r. is_some r.test.method) a b)) (by_3 ∙ ap (λ o. ordering_then o (most (λ r. length r.test.path.value) a b)) (by_2 ∙ ap (λ o. ordering_then o (having (λ r. is_exact_type r.test.path.sort) a b)) (by_1 ∙ ap (λ o. ordering_then o (most hostname_characters a b)) (by_0)))))))))))

pub returns-clause-one : goal.returns-clause-one
unfolding precedence
returns-clause-one c = λ tied.
    let tied_10 = tied_before _ c.then_with-10.result c.then_with-11.result c.then_with-11.ensures tied in
    let tied_9 = tied_before _ c.then_with-9.result c.then_with-10.result c.then_with-10.ensures tied_10 in
    let tied_8 = tied_before _ c.then_with-8.result c.then_with-9.result c.then_with-9.ensures tied_9 in
    let tied_7 = tied_before _ c.then_with-7.result c.then_with-8.result c.then_with-8.ensures tied_8 in
    let by_key = asked_for _ c.then_with-7.result c.then_with-8.result c.then_with-8.ensures tied_7 in
    one_row c.args.a.now c.args.b.now (λ same. search rules) (sym (returns-clause-value c) ∙ tied)
