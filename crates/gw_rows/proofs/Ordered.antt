-- Precedence is a total order, and tells all rows of a listener apart.
use Rattle.std.proofs.Common.{◌≡◌, ◌∙◌, refl, sym, ap, subst, ℕ, ◌<◌, Bool, List, [], ◌∷◌, fold, length, is_some, true≢false}
use Rattle.std.specs.Cmp.{IsTotalOrder, back_total, bool_cmp_total, int_cmp_total, nat_cmp_total, on_total, ranked, then_total}
use Rattle.std.specs.Cmp.Lexicographic.{nat_list_cmp_total}
use Rattle.std.specs.List.{AllByRecursion}
use Rattle.std.specs.Ordering.{MatchOrdering, is_eq, nat_cmp, ordering_then, then_cmp}
use Rattle.std.specs.declared.cmp.Ordering.{Ordering}
use Rattle.std.specs.declared.cmp.Ordering.TheVariants.{Less, Equal, Greater}
use Rattle.gw_rows.specs.model.Fitting.{counted_headers, counted_query_params}
use Rattle.gw_rows.specs.model.Precedence.{AreOneRow, having, hostname_characters, is_exact_type, least, most, parts, precedence, precise_characters}
use Rattle.gw_rows.specs.model.Rows.{Row}
use Rattle.gw_text.specs.model.Names.{joined, key_order}

equal_total : IsTotalOrder (λ (a b : Row). Equal)
equal_total = record { antisymm = λ a b. refl; trans = λ a b c e f. e; congr = λ a b c e. refl }

all_total : (parts : List (Row → Row → Ordering)) (order : Row → Row → Ordering) → IsTotalOrder order → AllByRecursion IsTotalOrder parts
    → IsTotalOrder (fold then_cmp order parts)
all_total [] order total each = total
all_total (part ∷ parts) order total each = all_total parts (then_cmp order part) (then_total total each.0) each.1

most_total : (count : Row → ℕ) → IsTotalOrder (most count)
most_total count = on_total count (back_total nat_cmp_total)

having_total : (test : Row → Bool) → IsTotalOrder (having test)
having_total test = on_total test (back_total bool_cmp_total)

least_total : (number : Row → ℕ) → IsTotalOrder (least number)
least_total number = on_total number nat_cmp_total

each_total : AllByRecursion IsTotalOrder parts
each_total = (
  most_total precise_characters,
  (
    most_total hostname_characters,
    (
      having_total (λ (r : Row). is_exact_type r.test.path.sort),
      (
        most_total (λ (r : Row). length r.test.path.value),
        (
          having_total (λ (r : Row). is_some r.test.method),
          (
            most_total (λ (r : Row). length (counted_headers r.test.headers)),
            (
              most_total (λ (r : Row). length (counted_query_params r.test.query_params)),
              (
                on_total (λ (r : Row). r.created) int_cmp_total,
                (
                  on_total (λ (r : Row). r.key) (on_total joined nat_list_cmp_total),
                  (
                    least_total (λ (r : Row). r.rule),
                    (
                      least_total (λ (r : Row). r.place),
                      (
                        least_total (λ (r : Row). r.host_place),
                        tt,
                      ),
                    ),
                  ),
                ),
              ),
            ),
          ),
        ),
      ),
    ),
  ),
)

pub is_total : IsTotalOrder precedence
unfolding precedence
is_total = all_total parts (λ (a b : Row). Equal) equal_total each_total

-- Where nothing is decided, no part decides.
undecided : (parts : List (Row → Row → Ordering)) (order : Row → Row → Ordering) (a b : Row) → fold then_cmp order parts a b ≡ Equal
    → (order a b ≡ Equal) × AllByRecursion (λ part. part a b ≡ Equal) parts
undecided [] order a b e = (e, tt)
undecided (part ∷ parts) order a b e = by (order a b) refl (undecided parts (then_cmp order part) a b e)
  where
    by : (o : Ordering) → order a b ≡ o → (then_cmp order part a b ≡ Equal) × AllByRecursion (λ p. p a b ≡ Equal) parts
        → (order a b ≡ Equal) × AllByRecursion (λ p. p a b ≡ Equal) (part ∷ parts)
    by Less f found = absurd (true≢false (sym (ap is_eq (rw f at found.0))))
    by Equal f found = (f, (rw f at found.0, found.1))
    by Greater f found = absurd (true≢false (sym (ap is_eq (rw f at found.0))))

equal_numbers : (x y : ℕ) → nat_cmp x y ≡ Equal → x ≡ y
equal_numbers x y e = subst (λ (r : Ordering). MatchOrdering r (x < y) (x ≡ y) (y < x)) e (ranked x y (nat_cmp x y) refl)

-- Rows between which nothing is decided are one row.
pub one_row : (a b : Row) → (key_order a.key b.key ≡ Equal → a.key ≡ b.key) → precedence a b ≡ Equal → AreOneRow a b
unfolding precedence
one_row a b same e = by (undecided parts (λ (x y : Row). Equal) a b e).1
  where
    by : AllByRecursion (λ part. part a b ≡ Equal) parts → AreOneRow a b
    by (p1, (p2, (p3, (p4, (p5, (p6, (p7, (p8, (key, (rule, (place, (host_place, done)))))))))))) = record {
      key = same key;
      rule = equal_numbers a.rule b.rule rule;
      place = equal_numbers a.place b.place place;
      host_place = equal_numbers a.host_place b.host_place host_place;
    }

-- what decides where a further part is asked for only if nothing is decided yet
pub then_first : {P : Type 0} (before result part : Ordering) → MatchOrdering before (result ≡ Less) P (result ≡ Greater) → (P → result ≡ part) → result ≡ ordering_then before part
then_first Less result part is asked = is
then_first Equal result part is asked = asked is
then_first Greater result part is asked = is

-- where nothing is decided behind a further part, nothing was before it, and it was asked for
pub tied_before : (P : Type 0) (before result : Ordering) → MatchOrdering before (result ≡ Less) P (result ≡ Greater) → result ≡ Equal → before ≡ Equal
tied_before P Less result is tied = sym is ∙ tied
tied_before P Equal result asked tied = refl
tied_before P Greater result is tied = sym is ∙ tied

pub asked_for : (P : Type 0) (before result : Ordering) → MatchOrdering before (result ≡ Less) P (result ≡ Greater) → before ≡ Equal → P
asked_for P before result is tied = subst (λ o. MatchOrdering o (result ≡ Less) P (result ≡ Greater)) tied is
