-- The rows of the relations, and the combined ones, are ready.
use Rattle.std.proofs.Common.{◌≡◌, ◌∙◌, sym, ap, subst, map, true, List, Vec, Global}
use Rattle.std.specs.List.{AllByRecursion, list_all}
use Rattle.au_value.specs.Ranges.{Span, guesses}
use Rattle.au_annot.specs.Triples.{Counts}
use Rattle.au_algebra.specs.Bounded.{Bounded, RangeRow, combine, less, present, difference}
use Rattle.au_algebra.specs.Entries.{entry}
use Rattle.au_algebra.specs.Fits.{triples_fit}
use Rattle.au_algebra.proofs.DifferenceRelation.{combine_relation}
use Rattle.au_kfull.specs.declared.keys.Keys.TheVariants.{All}
use Rattle.au_kfull.specs.Groups.{unsure}
use Rattle.au_kfull.specs.Keys.{HasKinds}
use Rattle.au_kfull.specs.Numbers.{sums_fit, difference_fits, IsReady}
use Rattle.au_kfull.specs.SameGuesses.{IsByGuesses}
use Rattle.au_kfull.proofs.DifferenceRows.{relation_kinds, all_ready, all_numbers_fit, sums_do_not}
use Rattle.au_kfull.proofs.GivesMore.{gives_more}
use Rattle.au_kfull.proofs.differences.subtract.Goals as goal

abbrev entries : List (Vec Span Global × Counts) → Bounded
entries rows = map (λ r. entry r.0.items r.1) rows

pub combined-requires : goal.combined-requires
combined-requires c =
    (c.requires.0, subst (HasKinds c.requires.0) (sym (c.deref.ensures.value ∙ c.in_ok-lent.ensures)) (relation_kinds c.requires.0 (entries c.args.left.now) c.requires.1))

pub rest_of-requires-clause-ready : goal.rest_of-requires-clause-ready
rest_of-requires-clause-ready c =
    let ks = c.requires.0 in
    let left = (entries c.args.left.now) in
    let right = (entries c.args.right.now) in
    let rows = map (λ r. entry r.0.items r.1) c.combined-2.inside.rows.items in
    let comb : rows ≡ combine left = c.combined-2.view_is ∙ c.in_ok-combined.ensures.0 ∙ ap combine (c.deref.ensures.value ∙ c.in_ok-lent.ensures) in
    let other : c.deref-4.result.now ≡ right = c.deref-4.ensures.value ∙ c.in_ok-right.ensures in
    subst (λ q. AllByRecursion (IsReady q) rows) (sym other)
    (subst (AllByRecursion (IsReady right)) (sym comb) (all_ready ks right c.requires.2 (combine left) (combine_relation ks left c.requires.1)))

pub rest_of-requires-clause-unsure : goal.rest_of-requires-clause-unsure
rest_of-requires-clause-unsure c =
    c.deref-5.ensures.value ∙ c.in_ok-unsure.ensures ∙ ap (unsure All) (c.deref-2.ensures.value ∙ sym c.deref-4.ensures.value)

pub rest_of-requires-clause-index : goal.rest_of-requires-clause-index
rest_of-requires-clause-index c =
    subst (λ rows. IsByGuesses (λ (r : RangeRow). guesses r.cells) rows c.in_ok-index.index) (c.deref-3.ensures.value ∙ sym c.deref-4.ensures.value) c.in_ok-index.ensures

pub returns : goal.returns
returns c =
    let left = (entries c.args.left.now) in
    let right = (entries c.args.right.now) in
    let rows = map (λ r. entry r.0.items r.1) c.combined-2.inside.rows.items in
    let comb : rows ≡ combine left = c.combined-2.view_is ∙ c.in_ok-combined.ensures.0 ∙ ap combine (c.deref.ensures.value ∙ c.in_ok-lent.ensures) in
    let other : c.deref-4.result.now ≡ right = c.deref-4.ensures.value ∙ c.in_ok-right.ensures in
    let triples : triples_fit (combine left) ≡ true = ap (λ q. triples_fit (combine q)) (sym (c.deref.ensures.value ∙ c.in_ok-lent.ensures)) ∙ c.in_ok-combined.ensures.1 in
    let sums : list_all (sums_fit c.deref-4.result.now) rows ≡ list_all (sums_fit right) (combine left) = (λ i. list_all (sums_fit (other i)) (comb i)) in
    gives_more c.rest_of.result (λ r. r ≡ present (map (less c.deref-4.result.now) rows)) (λ r. r ≡ difference left right)
    (list_all (sums_fit c.deref-4.result.now) rows) (difference_fits left right)
    (λ v e. e ∙ (λ i. present (map (less (other i)) (comb i))))
    (λ h. all_numbers_fit left right triples (sym sums ∙ h))
    (λ h. sums_do_not left right (sym sums ∙ h))
    c.rest_of.ensures
