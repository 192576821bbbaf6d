-- One triple more is added, or the sum of all is past the range.
use Rattle.std.proofs.Common.{rules, ◌≡◌, ◌++◌, ◌∷◌, [], suc, sym, ◌∙◌, ap, List, map, take, drop, Vec, Global}
use Rattle.std.proofs.lemmas.List.{map-append}
use Rattle.au_value.specs.declared.range.Range.{Range}
use Rattle.au_annot.specs.declared.Triple.{Triple}
use Rattle.au_annot.specs.Triples.{Counts, plus, total_counts, in_range}
use Rattle.au_algebra.specs.Entries.{entry}
use Rattle.au_algebra.specs.Bounded.{RangeRow}
use Rattle.au_print.proofs.PlacedRows.{item_next, item_split}
use Rattle.au_print.proofs.TripleSums.{total_push, past_rest}
use Rattle.au_print.proofs.demo_form.sum.Goals as goal

abbrev Row : Type 0
Row = Vec Range Global × Triple

abbrev triples : List Row → List Counts
triples rows = map (λ (r : RangeRow). r.annot) (map (λ (r : Row). entry r.0.items r.1) rows)

triples_append : (xs ys : List Row) → triples (xs ++ ys) ≡ triples xs ++ triples ys
triples_append xs ys =
    ap (map (λ (r : RangeRow). r.annot)) (map-append (λ (r : Row). entry r.0.items r.1) xs ys)
    ∙ map-append (λ (r : RangeRow). r.annot) (map (λ (r : Row). entry r.0.items r.1) xs) (map (λ (r : Row). entry r.0.items r.1) ys)

pub loop-triple-preserved : goal.loop-triple-preserved
loop-triple-preserved c =
    let rows = c.args.rows.now in
    let i = c.loop-triple.triple-index in
    let item = c.loop-triple-item.result in
    record {
      sum =
          c.in_ok-sum.ensures.sum
          ∙ ap (λ s. plus s item.1) c.loop-triple.invariant.sum
          ∙ sym (total_push (triples (take i rows)) item.1)
          ∙ ap total_counts (sym (triples_append (take i rows) (item ∷ [])))
          ∙ ap (λ xs. total_counts (triples xs)) (sym (item_next rows i item c.loop-triple-test.true c.loop-triple-item.is));
      fit = c.in_ok-sum.ensures.fit;
    }

pub returns-in_err-sum-clause-overflow : goal.returns-in_err-sum-clause-overflow
returns-in_err-sum-clause-overflow c =
    let rows = c.args.rows.now in
    let i = c.loop-triple.triple-index in
    let item = c.loop-triple-item.result in
    let past = ap (λ s. in_range (plus s item.1)) (sym c.loop-triple.invariant.sum) ∙ c.in_err-sum.ensures.overflow in
    let all =
    ap (λ xs. in_range (total_counts (triples xs))) (sym (item_split rows i item c.loop-triple-test.true c.loop-triple-item.is))
    ∙ ap (λ ts. in_range (total_counts ts)) (triples_append (take i rows) (item ∷ drop (suc i) rows))
    ∙ past_rest (triples (take i rows)) item.1 (triples (drop (suc i) rows)) past in
    search (rules, all)
