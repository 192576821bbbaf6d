-- The rows in another order have the same normal form, which keeps the distribution and the counted guesses.
use Rattle.std.proofs.Common.{◌≡◌, map, sym, ◌∙◌, ap, IsTrue, IfOk, subst, Vec, Global}
use Rattle.std.proofs.lemmas.List.Sorted.{IsPermutation-map}
use Rattle.std.proofs.lemmas.Result.{IfOk-weaker}
use Rattle.au_value.specs.declared.range.Range.{Range}
use Rattle.au_annot.specs.declared.Triple.{Triple}
use Rattle.au_algebra.specs.Entries.{entry}
use Rattle.au_algebra.specs.Bounded.{RangeRow, normal}
use Rattle.au_algebra.specs.Distribution.{Bounds}
use Rattle.au_algebra.specs.Fits.{triples_fit}
use Rattle.au_algebra.specs.Laws.{Guesses}
use Rattle.au_algebra.proofs.Forms.{normal_bounds, normal_guesses}
use Rattle.au_algebra.proofs.Runs.{normal_shuffled}
use Rattle.au_algebra.proofs.StrictRows.{strict_fits}
use Rattle.au_algebra.proofs.normal_form.normal.Goals as goal

abbrev row : Vec Range Global × Triple → RangeRow
row r = entry r.0.items r.1

same : (c : goal.After-merged) → normal (map row c.in-Ok.rows.items) ≡ normal c.args.rel
same c =
    normal_shuffled (map row c.rel.inside.rows.items) (map row c.in-Ok.rows.items) (IsPermutation-map row c.rel.inside.rows.items c.in-Ok.rows.items c.in-Ok.ensures.permutation)
    ∙ ap normal c.rel.view_is

formed : (c : goal.After-merged) → IfOk c.merged.result (λ n. n ≡ normal c.args.rel)
formed c = subst (λ f. IfOk c.merged.result (λ n. n ≡ f)) (same c) c.merged.ensures.form

pub returns-in-Ok-clause-form : goal.returns-in-Ok-clause-form
returns-in-Ok-clause-form c = formed c

pub returns-in-Ok-clause-bounds : goal.returns-in-Ok-clause-bounds
returns-in-Ok-clause-bounds c =
    IfOk-weaker c.merged.result _ _ (λ n e w b. subst (λ m. Bounds m w) (sym e) (normal_bounds c.args.rel w b)) (formed c)

pub returns-in-Ok-clause-guesses : goal.returns-in-Ok-clause-guesses
returns-in-Ok-clause-guesses c =
    IfOk-weaker c.merged.result _ _ (λ n e w g. subst (λ m. Guesses m w) (sym e) (normal_guesses c.args.rel w g)) (formed c)

pub returns-in-Ok-clause-fits : goal.returns-in-Ok-clause-fits
returns-in-Ok-clause-fits c =
    subst (λ f. IfOk c.merged.result (λ n. IsTrue (triples_fit f))) (same c) c.merged.ensures.fits

pub returns-in-Ok-clause-overflow : goal.returns-in-Ok-clause-overflow
returns-in-Ok-clause-overflow c h = ap triples_fit (sym (same c)) ∙ c.merged.ensures.overflow h

-- rows that are handed back had their triples read
pub returns-then-rise-clause-fits : goal.returns-then-rise-clause-fits
returns-then-rise-clause-fits c =
    subst (λ rows. IsTrue (triples_fit (normal rows))) c.rel.view_is
    (strict_fits row c.rel.inside.rows.items c.deref.result.now c.deref-then-rise.result.now c.deref.ensures.value c.deref-then-rise.ensures.value (c.rise.ensures c.if-rise.true) c.read.ensures)
