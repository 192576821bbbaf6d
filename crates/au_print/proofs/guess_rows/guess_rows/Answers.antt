-- The rows in order are counted as they stood.
use Rattle.std.proofs.Common.{◌≡◌, map, sym, ◌∙◌, ap, IsTrue, IfOk, subst}
use Rattle.au_algebra.specs.Counted.{occurring}
use Rattle.au_print.specs.GuessTexts.{counted, guess_rows, counts_fit}
use Rattle.au_print.specs.Places.{row_at}
use Rattle.au_print.proofs.CertainRows.{counted_shuffled}
use Rattle.au_print.proofs.guess_rows.guess_rows.Goals as goal

same : (c : goal.After-drop-places) → counted (map (row_at c.args.rows.now) c.as_slice.result.now) ≡ guess_rows c.args.rows.now
same c =
    let rows = c.args.rows.now in
    ap (λ ps. counted (map (row_at rows) ps)) c.as_slice.ensures.value
    ∙ counted_shuffled (occurring rows) (map (row_at rows) c.in-Ok.places.items) c.in-Ok.ensures.permutation

pub returns-in-Ok-clause-rows : goal.returns-in-Ok-clause-rows
returns-in-Ok-clause-rows c =
    subst (λ rs. IfOk c.merged.result (λ v. map (row_at c.args.rows.now) v.items ≡ rs)) (same c) c.merged.ensures.rows

pub returns-in-Ok-clause-fit : goal.returns-in-Ok-clause-fit
returns-in-Ok-clause-fit c = subst (λ rs. IfOk c.merged.result (λ v. IsTrue (counts_fit rs))) (same c) c.merged.ensures.fit

pub returns-in-Ok-clause-overflow : goal.returns-in-Ok-clause-overflow
returns-in-Ok-clause-overflow c h = ap counts_fit (sym (same c)) ∙ c.merged.ensures.overflow h
