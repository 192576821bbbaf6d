-- One aggregate more.
use Rattle.std.proofs.Common.{◌≡◌, ◌∷◌, ◌+◌, List, ap, drop, length, map, subst, sym, ◌∙◌, ℕ, ℤ}
use Rattle.std.specs.List.{AllByRecursion}
use Rattle.std.proofs.lemmas.List.{drop_more}
use Rattle.au_codes.specs.Codes.{CellRows}
use Rattle.au_columns.specs.Batches.{beside}
use Rattle.au_folds.specs.declared.fold.Fold.{Fold}
use Rattle.au_folds.specs.Held.{kept_in, kept_in_all}
use Rattle.au_folds.specs.Kept.{Kept, kept_values}
use Rattle.au_folds.specs.Tables.{beside_all}
use Rattle.au_folds.proofs.KeyRows.{beside_long}
use Rattle.au_folds.proofs.results.with_values.Goals as goal

pub loop-fold-preserved : goal.loop-fold-preserved
loop-fold-preserved c =
    let folds = c.args.folds.now in
    let i = c.loop-fold.fold-index in
    let fold = c.fold-item.result in
    let rows = c.loop-fold.rows in
    let column = c.in_ok-column.column in
    let later = kept_in_all (drop (i + 1) folds) in
    let left : kept_in_all (drop i folds) ≡ kept_in fold ∷ later =
    ap kept_in_all (drop_more folds i fold c.loop-fold-test.true) ∙ ap (λ (f : Fold). kept_in f ∷ later) (sym c.fold-item.is) in
    let long = subst (λ (ks : List Kept). AllByRecursion (λ k. length (kept_values k) ≡ length rows) ks) left c.loop-fold.invariant.long in
    let same : length c.in_ok-rows.rows ≡ length rows = ap length c.in_ok-rows.ensures ∙ beside_long rows column (ap length c.in_ok-column.ensures ∙ long.0) in
    record {
      rows =
          ap (λ (more : CellRows). beside_all more (map kept_values later)) c.in_ok-rows.ensures
          ∙ ap (λ (zs : List ℤ). beside_all (beside rows zs) (map kept_values later)) c.in_ok-column.ensures
          ∙ sym (ap (λ (ks : List Kept). beside_all rows (map kept_values ks)) left)
          ∙ c.loop-fold.invariant.rows;
      long = subst (λ (n : ℕ). AllByRecursion (λ k. length (kept_values k) ≡ n) later) (sym same) long.1;
    }
