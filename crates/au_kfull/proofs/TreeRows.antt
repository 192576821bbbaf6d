-- The rows of a tree from those of its part, and what is promised of them.
use Rattle.std.specs.Prelude.{◌≡◌, Bool, true, ◌&&◌, List, Result}
use Rattle.std.specs.List.{AllZip}
use Rattle.std.proofs.Common.{sym, subst}
use Rattle.au_value.specs.Ranges.{Span}
use Rattle.au_annot.specs.Triples.{Counts}
use Rattle.au_expr.specs.declared.fault.EvalFault.{EvalFault}
use Rattle.au_algebra.specs.declared.query.Agg.{Agg}
use Rattle.au_algebra.specs.Bounded.{Bounded, bounded, group_by, total}
use Rattle.au_algebra.specs.Distribution.{Bounds}
use Rattle.au_algebra.specs.Laws.{Guesses, IsRelation}
use Rattle.au_algebra.specs.Ordinary.{Rows as RowLists, answer}
use Rattle.au_algebra.specs.Trees.{Tree}
use Rattle.au_algebra.proofs.TreeBounds.{answer_is_bounded}
use Rattle.au_algebra.proofs.TreeGuesses.{guess_is_exact}
use Rattle.au_algebra.proofs.TreeRelation.{tree_relation}
use Rattle.au_keval.specs.declared.rows.Rows.{Rows}
use Rattle.au_keval.specs.Evaluation.{rows_in}
use Rattle.au_kfull.specs.declared.keys.Keys.{Keys}
use Rattle.au_kfull.specs.Gives.{GivesOrOverflows}
use Rattle.au_kfull.specs.Keys.{keys_of}
use Rattle.au_kfull.specs.Outputs.{group_fits, total_fits}
use Rattle.au_kfull.specs.Typed.{IsTypedOver, HasTreeKinds}

module _ (r : Result (Rows Span Counts) EvalFault) (rows below : Bounded) (same : rows ≡ below) (fits : Bool) (fit : fits ≡ true) where
  -- the outputs of the part's rows are those of the part
  pub grouped_gives : (k : Keys) (aggs : List Agg) → GivesOrOverflows r (λ v. rows_in v ≡ group_by (keys_of k) aggs rows) (group_fits k aggs rows) → GivesOrOverflows r (λ v. rows_in v ≡ group_by (keys_of k) aggs below) (fits && group_fits k aggs below)
  grouped_gives k aggs g =
      subst (λ b. GivesOrOverflows r (λ v. rows_in v ≡ group_by (keys_of k) aggs below) (b && group_fits k aggs below)) (sym fit)
      (subst (λ xs. GivesOrOverflows r (λ v. rows_in v ≡ group_by (keys_of k) aggs xs) (group_fits k aggs xs)) same g)

  -- and so are the sums over all
  pub summed_gives : (aggs : List Agg) → GivesOrOverflows r (λ v. rows_in v ≡ total aggs rows) (total_fits aggs rows) → GivesOrOverflows r (λ v. rows_in v ≡ total aggs below) (fits && total_fits aggs below)
  summed_gives aggs g =
      subst (λ b. GivesOrOverflows r (λ v. rows_in v ≡ total aggs below) (b && total_fits aggs below)) (sym fit)
      (subst (λ xs. GivesOrOverflows r (λ v. rows_in v ≡ total aggs xs) (total_fits aggs xs)) same g)

module _ (q : Tree) (ts : List Bounded) (rel : Bounded) (same : rel ≡ bounded q ts) where
  -- the rows have the tree's kinds
  pub has_kinds : HasTreeKinds q ts rel
  has_kinds kinds ks ok h = subst (λ rows. IsRelation ks rows) (sym same) (tree_relation kinds ts ok q ks h)

  -- they bound the answer
  pub has_bounds : IsTypedOver q ts → (ws : List RowLists) → AllZip Bounds ts ws → Bounds rel (answer q ws)
  has_bounds o ws held = subst (λ rows. Bounds rows (answer q ws)) (sym same) (answer_is_bounded q o.0 ts ws o.1 o.2 held)

  -- and guess it
  pub has_guesses : IsTypedOver q ts → (ws : List RowLists) → AllZip Guesses ts ws → Guesses rel (answer q ws)
  has_guesses o ws held = subst (λ rows. Guesses rows (answer q ws)) (sym same) (guess_is_exact q o.0 ts ws o.1 o.2 held)
