-- The generic evaluator gives the rows as they are.
use Rattle.std.proofs.Common.{subst, sym}
use Rattle.std.specs.List.Sorted.{IsPermutation}
use Rattle.std.proofs.lemmas.List.Sorted.{IsPermutation-refl}
use Rattle.std.proofs.lemmas.Result.{IfOk-weaker}
use Rattle.au_algebra.specs.Trees.{tree}
use Rattle.au_engine.specs.Certainty.{tree_ua_rows}
use Rattle.au_engine.proofs.answers.certainty.ua_rows.Goals as goal

pub returns-in-Err-Overflow-clause-rows : goal.returns-in-Err-Overflow-clause-rows
returns-in-Err-Overflow-clause-rows g c =
    let rows = tree_ua_rows c.args.tables.now (tree c.args.typed.now.query) in
    IfOk-weaker c.evaluated_rows.result _ _ (λ v is. subst (IsPermutation rows) (sym is) (IsPermutation-refl rows)) c.evaluated_rows.ensures.rows
