-- The least and the greatest of a list of expressions.
use Rattle.std.proofs.Common.{◌≡◌, ◌+◌, ◌-◌, ◌<◌, drop, length, arith, sym, subst, ap, ◌∙◌}
use Rattle.std.specs.Prelude.{IfOk, Some}
use Rattle.std.proofs.lemmas.Result.{IfOk-weaker}
use Rattle.au_plain.specs.PTerms.{PTerm, pterm}
use Rattle.au_plain.specs.PTerms as term
use Rattle.au_codes.specs.Careful.{careful, careful_extreme, extreme_number, from_both}
use Rattle.au_codes.specs.Codes.{Cells}
use Rattle.au_codes.specs.Gathering.{terms}
use Rattle.au_codes.proofs.CodedInPlace.{greatest_terms, least_terms}
use Rattle.au_columns.specs.Evaluated.{Gives}
use Rattle.au_columns.specs.Operands.{seen}
use Rattle.au_columns.proofs.Listed.{extreme_next}
use Rattle.au_columns.proofs.Made.{gives_same}
use Rattle.au_columns.proofs.columnwise.+columnwise.Goals as goal

pub extreme-preferred-best-requires-clause-y : goal.extreme-preferred-best-requires-clause-y
extreme-preferred-best-requires-clause-y t c =
    subst (λ l. IfOk c.loop-i.best (λ v. Gives (careful_extreme c.args.how (terms l)) c.args.batch.now (seen v))) (sym c.split_at.ensures.back) c.loop-i.invariant.given

pub extreme-loop-i-preserved : goal.extreme-loop-i-preserved
extreme-loop-i-preserved t c =
    let es = c.args.es.now in
    let i = c.loop-i.i in
    let how = c.args.how in
    let below : i < length es = c.loop-i.invariant.below in
    let next : i ≡ (i - 1) + 1 = omega arith in
    record {
      below = omega arith;
      given =
          IfOk-weaker c.preferred-best.result _ _
          (λ v given. gives_same _ (careful_extreme how (terms (drop (i - 1) es))) c.args.batch.now (seen v)
          (λ (row : Cells).
          extreme_next how es (i - 1) i c.index-es-i-in-loop-i.result row next below c.index-es-i-in-loop-i.is
          ∙ ap (λ l. from_both (λ x y. Some (extreme_number how x y)) (careful (pterm c.index-es-i-in-loop-i.result) row) (careful_extreme how (terms l) row)) (sym c.split_at.ensures.back))
          given)
          c.preferred-best.ensures;
    }

pub by_columns-returns-in-Least : goal.by_columns-returns-in-Least
by_columns-returns-in-Least t c =
    let is : pterm c.args.tree.now ≡ term.Least (terms c.deref-in-Least.result.now) = ap pterm c.in-Least.is ∙ least_terms c.in-Least.es ∙ ap (λ xs. term.Least (terms xs)) (sym c.deref-in-Least.ensures.value) in
    subst (λ (e : PTerm). IfOk c.extreme-least.result (λ v. Gives (careful e) c.args.batch.now (seen v))) (sym is) c.extreme-least.ensures

pub by_columns-returns-in-Greatest : goal.by_columns-returns-in-Greatest
by_columns-returns-in-Greatest t c =
    let is : pterm c.args.tree.now ≡ term.Greatest (terms c.deref-in-Greatest.result.now) = ap pterm c.in-Greatest.is ∙ greatest_terms c.in-Greatest.es ∙ ap (λ xs. term.Greatest (terms xs)) (sym c.deref-in-Greatest.ensures.value) in
    subst (λ (e : PTerm). IfOk c.extreme-greatest.result (λ v. Gives (careful e) c.args.batch.now (seen v))) (sym is) c.extreme-greatest.ensures
