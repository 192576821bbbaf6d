-- The least and the greatest of a list of expressions.
use Rattle.std.proofs.Common.{◌≡◌, ◌+◌, ◌-◌, ◌<◌, [], get_or, length, arith, sym, ap, ◌∙◌}
use Rattle.std.specs.Prelude.{Some}
use Rattle.au_plain.specs.PTerms.{pterm}
use Rattle.au_plain.specs.PTerms as term
use Rattle.au_codes.specs.Careful.{careful, extreme_number, from_both}
use Rattle.au_codes.specs.Gathering.{terms}
use Rattle.au_codes.proofs.CodedInPlace.{greatest_terms, least_terms}
use Rattle.au_columns.proofs.Listed.{extreme_next}
use Rattle.au_columns.proofs.rowwise.+rowwise.Goals as goal

pub careful_extreme-loop-i-preserved : goal.careful_extreme-loop-i-preserved
careful_extreme-loop-i-preserved t c =
    let es = c.args.es.now in
    let i = c.loop-i.i in
    let row = get_or c.args.batch.now c.args.row [] in
    let below : i < length es = c.loop-i.invariant.below in
    let next : i ≡ (i - 1) + 1 = omega arith in
    record {
      below = omega arith;
      is =
          c.preferred-best.ensures
          ∙ (λ j. from_both (λ x y. Some (extreme_number c.args.how x y)) (c.careful-next.ensures j) (c.loop-i.invariant.is j))
          ∙ sym (extreme_next c.args.how es (i - 1) i c.index-es-i-in-loop-i.result row next below c.index-es-i-in-loop-i.is);
    }

pub careful-returns-in-Least : goal.careful-returns-in-Least
careful-returns-in-Least t c =
    let is : pterm c.args.tree.now ≡ term.Least (terms c.deref-in-Least.result.now) = ap pterm c.in-Least.is ∙ least_terms c.in-Least.es ∙ ap (λ xs. term.Least (terms xs)) (sym c.deref-in-Least.ensures.value) in
    c.careful_extreme-least.ensures ∙ sym (ap (λ e. careful e (get_or c.args.batch.now c.args.row [])) is)

pub careful-returns-in-Greatest : goal.careful-returns-in-Greatest
careful-returns-in-Greatest t c =
    let is : pterm c.args.tree.now ≡ term.Greatest (terms c.deref-in-Greatest.result.now) = ap pterm c.in-Greatest.is ∙ greatest_terms c.in-Greatest.es ∙ ap (λ xs. term.Greatest (terms xs)) (sym c.deref-in-Greatest.ensures.value) in
    c.careful_extreme-greatest.ensures ∙ sym (ap (λ e. careful e (get_or c.args.batch.now c.args.row [])) is)
