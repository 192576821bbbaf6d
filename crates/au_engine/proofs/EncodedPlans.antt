-- The plan of a statement over tables whose guess rows are the encoded rows of the statement's tables.
use Rattle.std.specs.Prelude.{◌≡◌, [], ◌++◌, map, Some, unwrap_or}
use Rattle.std.proofs.Common.{refl, sym, ◌∙◌, ap, subst}
use Rattle.au_value.specs.Order.{data_kind}
use Rattle.au_expr.specs.Figures.{fit}
use Rattle.au_expr.proofs.Fits.{fit_parts}
use Rattle.au_algebra.specs.Bounded.{normal}
use Rattle.au_algebra.specs.Fits.{numbers, triple_numbers}
use Rattle.au_algebra.specs.Typing.{kinds_of}
use Rattle.au_plain.specs.Meaning.{plain_rows}
use Rattle.au_plain.specs.PlanKinds.{FitTables, plan_kinds}
use Rattle.au_plain.specs.PlanNumbers.{plan_numbers}
use Rattle.au_print.specs.GuessTexts.{in_order}
use Rattle.au_sqltext.specs.Records.{rows_text}
use Rattle.au_typing.proofs.QueryKinds.{tree_is_typed}
use Rattle.au_encode.specs.Encode.{encode}
use Rattle.au_program.specs.Rewriting.{AreEncodable}
use Rattle.au_engine.specs.Answers.{answer_kinds, answer_tree, blocks_of, guess_tables, relations_of}
use Rattle.au_engine.specs.Exchange.{value_kinds}
use Rattle.au_engine.specs.PlanAnswers.{PlansAnswer, bounded_tables, statement_rows}
use Rattle.au_engine.proofs.OrderedRows.{same_order}
use Rattle.au_engine.proofs.TableRelations.{are_relations, same_kinds}

pub plans_answer : PlansAnswer
plans_answer us ts s line of whole well ok e =
    let q = answer_tree ts s in
    let p = of.plan in
    let ks = map data_kind (answer_kinds ts s) in
    let typed : kinds_of (value_kinds ts) q ≡ Some ks =
    ap (λ kinds. kinds_of kinds q) (sym (same_kinds ts)) ∙ tree_is_typed (relations_of ts) s whole well in
    let encodable : AreEncodable (value_kinds ts) (bounded_tables ts) =
    record { relations = are_relations (blocks_of ts) (bounded_tables ts) refl ok; fit = subst FitTables e.rows e.fit } in
    let kinds = ap (λ kinds. plan_kinds kinds p) e.kinds ∙ of.whole.typed ks typed in
    let over_encoded : in_order (plain_rows p (guess_tables us)) ≡ in_order (plain_rows p (map encode (bounded_tables ts))) = ap (λ tables. in_order (plain_rows p tables)) e.rows in
    let rows = over_encoded ∙ same_order (plain_rows p (map encode (bounded_tables ts))) (encode (statement_rows ts s)) (of.whole.rows (bounded_tables ts) encodable) in
    record {
      typed = kinds;
      text = λ i. rows_text (unwrap_or (kinds i) []) (rows i);
      fits = λ f. (let own = fit_parts (numbers q (bounded_tables ts)) (triple_numbers (statement_rows ts s) ++ triple_numbers (normal (statement_rows ts s))) f in
          ap (λ tables. fit (plan_numbers p tables)) e.rows ∙ of.whole.fits (bounded_tables ts) encodable own.0);
    }
