-- The printed counts leave the range only where a number of the answer in the guess world does. Rows in another order have the same text.
use Rattle.std.proofs.Common.{ap, Err, length, ◌∙◌, sym, ◌++◌, flat_map}
use Rattle.au_parse.specs.Views.{statement_tree}
use Rattle.au_print.specs.Texts.{record_text}
use Rattle.au_ua.specs.UaTexts.{pair_fields, pairs_fit, summed_pairs, ua_header_fields}
use Rattle.au_ua.proofs.PairRows.{summed_shuffled}
use Rattle.au_engine.specs.Answers.{answer_kinds, answer_names}
use Rattle.au_engine.specs.Certainty.{ua_answer_fits, ua_rows}
use Rattle.au_engine.proofs.PairTables.{left_behind}
use Rattle.au_cli.proofs.AnswerColumns.{columns_fit}
use Rattle.au_cli.proofs.answering.certain_text.Goals as goal

pub ua_text-requires-clause-columns : goal.ua_text-requires-clause-columns
ua_text-requires-clause-columns g c =
    ap length c.as_slice-2.ensures.value
    ∙ columns_fit c.args.tables.now (statement_tree c.args.statement.now) c.in-Ok.answer.names.items c.in-Ok.answer.kinds.items c.in-Ok.ensures.names c.in-Ok.ensures.kinds
    ∙ ap length (sym c.as_slice.ensures.value)

pub returns-in-Err-Overflow-clause-refused : goal.returns-in-Err-Overflow-clause-refused
returns-in-Err-Overflow-clause-refused g c =
    let s = statement_tree c.args.statement.now in (
      c.in-Ok.ensures.typed,
      left_behind (ua_answer_fits c.args.tables.now s) (pairs_fit (summed_pairs (ua_rows c.args.tables.now s))) c.in-Ok.ensures.printed
          (ap pairs_fit (sym (summed_shuffled (ua_rows c.args.tables.now s) c.in-Ok.answer.rows c.in-Ok.ensures.rows))
          ∙ c.in-Err-Overflow.ensures.overflow (ap Err c.in-Err-Overflow.field-0-is)),
    )

pub returns-in-Ok-ua_text-clause-text : goal.returns-in-Ok-ua_text-clause-text
returns-in-Ok-ua_text-clause-text g c =
    let s = statement_tree c.args.statement.now in
    let kinds = answer_kinds c.args.tables.now s in
    let names = answer_names c.args.tables.now s in
    let same = summed_shuffled (ua_rows c.args.tables.now s) c.in-Ok.answer.rows c.in-Ok.ensures.rows in
    c.in-Ok-ua_text.ensures.text
    ∙ (λ i. record_text (ua_header_fields ((c.as_slice.ensures.value ∙ c.in-Ok.ensures.names) i)) ++ flat_map (λ r. record_text (pair_fields ((c.as_slice-2.ensures.value ∙ c.in-Ok.ensures.kinds) i) r)) (same i))
