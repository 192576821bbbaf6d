-- Texts for another engine, and back: the encoded rows of a table, the plan of a statement, and the rows that a plan gives
-- over the guess rows of tables.
use Rattle.std.specs.Prelude.{◌≡◌, ℕ, ◌+◌, ◌*◌, ◌++◌, Bool, true, false, List, [], length, map, sum, Option, None, unwrap_or, codes, ⊤}
use Rattle.std.specs.Str.{is_utf8}
use Rattle.au_value.specs.declared.kinds.Kind.{Kind}
use Rattle.au_parse.specs.Tree.{QueryTree}
use Rattle.au_blocks.specs.Tables.{BlockTable, column_kinds}
use Rattle.au_algebra.specs.Ordinary.{Rows}
use Rattle.au_algebra.specs.Trees.{Tree}
use Rattle.au_translate.specs.Translate.{bounded_table, guessed_copies}
use Rattle.au_expr.specs.Figures.{fit}
use Rattle.au_plain.specs.Meaning.{plain_rows}
use Rattle.au_plain.specs.PlanKinds.{IsTypedPlan, plan_kinds}
use Rattle.au_plain.specs.PlanNumbers.{plan_numbers}
use Rattle.au_plain.specs.Plans.{PlanTree}
use Rattle.au_encode.specs.Encode.{encode, encoded_kinds}
use Rattle.au_print.specs.GuessTexts.{in_order}
use Rattle.au_sqltext.specs.Fitting.{written_numbers_fit, widths_fit}
use Rattle.au_sqltext.specs.Records.{rows_text}
use Rattle.au_sqltext.specs.Texts.{plan_text}
use Rattle.au_program.specs.Rewriting.{IsPlanOf}
use Rattle.au_engine.specs.Answers.{Named, answer_tree, blocks_of, guess_tables}
use Rattle.au_engine.specs.declared.exchange.plain.PlainFault.{PlainFault}
use Rattle.au_engine.specs.declared.exchange.plain.PlainFault.TheVariants as plain

-- the encoded rows of a table, in block order
abbrev pub encoded_text : BlockTable → List ℕ
encoded_text t = rows_text (encoded_kinds (column_kinds t)) (encode (bounded_table t))

-- the kinds of the values of the tables' columns
abbrev pub value_kinds : List Named → List (List Kind)
value_kinds ts = map column_kinds (blocks_of ts)

-- a line is the text of a plan of a tree over tables of these kinds, and LF, in UTF-8
pub record IsTreeText (kinds : List (List Kind)) (q : Tree) (line : List ℕ) : Type 0 where
  pub plan : PlanTree
  pub whole : IsPlanOf kinds q plan
  pub widths : widths_fit plan ≡ true
  pub numbers : written_numbers_fit plan ≡ true
  pub text : line ≡ plan_text plan ++ codes "\n"
  pub utf8 : is_utf8 line ≡ true

-- that of a statement's tree over tables
abbrev pub IsPlanText : List Named → QueryTree → List ℕ → Type 0
IsPlanText ts s line = IsTreeText (value_kinds ts) (answer_tree ts s) line

-- the kinds of a plan's rows over tables, and none where it isn't typed over them
abbrev pub plain_kinds : List Named → PlanTree → Option (List Kind)
plain_kinds ts p = plan_kinds (value_kinds ts) p

-- its rows over the tables' guess rows, ordered by their values from the first column on
abbrev pub plain_answer : List Named → PlanTree → Rows
plain_answer ts p = in_order (plain_rows p (guess_tables ts))

-- whether its numbers there lie in 128 bits
abbrev pub plain_fits : List Named → PlanTree → Bool
plain_fits ts p = fit (plan_numbers p (guess_tables ts))

-- the text of these rows
abbrev pub plain_text : List Named → PlanTree → List ℕ
plain_text ts p = rows_text (unwrap_or (plain_kinds ts p) []) (plain_answer ts p)

-- why they aren't given: memory, or the plan isn't typed over the tables, or a number of a typed plan leaves 128 bits
abbrev pub PlainCause : List Named → PlanTree → PlainFault → Type 0
PlainCause ts p plain.NoMemory = ⊤
PlainCause ts p plain.Untyped = plain_kinds ts p ≡ None
PlainCause ts p plain.Overflow = IsTypedPlan (value_kinds ts) p × (plain_fits ts p ≡ false)

-- how many guess rows a table has, and with them the values of these rows and one more for each
abbrev pub guess_row_count : BlockTable → ℕ
guess_row_count t = sum (map guessed_copies t.blocks)

abbrev pub plain_size : BlockTable → ℕ
plain_size t = guess_row_count t * (length t.columns + 1)

-- the greatest size of a table whose guess rows are made
abbrev pub greatest_plain_size : ℕ
greatest_plain_size = 16777216
