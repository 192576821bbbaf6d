-- What the plan of a statement gives to an engine that runs it over the encoded rows of the statement's tables.
use Rattle.std.specs.Prelude.{◌≡◌, ℕ, true, false, List, [], map, Some}
use Rattle.std.specs.List.{AllByRecursion}
use Rattle.au_value.specs.Order.{data_kind}
use Rattle.au_algebra.specs.Bounded.{Bounded, bounded}
use Rattle.au_blocks.specs.Tables.{IsBlockTable}
use Rattle.au_parse.specs.Tree.{QueryTree}
use Rattle.au_parse.specs.Whole.{WholeQuery}
use Rattle.au_plain.specs.PlanKinds.{FitTables}
use Rattle.au_plain.specs.Plans.{PlanTree}
use Rattle.au_translate.specs.Translate.{bounded_table}
use Rattle.au_encode.specs.Encode.{encode, encoded_kinds}
use Rattle.au_print.specs.GuessTexts.{in_order}
use Rattle.au_sqltext.specs.Records.{rows_text}
use Rattle.au_engine.specs.Answers.{Named, answer_fits, answer_kinds, answer_tree, blocks_of, guess_tables, statement_defects}
use Rattle.au_engine.specs.Exchange.{IsPlanText, plain_fits, plain_kinds, plain_text, value_kinds}

-- the bounded relations of tables, and that of a statement
abbrev pub bounded_tables : List Named → List Bounded
bounded_tables ts = map bounded_table (blocks_of ts)

abbrev pub statement_rows : List Named → QueryTree → Bounded
statement_rows ts s = bounded (answer_tree ts s) (bounded_tables ts)

-- the rows of tables in the guess world are the encoded rows of others, with their kinds
pub record HoldEncoded (us ts : List Named) : Type 0 where
  pub kinds : value_kinds us ≡ map encoded_kinds (value_kinds ts)
  pub rows : guess_tables us ≡ map encode (bounded_tables ts)
  pub fit : FitTables (guess_tables us)

-- over such tables a plan is typed, gives the encoded rows of a statement's bounded relation, and makes no number outside
-- the range where the bounded answer makes none
pub record AnswersOver (us ts : List Named) (s : QueryTree) (p : PlanTree) : Type 0 where
  pub typed : plain_kinds us p ≡ Some (encoded_kinds (map data_kind (answer_kinds ts s)))
  pub text : plain_text us p ≡ rows_text (encoded_kinds (map data_kind (answer_kinds ts s))) (in_order (encode (statement_rows ts s)))
  pub fits : answer_fits false ts s ≡ true → plain_fits us p ≡ true

-- the plan of each text of a statement in which nothing is wrong does so
abbrev pub PlansAnswer : Type 0
PlansAnswer =
    (us ts : List Named) (s : QueryTree) (line : List ℕ) (of : IsPlanText ts s line) →
    WholeQuery s → statement_defects ts s ≡ [] → AllByRecursion IsBlockTable (blocks_of ts) → HoldEncoded us ts → AnswersOver us ts s of.plan
