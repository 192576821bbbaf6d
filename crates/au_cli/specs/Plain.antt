-- A plan in a file, and the tables over whose guess rows it is run. The plan's file is file 0, and that of the i-th table is
-- file i + 1.
use Rattle.std.specs.Prelude.{ℕ, ◌==◌, ◌&&◌, Bool, List, [], ◌∷◌, length, Option, Some, None, option_map, Result, Ok, Err, if◌then◌else◌, bytes_eq}
use Rattle.std.specs.Str.{is_utf8}
use Rattle.au_value.specs.declared.kinds.Kind.{Kind}
use Rattle.au_plain.specs.Plans.{PlanTree}
use Rattle.au_sqltext.specs.Brackets.{is_deep}
use Rattle.au_sqltext.specs.Fitting.{written_numbers_fit, widths_fit}
use Rattle.au_sqltext.specs.Reading.{read_plan_tree}
use Rattle.au_sqltext.specs.Texts.{plan_text}
use Rattle.au_sqltext.specs.declared.fault.PlanFault.TheVariants as no_plan
use Rattle.au_engine.specs.Answers.{Named}
use Rattle.au_engine.specs.Exchange.{plain_kinds}
use Rattle.au_cli.specs.declared.files.Purpose.TheVariants as purpose
use Rattle.au_cli.specs.declared.outcome.Outcome.{Outcome}
use Rattle.au_cli.specs.declared.outcome.Outcome.TheVariants as outcome
use Rattle.au_value.specs.Texts.{Text}
use Rattle.au_cli.specs.Files.{Found, file_bytes, size_of, tables_from}

-- ---- the plan of a file

-- what stands before the line feed that ends a text, if one does
abbrev pub before_line_feed : List ℕ → Option Text
before_line_feed [] = None
before_line_feed (b ∷ []) = if b == 10 then Some [] else None
before_line_feed (b ∷ c ∷ bytes) = option_map (λ line. b ∷ line) (before_line_feed (c ∷ bytes))

-- the line of a file: its bytes are UTF-8, and a line feed ends them
abbrev pub line_of : List ℕ → Option Text
line_of bytes = if is_utf8 bytes then before_line_feed bytes else None

-- whether a text is that of a plan whose widths fit and whose numbers fit their types
abbrev pub is_text_of : Text → PlanTree → Bool
is_text_of text p = widths_fit p && written_numbers_fit p && bytes_eq (plan_text p) text

-- The plan of a text: the one that is read from it, where the text is that of this plan. There is no other.
abbrev pub own_plan : Text → Option (PlanTree × List ℕ) → Option PlanTree
own_plan text None = None
own_plan text (Some read) = if is_text_of text read.0 then Some read.0 else None

abbrev pub plan_of : Text → Option PlanTree
plan_of text = own_plan text (read_plan_tree (length text) text)

abbrev pub plan_or_fault : Option PlanTree → Result PlanTree Outcome
plan_or_fault None = Err (outcome.Plan no_plan.Text)
plan_or_fault (Some p) = Ok p

-- the plan of a line, or why there is none
abbrev pub line_plan : Option Text → Result PlanTree Outcome
line_plan None = Err (outcome.Plan no_plan.Text)
line_plan (Some text) = if is_deep text then Err (outcome.Plan no_plan.Deep) else plan_or_fault (plan_of text)

abbrev pub plan_in : Result (List ℕ) Outcome → Result PlanTree Outcome
plan_in (Err refusal) = Err refusal
plan_in (Ok bytes) = line_plan (line_of bytes)

-- the plan of the first file, or its first refusal
abbrev pub file_plan : Option (List ℕ) → Result PlanTree Outcome
file_plan bytes = plan_in (file_bytes 0 0 bytes)

-- ---- the tables

-- the tables, each under its name, and a plan that is typed over them
abbrev pub PlanGiven : Type 0
PlanGiven = List Named × PlanTree

abbrev pub typed_plan : List Named → PlanTree → Option (List Kind) → Result PlanGiven Outcome
typed_plan ts p None = Err (outcome.Plan no_plan.Untyped)
typed_plan ts p (Some kinds) = Ok (ts, p)

abbrev pub plan_over : PlanTree → Result (List Named) Outcome → Result PlanGiven Outcome
plan_over p (Err refusal) = Err refusal
plan_over p (Ok ts) = typed_plan ts p (plain_kinds ts p)

abbrev pub and_tables : ℕ → List Found → Result PlanTree Outcome → Result PlanGiven Outcome
and_tables before found (Err refusal) = Err refusal
and_tables before found (Ok p) = plan_over p (tables_from purpose.Plan 1 before found)

-- what is given by what is found at a plan's path and for table words, or the first refusal
abbrev pub plan_given : Option (List ℕ) → List Found → Result PlanGiven Outcome
plan_given plan found = and_tables (size_of plan) found (file_plan plan)
