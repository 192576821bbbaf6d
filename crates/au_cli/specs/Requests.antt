-- What a request is given by what is found for its words, what it is refused by, and what is printed for it.
use Rattle.std.specs.Prelude.{ℕ, ◌≡◌, ◌&&◌, Bool, true, List, [], ◌∷◌, length, Option, Some, None, option_map, Result, Ok, Err, if◌then◌else◌, nat_lt, ⊤}
use Rattle.std.specs.Option.{option_or}
use Rattle.au_parse.specs.Tree.{QueryTree}
use Rattle.au_typing.specs.declared.fault.TypingFault.{TypingFault}
use Rattle.au_value.specs.declared.kinds.Kind.{Kind}
use Rattle.au_algebra.specs.Bounded.{Bounded}
use Rattle.au_print.specs.Texts.{csv_text}
use Rattle.au_print.specs.Tables.{table_text}
use Rattle.au_print.specs.GuessTexts.{counts_fit, world_rows, world_text}
use Rattle.au_ua.specs.NotPositive.{not_positive}
use Rattle.au_ua.specs.UaTexts.{ua_text}
use Rattle.au_engine.specs.declared.faults.EngineFault.{EngineFault}
use Rattle.au_engine.specs.declared.faults.EngineFault.TheVariants as engine
use Rattle.au_engine.specs.declared.faults.LimitFault.TheVariants as limit
use Rattle.au_engine.specs.declared.faults.QueryFault.TheVariants as query
use Rattle.au_engine.specs.Reading as reading
use Rattle.au_engine.specs.Reading.{refused_text, statement_of}
use Rattle.au_engine.specs.Answers.{IsDefect, Named, RowsHold, answer_fits, answer_kinds, answer_names, answer_rows, asked_fits, asked_rows, guess_answer, guess_answer_fits, statement_defects}
use Rattle.au_engine.specs.Certainty.{UaHolds, ua_answer_fits, ua_rows}
use Rattle.au_engine.specs.Exchange.{IsPlanText}
use Rattle.au_engine.specs.Explaining.{IsExplanation}
use Rattle.au_program.specs.declared.rules.Rules.{Rules}
use Rattle.au_words.specs.Words.{Request}
use Rattle.au_words.specs.declared.answer_form.Form.{Form}
use Rattle.au_words.specs.declared.answer_form.Form.TheVariants as form
use Rattle.au_words.specs.declared.words.Command.{Command}
use Rattle.au_words.specs.declared.words.Command.TheVariants.{Answer, Direct, Guess, Ua, Rewrite, Explain}
use Rattle.au_cli.specs.declared.outcome.Outcome.{Outcome}
use Rattle.au_cli.specs.declared.outcome.Outcome.TheVariants as outcome
use Rattle.au_value.specs.Texts.{Text}
use Rattle.au_cli.specs.Files.{Found, greatest_files, tables_of}

-- ---- refusals

-- A refusal: one outcome, or that a text is no statement, at whichever place is named, or defects of a statement, of
-- which any may be named.
pub data Refusal : Type 0 where
  exactly : Outcome → Refusal
  no_statement : Text → Refusal
  defects : List TypingFault → Refusal

-- what a fault of the engine ends in
abbrev pub ended : EngineFault → Outcome
ended (engine.Query fault) = outcome.Query fault
ended (engine.Limit fault) = outcome.Limit fault
ended engine.Overflow = outcome.Overflow
ended engine.NoMemory = outcome.NoMemory

-- an outcome is that of a refusal
abbrev pub IsRefusal : Refusal → Outcome → Type 0
IsRefusal (Refusal.exactly wanted) o = o ≡ wanted
IsRefusal (Refusal.no_statement text) o = (fault : EngineFault) × reading.IsRefusalOf text reading.TextRefusal.no_statement fault × (o ≡ ended fault)
IsRefusal (Refusal.defects found) o = (fault : EngineFault) × IsDefect found fault × (o ≡ ended fault)

abbrev pub text_refusal : Text → reading.TextRefusal → Refusal
text_refusal text (reading.TextRefusal.exactly fault) = Refusal.exactly (ended fault)
text_refusal text reading.TextRefusal.no_statement = Refusal.no_statement text

-- where a command refuses a statement: `ua` answers positive ones alone
abbrev pub refused_place : Command → QueryTree → Option ℕ
refused_place Ua s = not_positive s
refused_place _ s = None

abbrev pub place_refusal : ℕ → Refusal
place_refusal at = Refusal.exactly (outcome.Query (query.NotPositive at))

abbrev pub refused_statement : Command → Option QueryTree → Option Refusal
refused_statement command None = None
refused_statement command (Some s) = option_map place_refusal (refused_place command s)

-- the first refusal before any file: by the number of table words, of the query's text, or of its statement by the command
abbrev pub refused_request : Request → Option Refusal
refused_request r =
    if nat_lt greatest_files (length r.tables) then Some (Refusal.exactly (outcome.Limit (limit.Files (length r.tables))))
    else option_or (option_map (text_refusal r.query) (refused_text r.query)) (refused_statement r.command (statement_of r.query))

-- ---- what is given

-- the tables, each under its name, and a statement that is well typed over them
abbrev pub Given : Type 0
Given = List Named × QueryTree

abbrev pub typed_given : List Named → QueryTree → List TypingFault → Result Given Refusal
typed_given ts s [] = Ok (ts, s)
typed_given ts s (fault ∷ faults) = Err (Refusal.defects (fault ∷ faults))

abbrev pub tables_given : QueryTree → Result (List Named) Outcome → Result Given Refusal
tables_given s (Err refusal) = Err (Refusal.exactly refusal)
tables_given s (Ok ts) = typed_given ts s (statement_defects ts s)

abbrev pub statement_given : Request → List Found → Option QueryTree → Result Given Refusal
statement_given r found None = Err (Refusal.no_statement r.query)
statement_given r found (Some s) = tables_given s (tables_of found)

abbrev pub unless_refused : Request → List Found → Option Refusal → Result Given Refusal
unless_refused r found (Some refusal) = Err refusal
unless_refused r found None = statement_given r found (statement_of r.query)

-- what is given to a request by what is found for its words, or its first refusal
abbrev pub given_of : Request → List Found → Result Given Refusal
given_of r found = unless_refused r found (refused_request r)

-- ---- what is printed

abbrev pub bounded_rows_text : Form → List (List ℕ) → List Kind → Bounded → List ℕ
bounded_rows_text form.Csv names kinds rows = csv_text names kinds rows
bounded_rows_text form.Table names kinds rows = table_text names kinds rows

-- the rules by which `answer` forms products, groups and distinct rows
abbrev pub rules_asked : Request → Rules
rules_asked r = record { compress = r.compress; points = r.points }

-- A text is what is printed: the bounded answer's, with `answer` by the rules that are asked for, or that of the ordinary
-- answer in the guess world, or that of its rows with how often each is certain, or that of a plan which gives the bounded
-- answer's rows over encoded tables, or that of the program by which `answer` finds them where nothing is asked beside.
abbrev pub IsTextBy : Command → Request → List Named → QueryTree → List ℕ → Type 0
IsTextBy Answer r ts s text = text ≡ bounded_rows_text r.form (answer_names ts s) (answer_kinds ts s) (asked_rows (rules_asked r) r.combine ts s)
IsTextBy Direct r ts s text = text ≡ bounded_rows_text r.form (answer_names ts s) (answer_kinds ts s) (answer_rows r.combine ts s)
IsTextBy Guess r ts s text = text ≡ world_text (answer_names ts s) (answer_kinds ts s) (guess_answer ts s)
IsTextBy Ua r ts s text = text ≡ ua_text (answer_names ts s) (answer_kinds ts s) (ua_rows ts s)
IsTextBy Rewrite r ts s text = IsPlanText ts s text
IsTextBy Explain r ts s text = IsExplanation ts s text

-- whether each number of the answer lies in 128 bits, the printed counts among them: with `ua`, each number of the ordinary
-- answer in the guess world. A plan and a program are written whatever the numbers are.
abbrev pub fit_by : Command → Request → List Named → QueryTree → Bool
fit_by Answer r ts s = asked_fits (rules_asked r) r.combine ts s
fit_by Direct r ts s = answer_fits r.combine ts s
fit_by Guess r ts s = guess_answer_fits ts s && counts_fit (world_rows (guess_answer ts s))
fit_by Ua r ts s = ua_answer_fits ts s
fit_by Rewrite r ts s = true
fit_by Explain r ts s = true

abbrev pub numbers_fit : Request → List Named → QueryTree → Bool
numbers_fit r ts s = fit_by r.command r ts s

-- The printed rows hold in every possible world, and their guesses are the answer in the guess world. With `ua` there are
-- in every world as many copies of each row as are certain, and in the guess world as many as are guessed.
abbrev pub HoldsBy : Command → Request → List Named → QueryTree → Type 0
HoldsBy Answer r ts s = RowsHold ts s (asked_rows (rules_asked r) r.combine ts s)
HoldsBy Direct r ts s = RowsHold ts s (answer_rows r.combine ts s)
HoldsBy Guess r ts s = ⊤
HoldsBy Ua r ts s = UaHolds ts s
HoldsBy Rewrite r ts s = ⊤
HoldsBy Explain r ts s = ⊤

-- Which numbers fit where there is an answer: with `direct` all, and with `guess` the printed counts. The plans of `answer`, `guess`
-- and `ua` may pass over a number that leaves 128 bits.
abbrev pub FitsBy : Command → Request → List Named → QueryTree → Type 0
FitsBy Answer r ts s = ⊤
FitsBy Direct r ts s = answer_fits r.combine ts s ≡ true
FitsBy Guess r ts s = counts_fit (world_rows (guess_answer ts s)) ≡ true
FitsBy Ua r ts s = ⊤
FitsBy Rewrite r ts s = ⊤
FitsBy Explain r ts s = ⊤

-- a text is the answer's, and the answer holds
pub record IsAnswer (r : Request) (text : List ℕ) (ts : List Named) (s : QueryTree) : Type 0 where
  pub is : IsTextBy r.command r ts s text
  pub holds : HoldsBy r.command r ts s
  pub fits : FitsBy r.command r ts s
