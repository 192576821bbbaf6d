-- What a run of the program promises: which refusal comes first, and what comes where none stands.
use Rattle.std.specs.Prelude.{ℕ, ◌≡◌, ◌≤◌, ◌⊎◌, ◌+◌, ◌++◌, ◌∷◌, [], true, false, List, length, Option, Some, None, option_map, Result, Ok, Err, if◌then◌else◌, nat_lt}
use Rattle.std.specs.Option.{option_or}
use Rattle.std.specs.Result.{result_err}
use Rattle.std.specs.Str.{is_utf8}
use Rattle.au_value.specs.declared.kinds.Kind.{Kind}
use Rattle.au_blocks.specs.Tables.{BlockTable}
use Rattle.au_io.specs.Files.{File, bytes_at}
use Rattle.au_plain.specs.Plans.{PlanTree}
use Rattle.au_sqltext.specs.Answers.{IsTextOf}
use Rattle.au_sqltext.specs.Brackets.{is_deep}
use Rattle.au_engine.specs.Answers.{Named, answer_fits}
use Rattle.au_engine.specs.Exchange.{plain_fits, plain_kinds}
use Rattle.au_engine.specs.declared.faults.LimitFault.TheVariants as limit
use Rattle.au_words.specs.Words.{Asked}
use Rattle.au_words.specs.Words as words
use Rattle.au_words.specs.declared.fault.UsageFault.{UsageFault}
use Rattle.au_cli.specs.declared.files.Purpose.TheVariants as purpose
use Rattle.au_cli.specs.declared.outcome.Outcome.{Outcome}
use Rattle.au_cli.specs.declared.outcome.Outcome.TheVariants as outcome
use Rattle.au_cli.specs.Demo.{Demonstrates}
use Rattle.au_value.specs.Texts.{Text}
use Rattle.au_cli.specs.Files.{file_table, found_in, greatest_files, greatest_size, tables_from}
use Rattle.au_cli.specs.Plain.{plan_given}
use Rattle.au_cli.specs.Requests.{Given, Refusal, given_of, numbers_fit, refused_request}
use Rattle.au_cli.specs.Requests.Refusal.{exactly}

-- ---- the number of a file

-- the file that an outcome names, if it names one
abbrev pub named_file : Outcome → Option ℕ
named_file (outcome.Table i fault) = Some i
named_file (outcome.ReadFault i) = Some i
named_file (outcome.NoFile i) = Some i
named_file (outcome.Limit (limit.FileSize i)) = Some i
named_file (outcome.Limit (limit.AllFiles i)) = Some i
named_file (outcome.Limit (limit.PlainRows i)) = Some i
named_file _ = None

-- how many files are named by words: that of a plan is one of them
abbrev pub file_count : Result Asked UsageFault → ℕ
file_count (Ok (words.query r)) = length r.tables
file_count (Ok (words.encode word)) = 1
file_count (Ok (words.plain path tables)) = length tables + 1
file_count _ = 0

-- ---- refusals

-- the outcome, or want of memory in its place
abbrev pub Yields : Outcome → Outcome → Type 0
Yields result wanted = (result ≡ wanted) ⊎ (result ≡ outcome.NoMemory)

-- a plan has too many tables
abbrev pub refused_number : List (Text × Text) → Option Refusal
refused_number tables = if nat_lt greatest_files (length tables) then Some (exactly (outcome.Limit (limit.Files (length tables)))) else None

-- the first refusal whatever the files hold: of the words, of their number, of the query's text
abbrev pub refused_before : Result Asked UsageFault → Option Refusal
refused_before (Err fault) = Some (exactly (outcome.Usage fault))
refused_before (Ok (words.query r)) = refused_request r
refused_before (Ok (words.demo start blocks workers)) = None
refused_before (Ok (words.encode word)) = None
refused_before (Ok (words.plain path tables)) = refused_number tables

-- the first refusal over told files, if one stands
abbrev pub first_refusal : Result Asked UsageFault → List File → Option Refusal
first_refusal (Err fault) files = Some (exactly (outcome.Usage fault))
first_refusal (Ok (words.query r)) files = result_err (given_of r (found_in files r.tables))
first_refusal (Ok (words.demo start blocks workers)) files = None
first_refusal (Ok (words.encode word)) files = option_map exactly (result_err (file_table purpose.Encode 0 0 (bytes_at files word.1)))
first_refusal (Ok (words.plain path tables)) files = option_or (refused_number tables) (option_map exactly (result_err (plan_given (bytes_at files path) (found_in files tables))))

-- ---- what can be answered

-- A plan can be run: a told file holds the text of a plan that isn't deep, and a line feed. The plan is typed over the
-- tables of the told files, within their limits, and its numbers lie in 128 bits.
pub record CanRun (path : Text) (words : List (Text × Text)) (files : List File) : Type 0 where
  pub few : length words ≤ greatest_files
  pub line : Text
  pub file : bytes_at files path ≡ Some (line ++ 10 ∷ [])
  pub size : length (line ++ 10 ∷ []) ≤ greatest_size
  pub utf8 : is_utf8 (line ++ 10 ∷ []) ≡ true
  pub flat : is_deep line ≡ false
  pub plan : PlanTree
  pub text : IsTextOf line plan
  pub tables : List Named
  pub given : tables_from purpose.Plan 1 (length (line ++ 10 ∷ [])) (found_in files words) ≡ Ok tables
  pub kinds : List Kind
  pub typed : plain_kinds tables plan ≡ Some kinds
  pub fits : plain_fits tables plan ≡ true

-- nothing is refused over told files, and each number of the answer lies in 128 bits
abbrev pub CanAnswer : Result Asked UsageFault → List File → Type 0
CanAnswer (Err fault) files = ⊥
CanAnswer (Ok (words.query r)) files = (g : Given) × (given_of r (found_in files r.tables) ≡ Ok g) × (numbers_fit r g.0 g.1 ≡ true)
CanAnswer (Ok (words.demo start blocks workers)) files = Demonstrates start blocks (λ ts s. answer_fits false ts s ≡ true)
CanAnswer (Ok (words.encode word)) files = (t : BlockTable) × (file_table purpose.Encode 0 0 (bytes_at files word.1) ≡ Ok t)
CanAnswer (Ok (words.plain path tables)) files = CanRun path tables files
