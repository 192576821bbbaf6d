-- Why an outcome comes: the cause that each has. `told` are the files that a shelf tells, and the counts are those of
-- its refusals and of its absent files before and after.
use Rattle.std.specs.Prelude.{ℕ, ◌≡◌, ◌≢◌, ◌<◌, ◌≤◌, ◌⊎◌, Bool, true, false, List, [], length, Option, Some, None, Result, Ok, Err, ⊤}
use Rattle.std.specs.Io.KnownBytes.{Appends}
use Rattle.au_blocks.specs.declared.faults.TableFault.TheVariants as table
use Rattle.au_blocks.specs.Tables.{BlockTable}
use Rattle.au_io.specs.Counts.{Rose}
use Rattle.au_io.specs.Files.{AppendsFront, File}
use Rattle.au_parse.specs.Tree.{QueryTree}
use Rattle.au_engine.specs.declared.faults.LimitFault.{LimitFault}
use Rattle.au_engine.specs.declared.faults.LimitFault.TheVariants as limit
use Rattle.au_engine.specs.declared.faults.QueryFault.{QueryFault}
use Rattle.au_engine.specs.declared.faults.QueryFault.TheVariants as query
use Rattle.au_engine.specs.Reading.{refused_text, statement_of}
use Rattle.au_engine.specs.Answers.{Named, answer_fits, answer_rows}
use Rattle.au_engine.specs.Exchange.{encoded_text, plain_text}
use Rattle.au_print.specs.DemoTexts.{demo_text}
use Rattle.au_ua.specs.NotPositive.{not_positive}
use Rattle.au_words.specs.Words.{Asked, Request}
use Rattle.au_words.specs.Words as words
use Rattle.au_words.specs.declared.fault.UsageFault.{UsageFault}
use Rattle.au_words.specs.declared.words.Command.TheVariants.{Ua}
use Rattle.au_cli.specs.declared.files.Purpose.TheVariants as purpose
use Rattle.au_cli.specs.declared.outcome.Outcome.{Outcome}
use Rattle.au_cli.specs.declared.outcome.Outcome.TheVariants as outcome
use Rattle.au_cli.specs.Demo.{Demonstrates}
use Rattle.au_cli.specs.FileCauses.{FileCause, ReadsUpTo}
use Rattle.au_value.specs.Texts.{Text}
use Rattle.au_cli.specs.Files.{FileFound, FilesFound, file_table, greatest_files}
use Rattle.au_cli.specs.PlanCauses.{PlanCause, PlanGives}
use Rattle.au_cli.specs.Requests.{IsAnswer, IsRefusal, Refusal, given_of, numbers_fit, refused_request}

-- ---- a request

-- nothing is refused before the files, and the query is a statement
pub record IsRead (r : Request) : Type 0 where
  pub allowed : refused_request r ≡ None
  pub statement : QueryTree
  pub is : statement_of r.query ≡ Some statement

-- what is found for the words gives what is asked for, and this holds of it
abbrev pub Gives : Option (List File) → Request → (List Named → QueryTree → Type 0) → Type 0
Gives told r P = FilesFound told r.tables (λ found. (ts : List Named) × (s : QueryTree) × (given_of r found ≡ Ok (ts, s)) × P ts s)

-- an outcome is that of the first refusal over what is found
abbrev pub IsFirst : Option (List File) → Request → Outcome → Type 0
IsFirst told r o = IsRead r × FilesFound told r.tables (λ found. (refusal : Refusal) × (given_of r found ≡ Err refusal) × IsRefusal refusal o)

-- an outcome is that of the first refusal before any file
abbrev pub IsRefusedBefore : Request → Outcome → Type 0
IsRefusedBefore r o = (refusal : Refusal) × (refused_request r ≡ Some refusal) × IsRefusal refusal o

-- why the statement of a request is not read
abbrev pub StatementCause : Request → Outcome → Type 0
StatementCause r o = (o ≡ outcome.NoMemory) ⊎ IsRefusedBefore r o

-- whether a fault is of the query's text, not of its statement over the tables
abbrev pub is_text_fault : QueryFault → Bool
is_text_fault (query.BadChar at) = true
is_text_fault (query.OpenText at) = true
is_text_fault (query.BadNumber at) = true
is_text_fault (query.Syntax at) = true
is_text_fault (query.NotPositive at) = true
is_text_fault _ = false

-- The statement of `ua` is not positive at this place, and no earlier refusal stands.
pub record IsNotPositive (r : Request) (at : ℕ) : Type 0 where
  pub command : r.command ≡ Ua
  pub few : length r.tables ≤ greatest_files
  pub text : refused_text r.query ≡ None
  pub statement : QueryTree
  pub is : statement_of r.query ≡ Some statement
  pub place : not_positive statement ≡ Some at

-- whether a limit is of the words and the query's text, not of the files
abbrev pub is_text_limit : LimitFault → Bool
is_text_limit (limit.FileSize file) = false
is_text_limit (limit.AllFiles file) = false
is_text_limit (limit.EncodeColumns columns) = false
is_text_limit (limit.PlainRows file) = false
is_text_limit _ = true

-- whether a query may pass a limit: not those of tables that are encoded or that a plan is run over
abbrev pub is_query_limit : LimitFault → Bool
is_query_limit (limit.EncodeColumns columns) = false
is_query_limit (limit.PlainRows file) = false
is_query_limit _ = true

abbrev pub StageCause : Bool → Option (List File) → Request → Outcome → Type 0
StageCause true told r o = IsRefusedBefore r o
StageCause false told r o = IsFirst told r o

-- why a request is not answered
abbrev pub RequestCause : Request → Option (List File) → ℕ → ℕ → ℕ → ℕ → Outcome → Type 0
RequestCause r told faults faults_now absences absences_now outcome.NoMemory = ⊤
RequestCause r told faults faults_now absences absences_now (outcome.Query fault) = StageCause (is_text_fault fault) told r (outcome.Query fault)
RequestCause r told faults faults_now absences absences_now (outcome.Limit fault) =
    (is_query_limit fault ≡ true) × StageCause (is_text_limit fault) told r (outcome.Limit fault)
RequestCause r told faults faults_now absences absences_now (outcome.NoFile i) = Rose absences absences_now × IsFirst told r (outcome.NoFile i)
RequestCause r told faults faults_now absences absences_now (outcome.ReadFault i) = Rose faults faults_now × IsRead r × ReadsUpTo told purpose.Query 0 0 r.tables i
RequestCause r told faults faults_now absences absences_now (outcome.Table i fault) = (fault ≢ table.NoMemory) × IsFirst told r (outcome.Table i fault)
RequestCause r told faults faults_now absences absences_now outcome.Overflow = IsRead r × Gives told r (λ ts s. numbers_fit r ts s ≡ false)
RequestCause r told faults faults_now absences absences_now _ = ⊥

-- ---- a demonstration

-- why a demonstration is not printed
abbrev pub DemoCause : ℕ → ℕ → Outcome → Type 0
DemoCause start blocks outcome.NoMemory = ⊤
DemoCause start blocks outcome.Overflow = Demonstrates start blocks (λ ts s. answer_fits false ts s ≡ false)
DemoCause start blocks _ = ⊥

abbrev pub DemoText : List Named → QueryTree → List ℕ
DemoText ts s = demo_text (answer_rows false ts s)

-- ---- encoded rows

-- what is found at a path gives the table that is encoded, and this holds of it
abbrev pub GivesTable : Option (List File) → Text → (BlockTable → Type 0) → Type 0
GivesTable told path P = FileFound told path (λ found. (t : BlockTable) × (file_table purpose.Encode 0 0 found ≡ Ok t) × P t)

-- ---- the words

-- a text is what the words ask for
abbrev pub IsAskedText : Result Asked UsageFault → Option (List File) → List ℕ → Type 0
IsAskedText (Err fault) told text = ⊥
IsAskedText (Ok (words.query r)) told text = IsRead r × Gives told r (IsAnswer r text)
IsAskedText (Ok (words.demo start blocks workers)) told text = Demonstrates start blocks (λ ts s. text ≡ DemoText ts s)
IsAskedText (Ok (words.encode word)) told text = GivesTable told word.1 (λ t. text ≡ encoded_text t)
IsAskedText (Ok (words.plain path tables)) told text =
    (length tables ≤ greatest_files) × PlanGives told path tables (λ ts p. text ≡ plain_text ts p)

-- why what the words ask for is not made
abbrev pub AskedCause : Result Asked UsageFault → Option (List File) → ℕ → ℕ → ℕ → ℕ → Outcome → Type 0
AskedCause (Err fault) told faults faults_now absences absences_now o = (o ≡ outcome.Usage fault) ⊎ (o ≡ outcome.NoMemory)
AskedCause (Ok (words.query r)) told faults faults_now absences absences_now o = RequestCause r told faults faults_now absences absences_now o
AskedCause (Ok (words.demo start blocks workers)) told faults faults_now absences absences_now o = DemoCause start blocks o
AskedCause (Ok (words.encode word)) told faults faults_now absences absences_now o =
    FileCause told purpose.Encode word.1 0 0 faults faults_now absences absences_now o
AskedCause (Ok (words.plain path tables)) told faults faults_now absences absences_now o = PlanCause path tables told faults faults_now absences absences_now o

-- the words ask for `ua`, and its statement is not positive at this place
abbrev pub AskedNotPositive : Result Asked UsageFault → ℕ → Type 0
AskedNotPositive (Ok (words.query r)) at = IsNotPositive r at
AskedNotPositive _ at = ⊥

-- what is asked for is printed whole, and a front of it
abbrev pub PrintsAsked : Result Asked UsageFault → Option (List File) → Option (List ℕ) → Option (List ℕ) → Type 0
PrintsAsked asked told old new = (text : List ℕ) × IsAskedText asked told text × Appends old new text

abbrev pub PrintsAskedFront : Result Asked UsageFault → Option (List File) → Option (List ℕ) → Option (List ℕ) → Type 0
PrintsAskedFront asked told old new = (text : List ℕ) × IsAskedText asked told text × AppendsFront old new text

-- what became of a text that was put by one call
abbrev pub TextPut : ℕ → ℕ → Option (List ℕ) → Option (List ℕ) → List ℕ → Outcome → Type 0
TextPut faults faults_now old new text outcome.Done = Appends old new text
TextPut faults faults_now old new text outcome.WriteFault = Rose faults faults_now × AppendsFront old new text
TextPut faults faults_now old new text outcome.NoMemory = Appends old new []
TextPut faults faults_now old new text _ = ⊥

-- a line was put whole, a front of it where the put failed, or nothing where memory ran out
abbrev pub LinePut : ℕ → ℕ → Option (List ℕ) → Option (List ℕ) → List ℕ → Type 0
LinePut faults faults_now old new line =
    Appends old new line ⊎ Rose faults faults_now × AppendsFront old new line ⊎ Appends old new []

-- how often the shelf refused and had no file, and how often the sink refused, before and after
pub record FaultCounts : Type 0 where
  pub faults : ℕ
  pub faults_now : ℕ
  pub absences : ℕ
  pub absences_now : ℕ
  pub puts : ℕ
  pub puts_now : ℕ

abbrev pub fault_counts : ℕ → ℕ → ℕ → ℕ → ℕ → ℕ → FaultCounts
fault_counts faults faults_now absences absences_now puts puts_now =
    record { faults = faults; faults_now = faults_now; absences = absences; absences_now = absences_now; puts = puts; puts_now = puts_now }

-- How the answer ended, before any line is put: over the counts of the shelf and of the sink, and the bytes of the sink.
abbrev pub Ends : Result Asked UsageFault → Option (List File) → FaultCounts → Option (List ℕ) → Option (List ℕ) → Outcome → Type 0
Ends asked told n old new outcome.Done = PrintsAsked asked told old new
Ends asked told n old new outcome.WriteFault = Rose n.puts n.puts_now × PrintsAskedFront asked told old new
Ends asked told n old new o = AskedCause asked told n.faults n.faults_now n.absences n.absences_now o × Appends old new []
