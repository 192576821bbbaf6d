-- Why a plan in a file is not run over tables. `told` are the files that a shelf tells, and the counts are those of its
-- refusals and of its absent files before and after.
use Rattle.std.specs.Prelude.{ℕ, zero, suc, ◌≡◌, ◌≢◌, ◌<◌, ◌≤◌, ◌+◌, true, false, List, length, Option, Some, None, Ok, Err, ⊤}
use Rattle.au_blocks.specs.declared.faults.TableFault.TheVariants as table
use Rattle.au_io.specs.Counts.{Rose}
use Rattle.au_io.specs.Files.{File}
use Rattle.au_plain.specs.Plans.{PlanTree}
use Rattle.au_sqltext.specs.Answers.{IsNoText}
use Rattle.au_sqltext.specs.declared.fault.PlanFault.{PlanFault}
use Rattle.au_sqltext.specs.declared.fault.PlanFault.TheVariants as no_plan
use Rattle.au_engine.specs.Answers.{Named}
use Rattle.au_engine.specs.Exchange.{plain_fits}
use Rattle.au_engine.specs.declared.faults.LimitFault.{LimitFault}
use Rattle.au_engine.specs.declared.faults.LimitFault.TheVariants as limit
use Rattle.au_engine.specs.declared.exchange.plain.PlainFault.{PlainFault}
use Rattle.au_engine.specs.declared.exchange.plain.PlainFault.TheVariants as plain
use Rattle.au_cli.specs.declared.files.Purpose.TheVariants as purpose
use Rattle.au_cli.specs.declared.outcome.Outcome.{Outcome}
use Rattle.au_cli.specs.declared.outcome.Outcome.TheVariants as outcome
use Rattle.au_value.specs.Texts.{Text}
use Rattle.au_cli.specs.Files.{FileFound, FilesFound, Found, greatest_files, size_of, tables_from}
use Rattle.au_cli.specs.Plain.{PlanGiven, file_plan, line_of, line_plan, plan_given, plan_over}
use Rattle.au_cli.specs.FileCauses.{ReadsBefore, ReadsUpTo, is_file_limit, is_size_limit}

-- ---- what faults end in

abbrev pub ended_text : PlanFault → Outcome
ended_text no_plan.NoMemory = outcome.NoMemory
ended_text wrong = outcome.Plan wrong

abbrev pub ended_plain : PlainFault → Outcome
ended_plain plain.Untyped = outcome.Plan no_plan.Untyped
ended_plain plain.Overflow = outcome.Overflow
ended_plain plain.NoMemory = outcome.NoMemory

-- ---- the plan of a file

-- bytes are no line, or one that is the text of no plan
abbrev pub IsNoLine : Option Text → Type 0
IsNoLine None = ⊤
IsNoLine (Some text) = IsNoText text

-- why a line is no plan
abbrev pub LineCause : Option Text → Outcome → Type 0
LineCause line outcome.NoMemory = ⊤
LineCause line (outcome.Plan no_plan.Text) = (line_plan line ≡ Err (outcome.Plan no_plan.Text)) × IsNoLine line
LineCause line (outcome.Plan no_plan.Deep) = line_plan line ≡ Err (outcome.Plan no_plan.Deep)
LineCause line _ = ⊥

abbrev pub HasNoPlan : Option (List ℕ) → Type 0
HasNoPlan None = ⊥
HasNoPlan (Some bytes) = IsNoLine (line_of bytes)

-- what is found of the first file has this refusal
abbrev pub PlanFileRefused : Option (List File) → Text → Outcome → Type 0
PlanFileRefused told path o = FileFound told path (λ plan. file_plan plan ≡ Err o)

abbrev pub PlanFileFault : Option (List File) → Text → PlanFault → Type 0
PlanFileFault told path no_plan.Text = FileFound told path (λ plan. (file_plan plan ≡ Err (outcome.Plan no_plan.Text)) × HasNoPlan plan)
PlanFileFault told path no_plan.Deep = PlanFileRefused told path (outcome.Plan no_plan.Deep)
PlanFileFault told path _ = ⊥

-- why the first file gives no plan
abbrev pub PlanFileCause : Option (List File) → Text → ℕ → ℕ → ℕ → ℕ → Outcome → Type 0
PlanFileCause told path faults faults_now absences absences_now outcome.NoMemory = ⊤
PlanFileCause told path faults faults_now absences absences_now (outcome.ReadFault i) = (i ≡ 0) × Rose faults faults_now
PlanFileCause told path faults faults_now absences absences_now (outcome.NoFile i) = Rose absences absences_now × PlanFileRefused told path (outcome.NoFile i)
PlanFileCause told path faults faults_now absences absences_now (outcome.Limit fault) =
    (is_size_limit fault ≡ true) × PlanFileRefused told path (outcome.Limit fault)
PlanFileCause told path faults faults_now absences absences_now (outcome.Plan fault) = PlanFileFault told path fault
PlanFileCause told path faults faults_now absences absences_now _ = ⊥

-- ---- a plan over the files of words, behind so many bytes of its own file

abbrev pub OverGives : Option (List File) → ℕ → List (Text × Text) → PlanTree → (List Named → PlanTree → Type 0) → Type 0
OverGives told before words p P =
    FilesFound told words (λ found. (g : PlanGiven) × (plan_over p (tables_from purpose.Plan 1 before found) ≡ Ok g) × P g.0 g.1)

abbrev pub OverRefused : Option (List File) → ℕ → List (Text × Text) → PlanTree → Outcome → Type 0
OverRefused told before words p o = FilesFound told words (λ found. plan_over p (tables_from purpose.Plan 1 before found) ≡ Err o)

-- why it is not run over them
abbrev pub OverCause : Option (List File) → ℕ → List (Text × Text) → PlanTree → ℕ → ℕ → ℕ → ℕ → Outcome → Type 0
OverCause told before words p faults faults_now absences absences_now outcome.NoMemory = ⊤
OverCause told before words p faults faults_now absences absences_now (outcome.ReadFault i) =
    Rose faults faults_now × ReadsBefore told purpose.Plan 1 before words i
OverCause told before words p faults faults_now absences absences_now (outcome.NoFile i) =
    Rose absences absences_now × OverRefused told before words p (outcome.NoFile i)
OverCause told before words p faults faults_now absences absences_now (outcome.Table i fault) =
    (fault ≢ table.NoMemory) × OverRefused told before words p (outcome.Table i fault)
OverCause told before words p faults faults_now absences absences_now (outcome.Limit fault) =
    (is_file_limit purpose.Plan fault ≡ true) × OverRefused told before words p (outcome.Limit fault)
OverCause told before words p faults faults_now absences absences_now (outcome.Plan no_plan.Untyped) =
    OverRefused told before words p (outcome.Plan no_plan.Untyped)
OverCause told before words p faults faults_now absences absences_now outcome.Overflow = OverGives told before words p (λ ts q. plain_fits ts q ≡ false)
OverCause told before words p faults faults_now absences absences_now _ = ⊥

-- ---- the whole run

-- this holds of what is found at the plan's path and for the words
abbrev pub PlanFound : Option (List File) → Text → List (Text × Text) → (Option (List ℕ) → List Found → Type 0) → Type 0
PlanFound told path words Holds = FileFound told path (λ plan. FilesFound told words (Holds plan))

-- it gives the tables and the plan, and this holds of them
abbrev pub PlanGives : Option (List File) → Text → List (Text × Text) → (List Named → PlanTree → Type 0) → Type 0
PlanGives told path words P = PlanFound told path words (λ plan found. (g : PlanGiven) × (plan_given plan found ≡ Ok g) × P g.0 g.1)

-- an outcome is the first refusal over what is found, where there are not too many words
abbrev pub PlanRefused : Option (List File) → Text → List (Text × Text) → Outcome → Type 0
PlanRefused told path words o = (length words ≤ greatest_files) × PlanFound told path words (λ plan found. plan_given plan found ≡ Err o)

abbrev pub PlanLimit : Option (List File) → Text → List (Text × Text) → LimitFault → Type 0
PlanLimit told path words (limit.Files n) = (n ≡ length words) × (greatest_files < length words)
PlanLimit told path words fault = (is_file_limit purpose.Plan fault ≡ true) × PlanRefused told path words (outcome.Limit fault)

-- a line that is the text of no plan is refused as Text, and as Untyped a plan that is not typed over the tables
abbrev pub PlanFaultCause : Option (List File) → Text → List (Text × Text) → PlanFault → Type 0
PlanFaultCause told path words no_plan.NoMemory = ⊥
PlanFaultCause told path words no_plan.Text =
    (length words ≤ greatest_files) × PlanFound told path words (λ plan found. (plan_given plan found ≡ Err (outcome.Plan no_plan.Text)) × HasNoPlan plan)
PlanFaultCause told path words wrong = PlanRefused told path words (outcome.Plan wrong)

-- where this isn't the plan's file, what is found at the plan's path gives a plan, and for the words before this file tables
abbrev pub PlanReadsUpTo : Option (List File) → Text → List (Text × Text) → ℕ → Type 0
PlanReadsUpTo told path words zero = ⊤
PlanReadsUpTo told path words (suc place) =
    FileFound told path (λ plan. (p : PlanTree) × (file_plan plan ≡ Ok p) × ReadsUpTo told purpose.Plan 1 (size_of plan) words place)

-- why a plan is not run
abbrev pub PlanCause : Text → List (Text × Text) → Option (List File) → ℕ → ℕ → ℕ → ℕ → Outcome → Type 0
PlanCause path words told faults faults_now absences absences_now outcome.NoMemory = ⊤
PlanCause path words told faults faults_now absences absences_now (outcome.ReadFault i) =
    Rose faults faults_now × (length words ≤ greatest_files) × PlanReadsUpTo told path words i
PlanCause path words told faults faults_now absences absences_now (outcome.NoFile i) = Rose absences absences_now × PlanRefused told path words (outcome.NoFile i)
PlanCause path words told faults faults_now absences absences_now (outcome.Table i fault) =
    (fault ≢ table.NoMemory) × PlanRefused told path words (outcome.Table i fault)
PlanCause path words told faults faults_now absences absences_now (outcome.Limit fault) = PlanLimit told path words fault
PlanCause path words told faults faults_now absences absences_now (outcome.Plan fault) = PlanFaultCause told path words fault
PlanCause path words told faults faults_now absences absences_now outcome.Overflow =
    (length words ≤ greatest_files) × PlanGives told path words (λ ts p. plain_fits ts p ≡ false)
PlanCause path words told faults faults_now absences absences_now _ = ⊥
