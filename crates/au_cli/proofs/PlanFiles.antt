-- The plan of the first file, and its run over the files of words, from what was read.
use Rattle.std.proofs.Common.{◌≡◌, ◌≤◌, ◌+◌, ◌∙◌, ℕ, true, false, refl, sym, ap, subst, arith, suc, List, Option, Some, None, Result, Ok, Err, length}
use Rattle.std.specs.Prelude.{is_some}
use Rattle.au_value.specs.declared.kinds.Kind.{Kind}
use Rattle.au_io.specs.Files.{File}
use Rattle.au_plain.specs.Plans.{PlanTree}
use Rattle.au_plain.specs.PlanKinds.{IsTypedPlan}
use Rattle.au_sqltext.specs.declared.fault.PlanFault.{PlanFault}
use Rattle.au_sqltext.specs.declared.fault.PlanFault.TheVariants as no_plan
use Rattle.au_engine.specs.Answers.{Named}
use Rattle.au_engine.specs.Exchange.{PlainCause, plain_fits, plain_kinds, value_kinds}
use Rattle.au_engine.specs.declared.faults.LimitFault.{LimitFault}
use Rattle.au_engine.specs.declared.faults.LimitFault.TheVariants as limit
use Rattle.au_engine.specs.declared.exchange.plain.PlainFault.{PlainFault}
use Rattle.au_engine.specs.declared.exchange.plain.PlainFault.TheVariants as plain
use Rattle.au_cli.specs.declared.files.Purpose.TheVariants as purpose
use Rattle.au_cli.specs.declared.outcome.Outcome.{Outcome}
use Rattle.au_cli.specs.declared.outcome.Outcome.TheVariants as outcome
use Rattle.au_value.specs.Texts.{Text}
use Rattle.au_cli.specs.Files.{FileFound, FilesFound, Found, IsFoundAt, file_bytes, greatest_files, size_of, tables_from}
use Rattle.au_cli.specs.Plain.{and_tables, file_plan, line_of, line_plan, plan_given, plan_in, plan_over, typed_plan}
use Rattle.au_cli.specs.FileCauses.{BytesRefused, FilesCause, FilesRefused, ReadCause, ReadsUpTo, is_file_limit, is_size_limit}
use Rattle.au_cli.proofs.TablesRead.{rose_later, unread_found}
use Rattle.au_cli.specs.PlanCauses.{HasNoPlan, IsNoLine, LineCause, OverCause, OverGives, OverRefused, PlanCause, PlanFaultCause, PlanFileCause, PlanFileFault, PlanFileRefused, PlanGives, PlanLimit, PlanReadsUpTo, PlanRefused, ended_plain}

-- ---- the first file

bytes_plan : (told : Option (List File)) (path : Text) (o : Outcome) → BytesRefused told path 0 0 o → PlanFileRefused told path o
bytes_plan told path o h = (h.0, h.1, ap plan_in h.2)

pub read_plan_cause : (told : Option (List File)) (path : Text) (f fn a an : ℕ) (o : Outcome) → ReadCause told path 0 0 f fn a an o → PlanFileCause told path f fn a an o
read_plan_cause told path f fn a an outcome.NoMemory h = tt
read_plan_cause told path f fn a an (outcome.ReadFault i) h = h
read_plan_cause told path f fn a an (outcome.NoFile i) h = (h.1, bytes_plan told path (outcome.NoFile i) h.2)
read_plan_cause told path f fn a an (outcome.Limit fault) h = (h.0, bytes_plan told path (outcome.Limit fault) h.1)
read_plan_cause told path f fn a an _ h = elim h [ ]

pub plan_read : (bytes : List ℕ) (found : Result PlanTree Outcome) → file_bytes 0 0 (Some bytes) ≡ Ok bytes → line_plan (line_of bytes) ≡ found → file_plan (Some bytes) ≡ found
plan_read bytes found sized e = ap plan_in sized ∙ e

-- why the line of the file is no plan is why the file is none
pub line_cause : (told : Option (List File)) (path : Text) (f fn a an : ℕ) (bytes : List ℕ) (o : Outcome) → IsFoundAt told path (Some bytes)
    → file_bytes 0 0 (Some bytes) ≡ Ok bytes → LineCause (line_of bytes) o → PlanFileCause told path f fn a an o
line_cause told path f fn a an bytes outcome.NoMemory read sized cause = tt
line_cause told path f fn a an bytes (outcome.Plan no_plan.Text) read sized cause =
    (Some bytes, read, (plan_read bytes (Err (outcome.Plan no_plan.Text)) sized cause.0, cause.1))
line_cause told path f fn a an bytes (outcome.Plan no_plan.Deep) read sized cause =
    (Some bytes, read, plan_read bytes (Err (outcome.Plan no_plan.Deep)) sized cause)
line_cause told path f fn a an bytes _ read sized cause = elim cause [ ]

-- ---- over the files of words

over_refused : (told : Option (List File)) (before : ℕ) (words : List (Text × Text)) (p : PlanTree) (o : Outcome) → FilesRefused told purpose.Plan 1 before words o → OverRefused told before words p o
over_refused told before words p o h = (h.0, h.1, ap (plan_over p) h.2)

pub files_over : (told : Option (List File)) (before : ℕ) (words : List (Text × Text)) (p : PlanTree) (f fn a an : ℕ) (o : Outcome)
    → FilesCause told purpose.Plan 1 before words f fn a an o → OverCause told before words p f fn a an o
files_over told before words p f fn a an outcome.NoMemory h = tt
files_over told before words p f fn a an (outcome.ReadFault i) h = h
files_over told before words p f fn a an (outcome.NoFile i) h = (h.0, over_refused told before words p (outcome.NoFile i) h.1)
files_over told before words p f fn a an (outcome.Table i fault) h = (h.0, over_refused told before words p (outcome.Table i fault) h.1)
files_over told before words p f fn a an (outcome.Limit fault) h = (h.0, over_refused told before words p (outcome.Limit fault) h.1)
files_over told before words p f fn a an _ h = elim h [ ]

typed_given : (ts : List Named) (p : PlanTree) (kinds : Option (List Kind)) → is_some kinds ≡ true → typed_plan ts p kinds ≡ Ok (ts, p)
typed_given ts p None h = cc
typed_given ts p (Some kinds) h = refl

-- tables over which the plan is typed are given with it
pub over_gives : (P : List Named → PlanTree → Type 0) (told : Option (List File)) (before : ℕ) (words : List (Text × Text)) (p : PlanTree) (ts : List Named)
    → FilesFound told words (λ found. tables_from purpose.Plan 1 before found ≡ Ok ts) → IsTypedPlan (value_kinds ts) p → P ts p → OverGives told before words p P
over_gives P told before words p ts h typed is = (h.0, h.1, ((ts, p), ap (plan_over p) h.2 ∙ typed_given ts p (plain_kinds ts p) typed, is))

untyped : (told : Option (List File)) (before : ℕ) (words : List (Text × Text)) (p : PlanTree) (ts : List Named)
    → FilesFound told words (λ found. tables_from purpose.Plan 1 before found ≡ Ok ts) → plain_kinds ts p ≡ None → OverRefused told before words p (outcome.Plan no_plan.Untyped)
untyped told before words p ts h none = (h.0, h.1, ap (plan_over p) h.2 ∙ ap (typed_plan ts p) none)

pub plain_over : (told : Option (List File)) (before : ℕ) (words : List (Text × Text)) (p : PlanTree) (f fn a an : ℕ) (ts : List Named) (fault : PlainFault)
    → FilesFound told words (λ found. tables_from purpose.Plan 1 before found ≡ Ok ts) → PlainCause ts p fault → OverCause told before words p f fn a an (ended_plain fault)
plain_over told before words p f fn a an ts plain.NoMemory h cause = tt
plain_over told before words p f fn a an ts plain.Untyped h cause = untyped told before words p ts h cause
plain_over told before words p f fn a an ts plain.Overflow h cause = over_gives (λ us q. plain_fits us q ≡ false) told before words p ts h cause.0 cause.1

-- ---- the whole run

first_refused : (told : Option (List File)) (path : Text) (words : List (Text × Text)) (o : Outcome) → length words ≤ greatest_files → PlanFileRefused told path o → PlanRefused told path words o
first_refused told path words o few h =
    let others = unread_found told words in
    (few, (h.0, h.1, (others.0, others.1, ap (and_tables (size_of h.0) others.0) h.2)))

size_limit : (told : Option (List File)) (path : Text) (words : List (Text × Text)) (fault : LimitFault) → length words ≤ greatest_files → is_size_limit fault ≡ true
    → PlanFileRefused told path (outcome.Limit fault) → PlanLimit told path words fault
size_limit told path words (limit.FileSize i) few e h = (refl, first_refused told path words (outcome.Limit (limit.FileSize i)) few h)
size_limit told path words (limit.AllFiles i) few e h = (refl, first_refused told path words (outcome.Limit (limit.AllFiles i)) few h)
size_limit told path words _ few e h = cc

file_fault : (told : Option (List File)) (path : Text) (words : List (Text × Text)) (fault : PlanFault) → length words ≤ greatest_files → PlanFileFault told path fault → PlanFaultCause told path words fault
file_fault told path words no_plan.Text few h =
    let others = unread_found told words in
    (few, (h.0, h.1, (others.0, others.1, (ap (and_tables (size_of h.0) others.0) h.2.0, h.2.1))))
file_fault told path words no_plan.Deep few h = first_refused told path words (outcome.Plan no_plan.Deep) few h
file_fault told path words _ few h = elim h [ ]

-- why the first file gives no plan is why no plan is run
pub plan_cause : (path : Text) (words : List (Text × Text)) (told : Option (List File)) (f fn a an : ℕ) (o : Outcome) → length words ≤ greatest_files
    → PlanFileCause told path f fn a an o → PlanCause path words told f fn a an o
plan_cause path words told f fn a an outcome.NoMemory few h = tt
plan_cause path words told f fn a an (outcome.ReadFault i) few h = (h.1, few, subst (PlanReadsUpTo told path words) (sym h.0) tt)
plan_cause path words told f fn a an (outcome.NoFile i) few h = (h.0, first_refused told path words (outcome.NoFile i) few h.1)
plan_cause path words told f fn a an (outcome.Limit fault) few h = size_limit told path words fault few h.0 h.1
plan_cause path words told f fn a an (outcome.Plan fault) few h = file_fault told path words fault few h
plan_cause path words told f fn a an _ few h = elim h [ ]

-- the plan that is found at a path, of a file of this size
abbrev pub PlanRead : Option (List File) → Text → ℕ → PlanTree → Type 0
PlanRead told path size p = FileFound told path (λ plan. (file_plan plan ≡ Ok p) × (size_of plan ≡ size))

-- what is given is this plan over the tables of what is found for the words
given_over : (plan : Option (List ℕ)) (found : List Found) (size : ℕ) (p : PlanTree) → file_plan plan ≡ Ok p → size_of plan ≡ size → plan_given plan found ≡ plan_over p (tables_from purpose.Plan 1 size found)
given_over plan found size p e sized =
    ap (and_tables (size_of plan) found) e ∙ ap (λ n. plan_over p (tables_from purpose.Plan 1 n found)) sized

pub plan_gives : (P : List Named → PlanTree → Type 0) (told : Option (List File)) (path : Text) (words : List (Text × Text)) (size : ℕ) (p : PlanTree)
    → PlanRead told path size p → OverGives told size words p P → PlanGives told path words P
plan_gives P told path words size p e h =
    (e.0, e.1, (h.0, h.1, (h.2.0, given_over e.0 h.0 size p e.2.0 e.2.1 ∙ h.2.1, h.2.2)))

later_refused : (told : Option (List File)) (path : Text) (words : List (Text × Text)) (size : ℕ) (p : PlanTree) (o : Outcome) → length words ≤ greatest_files
    → PlanRead told path size p → OverRefused told size words p o → PlanRefused told path words o
later_refused told path words size p o few e h = (few, (e.0, e.1, (h.0, h.1, given_over e.0 h.0 size p e.2.0 e.2.1 ∙ h.2)))

later_limit : (told : Option (List File)) (path : Text) (words : List (Text × Text)) (fault : LimitFault) → is_file_limit purpose.Plan fault ≡ true
    → PlanRefused told path words (outcome.Limit fault) → PlanLimit told path words fault
later_limit told path words (limit.Files n) e h = cc
later_limit told path words _ e h = (e, h)

-- a file behind the plan's that is not read
later_read : (told : Option (List File)) (path : Text) (words : List (Text × Text)) (size : ℕ) (p : PlanTree) (i place : ℕ) → i ≡ 1 + place
    → PlanRead told path size p → ReadsUpTo told purpose.Plan 1 size words place → PlanReadsUpTo told path words i
later_read told path words size p i place is e h =
    let next : suc place ≡ i = omega (arith, is) in
    let reads : PlanReadsUpTo told path words (suc place) = (e.0, e.1, (p, e.2.0, subst (λ n. ReadsUpTo told purpose.Plan 1 n words place) (sym e.2.1) h)) in
    subst (PlanReadsUpTo told path words) next reads

-- why a plan is not run over the files is why it is not run
pub over_cause : (path : Text) (words : List (Text × Text)) (told : Option (List File)) (f f1 fn a a1 an size : ℕ) (p : PlanTree) (o : Outcome) → length words ≤ greatest_files → f ≤ f1 → a ≤ a1
    → PlanRead told path size p → OverCause told size words p f1 fn a1 an o → PlanCause path words told f fn a an o
over_cause path words told f f1 fn a a1 an size p outcome.NoMemory few ff aa e h = tt
over_cause path words told f f1 fn a a1 an size p (outcome.ReadFault i) few ff aa e h =
    (rose_later f f1 fn ff h.0, few, later_read told path words size p i h.1.0 h.1.1 e h.1.2)
over_cause path words told f f1 fn a a1 an size p (outcome.NoFile i) few ff aa e h = (rose_later a a1 an aa h.0, later_refused told path words size p (outcome.NoFile i) few e h.1)
over_cause path words told f f1 fn a a1 an size p (outcome.Table i fault) few ff aa e h = (h.0, later_refused told path words size p (outcome.Table i fault) few e h.1)
over_cause path words told f f1 fn a a1 an size p (outcome.Limit fault) few ff aa e h = later_limit told path words fault h.0 (later_refused told path words size p (outcome.Limit fault) few e h.1)
over_cause path words told f f1 fn a a1 an size p (outcome.Plan no_plan.Untyped) few ff aa e h = later_refused told path words size p (outcome.Plan no_plan.Untyped) few e h
over_cause path words told f f1 fn a a1 an size p outcome.Overflow few ff aa e h = (few, plan_gives (λ ts q. plain_fits ts q ≡ false) told path words size p e h)
over_cause path words told f f1 fn a a1 an size p _ few ff aa e h = elim h [ ]
