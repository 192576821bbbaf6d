-- What a run of a plan ends in over told files.
use Rattle.std.proofs.Common.{◌≡◌, ◌⊎◌, ◌<◌, ◌≤◌, ◌++◌, arith, inl, inr, ℕ, false, List, [], ◌∷◌, Option, Some, Result, Ok, Err, refl, sym, ◌∙◌, ap, subst, length}
use Rattle.std.specs.Prelude.{option_map}
use Rattle.std.specs.Option.{option_or}
use Rattle.std.specs.Result.{result_err}
use Rattle.std.proofs.lemmas.Bool.{true≢false}
use Rattle.au_io.specs.Counts.{Rose}
use Rattle.au_io.specs.Files.{File, bytes_at}
use Rattle.au_engine.specs.declared.faults.LimitFault.{LimitFault}
use Rattle.au_engine.specs.declared.faults.LimitFault.TheVariants as limit
use Rattle.au_engine.specs.Answers.{Named}
use Rattle.au_engine.specs.Exchange.{plain_fits}
use Rattle.au_plain.specs.Plans.{PlanTree}
use Rattle.au_sqltext.specs.declared.fault.PlanFault.{PlanFault}
use Rattle.au_sqltext.specs.declared.fault.PlanFault.TheVariants as no_plan
use Rattle.au_cli.specs.declared.files.Purpose.TheVariants as purpose
use Rattle.au_cli.specs.declared.outcome.Outcome.{Outcome}
use Rattle.au_cli.specs.declared.outcome.Outcome.TheVariants as outcome
use Rattle.au_value.specs.Texts.{Text}
use Rattle.au_cli.specs.Files.{found_in, greatest_files, size_of, tables_from}
use Rattle.au_cli.specs.Plain.{PlanGiven, and_tables, file_plan, line_plan, plan_given, plan_in, plan_over, typed_plan}
use Rattle.au_cli.specs.PlanCauses.{HasNoPlan, PlanCause, PlanFaultCause, PlanGives, PlanLimit, PlanRefused}
use Rattle.au_cli.specs.Requests.{IsRefusal, Refusal}
use Rattle.au_cli.specs.Requests.Refusal.{exactly}
use Rattle.au_cli.specs.Run.{CanRun, refused_number}
use Rattle.au_cli.proofs.FileTables.{within}
use Rattle.au_cli.proofs.PlanLines.{line_behind, plan_line}
use Rattle.au_cli.proofs.ToldFiles.{told_plan}
use Rattle.au_cli.proofs.Refusals.{err_comes, few_first, many_first, not_both, not_few, ok_comes, too_many}

-- ---- the first refusal

-- what told files give
abbrev pub plan_told : Text → List (Text × Text) → List File → Result PlanGiven Outcome
plan_told path words files = plan_given (bytes_at files path) (found_in files words)

-- an outcome is want of memory, that there are too many words, what told files refuse, or that a number leaves its range
pub data Decided (path : Text) (words : List (Text × Text)) (files : List File) (o : Outcome) : Type 0 where
  memory : o ≡ outcome.NoMemory → Decided path words files o
  many : (n : ℕ) → o ≡ outcome.Limit (limit.Files n) → n ≡ length words → greatest_files < length words → Decided path words files o
  refused : length words ≤ greatest_files → plan_told path words files ≡ Err o → Decided path words files o
  left : length words ≤ greatest_files → (g : PlanGiven) → plan_told path words files ≡ Ok g → plain_fits g.0 g.1 ≡ false → Decided path words files o

refused_decides : (path : Text) (words : List (Text × Text)) (files : List File) (o : Outcome) → PlanRefused (Some files) path words o → Decided path words files o
refused_decides path words files o h = Decided.refused h.0 (told_plan files path words (λ plan found. plan_given plan found ≡ Err o) h.1)

limit_decides : (path : Text) (words : List (Text × Text)) (files : List File) (fault : LimitFault) → PlanLimit (Some files) path words fault → Decided path words files (outcome.Limit fault)
limit_decides path words files (limit.Files n) h = Decided.many n refl h.0 h.1
limit_decides path words files fault h = refused_decides path words files (outcome.Limit fault) h.1

fault_decides : (path : Text) (words : List (Text × Text)) (files : List File) (fault : PlanFault) → PlanFaultCause (Some files) path words fault → Decided path words files (outcome.Plan fault)
fault_decides path words files no_plan.NoMemory h = elim h [ ]
fault_decides path words files no_plan.Text h =
    Decided.refused h.0 (told_plan files path words (λ plan found. (plan_given plan found ≡ Err (outcome.Plan no_plan.Text)) × HasNoPlan plan) h.1).0
fault_decides path words files fault h = refused_decides path words files (outcome.Plan fault) h

pub given_told : (P : List Named → PlanTree → Type 0) (path : Text) (words : List (Text × Text)) (files : List File) → PlanGives (Some files) path words P
    → (g : PlanGiven) × (plan_told path words files ≡ Ok g) × P g.0 g.1
given_told P path words files h = told_plan files path words (λ plan found. (g : PlanGiven) × (plan_given plan found ≡ Ok g) × P g.0 g.1) h

pub plan_decides : (path : Text) (words : List (Text × Text)) (files : List File) (f fn a an : ℕ) (o : Outcome) → PlanCause path words (Some files) f fn a an o → ¬ Rose f fn → Decided path words files o
plan_decides path words files f fn a an outcome.NoMemory h calm = Decided.memory refl
plan_decides path words files f fn a an (outcome.ReadFault i) h calm = absurd (calm h.0)
plan_decides path words files f fn a an (outcome.NoFile i) h calm = refused_decides path words files (outcome.NoFile i) h.1
plan_decides path words files f fn a an (outcome.Table i fault) h calm = refused_decides path words files (outcome.Table i fault) h.1
plan_decides path words files f fn a an (outcome.Limit fault) h calm = limit_decides path words files fault h
plan_decides path words files f fn a an (outcome.Plan fault) h calm = fault_decides path words files fault h
plan_decides path words files f fn a an outcome.Overflow h calm =
    let is = given_told (λ ts p. plain_fits ts p ≡ false) path words files h.1 in Decided.left h.0 is.0 is.1 is.2
plan_decides path words files f fn a an _ h calm = elim h [ ]

abbrev first : Text → List (Text × Text) → List File → Option Refusal
first path words files = option_or (refused_number words) (option_map exactly (result_err (plan_told path words files)))

pub given_comes : (path : Text) (words : List (Text × Text)) (files : List File) (refusal : Refusal) (o : Outcome) (g : PlanGiven) → length words ≤ greatest_files → plan_told path words files ≡ Ok g
    → first path words files ≡ Some refusal → IsRefusal refusal o ⊎ (o ≡ outcome.NoMemory)
given_comes path words files refusal o g few is k =
    inl (ok_comes (plan_told path words files) g refusal o is (few_first words (option_map exactly (result_err (plan_told path words files))) refusal few k))

pub decided_comes : (path : Text) (words : List (Text × Text)) (files : List File) (refusal : Refusal) (o : Outcome) → Decided path words files o → first path words files ≡ Some refusal
    → IsRefusal refusal o ⊎ (o ≡ outcome.NoMemory)
decided_comes path words files refusal o (Decided.memory e) k = inr e
decided_comes path words files refusal o (Decided.many n e is over) k =
    inl (subst (IsRefusal refusal) (sym e) (too_many words n refusal is over (many_first words (option_map exactly (result_err (plan_told path words files))) refusal over k)))
decided_comes path words files refusal o (Decided.refused few e) k =
    inl (err_comes (plan_told path words files) o refusal e (few_first words (option_map exactly (result_err (plan_told path words files))) refusal few k))
decided_comes path words files refusal o (Decided.left few g is out) k = given_comes path words files refusal o g few is k

-- ---- whatever the files hold

limit_early : (told : Option (List File)) (path : Text) (words : List (Text × Text)) (fault : LimitFault) (refusal : Refusal) → PlanLimit told path words fault → refused_number words ≡ Some refusal
    → IsRefusal refusal (outcome.Limit fault)
limit_early told path words (limit.Files n) refusal h k = too_many words n refusal h.0 h.1 k
limit_early told path words fault refusal h k = not_few words refusal (outcome.Limit fault) h.1.0 k

fault_early : (told : Option (List File)) (path : Text) (words : List (Text × Text)) (fault : PlanFault) (refusal : Refusal) → PlanFaultCause told path words fault → refused_number words ≡ Some refusal
    → IsRefusal refusal (outcome.Plan fault)
fault_early told path words no_plan.NoMemory refusal h k = elim h [ ]
fault_early told path words no_plan.Text refusal h k = not_few words refusal (outcome.Plan no_plan.Text) h.0 k
fault_early told path words fault refusal h k = not_few words refusal (outcome.Plan fault) h.0 k

pub plan_early : (path : Text) (words : List (Text × Text)) (told : Option (List File)) (f fn a an : ℕ) (refusal : Refusal) (o : Outcome) → PlanCause path words told f fn a an o → refused_number words ≡ Some refusal
    → IsRefusal refusal o ⊎ (o ≡ outcome.NoMemory)
plan_early path words told f fn a an refusal outcome.NoMemory h k = inr refl
plan_early path words told f fn a an refusal (outcome.ReadFault i) h k = inl (not_few words refusal (outcome.ReadFault i) h.1 k)
plan_early path words told f fn a an refusal (outcome.NoFile i) h k = inl (not_few words refusal (outcome.NoFile i) h.1.0 k)
plan_early path words told f fn a an refusal (outcome.Table i fault) h k = inl (not_few words refusal (outcome.Table i fault) h.1.0 k)
plan_early path words told f fn a an refusal (outcome.Limit fault) h k = inl (limit_early told path words fault refusal h k)
plan_early path words told f fn a an refusal (outcome.Plan fault) h k = inl (fault_early told path words fault refusal h k)
plan_early path words told f fn a an refusal outcome.Overflow h k = inl (not_few words refusal outcome.Overflow h.0 k)
plan_early path words told f fn a an refusal _ h k = elim h [ ]

-- ---- completeness

first_plan : (path : Text) (words : List (Text × Text)) (files : List File) (can : CanRun path words files) → file_plan (bytes_at files path) ≡ Ok can.plan
first_plan path words files can =
    let bytes = can.line ++ 10 ∷ [] in
    ap file_plan can.file ∙ ap plan_in (within 0 0 bytes can.size (omega (arith, can.size))) ∙ ap line_plan (line_behind can.line can.utf8) ∙ plan_line can.line can.plan can.flat can.text

pub run_given : (path : Text) (words : List (Text × Text)) (files : List File) (can : CanRun path words files) → plan_told path words files ≡ Ok (can.tables, can.plan)
run_given path words files can =
    ap (and_tables (size_of (bytes_at files path)) (found_in files words)) (first_plan path words files can)
    ∙ ap (λ o. plan_over can.plan (tables_from purpose.Plan 1 (size_of o) (found_in files words))) can.file
    ∙ ap (plan_over can.plan) can.given ∙ ap (typed_plan can.tables can.plan) can.typed

not_left : (path : Text) (words : List (Text × Text)) (files : List File) (can : CanRun path words files) (g : PlanGiven) → plan_told path words files ≡ Ok g → plain_fits g.0 g.1 ≡ false → ⊥
not_left path words files can g is large =
    let both : Ok g ≡ Ok (can.tables, can.plan) = sym is ∙ run_given path words files can in
    let same : g ≡ (can.tables, can.plan) = cc in
    let out : plain_fits can.tables can.plan ≡ false = subst (λ g. plain_fits g.0 g.1 ≡ false) same large in
    true≢false (sym can.fits ∙ out)

pub run_memory : (path : Text) (words : List (Text × Text)) (files : List File) (o : Outcome) → Decided path words files o → CanRun path words files → o ≡ outcome.NoMemory
run_memory path words files o (Decided.memory e) can = e
run_memory path words files o (Decided.many n e is over) can = let few : length words ≤ greatest_files = can.few in absurd (omega (arith, over, few))
run_memory path words files o (Decided.refused few e) can = absurd (not_both (plan_told path words files) o (can.tables, can.plan) e (run_given path words files can))
run_memory path words files o (Decided.left few g is out) can = absurd (not_left path words files can g is out)
