-- What is found gives to a request that is read, and why it is not answered.
use Rattle.std.proofs.Common.{◌≡◌, ◌<◌, arith, ℕ, Bool, true, false, List, [], ◌∷◌, Option, Ok, Err, refl, ◌∙◌, ap, subst}
use Rattle.au_io.specs.Files.{File}
use Rattle.au_parse.specs.Tree.{QueryTree}
use Rattle.au_typing.specs.declared.fault.TypingFault.{TypingFault}
use Rattle.au_typing.specs.declared.fault.TypingFault.TheVariants as typing
use Rattle.au_engine.specs.declared.faults.EngineFault.{EngineFault}
use Rattle.au_engine.specs.declared.faults.EngineFault.TheVariants as engine
use Rattle.au_engine.specs.declared.faults.LimitFault.{LimitFault}
use Rattle.au_engine.specs.declared.faults.LimitFault.TheVariants as limit
use Rattle.au_engine.specs.Answers.{AnswerCause, IsDefect, Named, statement_defects, typing_fault}
use Rattle.au_words.specs.Words.{Request}
use Rattle.au_cli.specs.declared.files.Purpose.TheVariants as purpose
use Rattle.au_cli.specs.declared.outcome.Outcome.{Outcome}
use Rattle.au_cli.specs.declared.outcome.Outcome.TheVariants as outcome
use Rattle.au_cli.specs.Files.{FilesFound, Found, tables_of}
use Rattle.au_cli.specs.Requests.{ended, given_of, numbers_fit, tables_given, typed_given, unless_refused, statement_given}
use Rattle.au_cli.specs.Requests.Refusal.{exactly, defects}
use Rattle.au_cli.specs.FileCauses.{FilesCause, FilesRefused, ReadsUpTo, is_file_limit}
use Rattle.au_cli.specs.Causes.{Gives, IsFirst, IsRead, RequestCause, StageCause, is_query_limit, is_text_fault, is_text_limit}

-- what a request that is read is given is what its tables give
pub given_tables : (r : Request) (found : List Found) (read : IsRead r) → given_of r found ≡ tables_given read.statement (tables_of found)
given_tables r found read = ap (unless_refused r found) read.allowed ∙ ap (statement_given r found) read.is

files_first : (told : Option (List File)) (r : Request) (o : Outcome) → IsRead r → FilesRefused told purpose.Query 0 0 r.tables o → IsFirst told r o
files_first told r o read h = (read, (h.0, h.1, (exactly o, given_tables r h.0 read ∙ ap (tables_given read.statement) h.2, refl)))

limit_first : (told : Option (List File)) (r : Request) (fault : LimitFault) → IsRead r → is_file_limit purpose.Query fault ≡ true → FilesRefused told purpose.Query 0 0 r.tables (outcome.Limit fault)
    → (is_query_limit fault ≡ true) × StageCause (is_text_limit fault) told r (outcome.Limit fault)
limit_first told r (limit.FileSize i) read e h = (refl, files_first told r (outcome.Limit (limit.FileSize i)) read h)
limit_first told r (limit.AllFiles i) read e h = (refl, files_first told r (outcome.Limit (limit.AllFiles i)) read h)
limit_first told r _ read e h = cc

-- why the files give no tables is why the request is not answered
pub files_request : (told : Option (List File)) (r : Request) (f fn a an : ℕ) (o : Outcome) → IsRead r → FilesCause told purpose.Query 0 0 r.tables f fn a an o
    → RequestCause r told f fn a an o
files_request told r f fn a an outcome.NoMemory read h = tt
files_request told r f fn a an (outcome.ReadFault i) read h =
    let same : h.1.0 ≡ i = omega (arith, h.1.1) in (h.0, read, subst (ReadsUpTo told purpose.Query 0 0 r.tables) same h.1.2)
files_request told r f fn a an (outcome.NoFile i) read h = (h.0, files_first told r (outcome.NoFile i) read h.1)
files_request told r f fn a an (outcome.Table i fault) read h = (h.0, files_first told r (outcome.Table i fault) read h.1)
files_request told r f fn a an (outcome.Limit fault) read h = limit_first told r fault read h.0 h.1
files_request told r f fn a an _ read h = elim h [ ]

-- the tables that are given to a request, and its statement
pub typed_tables : (r : Request) (found : List Found) (read : IsRead r) (ts : List Named) → tables_of found ≡ Ok ts
    → given_of r found ≡ typed_given ts read.statement (statement_defects ts read.statement)
typed_tables r found read ts e = given_tables r found read ∙ ap (tables_given read.statement) e

pub gives : (P : List Named → QueryTree → Type 0) (told : Option (List File)) (r : Request) (read : IsRead r) (ts : List Named) → FilesFound told r.tables (λ found. tables_of found ≡ Ok ts)
    → statement_defects ts read.statement ≡ [] → P ts read.statement → Gives told r P
gives P told r read ts h typed is = (h.0, h.1, (ts, read.statement, typed_tables r h.0 read ts h.2 ∙ ap (typed_given ts read.statement) typed, is))

-- a defect of the statement is no fault of its text
abbrev is_text : EngineFault → Bool
is_text (engine.Query fault) = is_text_fault fault
is_text _ = false

defect_is_late : (d : TypingFault) → is_text (typing_fault d) ≡ false
defect_is_late (typing.UnknownTable at) = refl
defect_is_late (typing.UnknownColumn at) = refl
defect_is_late (typing.Ambiguous at) = refl
defect_is_late (typing.SameAlias at) = refl
defect_is_late (typing.KindMismatch at) = refl
defect_is_late (typing.NotGrouped at) = refl
defect_is_late (typing.MisplacedAggregate at) = refl
defect_is_late (typing.MinMaxNeedsGroup at) = refl
defect_is_late (typing.CountOverJoin at) = refl
defect_is_late (typing.WidthMismatch at) = refl
defect_is_late typing.NoMemory = refl

some_defect : (ts : List Named) (s : QueryTree) (found : List TypingFault) (fault : EngineFault) → IsDefect found fault → typed_given ts s found ≡ Err (defects found)
some_defect ts s [] fault h = let within : h.1.0 < 0 = h.1.1 in absurd (omega arith)
some_defect ts s (d ∷ ds) fault h = refl

defect_first : (told : Option (List File)) (r : Request) (read : IsRead r) (ts : List Named) (fault : EngineFault) → FilesFound told r.tables (λ found. tables_of found ≡ Ok ts)
    → IsDefect (statement_defects ts read.statement) fault → IsFirst told r (ended fault)
defect_first told r read ts fault h is = (
  read,
  (
    h.0,
    h.1,
    (
      defects (statement_defects ts read.statement),
      typed_tables r h.0 read ts h.2 ∙ some_defect ts read.statement (statement_defects ts read.statement) fault is,
      (fault, is, refl),
    ),
  ),
)

later : (stage : Bool) (told : Option (List File)) (r : Request) (o : Outcome) → stage ≡ false → IsFirst told r o → StageCause stage told r o
later false told r o e h = h
later true told r o e h = cc

-- why the answer over the tables is not given is why the request is not answered
pub answer_cause : (told : Option (List File)) (r : Request) (f fn a an : ℕ) (read : IsRead r) (ts : List Named) (fault : EngineFault) → FilesFound told r.tables (λ found. tables_of found ≡ Ok ts)
    → AnswerCause (statement_defects ts read.statement) (numbers_fit r ts read.statement) fault → RequestCause r told f fn a an (ended fault)
answer_cause told r f fn a an read ts engine.NoMemory e h = tt
answer_cause told r f fn a an read ts (engine.Query fault) e h =
    later (is_text_fault fault) told r (outcome.Query fault) (ap is_text h.2 ∙ defect_is_late h.0) (defect_first told r read ts (engine.Query fault) e h)
answer_cause told r f fn a an read ts engine.Overflow e h = (read, gives (λ ts s. numbers_fit r ts s ≡ false) told r read ts e h.0 h.1)
answer_cause told r f fn a an read ts (engine.Limit fault) e h = elim h [ ]
