-- The file that an outcome names is one of the words'.
use Rattle.std.proofs.Common.{◌≡◌, ◌<◌, ◌+◌, ◌⊎◌, inl, inr, arith, suc, zero, ℕ, Bool, true, false, cond, List, [], ◌∷◌, length, nat_le, nat_lt, Option, Some, None, IfSome, Result, Ok, Err, refl, sym, ◌∙◌, ap, subst}
use Rattle.std.specs.List.{AllZip}
use Rattle.std.proofs.lemmas.Bool.{true≢false}
use Rattle.std.proofs.lemmas.Option.{IfSome_then}
use Rattle.std.proofs.lemmas.Slice.Zip.{AllZip-long}
use Rattle.au_blocks.specs.declared.faults.TableFault.{TableFault}
use Rattle.au_blocks.specs.Read.{table_of}
use Rattle.au_blocks.specs.Tables.{BlockTable}
use Rattle.au_io.specs.Files.{File}
use Rattle.au_parse.specs.Tree.{QueryTree}
use Rattle.au_plain.specs.Plans.{PlanTree}
use Rattle.au_sqltext.specs.Brackets.{is_deep}
use Rattle.au_sqltext.specs.declared.fault.PlanFault.TheVariants as no_plan
use Rattle.au_typing.specs.declared.fault.TypingFault.{TypingFault}
use Rattle.au_typing.specs.declared.fault.TypingFault.TheVariants as typing
use Rattle.au_value.specs.declared.kinds.Kind.{Kind}
use Rattle.au_engine.specs.declared.faults.LimitFault.{LimitFault}
use Rattle.au_engine.specs.declared.faults.LimitFault.TheVariants as limit
use Rattle.au_engine.specs.Answers.{Named, statement_defects, typing_fault}
use Rattle.au_engine.specs.Exchange.{greatest_plain_size, plain_kinds, plain_size}
use Rattle.au_words.specs.Words.{Asked, Request}
use Rattle.au_words.specs.Words as words
use Rattle.au_words.specs.declared.fault.UsageFault.{UsageFault}
use Rattle.au_value.specs.Texts.{Text}
use Rattle.au_cli.specs.declared.files.Purpose.{Purpose}
use Rattle.au_cli.specs.declared.files.Purpose.TheVariants as purpose
use Rattle.au_cli.specs.declared.outcome.Outcome.{Outcome}
use Rattle.au_cli.specs.declared.outcome.Outcome.TheVariants as outcome
use Rattle.au_cli.specs.Files.{Found, IsFound, and_more, file_table, greatest_columns, greatest_size, greatest_total, passed_limit, size_of, table_in, table_or_defect, table_within, tables_from, tables_of}
use Rattle.au_cli.specs.FileCauses.{FileCause}
use Rattle.au_cli.specs.Plain.{and_tables, file_plan, line_of, line_plan, plan_given, plan_in, plan_of, plan_or_fault, plan_over, typed_plan}
use Rattle.au_cli.specs.PlanCauses.{PlanCause, PlanLimit, PlanReadsUpTo, PlanRefused}
use Rattle.au_cli.specs.Requests.{IsRefusal, Refusal, ended, tables_given, typed_given}
use Rattle.au_cli.specs.Requests.Refusal.{exactly, defects}
use Rattle.au_cli.specs.Causes.{AskedCause, DemoCause, Ends, FaultCounts, IsFirst, RequestCause}
use Rattle.au_cli.specs.Run.{file_count, named_file}
use Rattle.au_cli.proofs.RequestCauses.{given_tables}

-- the file that an outcome may name is this one, or is below a number
abbrev pub NamesAt : ℕ → Outcome → Type 0
NamesAt file o = IfSome (named_file o) (λ i. i ≡ file)

abbrev pub NamesBelow : ℕ → Outcome → Type 0
NamesBelow n o = IfSome (named_file o) (λ i. i < n)

at_below : (file n : ℕ) (o : Outcome) → file < n → NamesAt file o → NamesBelow n o
at_below file n o below h = IfSome_then (named_file o) h (λ i e. omega arith)

below_more : (m n : ℕ) (o : Outcome) → m ≡ n → NamesBelow m o → NamesBelow n o
below_more m n o e h = subst (λ k. NamesBelow k o) e h

same_at : (file : ℕ) (x o : Outcome) → x ≡ o → NamesAt file x → NamesAt file o
same_at file x o e h = subst (NamesAt file) e h

nothing_named : (n : ℕ) (o : Outcome) → named_file o ≡ None → NamesBelow n o
nothing_named n o e = subst (λ m. IfSome m (λ i. i < n)) (sym e) tt

-- ---- a file

within_at : (file : ℕ) (t : BlockTable) (passed : Option LimitFault) (o : Outcome) → IfSome passed (λ fault. NamesAt file (outcome.Limit fault)) → table_within t passed ≡ Err o → NamesAt file o
within_at file t None o h e = cc
within_at file t (Some fault) o h e = let same : outcome.Limit fault ≡ o = cc in same_at file (outcome.Limit fault) o same h

few_at : (file n : ℕ) (many : Bool) → IfSome (cond many (Some (limit.EncodeColumns n)) None) (λ fault. NamesAt file (outcome.Limit fault))
few_at file n true = tt
few_at file n false = tt

small_at : (file : ℕ) (small : Bool) → IfSome (cond small None (Some (limit.PlainRows file))) (λ fault. NamesAt file (outcome.Limit fault))
small_at file true = tt
small_at file false = refl

passed_at : (aim : Purpose) (file : ℕ) (t : BlockTable) → IfSome (passed_limit aim file t) (λ fault. NamesAt file (outcome.Limit fault))
passed_at purpose.Query file t = tt
passed_at purpose.Encode file t = few_at file (length t.columns) (nat_lt greatest_columns (length t.columns))
passed_at purpose.Plan file t = small_at file (nat_le (plain_size t) greatest_plain_size)

defect_at : (aim : Purpose) (file : ℕ) (found : Result BlockTable TableFault) (o : Outcome) → table_or_defect aim file found ≡ Err o → NamesAt file o
defect_at aim file (Err fault) o e = let same : outcome.Table file fault ≡ o = cc in same_at file (outcome.Table file fault) o same refl
defect_at aim file (Ok t) o e = within_at file t (passed_limit aim file t) o (passed_at aim file t) e

sized_at : (aim : Purpose) (file : ℕ) (large much : Bool) (bytes : List ℕ) (o : Outcome)
    → table_in aim file (cond large (Err (outcome.Limit (limit.FileSize file))) (cond much (Err (outcome.Limit (limit.AllFiles file))) (Ok bytes))) ≡ Err o → NamesAt file o
sized_at aim file true much bytes o e = let same : outcome.Limit (limit.FileSize file) ≡ o = cc in same_at file (outcome.Limit (limit.FileSize file)) o same refl
sized_at aim file false true bytes o e = let same : outcome.Limit (limit.AllFiles file) ≡ o = cc in same_at file (outcome.Limit (limit.AllFiles file)) o same refl
sized_at aim file false false bytes o e = defect_at aim file (table_of bytes) o e

file_at : (aim : Purpose) (file before : ℕ) (found : Option (List ℕ)) (o : Outcome) → file_table aim file before found ≡ Err o → NamesAt file o
file_at aim file before None o e = let same : outcome.NoFile file ≡ o = cc in same_at file (outcome.NoFile file) o same refl
file_at aim file before (Some bytes) o e = sized_at aim file (nat_lt greatest_size (length bytes)) (nat_lt greatest_total (before + length bytes)) bytes o e

-- ---- the files of words

more_refused : (name : Text) (first : Result BlockTable Outcome) (others : Result (List Named) Outcome) (o : Outcome) → and_more name first others ≡ Err o → (first ≡ Err o) ⊎ (others ≡ Err o)
more_refused name (Err x) others o e = inl (let same : x ≡ o = cc in ap Err same)
more_refused name (Ok t) (Err x) o e = inr (let same : x ≡ o = cc in ap Err same)
more_refused name (Ok t) (Ok ts) o e = cc

files_below : (aim : Purpose) (file before : ℕ) (found : List Found) (o : Outcome) → tables_from aim file before found ≡ Err o → NamesBelow (file + length found) o
files_below aim file before [] o e = cc
files_below aim file before (one ∷ found) o e =
    elim (more_refused one.0 (file_table aim file before one.1) (tables_from aim (file + 1) (before + size_of one.1) found) o e) [
      | inl first ↦ at_below file (file + length (one ∷ found)) o (omega arith) (file_at aim file before one.1 o first)
      | inr others ↦ below_more (file + 1 + length found) (file + length (one ∷ found)) o (omega arith) (files_below aim (file + 1) (before + size_of one.1) found o others)
    ]

words_below : (told : Option (List File)) (words : List (Text × Text)) (found : List Found) → AllZip (IsFound told) words found → (n : ℕ) (o : Outcome) → NamesBelow (n + length found) o → NamesBelow (n + length words) o
words_below told words found are n o h = below_more (n + length found) (n + length words) o (ap (λ k. n + k) (AllZip-long (IsFound told) words found are)) h

-- ---- a request

defect_named : (d : TypingFault) → named_file (ended (typing_fault d)) ≡ None
defect_named (typing.UnknownTable at) = refl
defect_named (typing.UnknownColumn at) = refl
defect_named (typing.Ambiguous at) = refl
defect_named (typing.SameAlias at) = refl
defect_named (typing.KindMismatch at) = refl
defect_named (typing.NotGrouped at) = refl
defect_named (typing.MisplacedAggregate at) = refl
defect_named (typing.MinMaxNeedsGroup at) = refl
defect_named (typing.CountOverJoin at) = refl
defect_named (typing.WidthMismatch at) = refl
defect_named typing.NoMemory = refl

typed_below : (n : ℕ) (ts : List Named) (s : QueryTree) (found : List TypingFault) (refusal : Refusal) (o : Outcome) → typed_given ts s found ≡ Err refusal → IsRefusal refusal o → NamesBelow n o
typed_below n ts s [] refusal o e h = cc
typed_below n ts s (d ∷ ds) refusal o e h =
    let same : defects (d ∷ ds) ≡ refusal = cc in
    let is = subst (λ x. IsRefusal x o) (sym same) h in
    nothing_named n o (ap named_file (is.2 ∙ ap ended is.1.2) ∙ defect_named is.1.0)

tables_below : (n : ℕ) (s : QueryTree) (tables : Result (List Named) Outcome) (refusal : Refusal) (o : Outcome) → ((x : Outcome) → tables ≡ Err x → NamesBelow n x)
    → tables_given s tables ≡ Err refusal → IsRefusal refusal o → NamesBelow n o
tables_below n s (Err x) refusal o below e h =
    let same : exactly x ≡ refusal = cc in
    let is : o ≡ x = subst (λ y. IsRefusal y o) (sym same) h in
    subst (NamesBelow n) (sym is) (below x refl)
tables_below n s (Ok ts) refusal o below e h = typed_below n ts s (statement_defects ts s) refusal o e h

first_below : (told : Option (List File)) (r : Request) (o : Outcome) → IsFirst told r o → NamesBelow (length r.tables) o
first_below told r o h =
    let read = h.0 in
    let found = h.1.0 in
    let below : NamesBelow (0 + length found) o =
    tables_below (0 + length found) read.statement (tables_of found) h.1.2.0 o (λ x e. files_below purpose.Query 0 0 found x e) (sym (given_tables r found read) ∙ h.1.2.1) h.1.2.2 in
    below_more (0 + length r.tables) (length r.tables) o (omega arith) (words_below told r.tables found h.1.1 0 o below)

request_limit : (r : Request) (told : Option (List File)) (f fn a an : ℕ) (fault : LimitFault) → RequestCause r told f fn a an (outcome.Limit fault) → NamesBelow (length r.tables) (outcome.Limit fault)
request_limit r told f fn a an (limit.FileSize i) h = first_below told r (outcome.Limit (limit.FileSize i)) h.1
request_limit r told f fn a an (limit.AllFiles i) h = first_below told r (outcome.Limit (limit.AllFiles i)) h.1
request_limit r told f fn a an (limit.PlainRows i) h = absurd (true≢false (sym h.0))
request_limit r told f fn a an _ h = tt

request_below : (r : Request) (told : Option (List File)) (f fn a an : ℕ) (o : Outcome) → RequestCause r told f fn a an o → NamesBelow (length r.tables) o
request_below r told f fn a an (outcome.Limit fault) h = request_limit r told f fn a an fault h
request_below r told f fn a an (outcome.NoFile i) h = first_below told r (outcome.NoFile i) h.1
request_below r told f fn a an (outcome.ReadFault i) h = h.2.below
request_below r told f fn a an (outcome.Table i fault) h = first_below told r (outcome.Table i fault) h.1
request_below r told f fn a an _ h = tt

-- ---- an encoding

file_below : (told : Option (List File)) (aim : Purpose) (path : Text) (f fn a an : ℕ) (o : Outcome) → FileCause told aim path 0 0 f fn a an o → NamesBelow 1 o
file_below told aim path f fn a an outcome.NoMemory h = tt
file_below told aim path f fn a an (outcome.ReadFault i) h = omega (arith, h.0)
file_below told aim path f fn a an (outcome.NoFile i) h = omega (arith, h.0)
file_below told aim path f fn a an (outcome.Table i fault) h = at_below 0 1 (outcome.Table i fault) (omega arith) (file_at aim 0 0 h.1.0 (outcome.Table i fault) h.1.2)
file_below told aim path f fn a an (outcome.Limit fault) h = at_below 0 1 (outcome.Limit fault) (omega arith) (file_at aim 0 0 h.1.0 (outcome.Limit fault) h.1.2)
file_below told aim path f fn a an _ h = elim h [ ]

-- ---- a plan

found_at : (found : Option PlanTree) (o : Outcome) → plan_or_fault found ≡ Err o → NamesAt 0 o
found_at None o e = let same : outcome.Plan no_plan.Text ≡ o = cc in same_at 0 (outcome.Plan no_plan.Text) o same tt
found_at (Some p) o e = cc

deep_at : (deep : Bool) (text : Text) (o : Outcome) → cond deep (Err (outcome.Plan no_plan.Deep)) (plan_or_fault (plan_of text)) ≡ Err o → NamesAt 0 o
deep_at true text o e = let same : outcome.Plan no_plan.Deep ≡ o = cc in same_at 0 (outcome.Plan no_plan.Deep) o same tt
deep_at false text o e = found_at (plan_of text) o e

line_at : (line : Option Text) (o : Outcome) → line_plan line ≡ Err o → NamesAt 0 o
line_at None o e = let same : outcome.Plan no_plan.Text ≡ o = cc in same_at 0 (outcome.Plan no_plan.Text) o same tt
line_at (Some text) o e = deep_at (is_deep text) text o e

plan_sized_at : (large much : Bool) (bytes : List ℕ) (o : Outcome)
    → plan_in (cond large (Err (outcome.Limit (limit.FileSize 0))) (cond much (Err (outcome.Limit (limit.AllFiles 0))) (Ok bytes))) ≡ Err o → NamesAt 0 o
plan_sized_at true much bytes o e = let same : outcome.Limit (limit.FileSize 0) ≡ o = cc in same_at 0 (outcome.Limit (limit.FileSize 0)) o same refl
plan_sized_at false true bytes o e = let same : outcome.Limit (limit.AllFiles 0) ≡ o = cc in same_at 0 (outcome.Limit (limit.AllFiles 0)) o same refl
plan_sized_at false false bytes o e = line_at (line_of bytes) o e

plan_at : (plan : Option (List ℕ)) (o : Outcome) → file_plan plan ≡ Err o → NamesAt 0 o
plan_at None o e = let same : outcome.NoFile 0 ≡ o = cc in same_at 0 (outcome.NoFile 0) o same refl
plan_at (Some bytes) o e = plan_sized_at (nat_lt greatest_size (length bytes)) (nat_lt greatest_total (0 + length bytes)) bytes o e

typed_plan_below : (n : ℕ) (ts : List Named) (p : PlanTree) (kinds : Option (List Kind)) (o : Outcome) → typed_plan ts p kinds ≡ Err o → NamesBelow n o
typed_plan_below n ts p None o e = let same : outcome.Plan no_plan.Untyped ≡ o = cc in nothing_named n o (sym (ap named_file same))
typed_plan_below n ts p (Some kinds) o e = cc

over_below : (n : ℕ) (p : PlanTree) (tables : Result (List Named) Outcome) (o : Outcome) → ((x : Outcome) → tables ≡ Err x → NamesBelow n x) → plan_over p tables ≡ Err o → NamesBelow n o
over_below n p (Err x) o below e = let same : x ≡ o = cc in subst (NamesBelow n) same (below x refl)
over_below n p (Ok ts) o below e = typed_plan_below n ts p (plain_kinds ts p) o e

and_tables_below : (before : ℕ) (found : List Found) (plan : Result PlanTree Outcome) (o : Outcome) → ((x : Outcome) → plan ≡ Err x → NamesAt 0 x) → and_tables before found plan ≡ Err o → NamesBelow (1 + length found) o
and_tables_below before found (Err x) o at e = let same : x ≡ o = cc in at_below 0 (1 + length found) o (omega arith) (same_at 0 x o same (at x refl))
and_tables_below before found (Ok p) o at e = over_below (1 + length found) p (tables_from purpose.Plan 1 before found) o (λ x k. files_below purpose.Plan 1 before found x k) e

plan_refused_below : (told : Option (List File)) (path : Text) (words : List (Text × Text)) (o : Outcome) → PlanRefused told path words o → NamesBelow (length words + 1) o
plan_refused_below told path words o h =
    let plan = h.1.0 in
    let found = h.1.2.0 in
    let below : NamesBelow (1 + length found) o = and_tables_below (size_of plan) found (file_plan plan) o (λ x e. plan_at plan x e) h.1.2.2 in
    below_more (1 + length words) (length words + 1) o (omega arith) (words_below told words found h.1.2.1 1 o below)

plan_limit : (told : Option (List File)) (path : Text) (words : List (Text × Text)) (fault : LimitFault) → PlanLimit told path words fault → NamesBelow (length words + 1) (outcome.Limit fault)
plan_limit told path words (limit.Files n) h = tt
plan_limit told path words fault h = plan_refused_below told path words (outcome.Limit fault) h.1

plan_reads : (told : Option (List File)) (path : Text) (words : List (Text × Text)) (i : ℕ) → PlanReadsUpTo told path words i → i < length words + 1
plan_reads told path words zero h = omega arith
plan_reads told path words (suc place) h = let below : place < length words = h.2.2.below in omega (arith, below)

plan_below : (path : Text) (words : List (Text × Text)) (told : Option (List File)) (f fn a an : ℕ) (o : Outcome) → PlanCause path words told f fn a an o → NamesBelow (length words + 1) o
plan_below path words told f fn a an (outcome.ReadFault i) h = plan_reads told path words i h.2
plan_below path words told f fn a an (outcome.NoFile i) h = plan_refused_below told path words (outcome.NoFile i) h.1
plan_below path words told f fn a an (outcome.Table i fault) h = plan_refused_below told path words (outcome.Table i fault) h.1
plan_below path words told f fn a an (outcome.Limit fault) h = plan_limit told path words fault h
plan_below path words told f fn a an _ h = tt

-- ---- the words

usage_below : (n : ℕ) (fault : UsageFault) (o : Outcome) → (o ≡ outcome.Usage fault) ⊎ (o ≡ outcome.NoMemory) → NamesBelow n o
usage_below n fault o h = elim h [ inl e ↦ nothing_named n o (ap named_file e) | inr e ↦ nothing_named n o (ap named_file e) ]

demo_below : (n start blocks : ℕ) (o : Outcome) → DemoCause start blocks o → NamesBelow n o
demo_below n start blocks outcome.NoMemory h = tt
demo_below n start blocks outcome.Overflow h = tt
demo_below n start blocks _ h = elim h [ ]

cause_below : (asked : Result Asked UsageFault) (told : Option (List File)) (f fn a an : ℕ) (o : Outcome) → AskedCause asked told f fn a an o → NamesBelow (file_count asked) o
cause_below (Err fault) told f fn a an o h = usage_below 0 fault o h
cause_below (Ok (words.query r)) told f fn a an o h = request_below r told f fn a an o h
cause_below (Ok (words.demo start blocks workers)) told f fn a an o h = demo_below 0 start blocks o h
cause_below (Ok (words.encode word)) told f fn a an o h = file_below told purpose.Encode word.1 f fn a an o h
cause_below (Ok (words.plain path tables)) told f fn a an o h = plan_below path tables told f fn a an o h

pub ends_below : (asked : Result Asked UsageFault) (told : Option (List File)) (n : FaultCounts) (old new : Option (List ℕ)) (o : Outcome)
    → Ends asked told n old new o → NamesBelow (file_count asked) o
ends_below asked told n old new outcome.Done h = tt
ends_below asked told n old new outcome.WriteFault h = tt
ends_below asked told n old new o h = cause_below asked told n.faults n.faults_now n.absences n.absences_now o h.0
