-- What a run ends in: which refusal comes over told files, and what becomes of the text that is put.
use Rattle.std.proofs.Common.{◌≡◌, ◌≢◌, ◌⊎◌, inl, inr, ℕ, Bool, true, false, List, [], ◌∷◌, Option, Some, None, Result, Ok, Err, refl, sym, ◌∙◌, ap, subst}
use Rattle.std.specs.Prelude.{codes}
use Rattle.std.proofs.lemmas.Bool.{true≢false}
use Rattle.std.proofs.lemmas.List.{append-nil}
use Rattle.std.specs.Io.KnownBytes.{Appends}
use Rattle.std.specs.Result.{result_err}
use Rattle.au_io.specs.Counts.{Rose}
use Rattle.au_io.specs.Files.{File, bytes_at}
use Rattle.au_parse.specs.Tree.{QueryTree}
use Rattle.au_engine.specs.Answers.{Named, answer_fits}
use Rattle.au_engine.specs.Exchange.{encoded_text, plain_text}
use Rattle.au_engine.specs.declared.faults.QueryFault.TheVariants as query
use Rattle.au_words.specs.Words.{Asked, Request}
use Rattle.au_words.specs.Words as words
use Rattle.au_words.specs.declared.fault.UsageFault.{UsageFault}
use Rattle.au_cli.specs.declared.files.Purpose.TheVariants as purpose
use Rattle.au_cli.specs.declared.outcome.Outcome.{Outcome}
use Rattle.au_cli.specs.declared.outcome.Outcome.TheVariants as outcome
use Rattle.au_cli.specs.Demo.{Demonstrates}
use Rattle.au_cli.specs.Files.{file_table, found_in}
use Rattle.au_cli.specs.Requests.{Given, IsAnswer, IsRefusal, Refusal, given_of, numbers_fit, refused_request, unless_refused}
use Rattle.au_cli.specs.Requests.Refusal.{exactly}
use Rattle.au_cli.specs.Causes.{AskedCause, AskedNotPositive, DemoCause, Ends, FaultCounts, Gives, IsAskedText, IsFirst, IsRead, IsRefusedBefore, RequestCause, StageCause, TextPut, is_text_fault, is_text_limit}
use Rattle.au_cli.proofs.Encodings.{encoded_comes, file_comes, file_decides, file_memory}
use Rattle.au_cli.proofs.PlanRuns.{decided_comes as decided_plan, given_comes as given_plan, given_told as given_plan_told, plan_decides, plan_early, run_memory}
use Rattle.au_cli.proofs.Refusals.{not_few}
use Rattle.au_cli.proofs.TextRefusals.{refused_not_positive}
use Rattle.au_cli.proofs.ToldFiles.{told_files}
use Rattle.au_cli.specs.Run.{CanAnswer, Yields, first_refusal, refused_before}

-- ---- putting

pub memory_cause : (asked : Result Asked UsageFault) (told : Option (List File)) (f fn a an : ℕ) → AskedCause asked told f fn a an outcome.NoMemory
memory_cause (Err fault) told f fn a an = inr refl
memory_cause (Ok (words.query r)) told f fn a an = tt
memory_cause (Ok (words.demo start blocks workers)) told f fn a an = tt
memory_cause (Ok (words.encode word)) told f fn a an = tt
memory_cause (Ok (words.plain path tables)) told f fn a an = tt

-- what a text that is put ends in
pub put_ends : (asked : Result Asked UsageFault) (told : Option (List File)) (n : FaultCounts) (old new : Option (List ℕ)) (text : List ℕ) (o : Outcome)
    → IsAskedText asked told text → TextPut n.puts n.puts_now old new text o → Ends asked told n old new o
put_ends asked told n old new text outcome.Done is put = (text, is, put)
put_ends asked told n old new text outcome.WriteFault is put = (put.0, (text, is, put.1))
put_ends asked told n old new text outcome.NoMemory is put = (memory_cause asked told n.faults n.faults_now n.absences n.absences_now, put)
put_ends asked told n old new text _ is put = elim put [ ]

-- and what is refused ends in its cause
pub refused_ends : (asked : Result Asked UsageFault) (told : Option (List File)) (n : FaultCounts) (old new : Option (List ℕ)) (o : Outcome)
    → AskedCause asked told n.faults n.faults_now n.absences n.absences_now o → Appends old new [] → Ends asked told n old new o
refused_ends (Err fault) told n old new outcome.Done h put = elim h [ inl e ↦ cc | inr e ↦ cc ]
refused_ends (Err fault) told n old new outcome.WriteFault h put = elim h [ inl e ↦ cc | inr e ↦ cc ]
refused_ends (Ok (words.query r)) told n old new outcome.Done h put = elim h [ ]
refused_ends (Ok (words.query r)) told n old new outcome.WriteFault h put = elim h [ ]
refused_ends (Ok (words.demo start blocks workers)) told n old new outcome.Done h put = elim h [ ]
refused_ends (Ok (words.demo start blocks workers)) told n old new outcome.WriteFault h put = elim h [ ]
refused_ends (Ok (words.encode word)) told n old new outcome.Done h put = elim h [ ]
refused_ends (Ok (words.encode word)) told n old new outcome.WriteFault h put = elim h [ ]
refused_ends (Ok (words.plain path tables)) told n old new outcome.Done h put = elim h [ ]
refused_ends (Ok (words.plain path tables)) told n old new outcome.WriteFault h put = elim h [ ]
refused_ends asked told n old new _ h put = (h, put)

-- ---- refusals

-- what told files give to a request
abbrev pub given_told : Request → List File → Result Given Refusal
given_told r files = given_of r (found_in files r.tables)

pub gives_told : (P : List Named → QueryTree → Type 0) (r : Request) (files : List File) → Gives (Some files) r P → (ts : List Named) × (s : QueryTree) × (given_told r files ≡ Ok (ts, s)) × P ts s
gives_told P r files h = told_files files r.tables (λ found. (ts : List Named) × (s : QueryTree) × (given_of r found ≡ Ok (ts, s)) × P ts s) h

-- a request has this outcome: for want of memory, as that of a refusal, or because a number leaves its range
abbrev pub Decided : Request → List File → Outcome → Type 0
Decided r files o =
    (o ≡ outcome.NoMemory)
    ⊎ ((refusal : Refusal) × (given_told r files ≡ Err refusal) × IsRefusal refusal o)
    ⊎ ((o ≡ outcome.Overflow) × Gives (Some files) r (λ ts s. numbers_fit r ts s ≡ false))

before_decides : (r : Request) (files : List File) (o : Outcome) → IsRefusedBefore r o → Decided r files o
before_decides r files o h = inr (inl (h.0, ap (unless_refused r (found_in files r.tables)) h.1, h.2))

first_decides : (r : Request) (files : List File) (o : Outcome) → IsFirst (Some files) r o → Decided r files o
first_decides r files o h = inr (inl (told_files files r.tables (λ found. (refusal : Refusal) × (given_of r found ≡ Err refusal) × IsRefusal refusal o) h.1))

stage_decides : (stage : Bool) (r : Request) (files : List File) (o : Outcome) → StageCause stage (Some files) r o → Decided r files o
stage_decides true r files o h = before_decides r files o h
stage_decides false r files o h = first_decides r files o h

request_decides : (r : Request) (files : List File) (f fn a an : ℕ) (o : Outcome) → RequestCause r (Some files) f fn a an o → ¬ Rose f fn → Decided r files o
request_decides r files f fn a an outcome.NoMemory h calm = inl refl
request_decides r files f fn a an (outcome.Query fault) h calm = stage_decides (is_text_fault fault) r files (outcome.Query fault) h
request_decides r files f fn a an (outcome.Limit fault) h calm = stage_decides (is_text_limit fault) r files (outcome.Limit fault) h.1
request_decides r files f fn a an (outcome.NoFile i) h calm = first_decides r files (outcome.NoFile i) h.1
request_decides r files f fn a an (outcome.ReadFault i) h calm = absurd (calm h.0)
request_decides r files f fn a an (outcome.Table i fault) h calm = first_decides r files (outcome.Table i fault) h.1
request_decides r files f fn a an outcome.Overflow h calm = inr (inr (refl, h.1))
request_decides r files f fn a an outcome.Done h calm = elim h [ ]
request_decides r files f fn a an outcome.WriteFault h calm = elim h [ ]
request_decides r files f fn a an (outcome.Usage fault) h calm = elim h [ ]
request_decides r files f fn a an (outcome.Plan fault) h calm = elim h [ ]

same_comes : (want refusal : Refusal) (o : Outcome) → want ≡ refusal → IsRefusal want o → IsRefusal refusal o ⊎ (o ≡ outcome.NoMemory)
same_comes want refusal o e h = inl (subst (λ x. IsRefusal x o) e h)

-- nothing is refused where all is given
given_comes : (found : Result Given Refusal) (g : Given) (refusal : Refusal) (o : Outcome) → found ≡ Ok g → result_err found ≡ Some refusal → IsRefusal refusal o ⊎ (o ≡ outcome.NoMemory)
given_comes (Err x) g refusal o e k = cc
given_comes (Ok x) g refusal o e k = cc

refused_comes : (found : Result Given Refusal) (want refusal : Refusal) (o : Outcome) → found ≡ Err want → IsRefusal want o → result_err found ≡ Some refusal → IsRefusal refusal o ⊎ (o ≡ outcome.NoMemory)
refused_comes found want refusal o e h k = let same : want ≡ refusal = cc in same_comes want refusal o same h

given_refuses : (P : List Named → QueryTree → Type 0) (r : Request) (files : List File) (refusal : Refusal) (o : Outcome) → Gives (Some files) r P → result_err (given_told r files) ≡ Some refusal
    → IsRefusal refusal o ⊎ (o ≡ outcome.NoMemory)
given_refuses P r files refusal o h k = let is = gives_told P r files h in given_comes (given_told r files) (is.0, is.1) refusal o is.2 k

decided_comes : (r : Request) (files : List File) (refusal : Refusal) (o : Outcome) → Decided r files o → result_err (given_told r files) ≡ Some refusal → IsRefusal refusal o ⊎ (o ≡ outcome.NoMemory)
decided_comes r files refusal o h k = elim h [
  | inl e ↦ inr e
  | inr others ↦ elim others [
    | inl x ↦ refused_comes (given_told r files) x.0 refusal o x.1 x.2 k
    | inr x ↦ given_refuses (λ ts s. numbers_fit r ts s ≡ false) r files refusal o x.1 k
  ]
]

usage_comes : (fault : UsageFault) (refusal : Refusal) (o : Outcome) → (o ≡ outcome.Usage fault) ⊎ (o ≡ outcome.NoMemory) → Some (exactly (outcome.Usage fault)) ≡ Some refusal → IsRefusal refusal o ⊎ (o ≡ outcome.NoMemory)
usage_comes fault refusal o h k = elim h [
  | inl e ↦ (let same : exactly (outcome.Usage fault) ≡ refusal = cc in same_comes (exactly (outcome.Usage fault)) refusal o same e)
  | inr e ↦ inr e
]

-- over told files the first refusal comes
cause_comes : (asked : Result Asked UsageFault) (files : List File) (f fn a an : ℕ) (refusal : Refusal) (o : Outcome)
    → AskedCause asked (Some files) f fn a an o → ¬ Rose f fn → first_refusal asked files ≡ Some refusal → IsRefusal refusal o ⊎ (o ≡ outcome.NoMemory)
cause_comes (Err fault) files f fn a an refusal o h calm k = usage_comes fault refusal o h k
cause_comes (Ok (words.query r)) files f fn a an refusal o h calm k = decided_comes r files refusal o (request_decides r files f fn a an o h calm) k
cause_comes (Ok (words.demo start blocks workers)) files f fn a an refusal o h calm k = cc
cause_comes (Ok (words.encode word)) files f fn a an refusal o h calm k =
    file_comes (file_table purpose.Encode 0 0 (bytes_at files word.1)) refusal o (file_decides files purpose.Encode word.1 0 0 f fn a an o h calm) k
cause_comes (Ok (words.plain path tables)) files f fn a an refusal o h calm k =
    decided_plan path tables files refusal o (plan_decides path tables files f fn a an o h calm) k

-- a text that is what the words ask for
text_comes : (asked : Result Asked UsageFault) (files : List File) (text : List ℕ) (refusal : Refusal) (o : Outcome)
    → IsAskedText asked (Some files) text → first_refusal asked files ≡ Some refusal → IsRefusal refusal o ⊎ (o ≡ outcome.NoMemory)
text_comes (Err fault) files text refusal o h k = elim h [ ]
text_comes (Ok (words.query r)) files text refusal o h k = given_refuses (IsAnswer r text) r files refusal o h.1 k
text_comes (Ok (words.demo start blocks workers)) files text refusal o h k = cc
text_comes (Ok (words.encode word)) files text refusal o h k = encoded_comes (λ t. text ≡ encoded_text t) files word.1 refusal o h k
text_comes (Ok (words.plain path tables)) files text refusal o h k =
    let is = given_plan_told (λ ts p. text ≡ plain_text ts p) path tables files h.1 in given_plan path tables files refusal o is.0 h.0 is.1 k

pub refusal_comes : (asked : Result Asked UsageFault) (files : List File) (n : FaultCounts) (old new : Option (List ℕ)) (refusal : Refusal) (o : Outcome)
    → Ends asked (Some files) n old new o → ¬ Rose n.faults n.faults_now → first_refusal asked files ≡ Some refusal → IsRefusal refusal o ⊎ (o ≡ outcome.NoMemory)
refusal_comes asked files n old new refusal outcome.Done h calm k = text_comes asked files h.0 refusal outcome.Done h.1 k
refusal_comes asked files n old new refusal outcome.WriteFault h calm k = text_comes asked files h.1.0 refusal outcome.WriteFault h.1.1 k
refusal_comes asked files n old new refusal o h calm k = cause_comes asked files n.faults n.faults_now n.absences n.absences_now refusal o h.0 calm k

-- ---- whatever the files hold

read_not_refused : (r : Request) (refusal : Refusal) (o : Outcome) → IsRead r → refused_request r ≡ Some refusal → IsRefusal refusal o ⊎ (o ≡ outcome.NoMemory)
read_not_refused r refusal o read k = let none : None ≡ Some refusal = sym read.allowed ∙ k in cc

before_comes : (r : Request) (refusal : Refusal) (o : Outcome) → IsRefusedBefore r o → refused_request r ≡ Some refusal → IsRefusal refusal o ⊎ (o ≡ outcome.NoMemory)
before_comes r refusal o h k = let same : Some h.0 ≡ Some refusal = sym h.1 ∙ k in let e : h.0 ≡ refusal = cc in same_comes h.0 refusal o e h.2

stage_comes : (stage : Bool) (told : Option (List File)) (r : Request) (refusal : Refusal) (o : Outcome) → StageCause stage told r o → refused_request r ≡ Some refusal → IsRefusal refusal o ⊎ (o ≡ outcome.NoMemory)
stage_comes true told r refusal o h k = before_comes r refusal o h k
stage_comes false told r refusal o h k = read_not_refused r refusal o h.0 k

request_comes : (r : Request) (told : Option (List File)) (f fn a an : ℕ) (refusal : Refusal) (o : Outcome) → RequestCause r told f fn a an o → refused_request r ≡ Some refusal → IsRefusal refusal o ⊎ (o ≡ outcome.NoMemory)
request_comes r told f fn a an refusal outcome.NoMemory h k = inr refl
request_comes r told f fn a an refusal (outcome.Query fault) h k = stage_comes (is_text_fault fault) told r refusal (outcome.Query fault) h k
request_comes r told f fn a an refusal (outcome.Limit fault) h k = stage_comes (is_text_limit fault) told r refusal (outcome.Limit fault) h.1 k
request_comes r told f fn a an refusal (outcome.NoFile i) h k = read_not_refused r refusal (outcome.NoFile i) h.1.0 k
request_comes r told f fn a an refusal (outcome.ReadFault i) h k = read_not_refused r refusal (outcome.ReadFault i) h.1 k
request_comes r told f fn a an refusal (outcome.Table i fault) h k = read_not_refused r refusal (outcome.Table i fault) h.1.0 k
request_comes r told f fn a an refusal outcome.Overflow h k = read_not_refused r refusal outcome.Overflow h.0 k
request_comes r told f fn a an refusal outcome.Done h k = elim h [ ]
request_comes r told f fn a an refusal outcome.WriteFault h k = elim h [ ]
request_comes r told f fn a an refusal (outcome.Usage fault) h k = elim h [ ]
request_comes r told f fn a an refusal (outcome.Plan fault) h k = elim h [ ]

early_cause_comes : (asked : Result Asked UsageFault) (told : Option (List File)) (f fn a an : ℕ) (refusal : Refusal) (o : Outcome)
    → AskedCause asked told f fn a an o → refused_before asked ≡ Some refusal → IsRefusal refusal o ⊎ (o ≡ outcome.NoMemory)
early_cause_comes (Err fault) told f fn a an refusal o h k = usage_comes fault refusal o h k
early_cause_comes (Ok (words.query r)) told f fn a an refusal o h k = request_comes r told f fn a an refusal o h k
early_cause_comes (Ok (words.demo start blocks workers)) told f fn a an refusal o h k = cc
early_cause_comes (Ok (words.encode word)) told f fn a an refusal o h k = cc
early_cause_comes (Ok (words.plain path tables)) told f fn a an refusal o h k = plan_early path tables told f fn a an refusal o h k

early_text : (asked : Result Asked UsageFault) (told : Option (List File)) (text : List ℕ) (refusal : Refusal) (o : Outcome)
    → IsAskedText asked told text → refused_before asked ≡ Some refusal → IsRefusal refusal o ⊎ (o ≡ outcome.NoMemory)
early_text (Err fault) told text refusal o h k = elim h [ ]
early_text (Ok (words.query r)) told text refusal o h k = read_not_refused r refusal o h.0 k
early_text (Ok (words.demo start blocks workers)) told text refusal o h k = cc
early_text (Ok (words.encode word)) told text refusal o h k = cc
early_text (Ok (words.plain path tables)) told text refusal o h k = inl (not_few tables refusal o h.0 k)

pub early_comes : (asked : Result Asked UsageFault) (told : Option (List File)) (n : FaultCounts) (old new : Option (List ℕ)) (refusal : Refusal) (o : Outcome)
    → Ends asked told n old new o → refused_before asked ≡ Some refusal → IsRefusal refusal o ⊎ (o ≡ outcome.NoMemory)
early_comes asked told n old new refusal outcome.Done h k = early_text asked told h.0 refusal outcome.Done h.1 k
early_comes asked told n old new refusal outcome.WriteFault h k = early_text asked told h.1.0 refusal outcome.WriteFault h.1.1 k
early_comes asked told n old new refusal o h k = early_cause_comes asked told n.faults n.faults_now n.absences n.absences_now refusal o h.0 k

-- ---- completeness

-- what is given is not refused, and what fits does not leave its range
not_left : (r : Request) (files : List File) (g : Given) → given_told r files ≡ Ok g → numbers_fit r g.0 g.1 ≡ true → Gives (Some files) r (λ ts s. numbers_fit r ts s ≡ false) → ⊥
not_left r files g is fit gives =
    let h = gives_told (λ ts s. numbers_fit r ts s ≡ false) r files gives in
    let same : Ok (h.0, h.1) ≡ Ok g = sym h.2 ∙ is in
    let e : (h.0, h.1) ≡ g = cc in
    let left : numbers_fit r g.0 g.1 ≡ false = subst (λ x. numbers_fit r x.0 x.1 ≡ false) e h.3 in
    true≢false (sym fit ∙ left)

not_decided : (r : Request) (files : List File) (o : Outcome) → Decided r files o → (g : Given) → given_told r files ≡ Ok g → numbers_fit r g.0 g.1 ≡ true → o ≡ outcome.NoMemory
not_decided r files o h g is fit = elim h [
  | inl e ↦ e
  | inr others ↦ elim others [
    | inl x ↦ (let no_given : Err x.0 ≡ Ok g = sym x.1 ∙ is in cc)
    | inr x ↦ absurd (not_left r files g is fit x.1)
  ]
]

demo_not_refused : (start blocks : ℕ) (o : Outcome) → DemoCause start blocks o → Demonstrates start blocks (λ ts s. answer_fits false ts s ≡ true) → o ≡ outcome.NoMemory
demo_not_refused start blocks outcome.NoMemory h can = refl
demo_not_refused start blocks outcome.Overflow h can =
    let table : Ok h.0 ≡ Ok can.0 = sym h.2 ∙ can.2 in
    let t : h.0 ≡ can.0 = cc in
    let statement : Some h.1 ≡ Some can.1 = sym h.3 ∙ can.3 in
    let s : h.1 ≡ can.1 = cc in
    let left : answer_fits false ((codes "demo", can.0) ∷ []) can.1 ≡ false =
    subst (λ x. answer_fits false ((codes "demo", can.0) ∷ []) x ≡ false) s (subst (λ x. answer_fits false ((codes "demo", x) ∷ []) h.1 ≡ false) t h.4) in
    absurd (true≢false (sym can.4 ∙ left))
demo_not_refused start blocks _ h can = elim h [ ]

cause_memory : (asked : Result Asked UsageFault) (files : List File) (f fn a an : ℕ) (o : Outcome)
    → AskedCause asked (Some files) f fn a an o → ¬ Rose f fn → CanAnswer asked files → o ≡ outcome.NoMemory
cause_memory (Err fault) files f fn a an o h calm can = elim can [ ]
cause_memory (Ok (words.query r)) files f fn a an o h calm can = not_decided r files o (request_decides r files f fn a an o h calm) can.0 can.1 can.2
cause_memory (Ok (words.demo start blocks workers)) files f fn a an o h calm can = demo_not_refused start blocks o h can
cause_memory (Ok (words.encode word)) files f fn a an o h calm can =
    file_memory (file_table purpose.Encode 0 0 (bytes_at files word.1)) o can.0 (file_decides files purpose.Encode word.1 0 0 f fn a an o h calm) can.1
cause_memory (Ok (words.plain path tables)) files f fn a an o h calm can = run_memory path tables files o (plan_decides path tables files f fn a an o h calm) can

pub is_complete : (asked : Result Asked UsageFault) (files : List File) (n : FaultCounts) (old new : Option (List ℕ)) (o : Outcome)
    → Ends asked (Some files) n old new o → ¬ Rose n.faults n.faults_now → ¬ Rose n.puts n.puts_now → CanAnswer asked files → Yields o outcome.Done
is_complete asked files n old new outcome.Done h calm still can = inl refl
is_complete asked files n old new outcome.WriteFault h calm still can = absurd (still h.0)
is_complete asked files n old new o h calm still can = inr (cause_memory asked files n.faults n.faults_now n.absences n.absences_now o h.0 calm can)

-- ---- usage

usage_asked : (asked : Result Asked UsageFault) (told : Option (List File)) (f fn a an : ℕ) (fault : UsageFault) → AskedCause asked told f fn a an (outcome.Usage fault) → result_err asked ≡ Some fault
usage_asked (Err x) told f fn a an fault h = elim h [ inl e ↦ cc | inr e ↦ cc ]
usage_asked (Ok (words.query r)) told f fn a an fault h = elim h [ ]
usage_asked (Ok (words.demo start blocks workers)) told f fn a an fault h = elim h [ ]
usage_asked (Ok (words.encode word)) told f fn a an fault h = elim h [ ]
usage_asked (Ok (words.plain path tables)) told f fn a an fault h = elim h [ ]

pub usage_cause : (asked : Result Asked UsageFault) (told : Option (List File)) (n : FaultCounts) (old new : Option (List ℕ)) (o : Outcome) (fault : UsageFault)
    → Ends asked told n old new o → o ≡ outcome.Usage fault → result_err asked ≡ Some fault
usage_cause asked told n old new (outcome.Usage x) fault h e = let same : x ≡ fault = cc in usage_asked asked told n.faults n.faults_now n.absences n.absences_now fault (subst (λ y. AskedCause asked told n.faults n.faults_now n.absences n.absences_now (outcome.Usage y)) same h.0)
usage_cause asked told n old new _ fault h e = cc

usage_early : (asked : Result Asked UsageFault) (fault : UsageFault) → result_err asked ≡ Some fault → refused_before asked ≡ Some (exactly (outcome.Usage fault))
usage_early (Err x) fault e = let same : x ≡ fault = cc in ap (λ y. Some (exactly (outcome.Usage y))) same
usage_early (Ok x) fault e = cc

pub usage_comes_first : (asked : Result Asked UsageFault) (told : Option (List File)) (n : FaultCounts) (old new : Option (List ℕ)) (o : Outcome) (fault : UsageFault)
    → Ends asked told n old new o → result_err asked ≡ Some fault → Yields o (outcome.Usage fault)
usage_comes_first asked told n old new o fault h e = early_comes asked told n old new (exactly (outcome.Usage fault)) o h (usage_early asked fault e)

-- ---- causes

pub ends_cause : (asked : Result Asked UsageFault) (told : Option (List File)) (n : FaultCounts) (old new : Option (List ℕ)) (o : Outcome)
    → Ends asked told n old new o → o ≢ outcome.Done → o ≢ outcome.WriteFault → AskedCause asked told n.faults n.faults_now n.absences n.absences_now o × Appends old new []
ends_cause asked told n old new outcome.Done h undone unwritten = absurd (undone refl)
ends_cause asked told n old new outcome.WriteFault h undone unwritten = absurd (unwritten refl)
ends_cause asked told n old new o h undone unwritten = h

absence_rose : (asked : Result Asked UsageFault) (told : Option (List File)) (f fn a an : ℕ) (i : ℕ) → AskedCause asked told f fn a an (outcome.NoFile i) → Rose a an
absence_rose (Err x) told f fn a an i h = elim h [ inl e ↦ cc | inr e ↦ cc ]
absence_rose (Ok (words.query r)) told f fn a an i h = h.0
absence_rose (Ok (words.demo start blocks workers)) told f fn a an i h = elim h [ ]
absence_rose (Ok (words.encode word)) told f fn a an i h = h.1
absence_rose (Ok (words.plain path tables)) told f fn a an i h = h.0

pub no_file_rose : (asked : Result Asked UsageFault) (told : Option (List File)) (n : FaultCounts) (old new : Option (List ℕ)) (o : Outcome) (i : ℕ)
    → Ends asked told n old new o → o ≡ outcome.NoFile i → Rose n.absences n.absences_now
no_file_rose asked told n old new (outcome.NoFile j) i h e = absence_rose asked told n.faults n.faults_now n.absences n.absences_now j h.0
no_file_rose asked told n old new _ i h e = cc

fault_rose : (asked : Result Asked UsageFault) (told : Option (List File)) (f fn a an : ℕ) (i : ℕ) → AskedCause asked told f fn a an (outcome.ReadFault i) → Rose f fn
fault_rose (Err x) told f fn a an i h = elim h [ inl e ↦ cc | inr e ↦ cc ]
fault_rose (Ok (words.query r)) told f fn a an i h = h.0
fault_rose (Ok (words.demo start blocks workers)) told f fn a an i h = elim h [ ]
fault_rose (Ok (words.encode word)) told f fn a an i h = h.1
fault_rose (Ok (words.plain path tables)) told f fn a an i h = h.0

pub read_fault_rose : (asked : Result Asked UsageFault) (told : Option (List File)) (n : FaultCounts) (old new : Option (List ℕ)) (o : Outcome) (i : ℕ)
    → Ends asked told n old new o → o ≡ outcome.ReadFault i → Rose n.faults n.faults_now
read_fault_rose asked told n old new (outcome.ReadFault j) i h e = fault_rose asked told n.faults n.faults_now n.absences n.absences_now j h.0
read_fault_rose asked told n old new _ i h e = cc

placed : (asked : Result Asked UsageFault) (told : Option (List File)) (f fn a an : ℕ) (at : ℕ) → AskedCause asked told f fn a an (outcome.Query (query.NotPositive at)) → AskedNotPositive asked at
placed (Err x) told f fn a an at h = elim h [ inl e ↦ cc | inr e ↦ cc ]
placed (Ok (words.query r)) told f fn a an at h = refused_not_positive r at h
placed (Ok (words.demo start blocks workers)) told f fn a an at h = elim h [ ]
placed (Ok (words.encode word)) told f fn a an at h = elim h [ ]
placed (Ok (words.plain path tables)) told f fn a an at h = elim h [ ]

pub not_positive_cause : (asked : Result Asked UsageFault) (told : Option (List File)) (n : FaultCounts) (old new : Option (List ℕ)) (o : Outcome) (at : ℕ)
    → Ends asked told n old new o → o ≡ outcome.Query (query.NotPositive at) → AskedNotPositive asked at
not_positive_cause asked told n old new (outcome.Query fault) at h e =
    let same : fault ≡ query.NotPositive at = cc in placed asked told n.faults n.faults_now n.absences n.absences_now at (subst (λ x. AskedCause asked told n.faults n.faults_now n.absences n.absences_now (outcome.Query x)) same h.0)
not_positive_cause asked told n old new _ at h e = cc

-- ---- the sink

pub appends_nothing : (known : Option (List ℕ)) → Appends known known []
appends_nothing None = tt
appends_nothing (Some bytes) = sym (append-nil bytes)
