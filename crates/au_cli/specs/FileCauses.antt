-- Why a file gives no bytes or no table. `told` are the files that a shelf tells, and the counts are those of its refusals
-- and of its absent files before and after.
use Rattle.std.specs.Prelude.{ℕ, ◌≡◌, ◌≢◌, ◌<◌, ◌+◌, Bool, true, false, List, length, take, Option, Ok, Err, ⊤}
use Rattle.std.specs.List.{AllZip}
use Rattle.au_blocks.specs.declared.faults.TableFault.TheVariants as table
use Rattle.au_blocks.specs.Read.{table_of}
use Rattle.au_io.specs.Counts.{Rose}
use Rattle.au_io.specs.Files.{File}
use Rattle.au_engine.specs.Answers.{Named}
use Rattle.au_engine.specs.declared.faults.LimitFault.{LimitFault}
use Rattle.au_engine.specs.declared.faults.LimitFault.TheVariants as limit
use Rattle.au_cli.specs.declared.files.Purpose.{Purpose}
use Rattle.au_cli.specs.declared.files.Purpose.TheVariants as purpose
use Rattle.au_cli.specs.declared.outcome.Outcome.{Outcome}
use Rattle.au_cli.specs.declared.outcome.Outcome.TheVariants as outcome
use Rattle.au_value.specs.Texts.{Text}
use Rattle.au_cli.specs.Files.{FileFound, FilesFound, Found, IsFound, file_bytes, file_table, table_or_defect, tables_from}

-- what is found of a file has this refusal, behind so many bytes of the files before it
abbrev pub BytesRefused : Option (List File) → Text → ℕ → ℕ → Outcome → Type 0
BytesRefused told path file before o = FileFound told path (λ found. file_bytes file before found ≡ Err o)

-- whether a limit is of the sizes of files
abbrev pub is_size_limit : LimitFault → Bool
is_size_limit (limit.FileSize file) = true
is_size_limit (limit.AllFiles file) = true
is_size_limit _ = false

-- why the bytes of the file of this number at a path are not read
abbrev pub ReadCause : Option (List File) → Text → ℕ → ℕ → ℕ → ℕ → ℕ → ℕ → Outcome → Type 0
ReadCause told path file before faults faults_now absences absences_now outcome.NoMemory = ⊤
ReadCause told path file before faults faults_now absences absences_now (outcome.ReadFault i) = (i ≡ file) × Rose faults faults_now
ReadCause told path file before faults faults_now absences absences_now (outcome.NoFile i) =
    (i ≡ file) × Rose absences absences_now × BytesRefused told path file before (outcome.NoFile i)
ReadCause told path file before faults faults_now absences absences_now (outcome.Limit fault) =
    (is_size_limit fault ≡ true) × BytesRefused told path file before (outcome.Limit fault)
ReadCause told path file before faults faults_now absences absences_now _ = ⊥

-- whether a limit is of files that are read for this
abbrev pub is_file_limit : Purpose → LimitFault → Bool
is_file_limit purpose.Encode (limit.EncodeColumns columns) = true
is_file_limit purpose.Plan (limit.PlainRows file) = true
is_file_limit aim fault = is_size_limit fault

-- why the bytes of a file are not a table
abbrev pub BytesCause : Purpose → ℕ → List ℕ → Outcome → Type 0
BytesCause aim file bytes outcome.NoMemory = ⊤
BytesCause aim file bytes (outcome.Table i fault) = (fault ≢ table.NoMemory) × (table_or_defect aim file (table_of bytes) ≡ Err (outcome.Table i fault))
BytesCause aim file bytes (outcome.Limit fault) = (is_file_limit aim fault ≡ true) × (table_or_defect aim file (table_of bytes) ≡ Err (outcome.Limit fault))
BytesCause aim file bytes _ = ⊥

-- what is found of a file gives no table, with this refusal, behind so many bytes of the files before it
abbrev pub FileRefused : Option (List File) → Purpose → Text → ℕ → ℕ → Outcome → Type 0
FileRefused told aim path file before o = FileFound told path (λ found. file_table aim file before found ≡ Err o)

-- why the file of this number at a path gives no table
abbrev pub FileCause : Option (List File) → Purpose → Text → ℕ → ℕ → ℕ → ℕ → ℕ → ℕ → Outcome → Type 0
FileCause told aim path file before faults faults_now absences absences_now outcome.NoMemory = ⊤
FileCause told aim path file before faults faults_now absences absences_now (outcome.ReadFault i) = (i ≡ file) × Rose faults faults_now
FileCause told aim path file before faults faults_now absences absences_now (outcome.NoFile i) =
    (i ≡ file) × Rose absences absences_now × FileRefused told aim path file before (outcome.NoFile i)
FileCause told aim path file before faults faults_now absences absences_now (outcome.Table i fault) =
    (fault ≢ table.NoMemory) × FileRefused told aim path file before (outcome.Table i fault)
FileCause told aim path file before faults faults_now absences absences_now (outcome.Limit fault) =
    (is_file_limit aim fault ≡ true) × FileRefused told aim path file before (outcome.Limit fault)
FileCause told aim path file before faults faults_now absences absences_now _ = ⊥

-- this is the first refusal of what is found for words, from this file on and behind so many bytes
abbrev pub FilesRefused : Option (List File) → Purpose → ℕ → ℕ → List (Text × Text) → Outcome → Type 0
FilesRefused told aim first before words o = FilesFound told words (λ found. tables_from aim first before found ≡ Err o)

-- What is found for the words before this place gives tables, from this file on and behind so many bytes.
pub record ReadsUpTo (told : Option (List File)) (aim : Purpose) (first before : ℕ) (words : List (Text × Text)) (place : ℕ) : Type 0 where
  pub below : place < length words
  pub found : List Found
  pub are : AllZip (IsFound told) (take place words) found
  pub tables : List Named
  pub given : tables_from aim first before found ≡ Ok tables

-- this is the file of a word, and what is found for the words before it gives tables
abbrev pub ReadsBefore : Option (List File) → Purpose → ℕ → ℕ → List (Text × Text) → ℕ → Type 0
ReadsBefore told aim first before words file = (place : ℕ) × (file ≡ first + place) × ReadsUpTo told aim first before words place

-- why the files of these words, each a name and a path, give no tables
abbrev pub FilesCause : Option (List File) → Purpose → ℕ → ℕ → List (Text × Text) → ℕ → ℕ → ℕ → ℕ → Outcome → Type 0
FilesCause told aim first before words faults faults_now absences absences_now outcome.NoMemory = ⊤
FilesCause told aim first before words faults faults_now absences absences_now (outcome.ReadFault i) =
    Rose faults faults_now × ReadsBefore told aim first before words i
FilesCause told aim first before words faults faults_now absences absences_now (outcome.NoFile i) =
    Rose absences absences_now × FilesRefused told aim first before words (outcome.NoFile i)
FilesCause told aim first before words faults faults_now absences absences_now (outcome.Table i fault) =
    (fault ≢ table.NoMemory) × FilesRefused told aim first before words (outcome.Table i fault)
FilesCause told aim first before words faults faults_now absences absences_now (outcome.Limit fault) =
    (is_file_limit aim fault ≡ true) × FilesRefused told aim first before words (outcome.Limit fault)
FilesCause told aim first before words faults faults_now absences absences_now _ = ⊥
