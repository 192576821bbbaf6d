-- What files hold, and their tables, in the order of their words: each file within its own size, all of them within theirs,
-- and each table within the limits of what it is read for. Files are numbered from 0.
use Rattle.std.specs.Prelude.{ℕ, ◌≡◌, ◌+◌, List, [], ◌∷◌, length, map, Option, Some, None, IfSome, Result, Ok, Err, if◌then◌else◌, nat_le, nat_lt}
use Rattle.std.specs.List.{AllZip}
use Rattle.au_value.specs.Texts.{Text}
use Rattle.au_blocks.specs.declared.faults.TableFault.{TableFault}
use Rattle.au_blocks.specs.Tables.{BlockTable}
use Rattle.au_blocks.specs.Read.{table_of}
use Rattle.au_engine.specs.Answers.{Named}
use Rattle.au_engine.specs.Exchange.{greatest_plain_size, plain_size}
use Rattle.au_engine.specs.declared.faults.LimitFault.{LimitFault}
use Rattle.au_engine.specs.declared.faults.LimitFault.TheVariants as limit
use Rattle.au_io.specs.Files.{File, bytes_at}
use Rattle.au_cli.specs.declared.files.Purpose.{Purpose}
use Rattle.au_cli.specs.declared.files.Purpose.TheVariants as purpose
use Rattle.au_cli.specs.declared.outcome.Outcome.{Outcome}
use Rattle.au_cli.specs.declared.outcome.Outcome.TheVariants as outcome

-- ---- what is found

-- a name, and the bytes that the file of its word holds, if it is there
abbrev pub Found : Type 0
Found = Text × Option (List ℕ)

-- what told files hold for words, each a name and a path
abbrev pub held_by : List File → Text × Text → Found
held_by files word = (word.0, bytes_at files word.1)

abbrev pub found_in : List File → List (Text × Text) → List Found
found_in files words = map (held_by files) words

-- What is found at a path may be anything, but where a shelf tells its files it is what they hold.
abbrev pub IsFoundAt : Option (List File) → Text → Option (List ℕ) → Type 0
IsFoundAt told path found = IfSome told (λ files. bytes_at files path ≡ found)

abbrev pub IsFound : Option (List File) → Text × Text → Found → Type 0
IsFound told word found = (found.0 ≡ word.0) × IsFoundAt told word.1 found.1

-- this holds of what is found at a path, and of what is found for words, one by one
abbrev pub FileFound : Option (List File) → Text → (Option (List ℕ) → Type 0) → Type 0
FileFound told path Holds = (found : Option (List ℕ)) × IsFoundAt told path found × Holds found

abbrev pub FilesFound : Option (List File) → List (Text × Text) → (List Found → Type 0) → Type 0
FilesFound told words Holds = (found : List Found) × AllZip (IsFound told) words found × Holds found

-- ---- the bytes of a file

-- the greatest number of files that words name
abbrev pub greatest_files : ℕ
greatest_files = 8

-- the greatest size of a file and of all files, in bytes
abbrev pub greatest_size : ℕ
greatest_size = 8388608

abbrev pub greatest_total : ℕ
greatest_total = 16777216

abbrev pub sized_bytes : ℕ → ℕ → List ℕ → Result (List ℕ) Outcome
sized_bytes file before bytes =
    if nat_lt greatest_size (length bytes) then Err (outcome.Limit (limit.FileSize file))
    else if nat_lt greatest_total (before + length bytes) then Err (outcome.Limit (limit.AllFiles file))
    else Ok bytes

-- the bytes found of a file behind so many bytes of the files before it, or its first refusal
abbrev pub file_bytes : ℕ → ℕ → Option (List ℕ) → Result (List ℕ) Outcome
file_bytes file before None = Err (outcome.NoFile file)
file_bytes file before (Some bytes) = sized_bytes file before bytes

abbrev pub size_of : Option (List ℕ) → ℕ
size_of None = 0
size_of (Some bytes) = length bytes

-- ---- the table of a file

-- the greatest number of columns of a table whose rows are encoded
abbrev pub greatest_columns : ℕ
greatest_columns = 20

-- the limit that a file's table passes, by what it is read for: few columns are encoded, and few guess rows are made
abbrev pub passed_limit : Purpose → ℕ → BlockTable → Option LimitFault
passed_limit purpose.Query file t = None
passed_limit purpose.Encode file t = if nat_lt greatest_columns (length t.columns) then Some (limit.EncodeColumns (length t.columns)) else None
passed_limit purpose.Plan file t = if nat_le (plain_size t) greatest_plain_size then None else Some (limit.PlainRows file)

abbrev pub table_within : BlockTable → Option LimitFault → Result BlockTable Outcome
table_within t None = Ok t
table_within t (Some fault) = Err (outcome.Limit fault)

-- the table of a file's bytes, or what its first defect or the limit that it passes ends in
abbrev pub table_or_defect : Purpose → ℕ → Result BlockTable TableFault → Result BlockTable Outcome
table_or_defect aim file (Ok t) = table_within t (passed_limit aim file t)
table_or_defect aim file (Err fault) = Err (outcome.Table file fault)

abbrev pub table_in : Purpose → ℕ → Result (List ℕ) Outcome → Result BlockTable Outcome
table_in aim file (Err refusal) = Err refusal
table_in aim file (Ok bytes) = table_or_defect aim file (table_of bytes)

-- the table of a file behind so many bytes of the files before it, or its first refusal
abbrev pub file_table : Purpose → ℕ → ℕ → Option (List ℕ) → Result BlockTable Outcome
file_table aim file before bytes = table_in aim file (file_bytes file before bytes)

-- ---- the tables of words

-- a table under its name, before those of the words behind it
abbrev pub and_more : Text → Result BlockTable Outcome → Result (List Named) Outcome → Result (List Named) Outcome
and_more name (Err refusal) others = Err refusal
and_more name (Ok t) (Err refusal) = Err refusal
and_more name (Ok t) (Ok others) = Ok ((name, t) ∷ others)

-- the tables of what is found for words, from this file on and behind so many bytes, or the first refusal of a file
abbrev pub tables_from : Purpose → ℕ → ℕ → List Found → Result (List Named) Outcome
tables_from aim file before [] = Ok []
tables_from aim file before (one ∷ found) =
    and_more one.0 (file_table aim file before one.1) (tables_from aim (file + 1) (before + size_of one.1) found)

-- the tables that a query is asked over
abbrev pub tables_of : List Found → Result (List Named) Outcome
tables_of found = tables_from purpose.Query 0 0 found
