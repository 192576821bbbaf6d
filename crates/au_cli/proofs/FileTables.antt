-- The bytes and the table of a file, from what was read of it.
use Rattle.std.proofs.Common.{◌≡◌, ◌<◌, ◌≤◌, ◌+◌, ℕ, true, false, List, Option, Some, None, IfSome, Ok, Err, length, replicate, nat_lt, arith, refl, ◌∙◌, ap}
use Rattle.std.specs.Prelude.{IsSomeAnd}
use Rattle.std.proofs.lemmas.List.{length-replicate}
use Rattle.au_blocks.specs.declared.faults.TableFault.{TableFault}
use Rattle.au_blocks.specs.Read.{table_of}
use Rattle.au_blocks.specs.Tables.{BlockTable}
use Rattle.au_io.specs.Files.{File, Lacks, bytes_at}
use Rattle.au_engine.specs.declared.faults.LimitFault.{LimitFault}
use Rattle.au_engine.specs.declared.faults.LimitFault.TheVariants as limit
use Rattle.au_cli.specs.declared.files.Purpose.{Purpose}
use Rattle.au_cli.specs.declared.files.Purpose.TheVariants as purpose
use Rattle.au_cli.specs.declared.outcome.Outcome.{Outcome}
use Rattle.au_cli.specs.declared.outcome.Outcome.TheVariants as outcome
use Rattle.au_value.specs.Texts.{Text}
use Rattle.au_cli.specs.Files.{IsFoundAt, file_bytes, file_table, passed_limit, sized_bytes, table_in, table_or_defect, table_within, greatest_columns, greatest_size, greatest_total}
use Rattle.au_cli.specs.FileCauses.{BytesCause, BytesRefused, FileCause, FileRefused, ReadCause, is_file_limit, is_size_limit}

-- ---- the bytes

pub absent_refused : (told : Option (List File)) (path : Text) (file before : ℕ) → Lacks told path → BytesRefused told path file before (outcome.NoFile file)
absent_refused told path file before h = (None, h, refl)

large_bytes : (file before : ℕ) (bytes : List ℕ) → greatest_size < length bytes → file_bytes file before (Some bytes) ≡ Err (outcome.Limit (limit.FileSize file))
large_bytes file before bytes large = let e : nat_lt greatest_size (length bytes) ≡ true = grind arith in rw e

large_found : (file before : ℕ) (found : Option (List ℕ)) → IsSomeAnd found (λ b. greatest_size < length b) → file_bytes file before found ≡ Err (outcome.Limit (limit.FileSize file))
large_found file before None h = elim h [ ]
large_found file before (Some bytes) h = large_bytes file before bytes h

-- bytes of which there are more than so many
longer : (n : ℕ) → (bytes : List ℕ) × (n < length bytes)
longer n = (replicate (n + 1) 0, omega (arith, length-replicate {A = ℕ} (n + 1) 0))

pub large_refused : (told : Option (List File)) (path : Text) (file before : ℕ) → IfSome told (λ files. IsSomeAnd (bytes_at files path) (λ bytes. greatest_size < length bytes))
    → BytesRefused told path file before (outcome.Limit (limit.FileSize file))
large_refused None path file before h = let large = longer greatest_size in (Some large.0, tt, large_bytes file before large.0 large.1)
large_refused (Some files) path file before h = (bytes_at files path, refl, large_found file before (bytes_at files path) h)

much_bytes : (file before : ℕ) (bytes : List ℕ) → length bytes ≤ greatest_size → greatest_total < before + length bytes
    → sized_bytes file before bytes ≡ Err (outcome.Limit (limit.AllFiles file))
much_bytes file before bytes small much =
    let e : nat_lt greatest_size (length bytes) ≡ false = grind arith in
    let k : nat_lt greatest_total (before + length bytes) ≡ true = grind arith in
    rw (e, k)

pub much_refused : (told : Option (List File)) (path : Text) (file before : ℕ) (bytes : List ℕ) → IsFoundAt told path (Some bytes)
    → length bytes ≤ greatest_size → greatest_total < before + length bytes
    → BytesRefused told path file before (outcome.Limit (limit.AllFiles file))
much_refused told path file before bytes read small much = (Some bytes, read, much_bytes file before bytes small much)

pub within : (file before : ℕ) (bytes : List ℕ) → length bytes ≤ greatest_size → before + length bytes ≤ greatest_total → sized_bytes file before bytes ≡ Ok bytes
within file before bytes small all =
    let e : nat_lt greatest_size (length bytes) ≡ false = grind arith in
    let k : nat_lt greatest_total (before + length bytes) ≡ false = grind arith in
    rw (e, k)

-- ---- the table of bytes

pub few_passed : (t : BlockTable) (file n : ℕ) → n ≡ length t.columns → greatest_columns < n → passed_limit purpose.Encode file t ≡ Some (limit.EncodeColumns n)
few_passed t file n e many = let over : nat_lt greatest_columns (length t.columns) ≡ true = grind arith in rw (over, e) refl

pub defect_bytes : (aim : Purpose) (file : ℕ) (bytes : List ℕ) (fault : TableFault) → table_of bytes ≡ Err fault → table_or_defect aim file (table_of bytes) ≡ Err (outcome.Table file fault)
defect_bytes aim file bytes fault e = ap (table_or_defect aim file) e

pub limit_bytes : (aim : Purpose) (file : ℕ) (bytes : List ℕ) (t : BlockTable) (fault : LimitFault) → table_of bytes ≡ Ok t → passed_limit aim file t ≡ Some fault
    → table_or_defect aim file (table_of bytes) ≡ Err (outcome.Limit fault)
limit_bytes aim file bytes t fault e k = ap (table_or_defect aim file) e ∙ ap (table_within t) k

pub table_bytes : (aim : Purpose) (file : ℕ) (bytes : List ℕ) (t : BlockTable) → table_of bytes ≡ Ok t → passed_limit aim file t ≡ None
    → table_or_defect aim file (table_of bytes) ≡ Ok t
table_bytes aim file bytes t e k = ap (table_or_defect aim file) e ∙ ap (table_within t) k

-- ---- the table of a file

pub table_read : (aim : Purpose) (file before : ℕ) (bytes : List ℕ) (t : BlockTable) → file_bytes file before (Some bytes) ≡ Ok bytes → table_or_defect aim file (table_of bytes) ≡ Ok t
    → file_table aim file before (Some bytes) ≡ Ok t
table_read aim file before bytes t sized e = ap (table_in aim file) sized ∙ e

refused_read : (told : Option (List File)) (aim : Purpose) (path : Text) (file before : ℕ) (bytes : List ℕ) (o : Outcome)
    → IsFoundAt told path (Some bytes) → file_bytes file before (Some bytes) ≡ Ok bytes → table_or_defect aim file (table_of bytes) ≡ Err o
    → FileRefused told aim path file before o
refused_read told aim path file before bytes o read sized e = (Some bytes, read, ap (table_in aim file) sized ∙ e)

pub bytes_cause : (told : Option (List File)) (aim : Purpose) (path : Text) (file before f fn a an : ℕ) (bytes : List ℕ) (o : Outcome)
    → IsFoundAt told path (Some bytes) → file_bytes file before (Some bytes) ≡ Ok bytes → BytesCause aim file bytes o → FileCause told aim path file before f fn a an o
bytes_cause told aim path file before f fn a an bytes outcome.NoMemory read sized cause = tt
bytes_cause told aim path file before f fn a an bytes (outcome.Table i fault) read sized cause =
    (cause.0, refused_read told aim path file before bytes (outcome.Table i fault) read sized cause.1)
bytes_cause told aim path file before f fn a an bytes (outcome.Limit fault) read sized cause =
    (cause.0, refused_read told aim path file before bytes (outcome.Limit fault) read sized cause.1)
bytes_cause told aim path file before f fn a an bytes _ read sized cause = elim cause [ ]

refused_bytes : (told : Option (List File)) (aim : Purpose) (path : Text) (file before : ℕ) (o : Outcome) → BytesRefused told path file before o → FileRefused told aim path file before o
refused_bytes told aim path file before o h = (h.0, h.1, ap (table_in aim file) h.2)

size_is_file : (aim : Purpose) (fault : LimitFault) → is_size_limit fault ≡ true → is_file_limit aim fault ≡ true
size_is_file purpose.Query (limit.FileSize file) e = refl
size_is_file purpose.Query (limit.AllFiles file) e = refl
size_is_file purpose.Encode (limit.FileSize file) e = refl
size_is_file purpose.Encode (limit.AllFiles file) e = refl
size_is_file purpose.Plan (limit.FileSize file) e = refl
size_is_file purpose.Plan (limit.AllFiles file) e = refl
size_is_file aim _ e = cc

pub read_cause : (told : Option (List File)) (aim : Purpose) (path : Text) (file before f fn a an : ℕ) (o : Outcome)
    → ReadCause told path file before f fn a an o → FileCause told aim path file before f fn a an o
read_cause told aim path file before f fn a an outcome.NoMemory cause = tt
read_cause told aim path file before f fn a an (outcome.ReadFault i) cause = cause
read_cause told aim path file before f fn a an (outcome.NoFile i) cause = (cause.0, cause.1, refused_bytes told aim path file before (outcome.NoFile i) cause.2)
read_cause told aim path file before f fn a an (outcome.Limit fault) cause =
    (size_is_file aim fault cause.0, refused_bytes told aim path file before (outcome.Limit fault) cause.1)
read_cause told aim path file before f fn a an _ cause = elim cause [ ]
