-- The table of a text whose records were read.
use Rattle.std.proofs.Common.{◌≡◌, ◌∙◌, ℕ, List, Option, Some, None, Ok, refl}
use Rattle.std.specs.Prelude.{IfOk, Result}
use Rattle.std.proofs.lemmas.Result.{IfOk-weaker}
use Rattle.au_csv.specs.Texts.{Record, records_of, not_text, unless_not_text, text_records}
use Rattle.au_blocks.specs.declared.faults.TableFault.{TableFault}
use Rattle.au_blocks.specs.Defects.{table_defects}
use Rattle.au_blocks.specs.Read.{contents, first, table_of, unless}
use Rattle.au_blocks.specs.Tables.{BlockTable}

ok-parts : (o : Option ℕ) (rs qs : List Record) → unless_not_text o rs ≡ Ok qs → (o ≡ None) × (rs ≡ qs)
ok-parts None rs qs is = (refl, cc)
ok-parts (Some r) rs qs is = cc

-- the table of a text all of whose records are text
table-of-records : (bytes : List ℕ) (rs : List Record) → text_records bytes ≡ Ok rs → table_of bytes ≡ unless (first (table_defects rs)) (contents rs)
table-of-records bytes rs is =
    let parts = ok-parts (not_text (records_of bytes)) (records_of bytes) rs is in
    rw (parts.0, parts.1) refl

pub table-read : (bytes : List ℕ) (rs : List Record) (r : Result BlockTable TableFault) → text_records bytes ≡ Ok rs
    → IfOk r (λ t. unless (first (table_defects rs)) (contents rs) ≡ Ok t) → IfOk r (λ t. table_of bytes ≡ Ok t)
table-read bytes rs r is made =
    IfOk-weaker r (λ t. unless (first (table_defects rs)) (contents rs) ≡ Ok t) (λ t. table_of bytes ≡ Ok t) (λ t has. table-of-records bytes rs is ∙ has) made

-- the table of the same records
pub table-over : (rs qs : List Record) (r : Result BlockTable TableFault) → rs ≡ qs
    → IfOk r (λ t. unless (first (table_defects qs)) (contents qs) ≡ Ok t) → IfOk r (λ t. unless (first (table_defects rs)) (contents rs) ≡ Ok t)
table-over rs qs r is made = rw is made
