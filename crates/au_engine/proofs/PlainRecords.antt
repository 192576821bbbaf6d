-- The records of rows below a header of numbered columns: they have no defect, and each is read as its row.
use Rattle.std.proofs.Common.{◌≡◌, ℕ, ◌+◌, ◌==◌, true, List, [], ◌∷◌, length, map, refl, ap, sym, ◌∙◌, eq-eqb}
use Rattle.std.specs.Prelude.{not, zip}
use Rattle.std.specs.List.{enumerate_from, flat_map, list_all}
use Rattle.std.proofs.lemmas.Bool.{and_parts}
use Rattle.std.proofs.lemmas.List.{length-map}
use Rattle.au_value.specs.declared.value.Value.{Value}
use Rattle.au_value.specs.Order.{data_kind, kind_of}
use Rattle.au_value.specs.Ranges.{guesses}
use Rattle.au_expr.specs.Figures.{fit}
use Rattle.au_expr.specs.Numbers.{number_if_any}
use Rattle.au_csv.specs.Texts.{is_text}
use Rattle.au_blocks.specs.Headers.{format_of}
use Rattle.au_blocks.specs.declared.faults.TableFault.TheVariants as fault
use Rattle.au_blocks.specs.Defects.{is_field, record_defects, where_true}
use Rattle.au_blocks.specs.Read as reading
use Rattle.au_plain.specs.PlanKinds.{row_fits}
use Rattle.au_sqltext.specs.Records.{cell_field}
use Rattle.au_engine.specs.EncodedTables.{is_text_value}
use Rattle.au_engine.proofs.FieldValues.{value_read, value_utf8}
use Rattle.au_engine.proofs.NumberedColumns.{field_kinds}

-- the numbers of a row lie in the range, and its texts are UTF-8
pub record IsSound (row : List Value) : Type 0 where
  pub held : row_fits row ≡ true
  pub text : list_all is_text_value row ≡ true

first_held : (v : Value) (row : List Value) → row_fits (v ∷ row) ≡ true → (fit (number_if_any v) ≡ true) × (row_fits row ≡ true)
first_held v row h = let p = and_parts (fit (number_if_any v)) (row_fits row) h in (p.0, p.1)

-- ---- text

pub row_text : (row : List Value) → IsSound row → is_text (map cell_field row) ≡ true
row_text [] h = refl
row_text (v ∷ row) h =
    let held = first_held v row h.held in
    let texts = and_parts (is_text_value v) (list_all is_text_value row) h.text in
    rw (value_utf8 v held.0 texts.0) (row_text row (record { held = held.1; text = texts.1 }))

-- ---- no defect

no_bad_fields : (r i : ℕ) (row : List Value) → row_fits row ≡ true
    → flat_map (λ c. where_true (not (is_field (format_of []) c.1.0 c.1.1)) (fault.BadField r c.0)) (enumerate_from i (zip (field_kinds (map kind_of row)) (map cell_field row))) ≡ []
no_bad_fields r i [] h = refl
no_bad_fields r i (v ∷ row) h = let held = first_held v row h in rw (value_read v held.0) (no_bad_fields r (i + 1) row held.1)

pub record_sound : (n : ℕ) (row : List Value) → row_fits row ≡ true
    → record_defects (format_of []) (length (map kind_of row)) (field_kinds (map kind_of row)) (n, map cell_field row) ≡ []
record_sound n row h =
    let wide : (length (map cell_field row) == length (map kind_of row)) ≡ true = eq-eqb _ _ (length-map row cell_field ∙ sym (length-map row kind_of)) in
    rw wide (no_bad_fields n 0 row h)

-- ---- the row

pub row_read : (row : List Value) → row_fits row ≡ true → guesses (reading.row (map data_kind (map kind_of row)) (map cell_field row)) ≡ row
row_read [] h = refl
row_read (v ∷ row) h = let held = first_held v row h in rw (value_read v held.0) (ap (λ vs. v ∷ vs) (row_read row held.1))
