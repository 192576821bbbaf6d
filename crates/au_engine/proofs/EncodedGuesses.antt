-- The tables that are read from encoded texts have the encoded kinds, and their guess rows are the encoded rows.
use Rattle.std.proofs.Common.{◌≡◌, List, [], ◌∷◌, map, refl, sym, subst}
use Rattle.std.specs.List.{AllByRecursion, AllZip}
use Rattle.au_blocks.specs.Tables.{BlockTable, IsBlockTable, column_kinds}
use Rattle.au_blocks.specs.Worlds.{guess_world, tables_in}
use Rattle.au_translate.specs.Translate.{bounded_table}
use Rattle.au_plain.specs.PlanKinds.{FitTables}
use Rattle.au_encode.specs.Encode.{encode, encoded_kinds}
use Rattle.au_engine.specs.Answers.{Named, blocks_of}
use Rattle.au_engine.specs.EncodedTables.{IsEncodedTable, IsWritableTable}
use Rattle.au_engine.specs.PlanAnswers.{HoldEncoded}
use Rattle.au_engine.proofs.WritableRows.{encoded_fit}

read_kinds : (ts us : List BlockTable) → AllZip IsEncodedTable ts us → map column_kinds us ≡ map encoded_kinds (map column_kinds ts)
read_kinds [] [] h = refl
read_kinds [] (u ∷ us) h = elim h [ ]
read_kinds (t ∷ ts) [] h = elim h [ ]
read_kinds (t ∷ ts) (u ∷ us) h = λ i. h.0.columns i ∷ read_kinds ts us h.1 i

read_rows : (ts us : List BlockTable) → AllZip IsEncodedTable ts us → tables_in us (guess_world us) ≡ map encode (map bounded_table ts)
read_rows [] [] h = refl
read_rows [] (u ∷ us) h = elim h [ ]
read_rows (t ∷ ts) [] h = elim h [ ]
read_rows (t ∷ ts) (u ∷ us) h = λ i. h.0.guesses i ∷ read_rows ts us h.1 i

held : (ts : List BlockTable) → AllByRecursion IsBlockTable ts → AllByRecursion IsWritableTable ts → FitTables (map encode (map bounded_table ts))
held [] ok h = tt
held (t ∷ ts) ok h = (encoded_fit t ok.0 h.0, held ts ok.1 h.1)

pub hold_encoded : (ts us : List Named) → AllByRecursion IsBlockTable (blocks_of ts) → AllByRecursion IsWritableTable (blocks_of ts)
    → AllZip IsEncodedTable (blocks_of ts) (blocks_of us) → HoldEncoded us ts
hold_encoded ts us ok h read =
    let rows = read_rows (blocks_of ts) (blocks_of us) read in
    record { kinds = read_kinds (blocks_of ts) (blocks_of us) read; rows = rows; fit = subst FitTables (sym rows) (held (blocks_of ts) ok h) }
