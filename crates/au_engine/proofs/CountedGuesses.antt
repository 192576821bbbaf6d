-- The rows of the guess world with their numbers of copies: as inputs, and what rows that are found over them stand for.
use Rattle.std.specs.Prelude.{◌≡◌, is_some, List, [], ◌∷◌, length, map, Some}
use Rattle.std.specs.List.{AllByRecursion, AllZip}
use Rattle.std.proofs.Common.{refl, sym, ◌∙◌, ap, subst}
use Rattle.std.proofs.lemmas.List.{length-map}
use Rattle.au_value.specs.declared.kinds.Kind.{Kind}
use Rattle.au_value.specs.Order.{data_kind}
use Rattle.au_expr.specs.Ordinary.{IsKind}
use Rattle.au_blocks.specs.Tables.{BlockTable, IsBlockTable, column_kinds}
use Rattle.au_blocks.specs.Worlds.{guess_world, tables_in}
use Rattle.au_algebra.specs.Counted.{CountedRow, StandsFor, count_of}
use Rattle.au_algebra.specs.Ordinary.{Rows, answer}
use Rattle.au_algebra.specs.Trees.{Tree}
use Rattle.au_algebra.specs.Typing.{kinds_of}
use Rattle.au_keval.specs.Reading as reading
use Rattle.au_rwcounted.specs.Answers.{counted_answer}
use Rattle.au_rwcounted.specs.CountedRows.{AreCountsRows, CountsRow, HoldCounts, counts_rows, one_count}
use Rattle.au_rwcounted.specs.Stands.{CopiesAt, HaveCounts, copies_at}
use Rattle.au_rwcounted.proofs.AnswerStands.{all_answers_stand}
use Rattle.au_rwcounted.proofs.CountsHold.{count_at_place}
use Rattle.au_translate.specs.Translate.{guessed_table}
use Rattle.au_engine.specs.CountedInputs.{AreCounted, FindsCounted, FoundRows}
use Rattle.au_engine.specs.CountedTables.{HaveColumns, counted_guesses, guessed_counts}
use Rattle.au_engine.proofs.CountedFound.{hold_counts, made_columns, made_stand}
use Rattle.au_engine.proofs.GuessTables.{all_stand, tables_kinds}

-- ---- the tables as inputs

abbrev IsValues : List Kind → List CountedRow → Type 0
IsValues ks rows = reading.IsRelationOver IsKind (λ n. Unit {0}) ks rows

one_counts : (ks : List Kind) (rows : List CountedRow) → IsValues ks rows → AreCountsRows 1 ks (map one_count rows)
one_counts ks [] h = tt
one_counts ks (r ∷ rows) h = (record { cells = h.0.cells; counts = refl }, one_counts ks rows h.1)

abbrev tables_of : List BlockTable → List (List CountsRow)
tables_of ts = map (λ t. guessed_counts t.blocks) ts

relations : (kinds : List (List Kind)) (ts : List BlockTable) → AllZip IsValues kinds (map guessed_table ts) → AllZip (AreCountsRows 1) kinds (tables_of ts)
relations [] [] z = tt
relations [] (t ∷ ts) z = elim z [ ]
relations (ks ∷ kinds) [] z = elim z [ ]
relations (ks ∷ kinds) (t ∷ ts) z = (one_counts ks (guessed_table t) z.0, relations kinds ts z.1)

same_inputs : (ts : List BlockTable) → map counts_rows (tables_of ts) ≡ map (λ t. counted_guesses t.blocks) ts
same_inputs [] = refl
same_inputs (t ∷ ts) = ap (λ rest. counted_guesses t.blocks ∷ rest) (same_inputs ts)

pub are_counted : (ts : List BlockTable) (inputs : List Rows) → inputs ≡ map (λ t. counted_guesses t.blocks) ts → AllByRecursion IsBlockTable ts → AreCounted 1 (map column_kinds ts) inputs
are_counted ts inputs is ok = record {
  tables = tables_of ts;
  relations = relations (map column_kinds ts) ts (tables_kinds ts ok);
  are = same_inputs ts ∙ sym is;
}

-- ---- they stand for the guess world

one_each : (ts : List BlockTable) → AllByRecursion (HaveCounts 1) (tables_of ts)
one_each [] = tt
one_each (t ∷ ts) = (ones (guessed_table t), one_each ts)
  where
    ones : (rows : List CountedRow) → HaveCounts 1 (map one_count rows)
    ones [] = tt
    ones (r ∷ rows) = (refl, ones rows)

again : (rows : List CountedRow) → copies_at 0 (map one_count rows) ≡ rows
again [] = refl
again (r ∷ rows) = ap (λ rest. r ∷ rest) (again rows)

copies_here : (rows : List CountedRow) (w : Rows) → StandsFor rows w → CopiesAt 0 (map one_count rows) w
copies_here rows w stands v = sym (count_at_place 0 (map one_count rows) v) ∙ ap (λ rs. count_of rs v) (again rows) ∙ sym (stands v)

all_copies : (ts : List BlockTable) (ws : List Rows) → AllZip StandsFor (map guessed_table ts) ws → AllZip (CopiesAt 0) (tables_of ts) ws
all_copies [] [] z = tt
all_copies [] (w ∷ ws) z = elim z [ ]
all_copies (t ∷ ts) [] z = elim z [ ]
all_copies (t ∷ ts) (w ∷ ws) z = (copies_here (guessed_table t) w z.0, all_copies ts ws z.1)

-- ---- a tree over the guess world

module _ (ts : List BlockTable) (ok : AllByRecursion IsBlockTable ts) (q : Tree) (kinds : List Kind) (typed : kinds_of (map column_kinds ts) q ≡ Some (map data_kind kinds))
    (inputs : List Rows) (are : inputs ≡ map (λ t. counted_guesses t.blocks) ts) (found : Rows) (finds : FindsCounted 1 (map column_kinds ts) q inputs found)
  where
    own : FoundRows 1 (map data_kind kinds) (counted_answer q (tables_of ts)) found
    own = finds (tables_of ts) (map data_kind kinds) (relations (map column_kinds ts) ts (tables_kinds ts ok)) (same_inputs ts ∙ sym are) typed

    pub guess_counts_hold : HoldCounts found
    guess_counts_hold = hold_counts (map data_kind kinds) (counted_answer q (tables_of ts)) found own

    module _ (made : List CountedRow) (is : counts_rows (map one_count made) ≡ found) where
      pub guess_columns_made : HaveColumns kinds made
      guess_columns_made =
          subst (λ n. AllByRecursion (λ (r : CountedRow). length r.cells ≡ n) made) (length-map kinds data_kind)
          (made_columns (map data_kind kinds) (counted_answer q (tables_of ts)) found own made is)

      pub guess_rows_stand : StandsFor made (answer q (tables_in ts (guess_world ts)))
      guess_rows_stand =
          made_stand (map data_kind kinds) (counted_answer q (tables_of ts)) found own made is (answer q (tables_in ts (guess_world ts)))
          (all_answers_stand q (map column_kinds ts) (tables_of ts) (tables_in ts (guess_world ts)) (ap is_some typed) (one_each ts)
          (all_copies ts (tables_in ts (guess_world ts)) (all_stand ts)))
