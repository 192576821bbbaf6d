-- The tables' rows in the guess world: what they stand for, and that they have the columns' kinds.
use Rattle.std.specs.Prelude.{◌≡◌, ℕ, zero, suc, ◌+◌, ◌==◌, not, cond, Bool, true, false, List, [], ◌∷◌, ◌++◌, length, map, filter_map, Option, Some, None, option_and_then, option_map, slice_get, is_some}
use Rattle.std.specs.List.{AllByRecursion, AllZip, cons_option, list_all}
use Rattle.std.proofs.Common.{refl, sym, ◌∙◌, ap, subst}
use Rattle.std.proofs.lemmas.Bool.{and_parts}
use Rattle.std.proofs.lemmas.List.{length-map}
use Rattle.au_value.specs.declared.kinds.Kind.{Kind}
use Rattle.au_value.specs.declared.value.Value.{Value}
use Rattle.au_value.specs.Order.{data_kind}
use Rattle.au_value.specs.Ranges.{Span, guesses}
use Rattle.au_expr.specs.Ordinary.{IsKind}
use Rattle.au_algebra.specs.Counted.{CountedRow, StandsFor, occurring}
use Rattle.au_algebra.specs.Entries.{entry}
use Rattle.au_algebra.specs.Fits.{certain_rows, numbers}
use Rattle.au_algebra.specs.Lists.{copies}
use Rattle.au_algebra.specs.Ordinary.{Rows}
use Rattle.au_algebra.specs.Trees.{Tree}
use Rattle.au_algebra.specs.Typing.{kinds_of}
use Rattle.au_algebra.proofs.Copies.{copies-append}
use Rattle.au_algebra.proofs.Counted.{count_of-if}
use Rattle.au_blocks.specs.Blocks.{Candidate, Choices}
use Rattle.au_blocks.specs.Tables.{BlockTable, IsBlockTable, column_kinds, fits_kinds, is_range_of}
use Rattle.au_blocks.specs.Worlds.{Taken, chosen, guess_choice, guess_world, rows_in, taken, tables_in}
use Rattle.au_translate.specs.Translate.{counted_row, guessed_blocks, guessed_table}
use Rattle.au_translate.proofs.Alternatives.{is_of}
use Rattle.au_translate.proofs.BlockRelation.{copies_repeated}
use Rattle.au_keval.specs.Reading as reading
use Rattle.au_kfull.specs.Embedding.{embedded}
use Rattle.au_kfull.specs.Typed.{HasValueKinds, IsTypedOverValues}
use Rattle.au_blocks.specs.declared.column.Column.{Column}
use Rattle.au_engine.specs.CountedTables.{HaveColumns}

-- ---- what the rows stand for

-- one choice more
stand_one : (o : Option Taken) (rest : List CountedRow) (world : Rows) → StandsFor (occurring rest) world → StandsFor (occurring (cons_option (counted_row o) rest)) (chosen o ++ world)
stand_one None rest world h v = h v
stand_one (Some t) rest world h v =
    copies-append v (chosen (Some t)) world ∙ ap (λ n. n + copies v world) (copies_repeated v t.row t.count)
    ∙ sym (count_of-if (t.count == 0) v (entry t.row t.count) (occurring rest) (copies v world) refl (sym (h v)))

blocks_stand : (bs : List Choices) → StandsFor (guessed_blocks bs) (rows_in bs (map guess_choice bs))
blocks_stand [] v = refl
blocks_stand (b ∷ bs) v = stand_one (guess_choice b) (filter_map (λ c. counted_row (guess_choice c)) bs) (rows_in bs (map guess_choice bs)) (blocks_stand bs) v

pub all_stand : (ts : List BlockTable) → AllZip StandsFor (map guessed_table ts) (tables_in ts (guess_world ts))
all_stand [] = tt
all_stand (t ∷ ts) = (blocks_stand t.blocks, all_stand ts)

-- ---- no row without a copy

row_again : (b : Bool) (r : CountedRow) (rows : List CountedRow) → not (r.annot == 0) ≡ b → occurring rows ≡ rows → occurring (cond b (r ∷ rows) rows) ≡ cond b (r ∷ rows) rows
row_again true r rows e h = rw (e, h) refl
row_again false r rows e h = h

occurring_again : (rows : List CountedRow) → occurring (occurring rows) ≡ occurring rows
occurring_again [] = refl
occurring_again (r ∷ rows) = row_again (not (r.annot == 0)) r (occurring rows) refl (occurring_again rows)

are_present : (ts : List BlockTable) → map occurring (map guessed_table ts) ≡ map guessed_table ts
are_present [] = refl
are_present (t ∷ ts) = λ i. occurring_again (filter_map (λ b. counted_row (guess_choice b)) t.blocks) i ∷ are_present ts i

-- the numbers of a tree over them
pub present_numbers : (q : Tree) (ts : List BlockTable) (rows : List (List CountedRow)) → rows ≡ map guessed_table ts
    → (map occurring rows ≡ rows → numbers q (map embedded rows) ≡ numbers q (map certain_rows rows)) → numbers q (map embedded rows) ≡ numbers q (map certain_rows (map guessed_table ts))
present_numbers q ts rows same h = h (ap (map occurring) same ∙ are_present ts ∙ sym same) ∙ ap (λ given. numbers q (map certain_rows given)) same

-- ---- their kinds

row_kinds : (ks : List Kind) (cells : List Span) → fits_kinds ks cells ≡ true → AllZip IsKind ks (guesses cells)
row_kinds [] [] h = tt
row_kinds [] (r ∷ cells) h = cc
row_kinds (k ∷ ks) [] h = cc
row_kinds (k ∷ ks) (r ∷ cells) h =
    let p = and_parts (is_range_of k r) (fits_kinds ks cells) h in
    ((is_of k r p.0).sg, row_kinds ks cells p.1)

abbrev IsValues : List Kind → List CountedRow → Type 0
IsValues ks rows = reading.IsRelationOver IsKind (λ n. Unit {0}) ks rows

-- what is guessed of a block has the kinds
abbrev ValuesIn : List Kind → Option CountedRow → Type 0
ValuesIn ks None = Unit {0}
ValuesIn ks (Some r) = AllZip IsKind ks r.cells

picked_kinds : (ks : List Kind) (cs : List Candidate) → list_all (λ a. fits_kinds ks a.cells) cs ≡ true → (i : ℕ) (n : ℕ)
    → ValuesIn ks (counted_row (option_map (λ a. taken n (guesses a.cells) a.copies.guess) (slice_get cs i)))
picked_kinds ks [] h i n = tt
picked_kinds ks (a ∷ cs) h zero n = row_kinds ks a.cells (and_parts (fits_kinds ks a.cells) (list_all (λ c. fits_kinds ks c.cells) cs) h).0
picked_kinds ks (a ∷ cs) h (suc i) n = picked_kinds ks cs (and_parts (fits_kinds ks a.cells) (list_all (λ c. fits_kinds ks c.cells) cs) h).1 i n

marked_kinds : (ks : List Kind) (cs : List Candidate) (guess : Option ℕ) → list_all (λ a. fits_kinds ks a.cells) cs ≡ true
    → ValuesIn ks (counted_row (option_and_then (λ i. option_map (λ a. taken i (guesses a.cells) a.copies.guess) (slice_get cs i)) guess))
marked_kinds ks cs None h = tt
marked_kinds ks cs (Some i) h = picked_kinds ks cs h i i

row_more : (ks : List Kind) (r : CountedRow) (b : Bool) (rows : List CountedRow) → AllZip IsKind ks r.cells → IsValues ks rows → IsValues ks (cond b (r ∷ rows) rows)
row_more ks r true rows own rest = (record { cells = own; annot = tt }, rest)
row_more ks r false rows own rest = rest

values_more : (ks : List Kind) (o : Option CountedRow) (rows : List CountedRow) → ValuesIn ks o → IsValues ks (occurring rows) → IsValues ks (occurring (cons_option o rows))
values_more ks None rows own rest = rest
values_more ks (Some r) rows own rest = row_more ks r (not (r.annot == 0)) (occurring rows) own rest

blocks_kinds : (ks : List Kind) (bs : List Choices) → list_all (λ b. list_all (λ a. fits_kinds ks a.cells) b.alternatives) bs ≡ true → IsValues ks (guessed_blocks bs)
blocks_kinds ks [] h = tt
blocks_kinds ks (b ∷ bs) h =
    let p = and_parts (list_all (λ a. fits_kinds ks a.cells) b.alternatives) (list_all (λ c. list_all (λ a. fits_kinds ks a.cells) c.alternatives) bs) h in
    values_more ks (counted_row (guess_choice b)) (filter_map (λ c. counted_row (guess_choice c)) bs) (marked_kinds ks b.alternatives b.guess p.0) (blocks_kinds ks bs p.1)

pub tables_kinds : (ts : List BlockTable) → AllByRecursion IsBlockTable ts → AllZip IsValues (map column_kinds ts) (map guessed_table ts)
tables_kinds [] h = tt
tables_kinds (t ∷ ts) h = (blocks_kinds (column_kinds t) t.blocks h.0.table.rows, tables_kinds ts h.1)

pub can_guess : (ts : List BlockTable) (q : Tree) (ks : List Kind) (rows : List (List CountedRow)) → kinds_of (map column_kinds ts) q ≡ Some ks
    → rows ≡ map guessed_table ts → AllByRecursion IsBlockTable ts → IsTypedOverValues q rows
can_guess ts q ks rows typed e ok = (map column_kinds ts, ap is_some typed, subst (AllZip IsValues (map column_kinds ts)) (sym e) (tables_kinds ts ok))

-- ---- and their widths

same_length : (ks : List Kind) (row : List Value) → AllZip IsKind ks row → length row ≡ length ks
same_length [] [] h = refl
same_length [] (v ∷ row) h = elim h [ ]
same_length (k ∷ ks) [] h = elim h [ ]
same_length (k ∷ ks) (v ∷ row) h = ap suc (same_length ks row h.1)

widths : (ks : List Kind) (n : ℕ) (rows : List CountedRow) → length ks ≡ n → IsValues ks rows → AllByRecursion (λ r. length r.cells ≡ n) rows
widths ks n [] e h = tt
widths ks n (r ∷ rows) e h = (same_length ks r.cells h.0.cells ∙ e, widths ks n rows e h.1)

pub guess_columns : (ts : List BlockTable) (q : Tree) (kinds : List Kind) (given : List (List CountedRow)) (found : List CountedRow)
    → kinds_of (map column_kinds ts) q ≡ Some (map data_kind kinds) → given ≡ map guessed_table ts → AllByRecursion IsBlockTable ts → HasValueKinds q given found → HaveColumns kinds found
guess_columns ts q kinds given found typed e ok has =
    let held : AllZip IsValues (map column_kinds ts) given = subst (AllZip IsValues (map column_kinds ts)) (sym e) (tables_kinds ts ok) in
    widths (map data_kind kinds) (length kinds) found (length-map kinds data_kind) (has (map column_kinds ts) (map data_kind kinds) held typed)

-- as many values as the columns have names
pub named_columns : (names : List (List ℕ)) (kinds : List Kind) (columns : List Column) (found : List CountedRow)
    → names ≡ map (λ c. c.name) columns → kinds ≡ map (λ c. c.kind) columns → HaveColumns kinds found → AllByRecursion (λ r. length r.cells ≡ length names) found
named_columns names kinds columns found named are h =
    let wide : length kinds ≡ length names = ap length are ∙ length-map columns (λ c. c.kind) ∙ sym (ap length named ∙ length-map columns (λ c. c.name)) in
    subst (λ n. AllByRecursion (λ (r : CountedRow). length r.cells ≡ n) found) wide h
