-- The tables' rows in the guess world: what stands there of a block, and that the rows have the columns' kinds.
use Rattle.std.specs.Prelude.{◌≡◌, ℕ, zero, suc, true, List, [], ◌∷◌, map, replicate, Option, Some, None, option_and_then, option_map, slice_get}
use Rattle.std.specs.List.{AllByRecursion, AllZip, list_all}
use Rattle.std.proofs.Common.{refl}
use Rattle.std.proofs.lemmas.Bool.{and_parts}
use Rattle.au_value.specs.declared.kinds.Kind.{Kind}
use Rattle.au_value.specs.Order.{kind_of}
use Rattle.au_value.specs.Ranges.{Span, guesses}
use Rattle.au_algebra.proofs.Each.{all_append}
use Rattle.au_blocks.specs.Blocks.{Candidate, Choices}
use Rattle.au_blocks.specs.Tables.{BlockTable, IsBlockTable, column_kinds, fits_kinds, is_range_of}
use Rattle.au_blocks.specs.Worlds.{chosen, guess_choice, guess_world, rows_in, taken, tables_in}
use Rattle.au_plain.specs.PlanKinds.{HaveKinds}
use Rattle.au_translate.proofs.Alternatives.{is_of}

-- a fact of a row is one of its copies
pub all_copies : {A : Type 0} (P : A → Type 0) (n : ℕ) (x : A) → P x → AllByRecursion P (replicate n x)
all_copies P zero x h = tt
all_copies P (suc n) x h = (h, all_copies P n x h)

-- ---- kinds

row_kinds : (ks : List Kind) (cells : List Span) → fits_kinds ks cells ≡ true → map kind_of (guesses cells) ≡ ks
row_kinds [] [] h = refl
row_kinds [] (r ∷ cells) h = cc
row_kinds (k ∷ ks) [] h = cc
row_kinds (k ∷ ks) (r ∷ cells) h =
    let p = and_parts (is_range_of k r) (fits_kinds ks cells) h in
    λ i. (is_of k r p.0).sg i ∷ row_kinds ks cells p.1 i

picked_kinds : (ks : List Kind) (cs : List Candidate) → list_all (λ a. fits_kinds ks a.cells) cs ≡ true → (i : ℕ) (n : ℕ)
    → HaveKinds ks (chosen (option_map (λ a. taken n (guesses a.cells) a.copies.guess) (slice_get cs i)))
picked_kinds ks [] h i n = tt
picked_kinds ks (a ∷ cs) h zero n =
    all_copies (λ row. map kind_of row ≡ ks) a.copies.guess (guesses a.cells)
    (row_kinds ks a.cells (and_parts (fits_kinds ks a.cells) (list_all (λ c. fits_kinds ks c.cells) cs) h).0)
picked_kinds ks (a ∷ cs) h (suc i) n = picked_kinds ks cs (and_parts (fits_kinds ks a.cells) (list_all (λ c. fits_kinds ks c.cells) cs) h).1 i n

marked_kinds : (ks : List Kind) (cs : List Candidate) (guess : Option ℕ) → list_all (λ a. fits_kinds ks a.cells) cs ≡ true
    → HaveKinds ks (chosen (option_and_then (λ i. option_map (λ a. taken i (guesses a.cells) a.copies.guess) (slice_get cs i)) guess))
marked_kinds ks cs None h = tt
marked_kinds ks cs (Some i) h = picked_kinds ks cs h i i

blocks_kinds : (ks : List Kind) (bs : List Choices) → list_all (λ b. list_all (λ a. fits_kinds ks a.cells) b.alternatives) bs ≡ true → HaveKinds ks (rows_in bs (map guess_choice bs))
blocks_kinds ks [] h = tt
blocks_kinds ks (b ∷ bs) h =
    let p = and_parts (list_all (λ a. fits_kinds ks a.cells) b.alternatives) (list_all (λ c. list_all (λ a. fits_kinds ks a.cells) c.alternatives) bs) h in
    all_append (λ row. map kind_of row ≡ ks) (chosen (guess_choice b)) (rows_in bs (map guess_choice bs)) (marked_kinds ks b.alternatives b.guess p.0) (blocks_kinds ks bs p.1)

pub guesses_have_kinds : (ts : List BlockTable) → AllByRecursion IsBlockTable ts → AllZip HaveKinds (map column_kinds ts) (tables_in ts (guess_world ts))
guesses_have_kinds [] h = tt
guesses_have_kinds (t ∷ ts) h = (blocks_kinds (column_kinds t) t.blocks h.0.table.rows, guesses_have_kinds ts h.1)
