-- Rows that are put together of ranges and counts.
use Rattle.std.specs.Prelude.{◌≡◌, ℕ, zero, suc, ◌+◌, ◌*◌, ◌<◌, List, [], ◌∷◌, ◌++◌, get_or, length, map, replicate, ℤ, pos}
use Rattle.std.specs.List.{AllByRecursion, range_with_len}
use Rattle.std.proofs.Common.{refl, sym, ◌∙◌, ap, subst, arith, append_assoc}
use Rattle.std.proofs.lemmas.List.{get_or-map, length-map, map-append}
use Rattle.au_annot.specs.Triples.{Counts}
use Rattle.au_expr.specs.Ordinary.{number}
use Rattle.au_algebra.specs.Entries.{entry}
use Rattle.au_codes.specs.Codes.{Cells, CellRows}
use Rattle.au_codes.specs.CellMeaning.{cell_in, cells_kept}
use Rattle.au_columns.specs.Batches.{beside, rows_beside, rows_in}
use Rattle.au_columns.specs.Steps.{AreBelow}
use Rattle.au_encode.specs.Encode.{encode_cells, encode_counts}
use Rattle.au_settled.specs.Settled.{numbers_of}
use Rattle.au_settled.specs.declared.gathering.Part.{Part}
use Rattle.au_settled.specs.declared.gathering.Part.TheVariants.{Guess, Most}
use Rattle.au_settled.specs.Counted.{counted, part_in, parts_of}
use Rattle.au_settled.specs.Places.{placed_row, spans_at}
use Rattle.au_settled.proofs.Spans.{three_more}
use Rattle.au_settled.proofs.Pass.{Placed}

-- the numbers of the ranges from a place on
numbers_kept : (i c : ℕ) (row : Cells) → cells_kept (range_with_len i (3 * c)) row ≡ map number (encode_cells (spans_at i c row))
numbers_kept i zero row = refl
numbers_kept i (suc c) row =
    let one : i + 1 ≡ suc i = omega arith in
    let two : i + 1 + 1 ≡ suc (suc i) = omega arith in
    let three : i + 1 + 1 + 1 ≡ suc (suc (suc i)) = omega arith in
    ap (λ n. cells_kept (range_with_len i n) row) (three_more c)
    ∙ (λ k. cell_in row i ∷ cell_in row (one k) ∷ cell_in row (two k) ∷ cells_kept (range_with_len (three k) (3 * c)) row)
    ∙ ap (λ (zs : Cells). cell_in row i ∷ cell_in row (suc i) ∷ cell_in row (suc (suc i)) ∷ zs) (numbers_kept (suc (suc (suc i))) c row)

-- a row with its counts
row_made : (c : ℕ) (row : Cells) (t : Counts) → ((cells_kept (range_with_len 0 (3 * c)) row ++ pos t.least ∷ []) ++ pos t.guess ∷ []) ++ pos t.most ∷ [] ≡ numbers_of (entry (spans_at 0 c row) t)
row_made c row t =
    let kept = cells_kept (range_with_len 0 (3 * c)) row in
    append_assoc (kept ++ pos t.least ∷ []) (pos t.guess ∷ []) (pos t.most ∷ [])
    ∙ append_assoc kept (pos t.least ∷ []) (pos t.guess ∷ pos t.most ∷ [])
    ∙ ap (λ (zs : Cells). zs ++ pos t.least ∷ pos t.guess ∷ pos t.most ∷ []) (numbers_kept 0 c row)
    ∙ sym (map-append number (encode_cells (spans_at 0 c row)) (encode_counts t))

-- a number behind each row
beside_mapped : {X : Type 0} (f : X → Cells) (g : X → ℤ) (xs : List X) → beside (map f xs) (map g xs) ≡ map (λ x. f x ++ g x ∷ []) xs
beside_mapped f g [] = refl
beside_mapped f g (x ∷ xs) = ap (λ (l : CellRows). (f x ++ g x ∷ []) ∷ l) (beside_mapped f g xs)

-- rows that are kept in part, at some places
kept_in : (f : Cells → Cells) (rows : CellRows) (runs : List Placed) → AllByRecursion (λ r. r.0 < length rows) runs → rows_in (map f rows) (map (λ (r : Placed). r.0) runs) ≡ map (λ (r : Placed). f (get_or rows r.0 [])) runs
kept_in f rows [] h = refl
kept_in f rows (r ∷ runs) h =
    let here : get_or (map f rows) r.0 [] ≡ f (get_or rows r.0 []) = get_or-map f rows r.0 [] [] h.0 in
    let rest = kept_in f rows runs h.1 in
    λ i. here i ∷ rest i

pub kept_long : (f : Cells → Cells) (rows : CellRows) (runs : List Placed) → length (rows_in (map f rows) (map (λ (r : Placed). r.0) runs)) ≡ length runs
kept_long f rows runs = length-map (map (λ (r : Placed). r.0) runs) (λ p. get_or (map f rows) p []) ∙ length-map runs (λ (r : Placed). r.0)

rows_made : (c : ℕ) (rows : CellRows) (runs : List Placed) → map (λ (r : Placed). ((cells_kept (range_with_len 0 (3 * c)) (get_or rows r.0 []) ++ pos r.1.least ∷ []) ++ pos r.1.guess ∷ []) ++ pos r.1.most ∷ []) runs ≡ map numbers_of (map (placed_row c rows) runs)
rows_made c rows [] = refl
rows_made c rows (r ∷ runs) =
    let here = row_made c (get_or rows r.0 []) r.1 in
    let rest = rows_made c rows runs in
    λ i. here i ∷ rest i

-- the rows of some places, each with the triple beside its place
pub gathered_is : (c : ℕ) (rows : CellRows) (runs : List Placed) → AllByRecursion (λ r. r.0 < length rows) runs → counted (rows_in (map (cells_kept (range_with_len 0 (3 * c))) rows) (map (λ (r : Placed). r.0) runs)) runs ≡ map numbers_of (map (placed_row c rows) runs)
gathered_is c rows runs h =
    let kept = λ (r : Placed). cells_kept (range_with_len 0 (3 * c)) (get_or rows r.0 []) in
    ap (λ (rs : CellRows). counted rs runs) (kept_in (cells_kept (range_with_len 0 (3 * c))) rows runs h)
    ∙ ap (λ (rs : CellRows). beside (beside rs (parts_of Guess runs)) (parts_of Most runs)) (beside_mapped kept (λ (r : Placed). pos r.1.least) runs)
    ∙ ap (λ (rs : CellRows). beside rs (parts_of Most runs)) (beside_mapped (λ (r : Placed). kept r ++ pos r.1.least ∷ []) (λ (r : Placed). pos r.1.guess) runs)
    ∙ beside_mapped (λ (r : Placed). (kept r ++ pos r.1.least ∷ []) ++ pos r.1.guess ∷ []) (λ (r : Placed). pos r.1.most) runs
    ∙ rows_made c rows runs

-- rows beside rows without numbers
nothing_at : (n p : ℕ) → get_or (replicate {A = Cells} n []) p [] ≡ []
nothing_at zero p = refl
nothing_at (suc n) zero = refl
nothing_at (suc n) (suc p) = nothing_at n p

pub beside_nothing : (n : ℕ) (rows : CellRows) (places : List ℕ) → rows_beside (rows_in (replicate {A = Cells} n []) places) (rows_in rows places) ≡ rows_in rows places
beside_nothing n rows [] = refl
beside_nothing n rows (p ∷ places) = λ i. (nothing_at n p i ++ get_or rows p []) ∷ beside_nothing n rows places i

-- ---- as many rows as before

length_beside : (rows : CellRows) (zs : List ℤ) → length zs ≡ length rows → length (beside rows zs) ≡ length rows
length_beside [] zs len = refl
length_beside (row ∷ rows) [] len = absurd (omega (arith, len))
length_beside (row ∷ rows) (z ∷ zs) len = ap suc (length_beside rows zs (omega (arith, len)))

pub parts_long : (part : Part) (runs : List Placed) (zs : List ℤ) → zs ≡ parts_of part runs → length zs ≡ length runs
parts_long part runs zs is = ap length is ∙ length-map runs (λ (r : Placed). part_in part r.1)

pub more_long : (part : Part) (runs : List Placed) (zs : List ℤ) (rows more : CellRows) → zs ≡ parts_of part runs → more ≡ beside rows zs → length rows ≡ length runs → length more ≡ length runs
more_long part runs zs rows more is put len =
    let long = parts_long part runs zs is in
    ap length put ∙ length_beside rows zs (long ∙ sym len) ∙ len

-- the places of rows that lie below a bound
each_run : (n : ℕ) (runs : List Placed) → AllByRecursion (λ r. r.0 < n) runs → (k : ℕ) → k < length (map (λ (r : Placed). r.0) runs) → get_or (map (λ (r : Placed). r.0) runs) k 0 < n
each_run n [] h k within = absurd (omega (arith, within))
each_run n (r ∷ runs) h zero within = h.0
each_run n (r ∷ runs) h (suc k) within = each_run n runs h.1 k (omega (arith, within))

pub runs_below : (f : Cells → Cells) (rows values : CellRows) (runs : List Placed) (places : List ℕ) → values ≡ map f rows → places ≡ map (λ (r : Placed). r.0) runs → AllByRecursion (λ r. r.0 < length rows) runs → AreBelow places (length values)
runs_below f rows values runs places is are h =
    let long : length rows ≡ length values = sym (ap length is ∙ length-map rows f) in
    subst (λ (ps : List ℕ). AreBelow ps (length values)) (sym are) (subst (λ n. AreBelow (map (λ (r : Placed). r.0) runs) n) long (each_run (length rows) runs h))

-- all of them, put together
pub all_gathered : (c : ℕ) (rows values kept : CellRows) (runs : List Placed) (places ends : List ℕ) → ends ≡ range_with_len 0 (3 * c) → values ≡ map (cells_kept ends) rows → places ≡ map (λ (r : Placed). r.0) runs → kept ≡ rows_in values places → AllByRecursion (λ r. r.0 < length rows) runs → counted kept runs ≡ map numbers_of (map (placed_row c rows) runs)
all_gathered c rows values kept runs places ends to is are taken h =
    ap (λ (rs : CellRows). counted rs runs)
    (taken ∙ (λ i. rows_in ((is ∙ ap (λ (ps : List ℕ). map (cells_kept ps) rows) to) i) (are i)))
    ∙ gathered_is c rows runs h
