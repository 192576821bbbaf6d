-- Rows of columns: how many there are, and what they become when columns are added, kept or gathered.
use Rattle.std.specs.Prelude.{◌≡◌, ◌<◌, ◌+◌, ℕ, zero, suc, Bool, true, false, cond, List, [], ◌∷◌, ◌++◌, length, map, filter, get_or, replicate, ℤ, pos, if◌then◌else◌}
use Rattle.std.specs.List.{range_with_len}
use Rattle.std.proofs.Common.{refl, sym, ap, ◌∙◌, arith}
use Rattle.std.proofs.lemmas.List.{ext_get_or, get_or-map, length-map, length-replicate, map_push}
use Rattle.std.proofs.lemmas.List.FromFn.{get_or-map-range_with_len, length-map-range_with_len}
use Rattle.au_plain.specs.PTerms.{PTerm}
use Rattle.au_plain.specs.PTerms as term
use Rattle.au_codes.specs.Codes.{Cells, CellRows}
use Rattle.au_codes.specs.CellMeaning.{cell_in, cell_value, cells_extended, cells_kept, cells_pass, truth}
use Rattle.au_codes.specs.Careful.{careful, fitting}
use Rattle.au_columns.specs.Steps.{AllFit, number_at}
use Rattle.au_columns.specs.Evaluated.{Gives}
use Rattle.au_columns.proofs.Held.{held_fits}
use Rattle.au_columns.specs.Batches.{AreLong, beside, places_where, row_at, rows_of, rows_where}

-- how many rows there are
pub rows_count : (n : ℕ) (cs : List (List ℤ)) → length (rows_of n cs) ≡ n
rows_count n cs = length-map-range_with_len (row_at cs) 0 n

-- the row at a place
pub row_of : (n i : ℕ) (cs : List (List ℤ)) → i < n → get_or (rows_of n cs) i [] ≡ row_at cs i
row_of n i cs below = let e : 0 + i ≡ i = omega arith in get_or-map-range_with_len (row_at cs) 0 n i i [] below e

empty_rows : (a n : ℕ) → map (row_at []) (range_with_len a n) ≡ replicate n []
empty_rows a zero = refl
empty_rows a (suc n) = ap (λ (l : CellRows). [] ∷ l) (empty_rows (a + 1) n)

-- without columns
pub no_columns : (n : ℕ) → rows_of n [] ≡ replicate n []
no_columns n = empty_rows 0 n

-- numbers beside rows
length_beside : (rows : CellRows) (zs : List ℤ) → length zs ≡ length rows → length (beside rows zs) ≡ length rows
length_beside [] zs len = refl
length_beside (row ∷ rows) [] len = let never : ⊥ = omega (arith, len) in absurd never
length_beside (row ∷ rows) (z ∷ zs) len = ap suc (length_beside rows zs (omega (arith, len)))

beside_at : (rows : CellRows) (zs : List ℤ) (i : ℕ) → i < length rows → length zs ≡ length rows → get_or (beside rows zs) i [] ≡ get_or rows i [] ++ number_at zs i ∷ []
beside_at [] zs i below len = let never : ⊥ = omega (arith, below) in absurd never
beside_at (row ∷ rows) [] i below len = let never : ⊥ = omega (arith, len) in absurd never
beside_at (row ∷ rows) (z ∷ zs) zero below len = refl
beside_at (row ∷ rows) (z ∷ zs) (suc i) below len = beside_at rows zs i (omega (arith, below)) (omega (arith, len))

row_more : (cs : List (List ℤ)) (zs : List ℤ) (i : ℕ) → row_at (cs ++ zs ∷ []) i ≡ row_at cs i ++ number_at zs i ∷ []
row_more cs zs i = map_push (λ (column : List ℤ). number_at column i) cs zs

-- one column more
pub more_columns : (n : ℕ) (cs : List (List ℤ)) (zs : List ℤ) → length zs ≡ n → rows_of n (cs ++ zs ∷ []) ≡ beside (rows_of n cs) zs
more_columns n cs zs len =
    let count = rows_count n cs in
    let more = rows_count n (cs ++ zs ∷ []) in
    let alike : length zs ≡ length (rows_of n cs) = len ∙ sym count in
    ext_get_or [] (rows_of n (cs ++ zs ∷ [])) (beside (rows_of n cs) zs) (more ∙ sym (length_beside (rows_of n cs) zs alike ∙ count))
    (λ i below.
    let within : i < n = omega (arith, more, below) in
    let there : i < length (rows_of n cs) = omega (arith, count, within) in
    row_of n i (cs ++ zs ∷ []) within ∙ row_more cs zs i
    ∙ sym (beside_at (rows_of n cs) zs i there alike ∙ ap (λ (row : Cells). row ++ number_at zs i ∷ []) (row_of n i cs within)))

-- and of an expression's values
pub beside_extended : (e : PTerm) (rows : CellRows) → beside rows (map (cell_value e) rows) ≡ map (cells_extended e) rows
beside_extended e [] = refl
beside_extended e (row ∷ rows) = ap (λ (l : CellRows). (row ++ cell_value e row ∷ []) ∷ l) (beside_extended e rows)

zeros_at : (n i : ℕ) → number_at (replicate n (pos 0)) i ≡ pos 0
zeros_at zero i = refl
zeros_at (suc n) zero = refl
zeros_at (suc n) (suc i) = zeros_at n i

-- the cell in a column
pub cell_at : (cs : List (List ℤ)) (p i : ℕ) → cell_in (row_at cs i) p ≡ number_at (get_or cs p []) i
cell_at [] zero i = refl
cell_at [] (suc p) i = refl
cell_at (c ∷ cs) zero i = refl
cell_at (c ∷ cs) (suc p) i = cell_at cs p i

-- the same, where zeros stand for a column past the last
pub cell_or_zero : (n : ℕ) (cs : List (List ℤ)) (p i : ℕ) → cell_in (row_at cs i) p ≡ number_at (get_or cs p (replicate n (pos 0))) i
cell_or_zero n [] zero i = sym (zeros_at n i)
cell_or_zero n [] (suc p) i = sym (zeros_at n i)
cell_or_zero n (c ∷ cs) zero i = refl
cell_or_zero n (c ∷ cs) (suc p) i = cell_or_zero n cs p i

module _ (n : ℕ) (cs : List (List ℤ)) where
  abbrev pub column_at : ℕ → List ℤ
  column_at p = get_or cs p (replicate n (pos 0))

  kept_row : (places : List ℕ) (i : ℕ) → row_at (map column_at places) i ≡ cells_kept places (row_at cs i)
  kept_row [] i = refl
  kept_row (p ∷ places) i = λ j. sym (cell_or_zero n cs p i) j ∷ kept_row places i j

  kept_from : (places is : List ℕ) → map (row_at (map column_at places)) is ≡ map (cells_kept places) (map (row_at cs) is)
  kept_from places [] = refl
  kept_from places (i ∷ is) = λ j. kept_row places i j ∷ kept_from places is j

  -- columns that are kept
  pub kept_columns : (places : List ℕ) → rows_of n (map column_at places) ≡ map (cells_kept places) (rows_of n cs)
  kept_columns places = kept_from places (range_with_len 0 n)

  shared_from : (p : ℕ) (is : List ℕ) → map (row_at (cs ++ column_at p ∷ [])) is ≡ map (cells_extended (term.Column p)) (map (row_at cs) is)
  shared_from p [] = refl
  shared_from p (i ∷ is) =
      let first : row_at (cs ++ column_at p ∷ []) i ≡ row_at cs i ++ cell_in (row_at cs i) p ∷ [] =
      row_more cs (column_at p) i ∙ ap (λ (z : ℤ). row_at cs i ++ z ∷ []) (sym (cell_or_zero n cs p i)) in
      λ j. first j ∷ shared_from p is j

  -- a column once more
  pub shared_column : (p : ℕ) → rows_of n (cs ++ column_at p ∷ []) ≡ map (cells_extended (term.Column p)) (rows_of n cs)
  shared_column p = shared_from p (range_with_len 0 n)

pub gathered_row : (ps : List ℕ) (i : ℕ) → i < length ps → (cs : List (List ℤ)) → row_at (map (λ c. map (number_at c) ps) cs) i ≡ row_at cs (get_or ps i 0)
gathered_row ps i below [] = refl
gathered_row ps i below (c ∷ cs) = λ j. get_or-map (number_at c) ps i 0 (pos 0) below j ∷ gathered_row ps i below cs j

pub gathered_rows : (ps : List ℕ) (cs : List (List ℤ)) → rows_of (length ps) (map (λ c. map (number_at c) ps) cs) ≡ map (row_at cs) ps
gathered_rows ps cs =
    let taken = map (λ (c : List ℤ). map (number_at c) ps) cs in
    let count = rows_count (length ps) taken in
    ext_get_or [] (rows_of (length ps) taken) (map (row_at cs) ps) (count ∙ sym (length-map ps (row_at cs)))
    (λ i below.
    let within : i < length ps = omega (arith, count, below) in
    row_of (length ps) i taken within ∙ gathered_row ps i within cs ∙ sym (get_or-map (row_at cs) ps i 0 [] within))

where_if : (b : Bool) (f : ℕ → Cells) (a : ℕ) (ps : List ℕ) (rest : CellRows) → map f ps ≡ rest → map f (if b then a ∷ ps else ps) ≡ (if b then f a ∷ rest else rest)
where_if true f a ps rest e = ap (λ (l : CellRows). f a ∷ l) e
where_if false f a ps rest e = e

where_from : (cs : List (List ℤ)) (a : ℕ) (zs : List ℤ) → map (row_at cs) (places_where a zs) ≡ rows_where zs (map (row_at cs) (range_with_len a (length zs)))
where_from cs a [] = refl
where_from cs a (z ∷ zs) = where_if (truth z) (row_at cs) a (places_where (a + 1) zs) (rows_where zs (map (row_at cs) (range_with_len (a + 1) (length zs)))) (where_from cs (a + 1) zs)

-- the rows beside which true flags stand, by their places
pub where_true : (n : ℕ) (cs : List (List ℤ)) (zs : List ℤ) → length zs ≡ n → map (row_at cs) (places_where 0 zs) ≡ rows_where zs (rows_of n cs)
where_true n cs zs len = where_from cs 0 zs ∙ ap (λ m. rows_where zs (map (row_at cs) (range_with_len 0 m))) len

below_if : (b : Bool) (a n : ℕ) (ps : List ℕ) → ((k : ℕ) → k < length ps → get_or ps k 0 < (a + 1) + n) → (k : ℕ) → k < length (if b then a ∷ ps else ps) → get_or (if b then a ∷ ps else ps) k 0 < a + suc n
below_if true a n ps h zero l = omega arith
below_if true a n ps h (suc k) l = omega (arith, h k (omega (arith, l)))
below_if false a n ps h k l = omega (arith, h k l)

places_from : (a : ℕ) (zs : List ℤ) (k : ℕ) → k < length (places_where a zs) → get_or (places_where a zs) k 0 < a + length zs
places_from a [] k l = let never : ⊥ = omega (arith, l) in absurd never
places_from a (z ∷ zs) k l = below_if (truth z) a (length zs) (places_where (a + 1) zs) (places_from (a + 1) zs) k l

-- the places of flags lie within them
pub places_below : (zs : List ℤ) (k : ℕ) → k < length (places_where 0 zs) → get_or (places_where 0 zs) k 0 < length zs
places_below zs k l = omega (arith, places_from 0 zs k l)

-- rows beside which the values of an expression stand
pub where_passes : (e : PTerm) (rows : CellRows) → rows_where (map (cell_value e) rows) rows ≡ filter (cells_pass e) rows
where_passes e [] = refl
where_passes e (row ∷ rows) = ap (λ (l : CellRows). cond (truth (cell_value e row)) (row ∷ l) l) (where_passes e rows)

-- an item of columns that are long
pub item_long : {X : Type 0} (n : ℕ) (xs : List X) (i : ℕ) (x : X) (f : X → List ℤ) → AreLong n (map f xs) → i < length xs → x ≡ get_or xs i x → length (f x) ≡ n
item_long n xs i x f long below is =
    let within : i < length (map f xs) = omega (arith, length-map xs f, below) in
    ap length (ap f is ∙ sym (get_or-map f xs i x [] below)) ∙ long i within

-- a column more that is long
pub long_more : (n : ℕ) (cs : List (List ℤ)) (zs : List ℤ) → AreLong n cs → length zs ≡ n → (k : ℕ) → k < length (cs ++ zs ∷ []) → length (get_or (cs ++ zs ∷ []) k []) ≡ n
long_more n [] zs long len zero below = len
long_more n [] zs long len (suc k) below = let never : ⊥ = omega (arith, below) in absurd never
long_more n (c ∷ cs) zs long len zero below = long zero (omega arith)
long_more n (c ∷ cs) zs long len (suc k) below = long_more n cs zs (λ j l. long (suc j) (omega (arith, l))) len k (omega (arith, below))

-- a column, or zeros past the last, is long
pub long_at : (n : ℕ) (cs : List (List ℤ)) (p : ℕ) → AreLong n cs → length (get_or cs p (replicate n (pos 0))) ≡ n
long_at n [] p long = length-replicate n (pos 0)
long_at n (c ∷ cs) zero long = long zero (omega arith)
long_at n (c ∷ cs) (suc p) long = long_at n cs p (λ j l. long (suc j) (omega (arith, l)))

-- columns that are kept are long
pub kept_long : (n : ℕ) (cs : List (List ℤ)) (places : List ℕ) → AreLong n cs → (k : ℕ) → k < length (map (column_at n cs) places) → length (get_or (map (column_at n cs) places) k []) ≡ n
kept_long n cs [] long k below = let never : ⊥ = omega (arith, below) in absurd never
kept_long n cs (p ∷ places) long zero below = long_at n cs p long
kept_long n cs (p ∷ places) long (suc k) below = kept_long n cs places long k (omega (arith, below))

-- columns that are gathered are long
pub taken_long : (ps : List ℕ) (cs : List (List ℤ)) (k : ℕ) → k < length (map (λ c. map (number_at c) ps) cs) → length (get_or (map (λ c. map (number_at c) ps) cs) k []) ≡ length ps
taken_long ps [] k below = let never : ⊥ = omega (arith, below) in absurd never
taken_long ps (c ∷ cs) zero below = length-map ps (number_at c)
taken_long ps (c ∷ cs) (suc k) below = taken_long ps cs k (omega (arith, below))

-- a column has what an expression of its place gives
pub gives_column : (n : ℕ) (cs : List (List ℤ)) (p : ℕ) (zs : List ℤ) → AreLong n cs → zs ≡ column_at n cs p → AllFit zs → Gives (careful (term.Column p)) (rows_of n cs) zs
gives_column n cs p zs long is fits =
    let count = rows_count n cs in
    let len : length zs ≡ length (rows_of n cs) = ap length is ∙ long_at n cs p long ∙ sym count in
    record {
      len = len;
      each = λ i below.
          let within : i < n = omega (arith, count, below) in
          let there : i < length zs = omega (arith, len, below) in
          ap (λ (row : Cells). fitting (cell_in row p)) (row_of n i cs within)
          ∙ ap fitting (cell_or_zero n cs p i ∙ ap (λ (c : List ℤ). number_at c i) (sym is))
          ∙ sym (held_fits (number_at zs i) (fits i there));
    }
