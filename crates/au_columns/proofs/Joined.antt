-- Rows behind other rows, by columns.
use Rattle.std.specs.Prelude.{◌≡◌, ◌<◌, ◌≤◌, ◌+◌, ◌-◌, ℕ, zero, suc, Bool, true, false, nat_lt, List, [], ◌∷◌, ◌++◌, length, get_or, set, ℤ, pos}
use Rattle.std.specs.List.{AllByRecursion}
use Rattle.std.proofs.Common.{refl, sym, ap, ◌∙◌, arith, length-append}
use Rattle.std.proofs.lemmas.Bool.{ltb-false, ltb-true}
use Rattle.std.proofs.lemmas.List.{ext_get_or, get_or-append_right, get_or_append_left, length-map}
use Rattle.au_codes.specs.Codes.{Cells, CellRows}
use Rattle.au_columns.specs.Steps.{number_at}
use Rattle.au_columns.specs.Batches.{AreAlike, AreLong, joined, row_at, rows_of}
use Rattle.au_columns.proofs.Rows.{row_of, rows_count}

-- ---- one column more

pub length_joined : (n : ℕ) (cs ds : List (List ℤ)) → length (joined n cs ds) ≡ length cs
length_joined zero cs ds = refl
length_joined (suc n) [] ds = refl
length_joined (suc n) (c ∷ cs) [] = refl
length_joined (suc n) (c ∷ cs) (d ∷ ds) = ap suc (length_joined n cs ds)

pub joined_next : (n : ℕ) (cs ds : List (List ℤ)) → n < length cs → n < length ds → set (joined n cs ds) n (get_or (joined n cs ds) n [] ++ get_or ds n []) ≡ joined (n + 1) cs ds
joined_next n [] ds below within = let never : ⊥ = omega (arith, below) in absurd never
joined_next n (c ∷ cs) [] below within = let never : ⊥ = omega (arith, within) in absurd never
joined_next zero (c ∷ cs) (d ∷ ds) below within = refl
joined_next (suc n) (c ∷ cs) (d ∷ ds) below within =
    let behind : suc (n + 1) ≡ suc n + 1 = omega arith in
    ap (λ (l : List (List ℤ)). (c ++ d) ∷ l) (joined_next n cs ds (omega (arith, below)) (omega (arith, within))) ∙ ap (λ k. joined k (c ∷ cs) (d ∷ ds)) behind

-- ---- all of them

abbrev pub all_joined : List (List ℤ) → List (List ℤ) → List (List ℤ)
all_joined cs ds = joined (length ds) cs ds

row_before : (n i : ℕ) (cs ds : List (List ℤ)) → i < n → AreLong n cs → length cs ≡ length ds → row_at (all_joined cs ds) i ≡ row_at cs i
row_before n i [] [] below long alike = refl
row_before n i [] (d ∷ ds) below long alike = let never : ⊥ = omega (arith, alike) in absurd never
row_before n i (c ∷ cs) [] below long alike = let never : ⊥ = omega (arith, alike) in absurd never
row_before n i (c ∷ cs) (d ∷ ds) below long alike =
    let len : length c ≡ n = long zero (omega arith) in
    let number : number_at (c ++ d) i ≡ number_at c i = get_or_append_left c d (pos 0) i (omega (arith, len, below)) in
    λ j. number j ∷ row_before n i cs ds below (λ k l. long (suc k) (omega (arith, l))) (omega (arith, alike)) j

row_behind : (n i : ℕ) (cs ds : List (List ℤ)) → n ≤ i → AreLong n cs → length cs ≡ length ds → row_at (all_joined cs ds) i ≡ row_at ds (i - n)
row_behind n i [] [] past long alike = refl
row_behind n i [] (d ∷ ds) past long alike = let never : ⊥ = omega (arith, alike) in absurd never
row_behind n i (c ∷ cs) [] past long alike = let never : ⊥ = omega (arith, alike) in absurd never
row_behind n i (c ∷ cs) (d ∷ ds) past long alike =
    let len : length c ≡ n = long zero (omega arith) in
    let number : number_at (c ++ d) i ≡ number_at d (i - n) = get_or-append_right c d n i (pos 0) len past in
    λ j. number j ∷ row_behind n i cs ds past (λ k l. long (suc k) (omega (arith, l))) (omega (arith, alike)) j

module _ (n m : ℕ) (cs ds : List (List ℤ)) (long : AreLong n cs) (alike : length cs ≡ length ds) where
  row_either : (i : ℕ) (b : Bool) → nat_lt i n ≡ b → i < n + m → get_or (rows_of (n + m) (all_joined cs ds)) i [] ≡ get_or (rows_of n cs ++ rows_of m ds) i []
  row_either i true is below =
      let here : i < n = ltb-true i n is in
      let count = rows_count n cs in
      row_of (n + m) i (all_joined cs ds) below ∙ row_before n i cs ds here long alike
      ∙ sym (get_or_append_left (rows_of n cs) (rows_of m ds) [] i (omega (arith, count, here)) ∙ row_of n i cs here)
  row_either i false is below =
      let past : n ≤ i = ltb-false i n is in
      let there : i - n < m = omega (arith, past, below) in
      row_of (n + m) i (all_joined cs ds) below ∙ row_behind n i cs ds past long alike
      ∙ sym (get_or-append_right (rows_of n cs) (rows_of m ds) n i [] (rows_count n cs) past ∙ row_of m (i - n) ds there)

  -- the rows of columns that have the numbers of others behind their own
  pub joined_rows : rows_of (n + m) (all_joined cs ds) ≡ rows_of n cs ++ rows_of m ds
  joined_rows =
      let all = rows_count (n + m) (all_joined cs ds) in
      let front = rows_count n cs in
      let back = rows_count m ds in
      let both : length (rows_of n cs ++ rows_of m ds) ≡ length (rows_of n cs) + length (rows_of m ds) = length-append (rows_of n cs) (rows_of m ds) in
      ext_get_or [] (rows_of (n + m) (all_joined cs ds)) (rows_of n cs ++ rows_of m ds) (omega (arith, all, front, back, both))
      (λ i below. row_either i (nat_lt i n) refl (omega (arith, all, below)))

-- the same behind no rows
pub behind_none : (n m : ℕ) (cs ds zs : List (List ℤ)) → n ≡ 0 → zs ≡ ds → rows_of (n + m) zs ≡ rows_of n cs ++ rows_of m ds
behind_none n m cs ds zs none is =
    let sum : n + m ≡ m = omega (arith, none) in
    let left : rows_of n cs ≡ [] = ap (λ k. rows_of k cs) none in
    (λ j. rows_of (sum j) (is j)) ∙ ap (λ (l : CellRows). l ++ rows_of m ds) (sym left)

-- these columns are long
pub joined_long : (n m : ℕ) (cs ds : List (List ℤ)) → AreLong n cs → AreLong m ds → length cs ≡ length ds → (k : ℕ) → k < length (all_joined cs ds) → length (get_or (all_joined cs ds) k []) ≡ n + m
joined_long n m [] [] long more alike k below = let never : ⊥ = omega (arith, below) in absurd never
joined_long n m [] (d ∷ ds) long more alike k below = let never : ⊥ = omega (arith, alike) in absurd never
joined_long n m (c ∷ cs) [] long more alike k below = let never : ⊥ = omega (arith, alike) in absurd never
joined_long n m (c ∷ cs) (d ∷ ds) long more alike zero below =
    let first : length c ≡ n = long zero (omega arith) in
    let second : length d ≡ m = more zero (omega arith) in
    let both : length (c ++ d) ≡ length c + length d = length-append c d in
    omega (arith, first, second, both)
joined_long n m (c ∷ cs) (d ∷ ds) long more alike (suc k) below =
    joined_long n m cs ds (λ j l. long (suc j) (omega (arith, l))) (λ j l. more (suc j) (omega (arith, l))) (omega (arith, alike)) k (omega (arith, below))

-- ---- rows of one width

module _ (P : Cells → Type 0) where
  of_first : (xs ys : CellRows) → 0 < length xs → AllByRecursion P (xs ++ ys) → P (get_or xs 0 [])
  of_first [] ys some all = let never : ⊥ = omega (arith, some) in absurd never
  of_first (x ∷ xs) ys some all = all.0

  of_second : (xs ys : CellRows) → 0 < length ys → AllByRecursion P (xs ++ ys) → P (get_or ys 0 [])
  of_second [] [] some all = let never : ⊥ = omega (arith, some) in absurd never
  of_second [] (y ∷ ys) some all = all.0
  of_second (x ∷ xs) ys some all = of_second xs ys some all.1

-- how wide the rows of columns are
width : (n : ℕ) (cs : List (List ℤ)) → 0 < n → length (get_or (rows_of n cs) 0 []) ≡ length cs
width n cs some = ap length (row_of n 0 cs some) ∙ length-map cs (λ (column : List ℤ). number_at column 0)

-- rows that are alike have as many columns, where there are any
pub as_many : (n m : ℕ) (cs ds : List (List ℤ)) → 0 < n → 0 < m → AreAlike (rows_of n cs) (rows_of m ds) → length cs ≡ length ds
as_many n m cs ds some more (w, all) =
    let front = rows_count n cs in
    let back = rows_count m ds in
    sym (width n cs some)
    ∙ of_first (λ row. length row ≡ w) (rows_of n cs) (rows_of m ds) (omega (arith, front, some)) all
    ∙ sym (of_second (λ row. length row ≡ w) (rows_of n cs) (rows_of m ds) (omega (arith, back, more)) all)
    ∙ width m ds more
