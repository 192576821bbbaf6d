-- The plan over the encoded rows of blocks finds their rows in the guess world, with the number of copies of each: where their
-- values stand, what the plan finds, and that it is typed and evaluates no number outside the range.
use Rattle.std.specs.Prelude.{◌≡◌, ◌≤◌, ◌<◌, ◌==◌, ◌+◌, ◌*◌, ℕ, zero, suc, Bool, true, false, cond, not, nat_lt, if◌then◌else◌, List, [], ◌∷◌, ◌++◌, length, map, filter, filter_map, flat_map, Option, Some, None, option_map, option_and_then, slice_get, unwrap_or, is_some, pos}
use Rattle.std.specs.List.{AllByRecursion, list_all, range_with_len}
use Rattle.std.specs.declared.cmp.Ordering.TheVariants.{Less, Greater, Equal}
use Rattle.std.specs.Ordering.{is_lt}
use Rattle.std.proofs.Math.Dec.{eqb-suc-zero}
use Rattle.std.proofs.Common.{arith, eq-eqb, eqb-true, refl, sym, ap, subst, ◌∙◌}
use Rattle.std.proofs.lemmas.Bool.{and_parts, and_from, ltb-true, true≢false}
use Rattle.std.proofs.lemmas.List.{length-append, length-map, map-append}
use Rattle.std.proofs.lemmas.List.Folds.{list_all-append}
use Rattle.au_value.specs.declared.kinds.Kind.{Kind}
use Rattle.au_value.specs.declared.kinds.Kind.TheVariants as kind
use Rattle.au_value.specs.declared.value.Value.{Value}
use Rattle.au_value.specs.declared.value.Value.TheVariants.{Int, Flag}
use Rattle.au_value.specs.Numeral.{is_i128}
use Rattle.au_value.specs.Order.{below, data_kind, kind_of}
use Rattle.au_value.specs.Ranges.{Span, guesses}
use Rattle.au_annot.specs.Triples.{Counts, is_none}
use Rattle.au_expr.specs.Figures.{fit}
use Rattle.au_expr.specs.Ordinary.{is_true}
use Rattle.au_algebra.specs.Bounded.{RangeRow}
use Rattle.au_algebra.specs.Counted.{CountedRow, occurring}
use Rattle.au_algebra.specs.Entries.{entry}
use Rattle.au_algebra.specs.Lists.{value_at}
use Rattle.au_algebra.specs.Ordinary.{Rows}
use Rattle.au_algebra.proofs.Each.{all_filter}
use Rattle.au_blocks.specs.declared.column.Column.{Column}
use Rattle.au_blocks.specs.Blocks.{Candidate, Choices, IsBlock, MayMark, candidate, once}
use Rattle.au_blocks.specs.Tables.{IsBlockTable, column_kinds, fits_kinds, table}
use Rattle.au_blocks.specs.Worlds.{guess_choice, taken}
use Rattle.au_plain.specs.Meaning.{kept, passes}
use Rattle.au_plain.specs.PlanKinds.{FitRows, HaveKinds, kept_kinds, plain_kind}
use Rattle.au_plain.specs.PlanNumbers.{term_numbers}
use Rattle.au_plain.proofs.Held.{RowFits, column_fits}
use Rattle.au_plain.proofs.Widths.{Wide}
use Rattle.au_encode.specs.Encode.{encode, encode_row, encoded_kinds}
use Rattle.au_encode.proofs.EncodedKinds.{rows_have_kinds}
use Rattle.au_translate.specs.Translate.{block_row, bounded_blocks, bounded_table, counted_row, guessed_copies, marked_or_first, ranges_of, triple_of}
use Rattle.au_translate.proofs.Alternatives.{fits_long, guesses-spans, passes_at}
use Rattle.au_translate.proofs.BlockRelation.{place_within, shown_place, table_relation, triple_order}
use Rattle.au_physical.specs.PhysicalKinds.{IsPhysicalFor, physical_kinds}
use Rattle.au_physical.specs.PhysicalMeaning.{physical_rows}
use Rattle.au_physical.specs.PhysicalNumbers.{physical_numbers}
use Rattle.au_physical.specs.Physicals.{PhysicalTree, Filter, Scan}
use Rattle.au_passes.proofs.KeptColumns.{get_past, kept_itself, kept_wider, kinds_itself, kinds_wider, places_there}
use Rattle.au_passes.proofs.Narrowing.{all_itself}
use Rattle.au_batches.specs.BlockRows.{block_rows}
use Rattle.au_rwcounted.specs.CountedRows.{count_value, counts_rows, one_count}
use Rattle.au_engine.specs.CountedTables.{counted_guesses}
use Rattle.au_engine.specs.GuessReads.{guess_place, guess_places, guess_plan, is_guessed}

-- ---- values by their places

past_all : (vs : List Value) (p : ℕ) → length vs ≤ p → value_at vs p ≡ Int (pos 0)
past_all [] p h = refl
past_all (v ∷ vs) zero h = let never : ⊥ = omega (arith, h) in absurd never
past_all (v ∷ vs) (suc p) h = past_all vs p (omega (arith, h))

last_at : (vs : List Value) (x : Value) (n : ℕ) → length vs ≡ n → value_at (vs ++ x ∷ []) n ≡ x
last_at vs x n h = ap (λ (o : Option Value). unwrap_or o (Int (pos 0))) (get_past vs (x ∷ []) 0 n (omega (arith, h)))

-- the guess of each range, and the guessed count behind all
abbrev third : ℕ → ℕ
third zero = 1
third (suc p) = suc (suc (suc (third p)))

third_is : (p : ℕ) → 3 * p + 1 ≡ third p
third_is zero = omega arith
third_is (suc p) = let rest = third_is p in let more : 3 * suc p + 1 ≡ suc (suc (suc (third p))) = omega (arith, rest) in more

sg_at : (rs : List Span) (t : Counts) (p : ℕ) → value_at (encode_row (entry rs t)) (third p) ≡ value_at (guesses rs ++ count_value t.guess ∷ []) p
sg_at [] t zero = refl
sg_at [] t (suc p) = refl
sg_at (r ∷ rs) t zero = refl
sg_at (r ∷ rs) t (suc p) = sg_at rs t p

-- ---- the row of a block

-- the row that a block has in the guess world, if it has a copy there
abbrev shown : Choices → List Value
shown b = guesses (marked_or_first b).cells ++ count_value (guessed_copies b) ∷ []

abbrev IsWide : ℕ → Choices → Type 0
IsWide n b = length (marked_or_first b).cells ≡ n

guesses_long : (n : ℕ) (b : Choices) → IsWide n b → length (guesses (marked_or_first b).cells) ≡ n
guesses_long n b wide = length-map (marked_or_first b).cells (λ (r : Span). r.sg) ∙ wide

shown_long : (n : ℕ) (b : Choices) → IsWide n b → length (shown b) ≡ n + 1
shown_long n b wide = omega (arith, length-append (guesses (marked_or_first b).cells) (count_value (guessed_copies b) ∷ []), guesses_long n b wide)

at_third : (b : Choices) (p : ℕ) → value_at (encode_row (block_row b)) (third p) ≡ value_at (shown b) p
at_third b p =
    sg_at (ranges_of b) (triple_of b) p
    ∙ ap (λ vs. value_at (vs ++ count_value (guessed_copies b) ∷ []) p) (guesses-spans b.alternatives 0 (guesses (marked_or_first b).cells))

module _ (n : ℕ) (b : Choices) (wide : IsWide n b) where
  placed : (p : ℕ) (t : Bool) → nat_lt n p ≡ t → value_at (encode_row (block_row b)) (if t then 3 * n + 4 else 3 * p + 1) ≡ value_at (shown b) p
  placed p true past =
      let place : 3 * n + 4 ≡ third (suc n) = omega (arith, third_is n) in
      ap (value_at (encode_row (block_row b))) place ∙ at_third b (suc n)
      ∙ past_all (shown b) (suc n) (omega (arith, shown_long n b wide)) ∙ sym (past_all (shown b) p (omega (arith, shown_long n b wide, ltb-true n p past)))
  placed p false within = ap (value_at (encode_row (block_row b))) (third_is p) ∙ at_third b p

  each_placed : (ps : List ℕ) → kept (map (guess_place n) ps) (encode_row (block_row b)) ≡ kept ps (shown b)
  each_placed [] = refl
  each_placed (p ∷ ps) = λ i. placed p (nat_lt n p) refl i ∷ each_placed ps i

  row_read : (ps : List ℕ) → kept (guess_places n ps) (encode_row (block_row b)) ≡ kept ps (shown b) ++ count_value (guessed_copies b) ∷ []
  row_read ps =
      let count = placed n (nat_lt n n) refl ∙ last_at (guesses (marked_or_first b).cells) (count_value (guessed_copies b)) n (guesses_long n b wide) in
      map-append (value_at (encode_row (block_row b))) (map (guess_place n) ps) (guess_place n n ∷ []) ∙ (λ i. each_placed ps i ++ count i ∷ [])

-- ---- the plan's operators

places_within : (w : ℕ) (us : List Value) → length us ≡ w → AllByRecursion (λ i. i < length us) (range_with_len 0 w)
places_within w us h =
    let long : length (map kind_of us) ≡ length us = length-map us kind_of in
    subst (λ n. AllByRecursion (λ i. i < n) (range_with_len 0 w)) long
    (places_there (range_with_len 0 w) (map kind_of us) (map kind_of us) (kinds_itself w (map kind_of us) (long ∙ h)))

front : (w : ℕ) (us : List Value) (x : Value) → length us ≡ w → kept (range_with_len 0 w) (us ++ x ∷ []) ≡ us
front w us x h = kept_wider (range_with_len 0 w) us (x ∷ []) (places_within w us h) ∙ kept_itself w us h

above : (m : ℕ) → is_true (Flag (below (Int (pos 0)) (count_value m))) ≡ not (m == 0)
above zero = refl
above (suc m) =
    let some : (suc m == 0) ≡ false = eqb-suc-zero m in
    let less : is_lt (cond (nat_lt 0 (suc m)) Less (cond (nat_lt (suc m) 0) Greater Equal)) ≡ true = (let e : nat_lt 0 (suc m) ≡ true = grind arith in rw e refl) in
    less ∙ ap not (sym some)

counted : (us : List Value) (m k : ℕ) → length us ≡ k → passes (is_guessed k) (us ++ count_value m ∷ []) ≡ not (m == 0)
counted us m k h = ap (λ v. is_true (Flag (below (Int (pos 0)) v))) (last_at us (count_value m) k h) ∙ above m

-- ---- rows that are there by a test

cond_map : {A B : Type 0} (f : A → B) (t : Bool) (x : A) (xs : List A) → map f (cond t (x ∷ xs) xs) ≡ cond t (f x ∷ map f xs) (map f xs)
cond_map f true x xs = refl
cond_map f false x xs = refl

next_none : {A B : Type 0} (f : A → Option B) (x : A) (xs : List A) → f x ≡ None → filter_map f (x ∷ xs) ≡ filter_map f xs
next_none f x xs e = rw e refl

next_some : {A B : Type 0} (f : A → Option B) (x : A) (xs : List A) (y : B) → f x ≡ Some y → filter_map f (x ∷ xs) ≡ y ∷ filter_map f xs
next_some f x xs y e = rw e refl

-- ---- the rows of the guess world, block by block

abbrev choice_row : Choices → Option CountedRow
choice_row b = counted_row (guess_choice b)

abbrev rows_of_choices : List CountedRow → Rows
rows_of_choices rs = counts_rows (map one_count (occurring rs))

row_first : (cells : List Value) (m : ℕ) (rs : List CountedRow)
    → rows_of_choices (entry cells m ∷ rs) ≡ cond (not (m == 0)) ((cells ++ count_value m ∷ []) ∷ rows_of_choices rs) (rows_of_choices rs)
row_first cells m rs = by_test (m == 0) refl
  where
    by_test : (z : Bool) → (m == 0) ≡ z → rows_of_choices (entry cells m ∷ rs) ≡ cond (not (m == 0)) ((cells ++ count_value m ∷ []) ∷ rows_of_choices rs) (rows_of_choices rs)
    by_test true e = rw e refl
    by_test false e = rw e refl

module _ (b : Choices) (bs : List Choices) where
  abbrev Stands : Type 0
  Stands = counted_guesses (b ∷ bs) ≡ cond (not (guessed_copies b == 0)) (shown b ∷ counted_guesses bs) (counted_guesses bs)

  by_mark : (o : Option ℕ) → b.guess ≡ o → MayMark b o → Stands
  by_mark None e may =
      let absent : choice_row b ≡ None = rw e refl in
      let none : guessed_copies b ≡ 0 = ap (λ (o : Option ℕ). unwrap_or (option_map (λ (i : ℕ). (marked_or_first b).copies.guess) o) 0) e in
      ap rows_of_choices (next_none choice_row b bs absent)
      ∙ ap (λ (m : ℕ). cond (not (m == 0)) ((guesses (marked_or_first b).cells ++ count_value m ∷ []) ∷ counted_guesses bs) (counted_guesses bs)) (sym none)
  by_mark (Some at) e may =
      let a = marked_or_first b in
      let found : slice_get b.alternatives at ≡ Some a =
      place_within b.alternatives (candidate [] once) at may
      ∙ ap (λ (o : Option ℕ). Some (unwrap_or (slice_get b.alternatives (unwrap_or o 0)) (candidate [] once))) (sym e) in
      let there : choice_row b ≡ Some (entry (guesses a.cells) a.copies.guess) =
      ap (λ (o : Option ℕ). counted_row (option_and_then (λ i. option_map (λ (x : Candidate). taken i (guesses x.cells) x.copies.guess) (slice_get b.alternatives i)) o)) e
      ∙ ap (λ o. counted_row (option_map (λ (x : Candidate). taken at (guesses x.cells) x.copies.guess) o)) found in
      let count : a.copies.guess ≡ guessed_copies b = ap (λ (o : Option ℕ). unwrap_or (option_map (λ (i : ℕ). a.copies.guess) o) 0) (sym e) in
      ap rows_of_choices (next_some choice_row b bs (entry (guesses a.cells) a.copies.guess) there)
      ∙ row_first (guesses a.cells) a.copies.guess (filter_map choice_row bs)
      ∙ ap (λ (m : ℕ). cond (not (m == 0)) ((guesses a.cells ++ count_value m ∷ []) ∷ counted_guesses bs) (counted_guesses bs)) count

all_wide : (n : ℕ) (bs : List Choices) → AllByRecursion IsBlock bs → AllByRecursion (IsWide n) bs → Wide (n + 1) (counted_guesses bs)
all_wide n [] ok wide = tt
all_wide n (b ∷ bs) ok wide =
    subst (Wide (n + 1)) (sym (by_mark b bs b.guess refl ok.0.guess)) (if_there (not (guessed_copies b == 0)) (all_wide n bs ok.1 wide.1))
  where
    if_there : (t : Bool) → Wide (n + 1) (counted_guesses bs) → Wide (n + 1) (cond t (shown b ∷ counted_guesses bs) (counted_guesses bs))
    if_there true h = (shown_long n b wide.0, h)
    if_there false h = h

-- ---- what the plan finds, block by block

module _ (n : ℕ) (ps : List ℕ) where
  abbrev filtered : Rows → Rows
  filtered rows = map (kept (range_with_len 0 (length ps))) (filter (passes (is_guessed (length ps))) rows)

  abbrev found : List Choices → Rows
  found bs = filtered (block_rows (guess_places n ps) bs)

  next_row : (row : List Value) (rows : Rows) (us : List Value) (m : ℕ) → length us ≡ length ps → row ≡ us ++ count_value m ∷ []
      → filtered (row ∷ rows) ≡ cond (not (m == 0)) (us ∷ filtered rows) (filtered rows)
  next_row row rows us m long is =
      let whole = us ++ count_value m ∷ [] in
      ap (λ r. filtered (r ∷ rows)) is
      ∙ cond_map (kept (range_with_len 0 (length ps))) (passes (is_guessed (length ps)) whole) whole (filter (passes (is_guessed (length ps))) rows)
      ∙ (λ i. cond (counted us m (length ps) long i) (front (length ps) us (count_value m) long i ∷ filtered rows) (filtered rows))

  by_count : (b : Choices) (bs : List Choices) → IsBlock b → IsWide n b → (z : Bool) → is_none (triple_of b) ≡ z
      → found (b ∷ bs) ≡ cond (not (guessed_copies b == 0)) (kept ps (shown b) ∷ found bs) (found bs)
  by_count b bs ok wide true e =
      let most : (triple_of b).most ≡ 0 = eqb-true (triple_of b).most 0 e in
      let none : guessed_copies b ≡ 0 = omega (arith, most, (triple_order b ok).1) in
      ap (λ z. filtered (map (kept (guess_places n ps)) (encode (cond (not z) (block_row b ∷ bounded_blocks bs) (bounded_blocks bs))))) e
      ∙ ap (λ (m : ℕ). cond (not (m == 0)) (kept ps (shown b) ∷ found bs) (found bs)) (sym none)
  by_count b bs ok wide false e =
      ap (λ z. filtered (map (kept (guess_places n ps)) (encode (cond (not z) (block_row b ∷ bounded_blocks bs) (bounded_blocks bs))))) e
      ∙ next_row (kept (guess_places n ps) (encode_row (block_row b))) (block_rows (guess_places n ps) bs) (kept ps (shown b)) (guessed_copies b)
      (length-map ps (value_at (shown b))) (row_read n b wide ps)

  finds : (bs : List Choices) → AllByRecursion IsBlock bs → AllByRecursion (IsWide n) bs → found bs ≡ map (kept ps) (counted_guesses bs)
  finds [] ok wide = refl
  finds (b ∷ bs) ok wide =
      let t = not (guessed_copies b == 0) in
      by_count b bs ok.0 wide.0 (is_none (triple_of b)) refl
      ∙ ap (λ rows. cond t (kept ps (shown b) ∷ rows) rows) (finds bs ok.1 wide.1)
      ∙ sym (cond_map (kept ps) t (shown b) (counted_guesses bs))
      ∙ ap (map (kept ps)) (sym (by_mark b bs b.guess refl ok.0.guess))

-- ---- kinds

abbrev kind_or : List Kind → ℕ → Kind
kind_or ks p = unwrap_or (slice_get ks p) kind.Int

cell_kind : (row : List Value) (p : ℕ) → kind_of (value_at row p) ≡ kind_or (map kind_of row) p
cell_kind [] p = refl
cell_kind (v ∷ row) zero = refl
cell_kind (v ∷ row) (suc p) = cell_kind row p

row_kinds : (ps : List ℕ) (ks : List Kind) (row : List Value) → map kind_of row ≡ ks → map kind_of (kept ps row) ≡ map (kind_or ks) ps
row_kinds [] ks row h = refl
row_kinds (p ∷ ps) ks row h = λ i. (cell_kind row p ∙ ap (λ js. kind_or js p) h) i ∷ row_kinds ps ks row h i

all_have : (ps : List ℕ) (ks : List Kind) (rows : Rows) → HaveKinds ks rows → HaveKinds (map (kind_or ks) ps) (map (kept ps) rows)
all_have ps ks [] h = tt
all_have ps ks (row ∷ rows) h = (row_kinds ps ks row h.0, all_have ps ks rows h.1)

count_kind : (ks : List Kind) → kind_or (encoded_kinds ks) (third (length ks)) ≡ kind.Int
count_kind [] = refl
count_kind (k ∷ ks) = count_kind ks

own_place : (n : ℕ) → guess_place n n ≡ third n
own_place n = let no : nat_lt n n ≡ false = grind arith in rw no (third_is n)

read_kinds : (ks : List Kind) (ps : List ℕ)
    → map (kind_or (encoded_kinds ks)) (guess_places (length ks) ps) ≡ map (kind_or (encoded_kinds ks)) (map (guess_place (length ks)) ps) ++ kind.Int ∷ []
read_kinds ks ps =
    let own = kind_or (encoded_kinds ks) in
    map-append own (map (guess_place (length ks)) ps) (guess_place (length ks) (length ks) ∷ [])
    ∙ ap (λ k. map own (map (guess_place (length ks)) ps) ++ k ∷ []) (ap own (own_place (length ks)) ∙ count_kind ks)

module _ (ks : List Kind) (k : ℕ) (long : length ks ≡ k) where
  abbrev whole : List Kind
  whole = ks ++ kind.Int ∷ []

  scanned : physical_kinds (whole ∷ []) (Scan 0 (k + 1)) ≡ Some whole
  scanned = let e = eq-eqb (length whole) (k + 1) (omega (arith, length-append ks (kind.Int ∷ []), long)) in rw e refl

  filtered_kinds : physical_kinds (whole ∷ []) (Filter (is_guessed k) (Scan 0 (k + 1))) ≡ Some whole
  filtered_kinds =
      let last : slice_get whole k ≡ Some kind.Int = get_past ks (kind.Int ∷ []) 0 k (omega (arith, long)) in
      rw (scanned, last) refl

  plan_kinds : physical_kinds (whole ∷ []) (guess_plan k) ≡ Some ks
  plan_kinds =
      let itself = kinds_itself k ks long in
      ap (option_and_then (λ js. kept_kinds (range_with_len 0 k) js)) filtered_kinds
      ∙ kinds_wider (range_with_len 0 k) ks (kind.Int ∷ []) (places_there (range_with_len 0 k) ks ks itself) ∙ itself

-- ---- numbers

row_kept : (ps : List ℕ) (row : List Value) → RowFits row → RowFits (kept ps row)
row_kept [] row h = refl
row_kept (p ∷ ps) row h = and_from _ _ (column_fits row p h) (row_kept ps row h)

rows_kept : (ps : List ℕ) (rows : Rows) → FitRows rows → FitRows (map (kept ps) rows)
rows_kept ps [] h = tt
rows_kept ps (row ∷ rows) h = (row_kept ps row h.0, rows_kept ps rows h.1)

test_fits : (k : ℕ) (rows : Rows) → FitRows rows → fit (flat_map (term_numbers (is_guessed k)) rows) ≡ true
test_fits k [] h = refl
test_fits k (row ∷ rows) h =
    list_all-append is_i128 (term_numbers (is_guessed k) row) (flat_map (term_numbers (is_guessed k)) rows)
    ∙ and_from _ _ (column_fits row k h.0) (test_fits k rows h.1)

-- ---- the blocks of a table

each_wide : (ks : List Kind) (bs : List Choices) → list_all (λ b. list_all (λ a. fits_kinds ks a.cells) b.alternatives) bs ≡ true → AllByRecursion IsBlock bs → AllByRecursion (IsWide (length ks)) bs
each_wide ks [] h ok = tt
each_wide ks (b ∷ bs) h ok =
    let fits = λ (a : Candidate). fits_kinds ks a.cells in
    let here = and_parts (list_all fits b.alternatives) (list_all (λ c. list_all fits c.alternatives) bs) h in (
      fits_long ks (marked_or_first b).cells (passes_at fits b.alternatives here.0 (unwrap_or b.guess 0) (marked_or_first b) (shown_place b b.guess ok.0.guess ok.0.nonempty)),
      each_wide ks bs here.1 ok.1,
    )

module _ (columns : List Column) (bs : List Choices) (ok : IsBlockTable (table columns bs)) where
  abbrev kinds : List Kind
  kinds = column_kinds (table columns bs)

  long_kinds : length kinds ≡ length columns
  long_kinds = length-map columns (λ (c : Column). data_kind c.kind)

  wide : AllByRecursion (IsWide (length columns)) bs
  wide = subst (λ n. AllByRecursion (IsWide n) bs) long_kinds (each_wide kinds bs ok.table.rows ok.blocks)

  -- all places of the guess rows are these rows
  pub all_guessed : map (kept (range_with_len 0 (length columns + 1))) (counted_guesses bs) ≡ counted_guesses bs
  all_guessed = all_itself (length columns + 1) (counted_guesses bs) (all_wide (length columns) bs ok.blocks wide)

  module _ (ps : List ℕ) where
    abbrev read : Rows
    read = block_rows (guess_places (length columns) ps) bs

    -- the plan finds them
    guesses_found : physical_rows (guess_plan (length ps)) (read ∷ []) ≡ map (kept ps) (counted_guesses bs)
    guesses_found = finds (length columns) ps bs ok.blocks wide

    -- it is typed
    guesses_typed : IsPhysicalFor (read ∷ []) (guess_plan (length ps))
    guesses_typed =
        let own = map (kind_or (encoded_kinds kinds)) (map (guess_place (length kinds)) ps) in
        let have : HaveKinds (own ++ kind.Int ∷ []) (block_rows (guess_places (length kinds) ps) bs) =
        subst (λ js. HaveKinds js (block_rows (guess_places (length kinds) ps) bs)) (read_kinds kinds ps)
        (all_have (guess_places (length kinds) ps) (encoded_kinds kinds) (encode (bounded_blocks bs))
        (rows_have_kinds kinds (bounded_table (table columns bs)) (table_relation (table columns bs) ok.table ok.blocks))) in
        let long : length own ≡ length ps = length-map (map (guess_place (length kinds)) ps) (kind_or (encoded_kinds kinds)) ∙ length-map ps (guess_place (length kinds)) in
        record {
          kinds = (own ++ kind.Int ∷ []) ∷ [];
          tables = (subst (λ n. HaveKinds (own ++ kind.Int ∷ []) (block_rows (guess_places n ps) bs)) long_kinds have, tt);
          typed = ap is_some (plan_kinds own (length ps) long);
        }

    -- and evaluates no number outside the range, if there is none in the encoded rows
    guesses_stay : FitRows (encode (bounded_blocks bs)) → fit (physical_numbers (guess_plan (length ps)) (read ∷ [])) ≡ true
    guesses_stay h = test_fits (length ps) read (rows_kept (guess_places (length columns) ps) (encode (bounded_blocks bs)) h)

    -- the same of a plan, places and sources that are these
    module _ (plan : PhysicalTree) (places : List ℕ) (sources : List Rows) (p : plan ≡ guess_plan (length ps)) (at : places ≡ guess_places (length columns) ps) (held : sources ≡ block_rows places bs ∷ []) where
      as_read : sources ≡ read ∷ []
      as_read = held ∙ ap (λ qs. block_rows qs bs ∷ []) at

      pub run_starts : IsPhysicalFor sources plan
      run_starts = subst (λ ts. IsPhysicalFor ts plan) (sym as_read) (subst (IsPhysicalFor (read ∷ [])) (sym p) guesses_typed)

      pub run_finds : physical_rows plan sources ≡ map (kept ps) (counted_guesses bs)
      run_finds = (λ i. physical_rows (p i) (as_read i)) ∙ guesses_found

      pub run_stays : FitRows (encode (bounded_blocks bs)) → fit (physical_numbers plan sources) ≡ false → ⊥
      run_stays h over = true≢false (sym (guesses_stay h) ∙ sym (λ i. fit (physical_numbers (p i) (as_read i))) ∙ over)

    kept_fit : FitRows (encode (bounded_blocks bs)) → FitRows (map (kept ps) (counted_guesses bs))
    kept_fit h =
        subst FitRows guesses_found
        (rows_kept (range_with_len 0 (length ps)) (filter (passes (is_guessed (length ps))) read)
        (all_filter RowFits (passes (is_guessed (length ps))) read (rows_kept (guess_places (length columns) ps) (encode (bounded_blocks bs)) h)))

  -- there is none in the guess rows either
  pub guesses_fit : FitRows (encode (bounded_blocks bs)) → FitRows (counted_guesses bs)
  guesses_fit h = subst FitRows all_guessed (kept_fit (range_with_len 0 (length columns + 1)) h)
