-- What stands in a place of the rows of blocks, where each block has a row and a list of single values is held.
use Rattle.std.specs.Prelude.{◌≡◌, ◌≤◌, ◌<◌, ◌/◌, ◌%◌, ◌+◌, ◌*◌, ◌-◌, ℕ, zero, suc, Bool, true, false, not, List, [], ◌∷◌, length, map, take, drop, slice_get, unwrap_or, Option, Some, None, IfSome, is_some, pos, ℤ}
use Rattle.std.specs.List.{All, AllByRecursion, list_all}
use Rattle.std.proofs.Common.{arith, refl, sym, ap, ◌∙◌, subst}
use Rattle.std.proofs.lemmas.Bool.{and_parts, true≢false}
use Rattle.std.proofs.lemmas.List.{drop-map, length-drop, length-map, length-take-le, take-map}
use Rattle.std.proofs.lemmas.Simd.{map-map}
use Rattle.std.proofs.lemmas.List.Elements.{All-cons, All-drop, All-from_get_or, All-head, All-nil, All-tail, All-take, All-weaker, recursion_from_All}
use Rattle.au_value.specs.declared.kinds.Kind.{Kind}
use Rattle.au_value.specs.declared.value.Value.{Value}
use Rattle.au_value.specs.declared.value.Value.TheVariants.{Int, Text}
use Rattle.au_value.specs.Order.{data_kind}
use Rattle.au_value.specs.Ranges.{certain}
use Rattle.au_blocks.specs.declared.column.Column.{Column}
use Rattle.au_blocks.specs.declared.extent.Extent.{Extent}
use Rattle.au_blocks.specs.Blocks.{Candidate, Choices, Copies, MayMark, candidate, once}
use Rattle.au_blocks.specs.Held.{IsWithin, block_at, held}
use Rattle.au_blocks.specs.Singles.{HaveCopies, HaveValues, stands_once}
use Rattle.au_blocks.specs.Tables.{IsBlockTable, column_kinds, fits_kinds, table}
use Rattle.au_blocks.proofs.Lookup.{part-length}
use Rattle.au_algebra.specs.Lists.{value_at}
use Rattle.au_encode.specs.Encode.{encode_counts, encode_row}
use Rattle.au_codes.specs.Codes.{Code, code}
use Rattle.au_translate.specs.ColumnParts.{once_counts, part_of, span_over}
use Rattle.au_translate.specs.Translate.{block_row, bounded_blocks, marked_or_first, triple_of}
use Rattle.au_translate.proofs.Alternatives.{fits_long, passes_at}
use Rattle.au_translate.proofs.BlockRelation.{guess_within, shown_place}
use Rattle.au_translate.proofs.ColumnParts.{counts_once, in_column, in_counts}
use Rattle.au_translate.proofs.SingleBlocks.{not_optional, one_copy, rows_of_all, rows_once}
use Rattle.au_batches.specs.BlockRows.{in_place}
use Rattle.au_batches.specs.Listed.{IsListed, listed_value, once_count, own}

-- the value in a place of a block's row
abbrev value_of : ℕ → Choices → Value
value_of p b = value_at (encode_row (block_row b)) p

in_each : (p : ℕ) (bs : List Choices) → length (bounded_blocks bs) ≡ length bs → in_place p bs ≡ map (value_of p) bs
in_each p bs full =
    let at : List Value → Value = λ row. value_at row p in
    ap (λ rs. map at (map encode_row rs)) (rows_of_all bs full) ∙ (ap (map at) (map-map encode_row block_row bs) ∙ map-map at (λ b. encode_row (block_row b)) bs)

-- a part of a list
part-map : {X Y : Type 0} (f : X → Y) (n k : ℕ) (xs : List X) → take n (drop k (map f xs)) ≡ map f (take n (drop k xs))
part-map f n k xs = ap (take n) (drop-map f k xs) ∙ take-map f n (drop k xs)

-- what holds of each place, and passes at its block
all_both : {X Y : Type 0} (P : X → Type 0) (f : X → Y) (p : Y → Bool) (xs : List X) → All P xs → list_all p (map f xs) ≡ true → All (λ x. P x × (p (f x) ≡ true)) xs
all_both P f p [] all pass = All-nil (λ x. P x × (p (f x) ≡ true))
all_both P f p (x ∷ xs) all pass =
    let parts = and_parts (p (f x)) (list_all p (map f xs)) pass in
    All-cons (λ y. P y × (p (f y) ≡ true)) x xs (All-head P x xs all, parts.0) (all_both P f p xs (All-tail P x xs all) parts.1)

by_places : {X Y Z : Type 0} (P : X → Type 0) (f : X → Y) (F : Y → Z) (G : X → Z) → ((x : X) → P x → F (f x) ≡ G x) → (xs : List X) → All P xs → map F (map f xs) ≡ map G xs
by_places P f F G h [] all = refl
by_places P f F G h (x ∷ xs) all = λ i. h x (All-head P x xs all) i ∷ by_places P f F G h xs (All-tail P x xs all) i

same_maps : {X Z : Type 0} (P : X → Type 0) (F G : X → Z) → ((x : X) → P x → F x ≡ G x) → (xs : List X) → All P xs → map F xs ≡ map G xs
same_maps P F G h [] all = refl
same_maps P F G h (x ∷ xs) all = λ i. h x (All-head P x xs all) i ∷ same_maps P F G h xs (All-tail P x xs all) i

length-part : {X : Type 0} (xs : List X) (first count : ℕ) → first + count ≤ length xs → length (take count (drop first xs)) ≡ count
length-part xs first count within = length-take-le count (drop first xs) (omega (arith, length-drop first xs, within))

-- the one value of a list
single_part : (values : List Value) (guess : Option ℕ) → length values ≡ 1 → unwrap_or guess 0 < 1 → (k : ℕ) → part_of k (span_over values guess) ≡ value_at values 0
single_part [] guess one marked k = let never : ⊥ = omega (arith, one) in absurd never
single_part (v ∷ []) guess one marked zero = refl
single_part (v ∷ []) guess one marked (suc zero) =
    let first : unwrap_or guess 0 ≡ 0 = omega (arith, marked) in ap (value_at (v ∷ [])) first
single_part (v ∷ []) guess one marked (suc (suc k)) = refl
single_part (v ∷ w ∷ values) guess one marked k = let never : ⊥ = omega (arith, one) in absurd never

-- the block's rows have a range of its kind in each of these columns
abbrev fits : List Column → Choices → Bool
fits columns b = list_all (λ a. fits_kinds (column_kinds (table columns [])) a.cells) b.alternatives

module _ (rows : List Candidate) where
  module _ {X : Type 0} (make : X → Value) (items : List X) (j : ℕ) (have : HaveValues rows j (map make items)) where
    -- one item for each alternative
    long : length items ≡ length rows
    long =
        sym (length-map (map make items) (λ v. Some (certain v)) ∙ length-map items make) ∙ sym (ap length have) ∙ length-map rows (λ (a : Candidate). slice_get a.cells j)

    pub own_values : (e : Extent) → HaveValues (take e.count (drop e.first rows)) j (map make (own items e))
    own_values e =
        sym (part-map (λ (a : Candidate). slice_get a.cells j) e.count e.first rows) ∙ ap (λ l. take e.count (drop e.first l)) have
        ∙ (part-map (λ v. Some (certain v)) e.count e.first (map make items) ∙ ap (map (λ v. Some (certain v))) (part-map make e.count e.first items))

    is_listed : (e : Extent) → IsWithin rows e → IsListed items e
    is_listed e w =
        let count = part-length rows e.first e.count w.within in
        let marked = guess_within (block_at rows e) e.guess w.block.guess w.block.nonempty in
        record {
          within = omega (arith, w.within, long);
          some = omega (arith, w.block.nonempty, count);
          marked = omega (arith, marked, count);
        }

    pub are_listed : (extents : List Extent) → All (IsWithin rows) extents → All (IsListed items) extents
    are_listed extents all = All-weaker (IsWithin rows) (IsListed items) is_listed extents all

    -- the values in a place of this column
    pub listed : (p : ℕ) → p / 3 ≡ j → (extents : List Extent) → All (IsWithin rows) extents → length (bounded_blocks (held rows extents)) ≡ length (held rows extents)
        → in_place p (held rows extents) ≡ map (listed_value make items (p % 3)) extents
    listed p here extents all full =
        in_each p (held rows extents) full
        ∙ by_places (IsWithin rows) (block_at rows) (value_of p) (listed_value make items (p % 3))
        (λ e w. in_column (block_at rows e) j (map make (own items e)) (own_values e) w.block p here) extents all

    -- which are the same in all three of its places where each block stands once
    same_parts : (p q : ℕ) (e : Extent) → IsWithin rows e → stands_once (block_at rows e) ≡ true → listed_value make items p e ≡ listed_value make items q e
    same_parts p q e w stands =
        let l = is_listed e w in
        let one = (one_copy (block_at rows e) stands).0 in
        let count = part-length rows e.first e.count w.within in
        let single : length (map make (own items e)) ≡ 1 = length-map (own items e) make ∙ length-part items e.first e.count l.within ∙ sym count ∙ one in
        let marked : unwrap_or e.guess 0 < 1 = omega (arith, l.marked, count, one) in
        single_part (map make (own items e)) e.guess single marked p ∙ sym (single_part (map make (own items e)) e.guess single marked q)

    pub listed_alike : (p q : ℕ) → p / 3 ≡ j → q / 3 ≡ j → (extents : List Extent) → All (IsWithin rows) extents → list_all stands_once (held rows extents) ≡ true
        → in_place p (held rows extents) ≡ in_place q (held rows extents)
    listed_alike p q pj qj extents all stand =
        let full : length (bounded_blocks (held rows extents)) ≡ length (held rows extents) = ap length (rows_once (held rows extents) stand) ∙ length-map (held rows extents) block_row in
        let both = all_both (IsWithin rows) (block_at rows) stands_once extents all stand in
        let same = same_maps (λ e. IsWithin rows e × (stands_once (block_at rows e) ≡ true)) (listed_value make items (p % 3)) (listed_value make items (q % 3)) (λ e w. same_parts (p % 3) (q % 3) e w.0 w.1) extents both in
        listed p pj extents all full ∙ (same ∙ sym (listed q qj extents all full))

  -- ---- counts

  each_once : HaveCopies rows [] → (e : Extent) → AllByRecursion (λ a. a.copies ≡ once) (take e.count (drop e.first rows))
  each_once copies e =
      let P = λ (a : Candidate). a.copies ≡ once in
      let all = All-from_get_or P rows (candidate [] once) copies in
      recursion_from_All P (take e.count (drop e.first rows)) (All-take P e.count (drop e.first rows) (All-drop P e.first rows all))

  module _ (columns : List Column) (w p : ℕ) (wide : length columns ≡ w) (past : w ≤ p / 3) where
    abbrev kinds : List Kind
    kinds = column_kinds (table columns [])

    -- a place behind all columns
    count_place : (e : Extent) → IsWithin rows e → fits columns (block_at rows e) ≡ true → value_of p (block_at rows e) ≡ value_at (encode_counts (triple_of (block_at rows e))) (p - 3 * w)
    count_place e within fit =
        let b = block_at rows e in
        let shown = shown_place b b.guess within.block.guess within.block.nonempty in
        let cells : length (marked_or_first b).cells ≡ length kinds = fits_long kinds (marked_or_first b).cells (passes_at (λ a. fits_kinds kinds a.cells) b.alternatives fit (unwrap_or b.guess 0) (marked_or_first b) shown) in
        in_counts b w p (cells ∙ (length-map columns (λ (c : Column). data_kind c.kind) ∙ wide)) past

    once_place : HaveCopies rows [] → (e : Extent) → IsWithin rows e → fits columns (block_at rows e) ≡ true → value_of p (block_at rows e) ≡ once_count (p - 3 * w) e
    once_place copies e within fit =
        count_place e within fit ∙ ap (λ t. value_at (encode_counts t) (p - 3 * w)) (counts_once (block_at rows e) within.block (each_once copies e))

    pub counted : HaveCopies rows [] → (extents : List Extent) → All (IsWithin rows) extents → list_all (fits columns) (held rows extents) ≡ true → length (bounded_blocks (held rows extents)) ≡ length (held rows extents)
        → in_place p (held rows extents) ≡ map (once_count (p - 3 * w)) extents
    counted copies extents all fit full =
        in_each p (held rows extents) full
        ∙ by_places (λ e. IsWithin rows e × (fits columns (block_at rows e) ≡ true)) (block_at rows) (value_of p) (once_count (p - 3 * w)) (λ e h. once_place copies e h.0 h.1) extents (all_both (IsWithin rows) (block_at rows) (fits columns) extents all fit)

  -- each count of blocks that stand once is 1
  one_each : (optional : Bool) (guess : Option ℕ) (b : Choices) → b.optional ≡ optional → MayMark b guess → not optional ≡ true → (k : ℕ) → k < 3 → value_at (encode_counts (once_counts optional guess)) k ≡ Int (pos 1)
  one_each true guess b is mark none k low = absurd (true≢false (sym none))
  one_each false None b is mark none k low = absurd (true≢false (sym mark ∙ is))
  one_each false (Some i) b is mark none zero low = refl
  one_each false (Some i) b is mark none (suc zero) low = refl
  one_each false (Some i) b is mark none (suc (suc zero)) low = refl
  one_each false (Some i) b is mark none (suc (suc (suc k))) low = let never : ⊥ = omega (arith, low) in absurd never

  module _ (columns : List Column) (w p : ℕ) (wide : length columns ≡ w) (here : p / 3 ≡ w) where
    ones : (e : Extent) → IsWithin rows e → fits columns (block_at rows e) ≡ true → stands_once (block_at rows e) ≡ true → value_of p (block_at rows e) ≡ Int (pos 1)
    ones e within fit stands =
        let b = block_at rows e in
        let own = one_copy b stands in
        count_place columns w p wide (omega (arith, here)) e within fit
        ∙ (ap (λ t. value_at (encode_counts t) (p - 3 * w)) (counts_once b within.block own.1)
        ∙ one_each b.optional b.guess b refl within.block.guess (not_optional b stands) (p - 3 * w) (omega (arith, here)))

    pub all_ones : (extents : List Extent) → All (IsWithin rows) extents → list_all (fits columns) (held rows extents) ≡ true → list_all stands_once (held rows extents) ≡ true
        → in_place p (held rows extents) ≡ map (λ e. Int (pos 1)) extents
    all_ones extents all fit stand =
        let full : length (bounded_blocks (held rows extents)) ≡ length (held rows extents) = ap length (rows_once (held rows extents) stand) ∙ length-map (held rows extents) block_row in
        let fitting = all_both (IsWithin rows) (block_at rows) (fits columns) extents all fit in
        let both = all_both (λ e. IsWithin rows e × (fits columns (block_at rows e) ≡ true)) (block_at rows) stands_once extents fitting stand in
        in_each p (held rows extents) full
        ∙ by_places (λ e. (IsWithin rows e × (fits columns (block_at rows e) ≡ true)) × (stands_once (block_at rows e) ≡ true)) (block_at rows) (value_of p) (λ e. Int (pos 1)) (λ e h. ones e h.0.0 h.0.1 h.1) extents both

-- ---- their codes

code_numbers : (c : Code) (ns : List ℤ) → map (code c) (map Int ns) ≡ ns
code_numbers c [] = refl
code_numbers c (n ∷ ns) = ap (λ l. n ∷ l) (code_numbers c ns)

-- numbers that are those of some values
pub numbers_made : (c : Code) (made : List ℤ) (values all : List Value) → map Int made ≡ values → all ≡ values → made ≡ map (code c) all
numbers_made c made values all e is = sym (code_numbers c made) ∙ ap (map (code c)) (e ∙ sym is)

pub codes_made : {X : Type 0} (c : Code) (f : X → Value) (xs : List X) (made : List ℤ) (all : List Value) → made ≡ map (λ x. code c (f x)) xs → all ≡ map f xs → made ≡ map (code c) all
codes_made c f xs made all e is = e ∙ (sym (map-map (code c) f xs) ∙ ap (map (code c)) (sym is))

-- ---- of blocks that have their places among these alternatives

module _ (rows : List Candidate) (extents : List Extent) (bs : List Choices) (is : held rows extents ≡ bs) (within : All (IsWithin rows) extents) where
  pub of_values : {X : Type 0} (make : X → Value) (items : List X) (p : ℕ) → HaveValues rows (p / 3) (map make items) → length (bounded_blocks bs) ≡ length bs → in_place p bs ≡ map (listed_value make items (p % 3)) extents
  of_values make items p have =
      subst (λ xs. length (bounded_blocks xs) ≡ length xs → in_place p xs ≡ map (listed_value make items (p % 3)) extents) is (listed rows make items (p / 3) have p refl extents within)

  pub of_numbers : (c : Code) (numbers made : List ℤ) (p : ℕ) → HaveValues rows (p / 3) (map Int numbers) → length (bounded_blocks bs) ≡ length bs → map Int made ≡ map (listed_value Int numbers (p % 3)) extents → made ≡ map (code c) (in_place p bs)
  of_numbers c numbers made p have full e = numbers_made c made (map (listed_value Int numbers (p % 3)) extents) (in_place p bs) e (of_values Int numbers p have full)

  pub of_texts : (c : Code) (texts : List (List ℕ)) (made : List ℤ) (p : ℕ) → HaveValues rows (p / 3) (map Text texts) → length (bounded_blocks bs) ≡ length bs → made ≡ map (λ e. code c (listed_value Text texts (p % 3) e)) extents → made ≡ map (code c) (in_place p bs)
  of_texts c texts made p have full e = codes_made c (listed_value Text texts (p % 3)) extents made (in_place p bs) e (of_values Text texts p have full)

  pub of_counts : (columns : List Column) → IsBlockTable (table columns bs) → (c : Code) (made : List ℤ) (p : ℕ) → length columns ≤ p / 3 → HaveCopies rows [] → length (bounded_blocks bs) ≡ length bs
      → map Int made ≡ map (once_count (p - 3 * length columns)) extents → made ≡ map (code c) (in_place p bs)
  of_counts columns fit c made p past copies full e =
      let all = subst (λ xs. list_all (fits columns) xs ≡ true → length (bounded_blocks xs) ≡ length xs → in_place p xs ≡ map (once_count (p - 3 * length columns)) extents) is
      (counted rows columns (length columns) p refl past copies extents within) in
      numbers_made c made (map (once_count (p - 3 * length columns)) extents) (in_place p bs) e (all fit.table.rows full)

  -- places that have the same values
  pub alike_values : {X : Type 0} (make : X → Value) (items : List X) (p q : ℕ) → p / 3 ≡ q / 3 → HaveValues rows (p / 3) (map make items) → list_all stands_once bs ≡ true → in_place p bs ≡ in_place q bs
  alike_values make items p q same have =
      subst (λ xs. list_all stands_once xs ≡ true → in_place p xs ≡ in_place q xs) is (listed_alike rows make items (p / 3) have p q refl (sym same) extents within)

  pub alike_counts : (columns : List Column) → IsBlockTable (table columns bs) → (p q : ℕ) → p / 3 ≡ length columns → q / 3 ≡ length columns → list_all stands_once bs ≡ true → in_place p bs ≡ in_place q bs
  alike_counts columns fit p q first second stand =
      let ones = λ (n : ℕ) (here : n / 3 ≡ length columns).
      subst (λ xs. list_all (fits columns) xs ≡ true → list_all stands_once xs ≡ true → in_place n xs ≡ map (λ (e : Extent). Int (pos 1)) extents) is
      (all_ones rows columns (length columns) n refl here extents within) fit.table.rows stand in
      ones p first ∙ sym (ones q second)

  -- places of a column of which a list may be held
  pub alike_if : {X R : Type 0} (make : X → Value) (items : R → List X) (p q : ℕ) → p / 3 ≡ q / 3 → list_all stands_once bs ≡ true → (found : Option R) (some : Bool) → some ≡ is_some found
      → IfSome found (λ r. HaveValues rows (p / 3) (map make (items r))) → some ≡ true → in_place p bs ≡ in_place q bs
  alike_if make items p q same stand None some is have yes_some = absurd (true≢false (sym yes_some ∙ is))
  alike_if make items p q same stand (Some r) some is have yes_some = alike_values make (items r) p q same have stand

-- where no copies are listed each stands once
pub none_listed : (rows : List Candidate) (copies : List Copies) → length copies ≡ 0 → HaveCopies rows copies → HaveCopies rows []
none_listed rows [] none have = have
none_listed rows (c ∷ copies) none have = let never : ⊥ = omega (arith, none) in absurd never
