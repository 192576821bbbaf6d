-- The columns of a table that is read in one pass.
use Rattle.std.proofs.Common.{◌≡◌, ◌∙◌, ℕ, ◌+◌, true, false, List, [], ◌∷◌, ◌++◌, length, map, ℤ, Some, Bor, refl, sym, ap}
use Rattle.std.specs.List.{All, AllByRecursion, list_all}
use Rattle.std.proofs.lemmas.List.{length-map, map-append}
use Rattle.std.proofs.lemmas.Simd.{map-map}
use Rattle.std.proofs.lemmas.List.Elements.{All-from_recursion}
use Rattle.au_value.specs.declared.kinds.Kind.{Kind}
use Rattle.au_value.specs.declared.kinds.Kind.TheVariants as kind
use Rattle.au_value.specs.declared.value.Value.TheVariants as value
use Rattle.au_value.specs.Ranges.{Span, certain}
use Rattle.au_csv.specs.Texts.{Record}
use Rattle.au_blocks.specs.declared.format.Format.{Format}
use Rattle.au_blocks.specs.Headers.{cells_of, has_copies}
use Rattle.au_blocks.specs.Entries.{field}
use Rattle.au_blocks.specs.Columns.{all_cells, all_copies, alternatives_of, is_wide, places_from}
use Rattle.au_blocks.specs.Laid.{rows_of}
use Rattle.au_blocks.specs.OnePass.{Filled, columns_over, filled, with_row}
use Rattle.au_blocks.specs.Order.{lent_records}
use Rattle.au_blocks.specs.Read.{cell}
use Rattle.au_blocks.specs.Spellings.{number_written}
use Rattle.au_blocks.proofs.Filled.{number-cell}
use Rattle.au_blocks.proofs.RowsMade.{rows-made}

-- one record more
pub with_row-over : (f : Format) (r : Record) (i : ℕ) (rows : List Record) (kinds : List Kind) → with_row f r i (columns_over f rows i kinds) ≡ columns_over f (rows ++ r ∷ []) i kinds
with_row-over f r i rows [] = refl
with_row-over f r i rows (k ∷ kinds) =
    λ j. filled k (sym (map-append (λ (x : Record). cell (k, field i (cells_of f x))) rows (r ∷ [])) j) ∷ with_row-over f r (i + 1) rows kinds j

-- the kinds of the columns
pub kinds-over : (f : Format) (rows : List Record) (i : ℕ) (kinds : List Kind) → map (λ (c : Filled). c.kind) (columns_over f rows i kinds) ≡ kinds
kinds-over f rows i [] = refl
kinds-over f rows i (k ∷ kinds) = ap (λ (ks : List Kind). k ∷ ks) (kinds-over f rows (i + 1) kinds)

-- each column has as many cells as there are records
long-columns : (f : Format) (rows : List Record) (i : ℕ) (kinds : List Kind) → AllByRecursion (λ (c : Filled). length c.cells ≡ length rows) (columns_over f rows i kinds)
long-columns f rows i [] = tt
long-columns f rows i (k ∷ kinds) = (length-map rows (λ (r : Record). cell (k, field i (cells_of f r))), long-columns f rows (i + 1) kinds)

pub long-over : (f : Format) (rows : List Record) (i : ℕ) (kinds : List Kind) → All (λ (c : Filled). length c.cells ≡ length rows) (columns_over f rows i kinds)
long-over f rows i kinds = All-from_recursion (λ (c : Filled). length c.cells ≡ length rows) (columns_over f rows i kinds) (long-columns f rows i kinds)

-- columns over no records
pub none-over : (f : Format) (i : ℕ) (kinds : List Kind) → columns_over f [] i kinds ≡ map (λ k. filled k []) kinds
none-over f i [] = refl
none-over f i (k ∷ kinds) = ap (λ (columns : List Filled). filled k [] ∷ columns) (none-over f (i + 1) kinds)

-- a record as one that is lent
abbrev lent : Record → Bor Record
lent r = record { ref_ptr = (0, 0); now = r }

lent-back : (rows : List Record) → lent_records (map lent rows) ≡ rows
lent-back [] = refl
lent-back (r ∷ rows) = ap (λ (rs : List Record). r ∷ rs) (lent-back rows)

-- the cells of the columns are those of the records, a column at a time
cells-over : (f : Format) (rs : List (Bor Record)) (i : ℕ) (kinds : List Kind) → map (λ (c : Filled). c.cells) (columns_over f (lent_records rs) i kinds) ≡ all_cells f rs (places_from i kinds)
cells-over f rs i [] = refl
cells-over f rs i (k ∷ kinds) =
    λ j. map-map (λ (r : Record). cell (k, field i (cells_of f r))) (λ (r : Bor Record). r.now) rs j ∷ cells-over f rs (i + 1) kinds j

-- no list of copies stands beside records that have none
none-listed : (f : Format) (rs : List (Bor Record)) → has_copies f ≡ false → all_copies f rs ≡ []
none-listed f rs has = rw has refl

-- the alternatives of the columns are those of the records
pub made-over : (f : Format) (kinds : List Kind) (rows : List Record) → has_copies f ≡ false → list_all (is_wide f (length kinds)) rows ≡ true
    → rows_of (length rows) (map (λ (c : Filled). c.cells) (columns_over f rows 0 kinds)) [] ≡ alternatives_of f kinds rows
made-over f kinds rows has wide =
    let rs = map lent rows in
    let back = lent-back rows in
    let made : rows_of (length rs) (all_cells f rs (places_from 0 kinds)) (all_copies f rs) ≡ alternatives_of f kinds (lent_records rs) =
    rows-made f kinds rs (rw back wide) in
    let cells : map (λ (c : Filled). c.cells) (columns_over f rows 0 kinds) ≡ all_cells f rs (places_from 0 kinds) =
    ap (λ (xs : List Record). map (λ (c : Filled). c.cells) (columns_over f xs 0 kinds)) (sym back) ∙ cells-over f rs 0 kinds in
    (λ j. rows_of (sym (length-map rows lent) j) (cells j) (sym (none-listed f rs has) j))
    ∙ made
    ∙ ap (alternatives_of f kinds) back

-- the cell of a number
written-cell : (k : Kind) (text : List ℕ) (n : ℤ) → number_written k text ≡ Some n → certain (value.Int n) ≡ cell (k, text)
written-cell kind.Int text n written = number-cell kind.Int text n refl written
written-cell (kind.Dec scale) text n written = number-cell (kind.Dec scale) text n refl written
written-cell kind.Text text n written = cc
written-cell kind.Flag text n written = cc

-- one number more
pub number-more : (k : Kind) (text : List ℕ) (n : ℤ) (ns : List ℤ) → number_written k text ≡ Some n → map (λ (m : ℤ). certain (value.Int m)) (ns ++ n ∷ []) ≡ map (λ (m : ℤ). certain (value.Int m)) ns ++ cell (k, text) ∷ []
number-more k text n ns written =
    map-append (λ (m : ℤ). certain (value.Int m)) ns (n ∷ []) ∙ ap (λ (c : Span). map (λ (m : ℤ). certain (value.Int m)) ns ++ c ∷ []) (written-cell k text n written)
