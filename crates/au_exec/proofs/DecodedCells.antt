-- The values that the numbers of a row stand for, one by one.
use Rattle.std.specs.Prelude.{◌≡◌, ◌<◌, ◌+◌, ℕ, zero, suc, List, [], ◌∷◌, ◌++◌, length, drop, map, get_or, Bool, true, false, Some, None, ℤ, pos, if◌then◌else◌}
use Rattle.std.specs.List.{AllByRecursion}
use Rattle.std.proofs.Common.{sym, ap, ◌∙◌, arith, append_assoc}
use Rattle.std.proofs.lemmas.List.{drop_more}
use Rattle.std.proofs.lemmas.Option.{unwrap_or-slice_get}
use Rattle.au_value.specs.Numeral.{is_i128}
use Rattle.au_value.specs.declared.kinds.Kind.{Kind}
use Rattle.au_value.specs.declared.kinds.Kind.TheVariants.{Int}
use Rattle.au_value.specs.declared.value.Value.{Value}
use Rattle.au_codes.specs.Books.{Book}
use Rattle.au_codes.specs.Careful.{fitting}
use Rattle.au_codes.specs.CellMeaning.{cell_in}
use Rattle.au_codes.specs.Codes.{Cells, CellRows}
use Rattle.au_codes.specs.Decoding.{decoded, decoded_row}
use Rattle.au_exec.specs.KnownKinds.{kind_at}

-- a number that fits
pub cell_read : (z n : ℤ) → Some z ≡ fitting n → z ≡ n
cell_read z n e = read (is_i128 n) z n e where
  read : (b : Bool) (x y : ℤ) → Some x ≡ (if b then Some y else None) → x ≡ y
  read true x y h = cc
  read false x y h = cc

-- the values from a place on
pub value_here : (book : Book) (ks : List Kind) (zs : Cells) (i : ℕ) → i < length ks → length zs ≡ length ks →
    decoded_row book (drop i ks) (drop i zs) ≡ decoded book (kind_at ks i) (cell_in zs i) ∷ decoded_row book (drop (i + 1) ks) (drop (i + 1) zs)
value_here book ks zs i below same =
    let within : i < length zs = omega (arith, below, same) in
    (λ j. decoded_row book (drop_more ks i Int below j) (drop_more zs i (pos 0) within j))
    ∙ (λ j. decoded book (sym (unwrap_or-slice_get ks i Int) j) (sym (unwrap_or-slice_get zs i (pos 0)) j) ∷ decoded_row book (drop (i + 1) ks) (drop (i + 1) zs))

-- one value more
pub next_value :
    (book : Book) (ks : List Kind) (zs : Cells) (i : ℕ) (row more all : List Value) (v : Value) → i < length ks → length zs ≡ length ks →
    v ≡ decoded book (kind_at ks i) (cell_in zs i) → more ≡ row ++ v ∷ [] → row ++ decoded_row book (drop i ks) (drop i zs) ≡ all →
    more ++ decoded_row book (drop (i + 1) ks) (drop (i + 1) zs) ≡ all
next_value book ks zs i row more all v below same is pushed h =
    let rest = decoded_row book (drop (i + 1) ks) (drop (i + 1) zs) in
    let next = value_here book ks zs i below same ∙ ap (λ (x : Value). x ∷ rest) (sym is) in
    ap (λ (l : List Value). l ++ rest) pushed ∙ (append_assoc row (v ∷ []) rest ∙ (ap (λ (l : List Value). row ++ l) (sym next) ∙ h))

-- the row in a place
pub row_wide : (w : ℕ) (rows : CellRows) (i : ℕ) → AllByRecursion (λ cells. length cells ≡ w) rows → i < length rows → length (get_or rows i []) ≡ w
row_wide w [] i h below = let never : ⊥ = omega (arith, below) in absurd never
row_wide w (row ∷ rows) zero h below = h.0
row_wide w (row ∷ rows) (suc i) h below = row_wide w rows i h.1 (omega (arith, below))

-- one row more
pub next_row :
    (f : Cells → List Value) (cells : CellRows) (i : ℕ) (rows more all : List (List Value)) (row : List Value) → i < length cells →
    row ≡ f (get_or cells i []) → more ≡ rows ++ row ∷ [] → rows ++ map f (drop i cells) ≡ all → more ++ map f (drop (i + 1) cells) ≡ all
next_row f cells i rows more all row below is pushed h =
    let rest = map f (drop (i + 1) cells) in
    let next = ap (λ (l : CellRows). map f l) (drop_more cells i [] below) ∙ ap (λ (x : List Value). x ∷ rest) (sym is) in
    ap (λ (l : List (List Value)). l ++ rest) pushed ∙ (append_assoc rows (row ∷ []) rest ∙ (ap (λ (l : List (List Value)). rows ++ l) (sym next) ∙ h))
