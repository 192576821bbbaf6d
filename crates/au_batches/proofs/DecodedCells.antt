-- The values that a row's numbers stand for, one by one.
use Rattle.std.specs.Prelude.{◌≡◌, ◌<◌, ◌≤◌, ◌+◌, ℕ, zero, suc, List, [], ◌∷◌, ◌++◌, length, drop, map, get_or, slice_get, Bool, true, false, Some, None, pos, ℤ, if◌then◌else◌}
use Rattle.std.proofs.Common.{refl, sym, ap, ◌∙◌, arith, append_assoc}
use Rattle.std.proofs.lemmas.List.{drop_more}
use Rattle.au_value.specs.Numeral.{is_i128}
use Rattle.au_value.specs.declared.kinds.Kind.{Kind}
use Rattle.au_value.specs.declared.kinds.Kind.TheVariants as kind
use Rattle.au_value.specs.declared.value.Value.{Value}
use Rattle.au_value.specs.declared.value.Value.TheVariants.{Int}
use Rattle.au_algebra.specs.Bounded.{RangeRow, Bounded}
use Rattle.au_algebra.specs.Lists.{value_at}
use Rattle.au_codes.specs.Codes.{Cells, CellRows}
use Rattle.au_codes.specs.CellMeaning.{cell_in}
use Rattle.au_codes.specs.Books.{Book}
use Rattle.au_codes.specs.Careful.{fitting}
use Rattle.au_codes.specs.Decoding.{decoded, decoded_row}
use Rattle.au_encode.specs.Encode.{AreEncoded, IsEncoded, decode, decode_row}

-- there is a kind for each value
pub fewer : (book : Book) (ks : List Kind) (zs : Cells) → length (decoded_row book ks zs) ≤ length ks
fewer book [] zs = omega arith
fewer book (k ∷ ks) [] = omega arith
fewer book (k ∷ ks) (z ∷ zs) = let rest = fewer book ks zs in omega (arith, rest)

-- the value in a place
pub value_is : (book : Book) (ks : List Kind) (zs : Cells) (p : ℕ) (k : Kind) → p < length (decoded_row book ks zs) → decoded book (get_or ks p k) (cell_in zs p) ≡ value_at (decoded_row book ks zs) p
value_is book [] zs p k below = let never : ⊥ = omega (arith, below) in absurd never
value_is book (j ∷ ks) [] p k below = let never : ⊥ = omega (arith, below) in absurd never
value_is book (j ∷ ks) (z ∷ zs) zero k below = refl
value_is book (j ∷ ks) (z ∷ zs) (suc p) k below = value_is book ks zs p k (omega (arith, below))

-- a value that is a number is the number itself
itself : (book : Book) (k : Kind) (z : ℤ) (n : ℕ) → decoded book k z ≡ Int (pos n) → z ≡ pos n
itself book kind.Int z n e = cc
itself book (kind.Dec scale) z n e = cc
itself book kind.Text z n e = cc
itself book kind.Flag z n e = cc

pub number_is : (book : Book) (ks : List Kind) (zs : Cells) (p n : ℕ) → slice_get (decoded_row book ks zs) p ≡ Some (Int (pos n)) → cell_in zs p ≡ pos n
number_is book [] zs p n e = cc
number_is book (k ∷ ks) [] p n e = cc
number_is book (k ∷ ks) (z ∷ zs) zero n e = let is : decoded book k z ≡ Int (pos n) = cc in itself book k z n is
number_is book (k ∷ ks) (z ∷ zs) (suc p) n e = number_is book ks zs p n e

-- a number that fits
pub cell_read : (z n : ℤ) → Some z ≡ fitting n → z ≡ n
cell_read z n e = read (is_i128 n) z n e where
  read : (b : Bool) (x y : ℤ) → Some x ≡ (if b then Some y else None) → x ≡ y
  read true x y h = cc
  read false x y h = cc

module _ (c : ℕ) (f : Cells → List Value) where
  -- a row of encoded ones
  pub row_encoded : (rows : CellRows) (i : ℕ) → AreEncoded c (map f rows) → i < length rows → IsEncoded c (f (get_or rows i []))
  row_encoded [] i ok below = let never : ⊥ = omega (arith, below) in absurd never
  row_encoded (row ∷ rows) zero ok below = ok.0
  row_encoded (row ∷ rows) (suc i) ok below = row_encoded rows i ok.1 (omega (arith, below))

  -- one entry more
  pub next_entry :
      (rows : CellRows) (i : ℕ) (rel more all : Bounded) (e : RangeRow) →
      i < length rows → e ≡ decode_row c (f (get_or rows i [])) → more ≡ rel ++ e ∷ [] →
      rel ++ decode c (map f (drop i rows)) ≡ all → more ++ decode c (map f (drop (i + 1) rows)) ≡ all
  next_entry rows i rel more all e below is pushed h =
      let rest = decode c (map f (drop (i + 1) rows)) in
      let next : decode c (map f (drop i rows)) ≡ e ∷ rest =
      ap (λ (l : CellRows). decode c (map f l)) (drop_more rows i [] below) ∙ ap (λ (x : RangeRow). x ∷ rest) (sym is) in
      ap (λ (l : Bounded). l ++ rest) pushed ∙ (append_assoc rel (e ∷ []) rest ∙ (ap (λ (l : Bounded). rel ++ l) (sym next) ∙ h))
