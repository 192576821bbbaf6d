-- The values for which a row's numbers stand, one by one.
use Rattle.std.specs.Prelude.{◌≡◌, ◌<◌, ◌≤◌, ℕ, zero, suc, List, [], ◌∷◌, length, get_or, slice_get, Bool, true, false, Some, None, pos, ℤ, if◌then◌else◌, map}
use Rattle.std.proofs.Common.{refl, arith}
use Rattle.au_value.specs.Numeral.{is_i128}
use Rattle.au_value.specs.declared.kinds.Kind.{Kind}
use Rattle.au_value.specs.declared.kinds.Kind.TheVariants as kind
use Rattle.au_value.specs.declared.value.Value.{Value}
use Rattle.au_value.specs.declared.value.Value.TheVariants.{Int}
use Rattle.au_value.specs.Order.{kind_of}
use Rattle.au_algebra.specs.Lists.{value_at}
use Rattle.au_codes.specs.Codes.{Cells, CellRows}
use Rattle.au_codes.specs.CellMeaning.{cell_in}
use Rattle.au_codes.specs.Books.{Book}
use Rattle.au_codes.specs.Careful.{fitting}
use Rattle.au_codes.specs.Decoding.{decoded, decoded_row}
use Rattle.au_encode.specs.Encode.{AreEncoded, IsEncoded}

-- there is a kind for each value
pub fewer : (book : Book) (ks : List Kind) (zs : Cells) → length (decoded_row book ks zs) ≤ length ks
fewer book [] zs = omega arith
fewer book (k ∷ ks) [] = omega arith
fewer book (k ∷ ks) (z ∷ zs) = let rest = fewer book ks zs in omega (arith, rest)

-- the value in a place
pub value_is : (book : Book) (ks : List Kind) (zs : Cells) (p : ℕ) (k : Kind) → p < length (decoded_row book ks zs) → decoded book (get_or ks p k) (cell_in zs p) ≡ value_at (decoded_row book ks zs) p
value_is book [] zs p k below = let never : ⊥ = omega (arith, below) in absurd never
value_is book (j ∷ ks) [] p k below = let never : ⊥ = omega (arith, below) in absurd never
value_is book (j ∷ ks) (z ∷ zs) zero k below = refl
value_is book (j ∷ ks) (z ∷ zs) (suc p) k below = value_is book ks zs p k (omega (arith, below))

-- a value that is a number is the number itself
itself : (book : Book) (k : Kind) (z : ℤ) (n : ℕ) → decoded book k z ≡ Int (pos n) → z ≡ pos n
itself book kind.Int z n e = cc
itself book (kind.Dec scale) z n e = cc
itself book kind.Text z n e = cc
itself book kind.Flag z n e = cc

pub number_is : (book : Book) (ks : List Kind) (zs : Cells) (p n : ℕ) → slice_get (decoded_row book ks zs) p ≡ Some (Int (pos n)) → cell_in zs p ≡ pos n
number_is book [] zs p n e = cc
number_is book (k ∷ ks) [] p n e = cc
number_is book (k ∷ ks) (z ∷ zs) zero n e = let is : decoded book k z ≡ Int (pos n) = cc in itself book k z n is
number_is book (k ∷ ks) (z ∷ zs) (suc p) n e = number_is book ks zs p n e

-- values of one kind are equal where their numbers are
pub alike : (book : Book) (j k : Kind) (z : ℤ) → kind_of (decoded book j z) ≡ kind_of (decoded book k z) → decoded book j z ≡ decoded book k z
alike book kind.Int kind.Int z e = refl
alike book kind.Int (kind.Dec t) z e = refl
alike book kind.Int kind.Text z e = cc
alike book kind.Int kind.Flag z e = cc
alike book (kind.Dec s) kind.Int z e = refl
alike book (kind.Dec s) (kind.Dec t) z e = refl
alike book (kind.Dec s) kind.Text z e = cc
alike book (kind.Dec s) kind.Flag z e = cc
alike book kind.Text kind.Int z e = cc
alike book kind.Text (kind.Dec t) z e = cc
alike book kind.Text kind.Text z e = refl
alike book kind.Text kind.Flag z e = cc
alike book kind.Flag kind.Int z e = cc
alike book kind.Flag (kind.Dec t) z e = cc
alike book kind.Flag kind.Text z e = cc
alike book kind.Flag kind.Flag z e = refl

-- a number that fits
pub cell_read : (z n : ℤ) → Some z ≡ fitting n → z ≡ n
cell_read z n e = read (is_i128 n) z n e where
  read : (b : Bool) (x y : ℤ) → Some x ≡ (if b then Some y else None) → x ≡ y
  read true x y h = cc
  read false x y h = cc

-- a row of encoded ones
pub row_encoded : (c : ℕ) (f : Cells → List Value) (rows : CellRows) (i : ℕ) → AreEncoded c (map f rows) → i < length rows → IsEncoded c (f (get_or rows i []))
row_encoded c f [] i ok below = let never : ⊥ = omega (arith, below) in absurd never
row_encoded c f (row ∷ rows) zero ok below = ok.0
row_encoded c f (row ∷ rows) (suc i) ok below = row_encoded c f rows i ok.1 (omega (arith, below))
