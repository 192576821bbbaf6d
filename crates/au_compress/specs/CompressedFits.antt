-- Whether each number of a compressed answer lies in the range of 128 bits: those of the operators, and the sums of
-- greatest counts by which relations are compressed.
use Rattle.std.specs.Prelude.{ℕ, Bool, List, ◌++◌, ℤ}
use Rattle.au_algebra.specs.Bounded.{Bounded}
use Rattle.au_algebra.specs.Fits.{triple_numbers}
use Rattle.au_algebra.specs.Trees.{Tree}
use Rattle.au_compress.specs.ProductNumbers.{fits_by}
use Rattle.au_compress.specs.Splitting.{possible_rows, compressed, compressed_product}

-- the sums of greatest counts of a compressed part
abbrev pub part_numbers : ℕ → Bounded → List ℤ
part_numbers n rows = triple_numbers (possible_rows rows) ++ triple_numbers (compressed n rows)

-- those of both sides, and the triples of the compressed product
abbrev pub product_numbers : ℕ → Bounded → Bounded → List ℤ
product_numbers n xs ys = part_numbers n xs ++ (part_numbers n ys ++ triple_numbers (compressed_product n xs ys))

-- whether the numbers of the compressed answer, combined where that is asked for, lie in the range
abbrev pub compressed_answer_fits : ℕ → Bool → Tree → List Bounded → Bool
compressed_answer_fits n combined q ts = fits_by (compressed_product n) (product_numbers n) combined q ts
