-- The compressed part of a relation does not depend on the order of its rows.
use Rattle.std.specs.Prelude.{◌≡◌, ℕ, List, map}
use Rattle.std.specs.List.Sorted.{IsPermutation}
use Rattle.std.proofs.Common.{sym, ◌∙◌, ap}
use Rattle.std.proofs.lemmas.List.Sorted.{IsPermutation-map}
use Rattle.au_algebra.specs.Bounded.{Bounded, normal}
use Rattle.au_algebra.proofs.NormalRows.{normal_rises, normal_tally}
use Rattle.au_algebra.proofs.Rising.{rising_is}
use Rattle.au_algebra.proofs.Tallies.{summed_same}
use Rattle.au_compress.specs.Splitting.{compressed, in_runs, possible_row, possible_rows, run_row}

-- the normal form does not
pub normal_same : (xs ys : Bounded) → IsPermutation xs ys → normal xs ≡ normal ys
normal_same xs ys p =
    rising_is (normal xs) (normal ys) (normal_rises xs) (normal_rises ys)
    (λ k. normal_tally xs k ∙ summed_same k xs ys p ∙ sym (normal_tally ys k))

pub possible_same : (xs ys : Bounded) → IsPermutation xs ys → possible_rows xs ≡ possible_rows ys
possible_same xs ys p = normal_same (map possible_row xs) (map possible_row ys) (IsPermutation-map possible_row xs ys p)

pub compressed_same : (n : ℕ) (xs ys : Bounded) → IsPermutation xs ys → compressed n xs ≡ compressed n ys
compressed_same n xs ys p = ap (λ rows. map run_row (in_runs n rows)) (possible_same xs ys p)
