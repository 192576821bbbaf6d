-- Tests of two lists of ranges in one row, column by column.
use Rattle.std.specs.Prelude.{ℕ, zero, suc, ◌+◌, true}
use Rattle.au_value.specs.declared.value.Value.TheVariants.{Flag}
use Rattle.au_plain.specs.declared.expr.Comparison2.TheVariants.{Equal}
use Rattle.au_plain.specs.PTerms.{PTerm, Literal, Compare, And}
use Rattle.au_rwexpr.specs.Flatten.{sg, overlap_term, certainly_equal_term}

-- whether so many ranges from two places on overlap
abbrev pub meets_term : ℕ → ℕ → ℕ → PTerm
meets_term i j zero = Literal (Flag true)
meets_term i j (suc k) = And (overlap_term i j) (meets_term (i + 3) (j + 3) k)

-- whether their guesses are equal
abbrev pub same_guesses : ℕ → ℕ → ℕ → PTerm
same_guesses i j zero = Literal (Flag true)
same_guesses i j (suc k) = And (Compare Equal (sg i) (sg j)) (same_guesses (i + 3) (j + 3) k)

-- whether they are certain and equal
abbrev pub surely_equal : ℕ → ℕ → ℕ → PTerm
surely_equal i j zero = Literal (Flag true)
surely_equal i j (suc k) = And (certainly_equal_term i j) (surely_equal (i + 3) (j + 3) k)
