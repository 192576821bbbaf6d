-- How often rows with counts have a row of values.
use Rattle.std.specs.Prelude.{◌≡◌, ℕ, ◌+◌, Bool, true, false, not, ◌==◌, cond, List, [], ◌∷◌, filter}
use Rattle.std.proofs.Common.{arith, refl}
use Rattle.std.proofs.lemmas.Bool.{eqb-true}
use Rattle.au_value.specs.declared.value.Value.{Value}
use Rattle.au_algebra.specs.Counted.{CountedRow, count_of, StandsFor, ones}
use Rattle.au_algebra.specs.Entries.{entry}
use Rattle.au_algebra.specs.Lists.{same_row}
use Rattle.au_algebra.specs.Ordinary.{Rows}
use Rattle.au_algebra.proofs.Choices.{cond_zero, sum_if}
use Rattle.au_algebra.proofs.Copies.{copies-cons}

-- one row more
pub count_of-cons : (v : List Value) (r : CountedRow) (rows : List CountedRow) → count_of (r ∷ rows) v ≡ cond (same_row v r.cells) r.annot 0 + count_of rows v
count_of-cons v r rows = sum_if (λ s. s.annot) (same_row v r.cells) r (filter (λ s. same_row v s.cells) rows)

-- a row whose count is 0 adds nothing
pub count_of-if : (b : Bool) (v : List Value) (r : CountedRow) (rows : List CountedRow) (rest : ℕ) → (r.annot == 0) ≡ b → count_of rows v ≡ rest → count_of (cond (not b) (r ∷ rows) rows) v ≡ cond (same_row v r.cells) r.annot 0 + rest
count_of-if true v r rows rest e h =
    let none : cond (same_row v r.cells) r.annot 0 ≡ 0 = cond_zero (same_row v r.cells) r.annot (eqb-true r.annot 0 e) in omega (arith, h, none)
count_of-if false v r rows rest e h = omega (arith, h, count_of-cons v r rows)

-- rows that are there once each stand for their list
pub ones_stand : (world : Rows) → StandsFor (ones world) world
ones_stand [] v = refl
ones_stand (row ∷ world) v = omega (arith, count_of-cons v (entry row 1) (ones world), copies-cons v row world, ones_stand world v)
