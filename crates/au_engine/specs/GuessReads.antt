-- The rows of blocks in the guess world among their encoded rows: where their values stand there, and the plan that finds them.
use Rattle.std.specs.Prelude.{ℕ, ◌+◌, ◌*◌, List, [], ◌∷◌, ◌++◌, map, pos, nat_lt, if◌then◌else◌}
use Rattle.std.specs.List.{range_with_len}
use Rattle.au_value.specs.declared.value.Value.TheVariants.{Int}
use Rattle.au_plain.specs.declared.expr.Comparison2.TheVariants.{Less}
use Rattle.au_plain.specs.PTerms.{PTerm, Column, Compare, Literal}
use Rattle.au_physical.specs.Physicals.{PhysicalTree, Filter, Keep, Scan}

-- where the value in a place of a counted row of so many columns stands in the encoded row; past its end, a place past the end
abbrev pub guess_place : ℕ → ℕ → ℕ
guess_place n p = if nat_lt n p then 3 * n + 4 else 3 * p + 1

-- the places of the values in these places, and behind them that of the guessed number of copies
abbrev pub guess_places : ℕ → List ℕ → List ℕ
guess_places n ps = map (guess_place n) ps ++ guess_place n n ∷ []

-- whether the value behind so many is above 0
abbrev pub is_guessed : ℕ → PTerm
is_guessed k = Compare Less (Literal (Int (pos 0))) (Column k)

-- of rows with a count behind so many values, the values of those whose count is above 0
abbrev pub guess_plan : ℕ → PhysicalTree
guess_plan k = Keep (range_with_len 0 k) (Filter (is_guessed k) (Scan 0 (k + 1)))
