-- Three intervals of numbers, in the order of an index.
use Rattle.std.specs.Prelude.{ℕ, List, [], ◌∷◌, pos}
use Rattle.au_value.specs.declared.value.Value.{Value}
use Rattle.au_value.specs.declared.value.Value.TheVariants.{Int}

-- from 1 to 5
abbrev pub first : Value × Value × ℕ
first = (Int (pos 1), Int (pos 5), 0)

-- from 3 to 3
abbrev pub second : Value × Value × ℕ
second = (Int (pos 3), Int (pos 3), 1)

-- from 7 to 9
abbrev pub third : Value × Value × ℕ
third = (Int (pos 7), Int (pos 9), 2)

abbrev pub intervals : List (Value × Value × ℕ)
intervals = first ∷ second ∷ third ∷ []
