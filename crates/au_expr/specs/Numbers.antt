-- The numbers that the range of an expression takes, and those of its ordinary value.
use Rattle.std.specs.Prelude.{List, [], ◌∷◌, ◌++◌, ℤ, ◌*ℤ◌}
use Rattle.au_value.specs.declared.value.Value.{Value}
use Rattle.au_value.specs.declared.value.Value.TheVariants.{Int, Text, Flag}
use Rattle.au_value.specs.Ranges.{Span}
use Rattle.au_expr.specs.Terms.{Term}
use Rattle.au_expr.specs.Ordinary.{number, ordinary}
use Rattle.au_expr.specs.OnRanges.{on_ranges}
use Rattle.au_expr.specs.Figures.{Figures, numbers_of}

-- the number of a value, if it is one
abbrev pub number_if_any : Value → List ℤ
number_if_any (Int n) = n ∷ []
number_if_any (Text bytes) = []
number_if_any (Flag b) = []

-- the components that are numbers
abbrev pub components : Span → List ℤ
components r = number_if_any r.lo ++ (number_if_any r.sg ++ number_if_any r.hi)

-- the four products of the ends
abbrev pub end_products : Span → Span → List ℤ
end_products a b =
    (number a.lo *ℤ number b.lo)
    ∷ (number a.lo *ℤ number b.hi)
    ∷ (number a.hi *ℤ number b.lo)
    ∷ (number a.hi *ℤ number b.hi)
    ∷ []

-- the numbers of values: a product is chosen from no others
abbrev pub of_values : Figures Value
of_values = record { components = number_if_any; products = λ a b. [] }

-- the numbers of ranges
abbrev pub of_ranges : Figures Span
of_ranges = record { components = components; products = end_products }

-- the numbers of an expression over values
abbrev pub value_numbers : Term → List Value → List ℤ
value_numbers e row = numbers_of ordinary of_values e row

-- the components of each subexpression, and the end products of each multiplication
abbrev pub expr_numbers : Term → List Span → List ℤ
expr_numbers e row = numbers_of on_ranges of_ranges e row
