-- Columns that are added to a row one after the other: what the row is then, the kinds of the columns,
-- and the numbers that are evaluated on the way.
use Rattle.std.specs.Prelude.{◌≡◌, ℕ, ◌-◌, List, [], ◌∷◌, ◌++◌, length, drop, Option, Some, ℤ, option_and_then}
use Rattle.au_value.specs.declared.kinds.Kind.{Kind}
use Rattle.au_value.specs.declared.value.Value.{Value}
use Rattle.au_expr.specs.Terms.{Term}
use Rattle.au_expr.specs.Kinds.{kind_in}
use Rattle.au_expr.specs.OnRanges.{range_of}
use Rattle.au_expr.specs.Figures.{Fit}
use Rattle.au_expr.specs.Numbers.{expr_numbers}
use Rattle.au_algebra.specs.Bounded.{RangeRow}
use Rattle.au_algebra.specs.Laws.{IsRangeRow}
use Rattle.au_plain.specs.PTerms.{PTerm}
use Rattle.au_plain.specs.Meaning.{extended}
use Rattle.au_plain.specs.PlanKinds.{plain_kind}
use Rattle.au_plain.specs.PlanNumbers.{term_numbers}
use Rattle.au_encode.specs.Encode.{encode_row, encoded_kinds}

-- the row with the columns added
abbrev pub grow : List PTerm → List Value → List Value
grow [] row = row
grow (e ∷ es) row = grow es (extended e row)

-- its kinds, where each column has one
abbrev pub grow_kinds : List PTerm → List Kind → Option (List Kind)
grow_kinds [] ks = Some ks
grow_kinds (e ∷ es) ks = option_and_then (λ k. grow_kinds es (ks ++ k ∷ [])) (plain_kind ks e)

-- the numbers of the columns, each evaluated on the row with those before it
abbrev pub grow_numbers : List PTerm → List Value → List ℤ
grow_numbers [] row = []
grow_numbers (e ∷ es) row = term_numbers e row ++ grow_numbers es (extended e row)

abbrev pub last_three : {A : Type 0} → List A → List A
last_three xs = drop (length xs - 3) xs

-- Added to an encoded row of so many columns, the last three are lo, sg and hi of the expression's range.
abbrev pub EndsWithRange : ℕ → Term → List PTerm → Type 0
EndsWithRange c e columns =
    (ks : List Kind) (k : Kind) (r : RangeRow) → length ks ≡ c → kind_in ks e ≡ Some k → IsRangeRow ks r →
    last_three (grow columns (encode_row r)) ≡ (range_of e r.cells).lo ∷ (range_of e r.cells).sg ∷ (range_of e r.cells).hi ∷ []

-- Each column has a kind, and the last three have the expression's.
abbrev pub EndsWithKind : ℕ → Term → List PTerm → Type 0
EndsWithKind c e columns =
    (ks : List Kind) (k : Kind) → length ks ≡ c → kind_in ks e ≡ Some k →
    (before : List Kind) × (grow_kinds columns (encoded_kinds ks) ≡ Some (encoded_kinds ks ++ (before ++ k ∷ k ∷ k ∷ [])))

-- The columns' numbers are in the range wherever the expression's are.
abbrev pub NumbersStay : ℕ → Term → List PTerm → Type 0
NumbersStay c e columns =
    (ks : List Kind) (k : Kind) (r : RangeRow) → length ks ≡ c → kind_in ks e ≡ Some k → IsRangeRow ks r →
    Fit (expr_numbers e r.cells) → Fit (grow_numbers columns (encode_row r))
