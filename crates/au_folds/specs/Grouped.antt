-- What calls that group rows promise.
use Rattle.std.specs.Prelude.{◌≡◌, ℕ, true, false, List, Result, MatchResult}
use Rattle.au_expr.specs.declared.fault.EvalFault.{EvalFault}
use Rattle.au_expr.specs.declared.fault.EvalFault.TheVariants as fault
use Rattle.au_expr.specs.Figures.{fit}
use Rattle.au_plain.specs.declared.plan.PAgg.{PAgg}
use Rattle.au_codes.specs.Codes.{CellRows}
use Rattle.au_codes.specs.CellMeaning.{cell_group}
use Rattle.au_codes.specs.CellNumbers.{cell_group_numbers}
use Rattle.au_folds.specs.Tables.{Table, grown, table_numbers}

-- a table and more rows, unless a magnitude leaves 128 bits
abbrev pub Grows : Table → CellRows → Result Table EvalFault → Type 0
Grows t rows result =
    MatchResult result
    (λ more. (more ≡ grown t rows) × (fit (table_numbers more) ≡ true))
    (λ f. f ≡ fault.Overflow → fit (table_numbers (grown t rows)) ≡ false)

-- the rows of a grouping, whose numbers fit, and a refusal only where they don't
abbrev pub IsGrouped : List ℕ → List PAgg → CellRows → Result CellRows EvalFault → Type 0
IsGrouped keys aggs rows result =
    MatchResult result
    (λ made. (made ≡ cell_group keys aggs rows) × (fit (cell_group_numbers keys aggs rows) ≡ true))
    (λ f. f ≡ fault.Overflow → fit (cell_group_numbers keys aggs rows) ≡ false)
