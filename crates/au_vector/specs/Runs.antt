-- What a call that runs a plan over cells promises.
use Rattle.std.specs.Prelude.{◌≡◌, true, false, List, Result, MatchResult}
use Rattle.au_expr.specs.declared.fault.EvalFault.{EvalFault}
use Rattle.au_expr.specs.declared.fault.EvalFault.TheVariants as fault
use Rattle.au_expr.specs.Figures.{fit}
use Rattle.au_physical.specs.Physicals.{PhysicalTree}
use Rattle.au_codes.specs.Codes.{CellRows}
use Rattle.au_codes.specs.CellMeaning.{plan_cells}
use Rattle.au_codes.specs.CellNumbers.{plan_cell_numbers}

-- the plan's rows, in order, where its numbers fit, and a refusal only where they don't
abbrev pub Runs : PhysicalTree → List CellRows → Result CellRows EvalFault → Type 0
Runs p ts result =
    MatchResult result
    (λ made. (made ≡ plan_cells p ts) × (fit (plan_cell_numbers p ts) ≡ true))
    (λ f. f ≡ fault.Overflow → fit (plan_cell_numbers p ts) ≡ false)
