-- The numbers of a plan over tables, by equal ones.
use Rattle.std.specs.Prelude.{◌≡◌, map, Vec}
use Rattle.std.specs.declared.alloc.Global.{Global}
use Rattle.std.proofs.Common.{sym, ◌∙◌, ap}
use Rattle.au_value.specs.declared.value.Value.{Value}
use Rattle.au_expr.specs.Figures.{fit}
use Rattle.au_physical.specs.PhysicalNumbers.{physical_numbers}
use Rattle.au_physical.specs.Physicals.{physical_tree}
use Rattle.au_physical.specs.declared.physical.Physical.{Physical}
use Rattle.au_exec.specs.HeldRows.{rows_of}

abbrev Row : Type 0
Row = Vec Value Global

pub same_fit :
    (plan box given : Physical) (tables held_tables : Vec (Vec Row Global) Global) → box ≡ plan → given ≡ plan → held_tables ≡ tables
    → fit (physical_numbers (physical_tree box) (map rows_of tables.items)) ≡ fit (physical_numbers (physical_tree given) (map rows_of held_tables.items))
same_fit plan box given tables held_tables a b c =
    ap (λ (p : Physical). fit (physical_numbers (physical_tree p) (map rows_of tables.items))) (a ∙ sym b)
    ∙ ap (λ (v : Vec (Vec Row Global) Global). fit (physical_numbers (physical_tree given) (map rows_of v.items))) (sym c)
