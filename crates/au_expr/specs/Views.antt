-- The cell that a view sees.
-- It is one that a row lends, or one that was made.
use Rattle.au_expr.specs.declared.view.View.{View}
use Rattle.au_expr.specs.declared.view.View.TheVariants.{Lent, Made}

abbrev pub seen : {C : Type 0} → View C → C
seen (Lent c) = c.now
seen (Made c) = c

-- a fact where the cell was made
abbrev pub IfMade : {C : Type 0} → View C → Type 0 → Type 0
IfMade (Lent c) P = Unit {0}
IfMade (Made c) P = P
