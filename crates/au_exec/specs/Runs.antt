-- A plan that is run batch by batch, as callers see it: the rows that are left, whether the numbers of the plan lie in the
-- range, and the refusal that it gave.
use Rattle.std.specs.Prelude.{◌≡◌, ⊤, Bool, true, false, [], ◌++◌, map, Option, None, Vec, IfSome, Result, MatchResult, Some}
use Rattle.std.specs.declared.alloc.Global.{Global}
use Rattle.std.specs.Vec.Iter.{into_iter_items}
use Rattle.au_value.specs.declared.value.Value.{Value}
use Rattle.au_expr.specs.Figures.{fit}
use Rattle.au_expr.specs.declared.fault.EvalFault.{EvalFault}
use Rattle.au_expr.specs.declared.fault.EvalFault.TheVariants as fault
use Rattle.au_algebra.specs.Ordinary.{Rows}
use Rattle.au_physical.specs.PhysicalKinds.{IsPhysicalFor}
use Rattle.au_physical.specs.PhysicalMeaning.{physical_rows}
use Rattle.au_physical.specs.PhysicalNumbers.{physical_numbers}
use Rattle.au_physical.specs.Physicals.{physical_tree}
use Rattle.au_exec.specs.HeldRows.{lent_rows, rows_of}
use Rattle.au_exec.specs.Taken.{IsBatch, chunk_rows}
use Rattle.au_exec.specs.declared.state.State.{State}
use Rattle.au_exec.specs.declared.state.State.TheVariants.{Waiting, Going}

-- the rows that are left
abbrev pub state_rows : State → Rows
state_rows (Waiting plan tables) = physical_rows (physical_tree plan.value) (map rows_of tables.items)
state_rows (Going rows) = lent_rows (into_iter_items rows)

-- whether the numbers that are left lie in the range
abbrev pub state_fits : State → Bool
state_fits (Waiting plan tables) = fit (physical_numbers (physical_tree plan.value) (map rows_of tables.items))
state_fits (Going rows) = true

-- it can be run
abbrev pub CanGo : State → Type 0
CanGo (Waiting plan tables) = IsPhysicalFor (map rows_of tables.items) (physical_tree plan.value)
CanGo (Going rows) = ⊤

-- its rows were made
abbrev pub IsGoing : State → Type 0
IsGoing (Waiting plan tables) = ⊥
IsGoing (Going rows) = ⊤

-- what is left is the same
pub record Same (before after : State) : Type 0 where
  pub rows : state_rows before ≡ state_rows after
  pub fits : state_fits before ≡ state_fits after

-- a batch was taken from the front, or at the end none
pub record Step (before after : State) (batch : Option (Vec (Vec Value Global) Global)) : Type 0 where
  pub rows : state_rows before ≡ chunk_rows batch ++ state_rows after
  pub fits : state_fits before ≡ state_fits after
  pub can : CanGo after
  pub size : IfSome batch IsBatch
  pub ends : batch ≡ None → state_rows after ≡ []

abbrev pub Stepped : State → State → Result (Option (Vec (Vec Value Global) Global)) EvalFault → Type 0
Stepped before after result = MatchResult result (λ batch. Step before after batch) (λ f. f ≡ fault.Overflow → state_fits before ≡ false)

-- as long as nothing was refused, the numbers that are left lie in the range just where those of the plan do
pub record IsRun (state : State) (refusal : Option EvalFault) (within : Bool) : Type 0 where
  pub can : refusal ≡ None → CanGo state
  pub same : refusal ≡ None → state_fits state ≡ within
  pub over : refusal ≡ Some fault.Overflow → within ≡ false
