-- What a plan gives over its inputs, by its run over the rows that it reads of them.
use Rattle.std.specs.Prelude.{◌≡◌, ℕ, true, false, List}
use Rattle.std.proofs.Common.{sym, ◌∙◌, ap, subst}
use Rattle.au_expr.specs.Figures.{Fit, fit}
use Rattle.au_algebra.specs.Ordinary.{Rows}
use Rattle.au_algebra.proofs.TreeRelation.{its_kinds}
use Rattle.au_plain.specs.PlanKinds.{FitRows, FitTables}
use Rattle.au_physical.specs.PhysicalKinds.{IsPhysicalFor, physical_kinds}
use Rattle.au_physical.specs.PhysicalMeaning.{physical_rows}
use Rattle.au_physical.specs.PhysicalNumbers.{physical_numbers}
use Rattle.au_physical.specs.Physicals.{PhysicalTree}
use Rattle.au_encode.specs.Encode.{AreEncoded}
use Rattle.au_program.specs.Inputs.{ReadsAll}
use Rattle.au_engine.proofs.HeldRows.{physical_fit}

module _ (whole held : List Rows) (p q : PhysicalTree) (r : ReadsAll whole held p q) where
  -- no number of what was found leaves the range
  pub run_fits : FitTables whole → IsPhysicalFor whole p → (found : Rows) → found ≡ physical_rows q held → fit (physical_numbers q held) ≡ true → FitRows found
  run_fits fits typed found is f =
      let k = its_kinds (physical_kinds typed.kinds p) typed.typed in
      subst FitRows (sym (is ∙ r.rows)) (physical_fit typed.kinds whole fits k.0 p k.1 (subst Fit r.numbers f))

  pub run_leaves : fit (physical_numbers q held) ≡ false → fit (physical_numbers p whole) ≡ false
  run_leaves out = ap fit (sym r.numbers) ∙ out

-- a copy of the plan, over the same inputs
module _ (whole inputs : List Rows) (p q : PhysicalTree) (is : inputs ≡ whole) (same : q ≡ p) where
  pub copy_starts : IsPhysicalFor whole p → IsPhysicalFor inputs q
  copy_starts h = subst (λ ts. IsPhysicalFor ts q) (sym is) (subst (IsPhysicalFor whole) (sym same) h)

  pub copy_rows : physical_rows q inputs ≡ physical_rows p whole
  copy_rows = λ i. physical_rows (same i) (is i)

  pub copy_encoded : (columns : ℕ) → AreEncoded columns (physical_rows p whole) → AreEncoded columns (physical_rows q inputs)
  copy_encoded columns h = subst (AreEncoded columns) (sym copy_rows) h

  pub copy_leaves : fit (physical_numbers q inputs) ≡ false → fit (physical_numbers p whole) ≡ false
  copy_leaves out = (λ i. fit (physical_numbers (sym same i) (sym is i))) ∙ out
