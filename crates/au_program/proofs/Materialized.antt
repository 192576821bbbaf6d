-- The rows that a plan's run finds, behind other tables: their Scan gives what the plan gives.
use Rattle.std.specs.Prelude.{◌≡◌, ℕ, ◌+◌, ◌*◌, List, [], ◌∷◌, ◌++◌, length, ℤ}
use Rattle.std.proofs.Common.{sym, ◌∙◌, ap, subst}
use Rattle.std.proofs.lemmas.List.{length-map}
use Rattle.au_value.specs.declared.kinds.Kind.{Kind}
use Rattle.au_algebra.specs.Bounded.{Bounded, combine}
use Rattle.au_algebra.specs.Fits.{triple_numbers}
use Rattle.au_algebra.specs.Lists.{copies}
use Rattle.au_algebra.specs.Ordinary.{Rows}
use Rattle.au_blocks.specs.Tables.{BlockTable, IsBlockTable, column_kinds}
use Rattle.au_translate.specs.Translate.{bounded_table}
use Rattle.au_translate.proofs.BlockRelation.{table_relation}
use Rattle.au_plain.specs.Plans.{PlanTree, Scan}
use Rattle.au_combine.specs.Gives.{Combines}
use Rattle.au_encode.specs.Encode.{encode}
use Rattle.au_value.specs.Order.{data_kind}
use Rattle.au_program.specs.Stages.{Adds, AddsTable, CanRunPlan, FindsRows, LeavesRange, LeavesRangeCombined, Materializes, MaterializesCombined}
use Rattle.au_program.proofs.StageRuns.{adds_relation}
use Rattle.au_program.proofs.StageSteps.{one_adds, scan_adds}

-- the encoded rows of a block table
pub adds_table :
    (t : BlockTable) (columns : ℕ) (found : Rows) (old new : List Rows) (q : PlanTree) (d : ℕ) → IsBlockTable t → columns ≡ length t.columns → found ≡ encode (bounded_table t) →
    new ≡ old ++ found ∷ [] → d ≡ columns → q ≡ Scan (length old) (3 * columns + 3) → AddsTable t old new q d
adds_table t columns found old new q d ok counted is behind wide scan ns =
    let long : length (column_kinds t) ≡ columns = length-map t.columns (λ c. data_kind c.kind) ∙ sym counted in
    subst (λ n. Adds old new q n (column_kinds t) (bounded_table t) ns) (sym wide)
    (scan_adds old new found behind columns (column_kinds t) (bounded_table t) long (table_relation t ok.table ok.blocks) (λ v. ap (copies v) is) q scan ns)

module _ (held : List Rows) (p : PlanTree) (c : ℕ) where
  pub materializes :
      (found : Rows) (old new : List Rows) (q : PlanTree) (d : ℕ) → FindsRows held p c found → new ≡ old ++ found ∷ [] → d ≡ c → q ≡ Scan (length old) (3 * c + 3) →
      Materializes held p c old new q d
  materializes found old new q d finds behind wide scan = (
    finds.0,
    λ ks rows ns a.
        subst (λ n. Adds old new q n ks rows ns) (sym wide)
        (scan_adds old new found behind c ks rows a.columns (adds_relation held p c ks rows ns a finds.0) (finds.1 ks rows ns a) q scan ns),
  )

  module _ (made : PlanTree) (d : ℕ) (wide : d ≡ c) (joined : Combines c p made) where
    -- the plan of the combined rows
    pub combined_adds : (ks : List Kind) (rows : Bounded) (ns : List ℤ) → Adds [] held p c ks rows ns → Adds [] held made d ks (combine rows) (ns ++ triple_numbers (combine rows))
    combined_adds ks rows ns a =
        one_adds [] held p made c d ks ks rows (combine rows) ns (ns ++ triple_numbers (combine rows)) (a.columns ∙ sym wide)
        (λ tk tables fits g. joined tk tables ks rows ns a.columns g) a

    pub combined_runs : CanRunPlan held p c → CanRunPlan held made d
    combined_runs can =
        let rows = can.1.0 in
        (can.0, (combine rows, (can.1.1.0 ++ triple_numbers (combine rows), combined_adds can.0 rows can.1.1.0 can.1.1.1)))

    pub combined_materializes : (old new : List Rows) (q : PlanTree) (e : ℕ) → Materializes held made d old new q e → MaterializesCombined held p c old new q e
    combined_materializes old new q e moves = (moves.0, λ ks rows ns a. moves.1 ks (combine rows) (ns ++ triple_numbers (combine rows)) (combined_adds ks rows ns a))

    pub combined_leaves : LeavesRange held made d → LeavesRangeCombined held p c
    combined_leaves leaves ks rows ns a = leaves ks (combine rows) (ns ++ triple_numbers (combine rows)) (combined_adds ks rows ns a)
