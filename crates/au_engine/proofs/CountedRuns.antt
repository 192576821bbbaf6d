-- What the run of a tree's plan finds over inputs of rows with counts, by a physical plan that stands for it.
use Rattle.std.specs.Prelude.{◌≡◌, ℕ, zero, suc, List, [], ◌∷◌, ◌++◌, length, map, Some, is_some}
use Rattle.std.specs.List.{AllZip}
use Rattle.std.proofs.Common.{arith, refl, sym, ◌∙◌, ap, subst}
use Rattle.au_value.specs.declared.kinds.Kind.{Kind}
use Rattle.au_value.specs.declared.kinds.Kind.TheVariants as kind
use Rattle.au_value.specs.declared.value.Value.{Value}
use Rattle.au_value.specs.Order.{kind_of}
use Rattle.au_expr.specs.Ordinary.{IsKind}
use Rattle.au_algebra.specs.Lists.{copies}
use Rattle.au_algebra.specs.Ordinary.{Rows}
use Rattle.au_algebra.specs.Trees.{Tree}
use Rattle.au_algebra.specs.Typing.{IsTyped, kinds_of}
use Rattle.au_plain.specs.Meaning.{plain_rows}
use Rattle.au_plain.specs.PlanKinds.{FitTables, HaveKinds, IsTypedFor}
use Rattle.au_plain.specs.Plans.{PlanTree}
use Rattle.au_physical.specs.PhysicalKinds.{IsPhysicalFor}
use Rattle.au_physical.specs.PhysicalMeaning.{physical_rows}
use Rattle.au_physical.specs.Physicals.{PhysicalTree}
use Rattle.au_rwcounted.specs.Answers.{counted_answer}
use Rattle.au_rwcounted.specs.CountedRows.{AreCountsRows, CountsRow, count_kinds, count_value, counts_kinds, counts_rows}
use Rattle.au_program.specs.CountedPlans.{GivesCounted, GivesRows, HasCounts}
use Rattle.au_program.specs.Inputs.{StandsReady}
use Rattle.au_program.proofs.Operators.{typed_kinds}
use Rattle.au_engine.specs.CountedInputs.{AreCounted, FindsCounted, FoundRows}

-- ---- rows with counts have their kinds

counts_have : (ns : List ℕ) (k : ℕ) → length ns ≡ k → map kind_of (map count_value ns) ≡ count_kinds k
counts_have [] zero e = refl
counts_have [] (suc k) e = let never : ⊥ = omega (arith, e) in absurd never
counts_have (n ∷ ns) zero e = let never : ⊥ = omega (arith, e) in absurd never
counts_have (n ∷ ns) (suc k) e = ap (λ ks. kind.Int ∷ ks) (counts_have ns k (omega (arith, e)))

row_has : (k : ℕ) (ks : List Kind) (cells : List Value) (ns : List ℕ) → AllZip IsKind ks cells → length ns ≡ k → map kind_of (cells ++ map count_value ns) ≡ counts_kinds k ks
row_has k [] [] ns z e = counts_have ns k e
row_has k [] (v ∷ cells) ns z e = elim z [ ]
row_has k (j ∷ ks) [] ns z e = elim z [ ]
row_has k (j ∷ ks) (v ∷ cells) ns z e = λ i. z.0 i ∷ row_has k ks cells ns z.1 e i

rows_have : (k : ℕ) (ks : List Kind) (rows : List CountsRow) → AreCountsRows k ks rows → HaveKinds (counts_kinds k ks) (counts_rows rows)
rows_have k ks [] h = tt
rows_have k ks (r ∷ rows) h = (row_has k ks r.cells r.annot h.0.cells h.0.counts, rows_have k ks rows h.1)

tables_have : (k : ℕ) (kinds : List (List Kind)) (ts : List (List CountsRow)) → AllZip (AreCountsRows k) kinds ts → AllZip HaveKinds (map (counts_kinds k) kinds) (map counts_rows ts)
tables_have k [] [] z = tt
tables_have k [] (t ∷ ts) z = elim z [ ]
tables_have k (ks ∷ kinds) [] z = elim z [ ]
tables_have k (ks ∷ kinds) (t ∷ ts) z = (rows_have k ks t z.0, tables_have k kinds ts z.1)

-- ---- the run

module _ (k : ℕ) (kinds : List (List Kind)) (q : Tree) (p : PlanTree) (c : ℕ) (gives : GivesCounted k kinds q p c) (may : HasCounts k q)
    (whole held : List Rows) (physical : PhysicalTree) (r : StandsReady whole held p physical)
  where
    module _ (ts : List (List CountsRow)) (ok : AllZip (AreCountsRows k) kinds ts) (are : map counts_rows ts ≡ whole) (ks : List Kind) (typed : kinds_of kinds q ≡ Some ks) where
      here : GivesRows k (map (counts_kinds k) kinds) (map counts_rows ts) p ks (counted_answer q ts)
      here = (gives may ts ks ok (subst FitTables (sym are) r.fit) typed).1

      have : AllZip HaveKinds (map (counts_kinds k) kinds) whole
      have = subst (AllZip HaveKinds (map (counts_kinds k) kinds)) are (tables_have k kinds ts ok)

      typed_for : IsTypedFor whole p
      typed_for = record { kinds = map (counts_kinds k) kinds; tables = have; typed = ap is_some here.typed }

      can_start : IsPhysicalFor whole r.improved
      can_start = record { kinds = map (counts_kinds k) kinds; tables = have; typed = ap is_some (r.stands.typed (map (counts_kinds k) kinds) (counts_kinds k ks) here.typed) }

      found_rows : (found : Rows) → found ≡ physical_rows physical held → FoundRows k ks (counted_answer q ts) found
      found_rows found is = record {
        relation = here.relation;
        same = λ v. ap (copies v) (is ∙ r.reads.rows) ∙ r.stands.rows whole typed_for v ∙ ap (copies v) (plain_of_whole ∙ here.counted);
      }
        where
          plain_of_whole : plain_rows p whole ≡ plain_rows p (map counts_rows ts)
          plain_of_whole = ap (plain_rows p) (sym are)

    -- the physical plan can be run
    pub counted_start : IsTyped kinds q → AreCounted k kinds whole → IsPhysicalFor held physical
    counted_start typed inputs =
        let own = typed_kinds kinds q typed in
        r.reads.typed (can_start inputs.tables inputs.relations inputs.are own.0 own.1)

    -- it finds the rows of the tree
    pub counted_finds : (found : Rows) → found ≡ physical_rows physical held → FindsCounted k kinds q whole found
    counted_finds found is ts ks ok are typed = found_rows ts ok are ks typed found is
