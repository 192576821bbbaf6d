-- Rows of whole plans over cells.
use Rattle.std.specs.Prelude.{◌≡◌, ◌&&◌, ◌==◌, ℕ, zero, suc, true, List, [], ◌∷◌, ◌++◌, flat_map, length, map, slice_get, unwrap_or, Some}
use Rattle.std.specs.List.{AllZip, list_all}
use Rattle.std.proofs.Common.{refl, sym, ◌∙◌, ap, subst}
use Rattle.std.proofs.lemmas.Bool.{and_parts}
use Rattle.au_value.specs.declared.kinds.Kind.{Kind}
use Rattle.au_value.specs.declared.kinds.Kind.TheVariants as kind
use Rattle.au_value.specs.declared.value.Value.{Value}
use Rattle.au_value.specs.Order.{kind_of}
use Rattle.au_expr.specs.Kinds.{is_kind}
use Rattle.au_expr.proofs.Along.{is_kind_is}
use Rattle.au_algebra.specs.Ordinary.{Rows}
use Rattle.au_algebra.specs.Typing.{all_kinds, same_kinds}
use Rattle.au_algebra.proofs.Items.{and_then_is, chosen_is, some_is}
use Rattle.au_algebra.proofs.PositiveRelation.{same_kinds_is}
use Rattle.au_algebra.proofs.TreeRelation.{its_kinds}
use Rattle.au_plain.specs.PlanKinds.{HaveKinds, kept_kinds, list_kinds, plain_agg_kind, plain_kind, row_fits}
use Rattle.au_physical.specs.PhysicalKinds.{IsPhysicalFor, bounds_kinds, equal_kinds, physical_kinds}
use Rattle.au_physical.specs.PhysicalMeaning.{physical_rows, equal_pairs, overlap_pairs}
use Rattle.au_physical.specs.Physicals.{PhysicalTree}
use Rattle.au_physical.specs.Physicals as physical
use Rattle.au_codes.specs.Codes.{Code, KeepsOrder, coded_row, coded_rows, coded_tables, Knows, KnowsRow, KnowsRows, KnowsTables}
use Rattle.au_codes.specs.CodedPlans.{coded_term, coded_tree, coded_list, coded_literals, literals, written, KnowsPlan}
use Rattle.au_codes.specs.CellMeaning.{cell, cells_extended, cells_kept, cell_pairs, cells_equal_at, cells_overlap, cells_by_range, cell_group, plan_cells}
use Rattle.au_codes.proofs.Lists.{all_parts}
use Rattle.au_codes.proofs.Terms.{literal_cell}
use Rattle.au_codes.proofs.JoinedRows.{AreRows, AreCoded, extend_coded, keep_coded, filtered_coded, product_coded, hash_coded, overlap_coded, union_coded}
use Rattle.au_codes.proofs.GroupRows.{group_coded}

module _ (c : Code) (keeps : KeepsOrder c) where
  -- rows of some kinds that the code knows
  rows_from : (ks : List Kind) (rows : Rows) → HaveKinds ks rows → KnowsRows c rows → AreRows c ks rows
  rows_from ks [] h g = tt
  rows_from ks (r ∷ rows) h g = (record { kinds = h.0; known = g.0 }, rows_from ks rows h.1 g.1)

  -- a table
  table_coded : (ts : List Rows) (t : ℕ) → unwrap_or (slice_get (coded_tables c ts) t) [] ≡ coded_rows c (unwrap_or (slice_get ts t) [])
  table_coded [] t = refl
  table_coded (rows ∷ ts) zero = refl
  table_coded (rows ∷ ts) (suc t) = table_coded ts t

  table_rows : (tk : List (List Kind)) (ts : List Rows) → AllZip HaveKinds tk ts → KnowsTables c ts → (i : ℕ) (ks : List Kind) → slice_get tk i ≡ Some ks → AreRows c ks (unwrap_or (slice_get ts i) [])
  table_rows [] [] z w i ks h = cc
  table_rows [] (t ∷ ts) z w i ks h = elim z [ ]
  table_rows (k ∷ tk) [] z w i ks h = elim z [ ]
  table_rows (k ∷ tk) (t ∷ ts) z w zero ks h = rows_from ks t (subst (λ js. HaveKinds js t) (some_is k ks h) z.0) w.0
  table_rows (k ∷ tk) (t ∷ ts) z w (suc i) ks h = table_rows tk ts z.1 w.1 i ks h

  -- rows that a plan lists
  listed_row : (row : List Value) → map cell (coded_literals c row) ≡ coded_row c row
  listed_row [] = refl
  listed_row (v ∷ row) = λ i. literal_cell c keeps v i ∷ listed_row row i

  listed_cells : (rows : Rows) → map (map cell) (coded_list c rows) ≡ coded_rows c rows
  listed_cells [] = refl
  listed_cells (row ∷ rows) = λ i. listed_row row i ∷ listed_cells rows i

  all_same : (w : ℕ) (ks : List Kind) (rows : Rows) → list_all (λ r. (length r == w) && (same_kinds (map kind_of r) ks && row_fits r)) rows ≡ true → HaveKinds ks rows
  all_same w ks [] h = tt
  all_same w ks (r ∷ rows) h =
      let p = and_parts _ (list_all (λ r. (length r == w) && (same_kinds (map kind_of r) ks && row_fits r)) rows) h in
      let q = and_parts (length r == w) (same_kinds (map kind_of r) ks && row_fits r) p.0 in
      (same_kinds_is (map kind_of r) ks (and_parts _ (row_fits r) q.1).0, all_same w ks rows p.1)

  listed_kinds : (w : ℕ) (rows : Rows) (ks : List Kind) → list_kinds w rows ≡ Some ks → HaveKinds ks rows
  listed_kinds w [] ks h = tt
  listed_kinds w (r ∷ rows) ks h =
      let p = chosen_is _ (Some (map kind_of r)) ks h in
      subst (λ js. HaveKinds js (r ∷ rows)) (some_is (map kind_of r) ks p.1) (all_same w (map kind_of r) (r ∷ rows) p.0)

  listed_known : (rows : Rows) → KnowsRow c (flat_map (λ row. row) rows) → KnowsRows c rows
  listed_known [] h = tt
  listed_known (r ∷ rows) h = let p = all_parts (Knows c) r (flat_map (λ row. row) rows) h in (p.0, listed_known rows p.1)

  module _ (tk : List (List Kind)) (ts : List Rows) (ok : AllZip HaveKinds tk ts) (knows : KnowsTables c ts) where
    pub plan_coded : (p : PhysicalTree) (ks : List Kind) → physical_kinds tk p ≡ Some ks → KnowsPlan c p → AreCoded c ks (physical_rows p ts) (plan_cells (coded_tree c p) (coded_tables c ts))
    plan_coded (physical.Scan t w) ks h g =
        let p = and_then_is _ (slice_get tk t) ks h in
        let s = chosen_is _ (Some p.0) ks p.2 in
        record {
          rows = table_rows tk ts ok knows t ks (p.1 ∙ s.1);
          coded = table_coded ts t;
        }
    plan_coded (physical.Rows w rows) ks h g = record { rows = rows_from ks rows (listed_kinds w rows ks h) (listed_known rows g); coded = listed_cells rows }
    plan_coded (physical.Extend e q) ks h g =
        let p = and_then_is _ (physical_kinds tk q) ks h in
        let s = and_then_is _ (plain_kind p.0 e) ks p.2 in
        let w = all_parts (Knows c) (literals e) (written q) g in
        let below = plan_coded q p.0 p.1 w.1 in
        let own = extend_coded c keeps p.0 e s.0 s.1 w.0 (physical_rows q ts) below.rows in
        subst (λ js. AreCoded c js (physical_rows (physical.Extend e q) ts) (plan_cells (coded_tree c (physical.Extend e q)) (coded_tables c ts))) (some_is (p.0 ++ s.0 ∷ []) ks s.2)
        (record { rows = own.rows; coded = ap (map (cells_extended (coded_term c e))) below.coded ∙ own.coded })
    plan_coded (physical.Keep places q) ks h g =
        let p = and_then_is _ (physical_kinds tk q) ks h in
        let below = plan_coded q p.0 p.1 g in
        let own = keep_coded c keeps p.0 places ks p.2 (physical_rows q ts) below.rows in
        record { rows = own.rows; coded = ap (map (cells_kept places)) below.coded ∙ own.coded }
    plan_coded (physical.Filter e q) ks h g =
        let p = and_then_is _ (physical_kinds tk q) ks h in
        let s = chosen_is _ (Some p.0) ks p.2 in
        let w = all_parts (Knows c) (literals e) (written q) g in
        let below = plan_coded q p.0 p.1 w.1 in
        subst (λ js. AreCoded c js (physical_rows (physical.Filter e q) ts) (plan_cells (coded_tree c (physical.Filter e q)) (coded_tables c ts))) (some_is p.0 ks s.1)
        (filtered_coded c keeps p.0 e (is_kind_is kind.Flag (plain_kind p.0 e) s.0) w.0 (physical_rows q ts) (plan_cells (coded_tree c q) (coded_tables c ts)) below)
    plan_coded (physical.Nested e q r) ks h g =
        let p = and_then_is _ (physical_kinds tk q) ks h in
        let s = and_then_is _ (physical_kinds tk r) ks p.2 in
        let u = chosen_is _ (Some (p.0 ++ s.0)) ks s.2 in
        let w = all_parts (Knows c) (literals e) (written q ++ written r) g in
        let v = all_parts (Knows c) (written q) (written r) w.1 in
        let left = plan_coded q p.0 p.1 v.0 in
        let right = plan_coded r s.0 s.1 v.1 in
        let pairs = product_coded c keeps p.0 s.0 (physical_rows q ts) (physical_rows r ts) left.rows right.rows in
        subst (λ js. AreCoded c js (physical_rows (physical.Nested e q r) ts) (plan_cells (coded_tree c (physical.Nested e q r)) (coded_tables c ts))) (some_is (p.0 ++ s.0) ks u.1)
        (filtered_coded c keeps (p.0 ++ s.0) e (is_kind_is kind.Flag (plain_kind (p.0 ++ s.0) e) u.0) w.0
        (flat_map (λ a. map (λ b. a ++ b) (physical_rows r ts)) (physical_rows q ts))
        (flat_map (λ a. map (λ b. a ++ b) (plan_cells (coded_tree c r) (coded_tables c ts))) (plan_cells (coded_tree c q) (coded_tables c ts)))
        (record { rows = pairs.rows; coded = (λ i. flat_map (λ a. map (λ b. a ++ b) (right.coded i)) (left.coded i)) ∙ pairs.coded }))
    plan_coded (physical.Hash places e q r) ks h g =
        let p = and_then_is _ (physical_kinds tk q) ks h in
        let s = and_then_is _ (physical_kinds tk r) ks p.2 in
        let u = chosen_is _ (Some (p.0 ++ s.0)) ks s.2 in
        let b = and_parts (equal_kinds places p.0 s.0) (is_kind kind.Flag (plain_kind (p.0 ++ s.0) e)) u.0 in
        let w = all_parts (Knows c) (literals e) (written q ++ written r) g in
        let v = all_parts (Knows c) (written q) (written r) w.1 in
        let left = plan_coded q p.0 p.1 v.0 in
        let right = plan_coded r s.0 s.1 v.1 in
        let pairs = hash_coded c keeps p.0 s.0 places b.0 (physical_rows q ts) (physical_rows r ts) left.rows right.rows in
        subst (λ js. AreCoded c js (physical_rows (physical.Hash places e q r) ts) (plan_cells (coded_tree c (physical.Hash places e q r)) (coded_tables c ts))) (some_is (p.0 ++ s.0) ks u.1)
        (filtered_coded c keeps (p.0 ++ s.0) e (is_kind_is kind.Flag (plain_kind (p.0 ++ s.0) e) b.1) w.0
        (equal_pairs places (physical_rows q ts) (physical_rows r ts))
        (cell_pairs (cells_equal_at places) (plan_cells (coded_tree c q) (coded_tables c ts)) (plan_cells (coded_tree c r) (coded_tables c ts)))
        (record { rows = pairs.rows; coded = (λ i. cell_pairs (cells_equal_at places) (left.coded i) (right.coded i)) ∙ pairs.coded }))
    plan_coded (physical.Overlap at e q r) ks h g =
        let p = and_then_is _ (physical_kinds tk q) ks h in
        let s = and_then_is _ (physical_kinds tk r) ks p.2 in
        let u = chosen_is _ (Some (p.0 ++ s.0)) ks s.2 in
        let b = and_parts (bounds_kinds at p.0 s.0) (is_kind kind.Flag (plain_kind (p.0 ++ s.0) e)) u.0 in
        let w = all_parts (Knows c) (literals e) (written q ++ written r) g in
        let v = all_parts (Knows c) (written q) (written r) w.1 in
        let left = plan_coded q p.0 p.1 v.0 in
        let right = plan_coded r s.0 s.1 v.1 in
        let pairs = overlap_coded c keeps p.0 s.0 at b.0 (physical_rows q ts) (physical_rows r ts) left.rows right.rows in
        subst (λ js. AreCoded c js (physical_rows (physical.Overlap at e q r) ts) (plan_cells (coded_tree c (physical.Overlap at e q r)) (coded_tables c ts))) (some_is (p.0 ++ s.0) ks u.1)
        (filtered_coded c keeps (p.0 ++ s.0) e (is_kind_is kind.Flag (plain_kind (p.0 ++ s.0) e) b.1) w.0
        (overlap_pairs at (physical_rows q ts) (physical_rows r ts))
        (cell_pairs (cells_overlap at) (plan_cells (coded_tree c q) (coded_tables c ts)) (cells_by_range at (plan_cells (coded_tree c r) (coded_tables c ts))))
        (record { rows = pairs.rows; coded = (λ i. cell_pairs (cells_overlap at) (left.coded i) (cells_by_range at (right.coded i))) ∙ pairs.coded }))
    plan_coded (physical.Union q r) ks h g =
        let p = and_then_is _ (physical_kinds tk q) ks h in
        let s = and_then_is _ (physical_kinds tk r) ks p.2 in
        let u = chosen_is _ (Some p.0) ks s.2 in
        let v = all_parts (Knows c) (written q) (written r) g in
        let left = plan_coded q p.0 p.1 v.0 in
        let right = plan_coded r s.0 s.1 v.1 in
        let same = sym (same_kinds_is p.0 s.0 u.0) in
        subst (λ js. AreCoded c js (physical_rows (physical.Union q r) ts) (plan_cells (coded_tree c (physical.Union q r)) (coded_tables c ts))) (some_is p.0 ks u.1)
        (union_coded c keeps p.0 (physical_rows q ts) (physical_rows r ts) (plan_cells (coded_tree c q) (coded_tables c ts)) (plan_cells (coded_tree c r) (coded_tables c ts)) left
        (subst (λ js. AreCoded c js (physical_rows r ts) (plan_cells (coded_tree c r) (coded_tables c ts))) same right))
    plan_coded (physical.Group keys aggs q) ks h g =
        let p = and_then_is _ (physical_kinds tk q) ks h in
        let s = and_then_is _ (kept_kinds keys p.0) ks p.2 in
        let u = and_then_is _ (all_kinds (map (plain_agg_kind p.0) aggs)) ks s.2 in
        let below = plan_coded q p.0 p.1 g in
        let own = group_coded c keeps p.0 keys aggs s.0 u.0 s.1 u.1 (physical_rows q ts) below.rows in
        subst (λ js. AreCoded c js (physical_rows (physical.Group keys aggs q) ts) (plan_cells (coded_tree c (physical.Group keys aggs q)) (coded_tables c ts))) (some_is (s.0 ++ u.0) ks u.2)
        (record { rows = own.rows; coded = ap (cell_group keys aggs) below.coded ∙ own.coded })

  -- the rows of a typed plan over cells are the cells of its rows
  pub rows_coded : (p : PhysicalTree) (ts : List Rows) → IsPhysicalFor ts p → KnowsPlan c p → KnowsTables c ts → plan_cells (coded_tree c p) (coded_tables c ts) ≡ coded_rows c (physical_rows p ts)
  rows_coded p ts typed plan tables =
      let k = its_kinds (physical_kinds typed.kinds p) typed.typed in
      (plan_coded typed.kinds ts typed.tables tables p k.0 k.1 plan).coded

  known_rows : (ks : List Kind) (rows : Rows) → AreRows c ks rows → KnowsRows c rows
  known_rows ks [] h = tt
  known_rows ks (r ∷ rows) h = (h.0.known, known_rows ks rows h.1)

  -- the code knows the texts of a typed plan's rows
  pub rows_known : (p : PhysicalTree) (ts : List Rows) → IsPhysicalFor ts p → KnowsPlan c p → KnowsTables c ts → KnowsRows c (physical_rows p ts)
  rows_known p ts typed plan tables =
      let k = its_kinds (physical_kinds typed.kinds p) typed.typed in
      known_rows k.0 (physical_rows p ts) (plan_coded typed.kinds ts typed.tables tables p k.0 k.1 plan).rows
