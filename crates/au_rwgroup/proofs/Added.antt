-- What the plans of Distinct, Group and Total add to the numbers of their input.
use Rattle.std.specs.Prelude.{◌≡◌, ℕ, ◌+◌, ◌*◌, List, [], ◌∷◌, ◌++◌, length, flat_map, replicate, pos}
use Rattle.std.proofs.Common.{refl, sym, ◌∙◌, ap}
use Rattle.au_value.specs.declared.value.Value.TheVariants.{Int}
use Rattle.au_algebra.specs.declared.query.Agg.{Agg}
use Rattle.au_plain.specs.PTerms.{Column}
use Rattle.au_plain.specs.Plans.{PlanTree, Scan, Rows, Keep, Join, Union, Group, extend_all}
use Rattle.au_encode.specs.Encode.{encode, encoded_kinds}
use Rattle.au_rwexpr.specs.Cells.{run}
use Rattle.au_rwexpr.specs.Counts.{one_term, positive}
use Rattle.au_rwexpr.specs.Flatten.{sg, three}
use Rattle.au_rwexpr.specs.Meets.{meets_term}
use Rattle.au_rwexpr.proofs.Filled.{filled, filled-extend_all, one_filled, one_adds, scan_gives}
use Rattle.au_rwgroup.specs.Adds.{AddsByDistinct, AddsByGroup, AddsByTotal}
use Rattle.au_rwgroup.specs.declared.folding.Folding.{Folding}
use Rattle.au_rwgroup.specs.declared.folding.Folding.TheVariants as folding
use Rattle.au_rwgroup.specs.Folds.{fold_aggs, fold_columns, fold_places, fold_width, folds}
use Rattle.au_rwgroup.specs.Groups.{first_grouping, distinct_plan}
use Rattle.au_rwgroup.specs.GroupPlan.{kept_for, places, all_member_columns, all_member_aggs, all_result_columns, result_places, second_grouping, group_plan}
use Rattle.au_rwgroup.specs.Totals.{total_plan, total_columns, total_sums}
use Rattle.au_rwgroup.proofs.GroupLaws.{group_gives_all}
use Rattle.au_rwgroup.proofs.Laws.{distinct_gives, total_gives}

-- ---- Scans in the plans of the operators

folds_filled : (s : ℕ → PlanTree) (how : Folding) (c k : ℕ) (aggs : List Agg) (p : PlanTree) → filled s (folds how c k aggs p) ≡ folds how c k aggs (filled s p)
folds_filled s folding.EqualKeys c k aggs p = ap (Group (fold_places c k) (fold_aggs (3 * c + 5) aggs)) (filled-extend_all s (fold_columns (3 * c) aggs) p)
folds_filled s folding.Rows c k aggs p = ap (Keep (fold_places c k ++ run (3 * c + 5) (5 * length aggs))) (filled-extend_all s (fold_columns (3 * c) aggs) p)

group_filled : (s : ℕ → PlanTree) (how : Folding) (c k : ℕ) (aggs : List Agg) (p : PlanTree) → filled s (group_plan how c k aggs p) ≡ group_plan how c k aggs (filled s p)
group_filled s how c k aggs p =
    let kept = flat_map kept_for aggs in
    let b = 3 * k + 3 + length kept in
    let there = b + 4 * length aggs in
    let t = b + fold_width k (length aggs) in
    let columns = all_member_columns (places k b t) (3 * k + 3) aggs in
    let over = all_member_aggs (t + 4) aggs in
    let boxes = first_grouping c k kept p in
    let folded = folds how c k aggs p in
    let results = all_result_columns (positive (Column there)) (positive (sg (3 * k))) b aggs in
    ap (Keep (result_places k (there + 1) (length aggs)))
    (filled-extend_all s results (second_grouping k b columns over boxes folded)
    ∙ ap (λ q. extend_all results (Group (run 0 b) over q)) (filled-extend_all s columns (Join (meets_term b 0 k) boxes folded)
    ∙ (λ i. extend_all columns (Join (meets_term b 0 k) (first_grouping c k kept (filled s p)) (folds_filled s how c k aggs p i)))))

total_filled : (s : ℕ → PlanTree) (c : ℕ) (aggs : List Agg) (p : PlanTree) → filled s (total_plan c aggs p) ≡ total_plan c aggs (filled s p)
total_filled s c [] p = refl
total_filled s c (a ∷ aggs) p =
    let columns = total_columns (3 * c) (a ∷ aggs) in
    let w = length columns in
    ap
    (λ q.
    extend_all (three one_term one_term one_term)
    (Group [] (total_sums 0 (a ∷ aggs)) (Union (Rows w (replicate w (Int (pos 0)) ∷ [])) (Keep (run (3 * c + 3) w) q))))
    (filled-extend_all s columns p)

-- ---- the laws

module _ (c : ℕ) (of p : PlanTree) (is : p ≡ distinct_plan c of) where
  pub distinct_adds : AddsByDistinct c of p
  distinct_adds tables ks rows long g f =
      let scan = Scan 0 (3 * length ks + 3) in
      let over = distinct_plan c scan in
      let tk = encoded_kinds ks ∷ [] in
      let ts = encode rows ∷ [] in
      let gives = distinct_gives c scan over refl tk ts ks rows [] (g.held, tt) long (scan_gives tk ts 0 ks rows [] refl refl g.encodes.relation) in
      one_adds tables of (encode rows) g.encodes.encoded over p (sym is) (gives.fit f)

module _ (how : Folding) (c m : ℕ) (aggs : List Agg) (of p : PlanTree) (is : p ≡ group_plan how c m aggs of) where
  pub group_adds : AddsByGroup c m aggs of p
  group_adds tables ks js rows long typed g f =
      let scan = Scan 0 (3 * length ks + 3) in
      let over = group_plan how c m aggs scan in
      let tk = encoded_kinds ks ∷ [] in
      let ts = encode rows ∷ [] in
      let gives = group_gives_all how c m aggs scan over refl tk ts ks js rows [] (g.held, tt) long typed (scan_gives tk ts 0 ks rows [] refl refl g.encodes.relation) in
      one_adds tables of (encode rows) g.encodes.encoded over p (group_filled (one_filled of) how c m aggs scan ∙ sym is) (gives.fit f)

module _ (c : ℕ) (aggs : List Agg) (of p : PlanTree) (is : p ≡ total_plan c aggs of) where
  pub total_adds : AddsByTotal c aggs of p
  total_adds tables ks js rows long typed g f =
      let scan = Scan 0 (3 * length ks + 3) in
      let over = total_plan c aggs scan in
      let tk = encoded_kinds ks ∷ [] in
      let ts = encode rows ∷ [] in
      let gives = total_gives c aggs scan over refl tk ts ks js rows [] (g.held, tt) long typed (scan_gives tk ts 0 ks rows [] refl refl g.encodes.relation) in
      one_adds tables of (encode rows) g.encodes.encoded over p (total_filled (one_filled of) c aggs scan ∙ sym is) (gives.fit f)
