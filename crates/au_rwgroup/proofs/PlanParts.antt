-- The parts of Group's plan over boxes, made one by one, are those of the definition.
use Rattle.std.specs.Prelude.{◌≡◌, ℕ, ◌+◌, ◌*◌, List, length, flat_map}
use Rattle.std.proofs.Common.{◌∙◌, ap}
use Rattle.au_algebra.specs.declared.query.Agg.{Agg}
use Rattle.au_plain.specs.PTerms.{PTerm, Column}
use Rattle.au_plain.specs.Plans.{PlanTree, Keep, extend_all}
use Rattle.au_rwexpr.specs.Counts.{positive}
use Rattle.au_rwgroup.specs.declared.folding.Folding.{Folding}
use Rattle.au_rwgroup.specs.Folds.{fold_width, folds}
use Rattle.au_rwgroup.specs.GroupPlan.{kept_for, places, all_member_columns, all_member_aggs, all_result_columns, second_grouping, result_places, group_over}

-- the places that were worked out
pub record PlacesAre (k : ℕ) (aggs : List Agg) (kept counts keys fold tests there number : ℕ) : Type 0 where
  pub kept_is : kept ≡ length (flat_map kept_for aggs)
  pub counts_is : counts ≡ 3 * k
  pub keys_is : keys ≡ k
  pub fold_is : fold ≡ 3 * k + 3 + kept
  pub tests_is : tests ≡ 3 * k + 3 + kept + fold_width k number
  pub there_is : there ≡ 3 * k + 3 + kept + 4 * number
  pub number_is : number ≡ length aggs

module _ (how : Folding) (c k : ℕ) (aggs : List Agg) (kept counts keys fold tests there number : ℕ) (at : PlacesAre k aggs kept counts keys fold tests there number) where
  -- the whole plan, from its parts
  pub plan_is : (boxes of groups p : PlanTree) (shown : List ℕ) (columns : List PTerm) → columns ≡ all_result_columns (positive (Column there)) (positive (Column (counts + 1))) fold aggs → shown ≡ result_places k (there + 1) number → groups ≡ second_grouping keys fold (all_member_columns (places keys fold tests) (counts + 3) aggs) (all_member_aggs (tests + 4) aggs) boxes (folds how c keys aggs of) → p ≡ Keep shown (extend_all columns groups) → p ≡ group_over how c k aggs boxes of
  plan_is boxes of groups p shown columns columns_are shown_are groups_are whole =
      let kept_long = ap (λ n. 3 * k + 3 + n) at.kept_is in
      let fold_at = at.fold_is ∙ kept_long in
      let tests_at = at.tests_is ∙ (λ i. kept_long i + fold_width k (at.number_is i)) in
      let there_at = at.there_is ∙ (λ i. kept_long i + 4 * at.number_is i) in
      whole
      ∙ (λ i. Keep (shown_are i) (extend_all (columns_are i) (groups_are i)))
      ∙ (λ i.
      Keep (result_places k (there_at i + 1) (at.number_is i))
      (extend_all (all_result_columns (positive (Column (there_at i))) (positive (Column (at.counts_is i + 1))) (fold_at i) aggs)
      (second_grouping (at.keys_is i) (fold_at i) (all_member_columns (places (at.keys_is i) (fold_at i) (tests_at i)) (at.counts_is i + 3) aggs) (all_member_aggs (tests_at i + 4) aggs)
      boxes (folds how c (at.keys_is i) aggs of))))
