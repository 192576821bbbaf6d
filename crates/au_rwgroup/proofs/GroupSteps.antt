-- One aggregate more in the lists of columns and of aggregates of Group's plan.
use Rattle.std.specs.Prelude.{◌≡◌, ◌≤◌, ◌<◌, ℕ, ◌+◌, List, [], ◌∷◌, ◌++◌, drop, flat_map, length}
use Rattle.std.proofs.Common.{arith, get_or, sym, ◌∙◌, append_assoc}
use Rattle.std.proofs.lemmas.List.{drop_more}
use Rattle.au_algebra.specs.declared.query.Agg.{Agg}
use Rattle.au_algebra.specs.declared.query.Agg.TheVariants as agg
use Rattle.au_plain.specs.declared.plan.PAgg.{PAgg}
use Rattle.au_plain.specs.declared.plan.PAgg.TheVariants.{Sum}
use Rattle.au_plain.specs.PTerms.{PTerm}
use Rattle.au_rwgroup.specs.GroupPlan.{Places, kept_for, behind_kept, member_columns, each_member_columns, all_member_aggs, result_columns, all_result_columns}
use Rattle.au_rwgroup.specs.Folds.{fold_terms, all_fold_terms, fold_aggs}
use Rattle.au_rwgroup.specs.MemberAggs.{member_aggs}

-- what is kept for an aggregate is two columns at most
pub kept_within : (q next : ℕ) (a : Agg) → next ≡ behind_kept q a → next ≤ q + 2
kept_within q next (agg.Sum d) is = omega (arith, is)
kept_within q next (agg.Min d) is = omega (arith, is)
kept_within q next (agg.Max d) is = omega (arith, is)

module _ (aggs : List Agg) (i : ℕ) (within : i < length aggs) (a : Agg) where
  abbrev here : Agg
  here = get_or aggs i a

  abbrev rest : List Agg
  rest = drop (i + 1) aggs

  -- the columns of the member at hand, and then those of the others
  pub members_step : (p : Places) (q y : ℕ) (old new : List PTerm) → new ≡ old ++ member_columns p q y here → new ++ each_member_columns p (behind_kept q here) (y + 5) rest ≡ old ++ each_member_columns p q y (drop i aggs)
  members_step p q y old new is =
      (λ j. is j ++ each_member_columns p (behind_kept q here) (y + 5) rest)
      ∙ append_assoc old (member_columns p q y here) (each_member_columns p (behind_kept q here) (y + 5) rest)
      ∙ (λ j. old ++ each_member_columns p q y (sym (drop_more aggs i a within) j))

  -- what a row gives to it, and then to the others
  pub terms_step : (t : ℕ) (old new : List PTerm) → new ≡ old ++ fold_terms t here → new ++ all_fold_terms t rest ≡ old ++ all_fold_terms t (drop i aggs)
  terms_step t old new is =
      (λ j. is j ++ all_fold_terms t rest) ∙ append_assoc old (fold_terms t here) (all_fold_terms t rest) ∙ (λ j. old ++ all_fold_terms t (sym (drop_more aggs i a within) j))

  -- five aggregates, and then those of the others
  pub folds_step : (n : ℕ) (old mid new : List PAgg) → mid ≡ old ++ member_aggs n here → new ≡ mid ++ Sum (n + 4) ∷ [] → new ++ fold_aggs (n + 5) rest ≡ old ++ fold_aggs n (drop i aggs)
  folds_step n old mid new first last =
      (λ j. last j ++ fold_aggs (n + 5) rest)
      ∙ append_assoc mid (Sum (n + 4) ∷ []) (fold_aggs (n + 5) rest)
      ∙ (λ j. first j ++ (Sum (n + 4) ∷ fold_aggs (n + 5) rest))
      ∙ append_assoc old (member_aggs n here) (Sum (n + 4) ∷ fold_aggs (n + 5) rest)
      ∙ (λ j. old ++ fold_aggs n (sym (drop_more aggs i a within) j))

  -- what is kept for it, and then for the others
  pub kept_step : (old new : List PAgg) → new ≡ old ++ kept_for here → new ++ flat_map kept_for rest ≡ old ++ flat_map kept_for (drop i aggs)
  kept_step old new is =
      (λ j. is j ++ flat_map kept_for rest) ∙ append_assoc old (kept_for here) (flat_map kept_for rest) ∙ (λ j. old ++ flat_map kept_for (sym (drop_more aggs i a within) j))

  -- four aggregates, and then those of the others
  pub aggs_step : (n : ℕ) (old new : List PAgg) → new ≡ old ++ member_aggs n here → new ++ all_member_aggs (n + 4) rest ≡ old ++ all_member_aggs n (drop i aggs)
  aggs_step n old new is =
      (λ j. is j ++ all_member_aggs (n + 4) rest)
      ∙ append_assoc old (member_aggs n here) (all_member_aggs (n + 4) rest)
      ∙ (λ j. old ++ all_member_aggs n (sym (drop_more aggs i a within) j))

  -- a range, and then those of the others
  pub results_step : (there has_guess : PTerm) (z : ℕ) (old new : List PTerm) → new ≡ old ++ result_columns there has_guess z here → new ++ all_result_columns there has_guess (z + 4) rest ≡ old ++ all_result_columns there has_guess z (drop i aggs)
  results_step there has_guess z old new is =
      (λ j. is j ++ all_result_columns there has_guess (z + 4) rest)
      ∙ append_assoc old (result_columns there has_guess z here) (all_result_columns there has_guess (z + 4) rest)
      ∙ (λ j. old ++ all_result_columns there has_guess z (sym (drop_more aggs i a within) j))
