-- The plans of Group and Distinct by points.
use Rattle.std.specs.Prelude.{◌≡◌, ℕ, zero, suc, Bool, not, cond, List, [], ◌∷◌, ◌++◌, filter, length, map, nat_le, take, pos}
use Rattle.std.specs.List.{AllByRecursion}
use Rattle.std.proofs.Common.{arith, refl, ◌∙◌, ap, subst}
use Rattle.std.proofs.lemmas.Bool.{leb-true}
use Rattle.std.proofs.lemmas.Grind.{flat_map-append}
use Rattle.au_value.specs.declared.kinds.Kind.{Kind}
use Rattle.au_value.specs.Ranges.{IsRangeOf, all_certain}
use Rattle.au_expr.specs.Figures.{Fit}
use Rattle.au_expr.proofs.Fits.{fit_both, fit_parts}
use Rattle.au_algebra.specs.declared.query.Agg.{Agg}
use Rattle.au_algebra.specs.Bounded.{RangeRow, Bounded, distinct_rows, union}
use Rattle.au_algebra.specs.Fits.{grouping_numbers, triple_numbers}
use Rattle.au_algebra.specs.Laws.{IsRangeRow, IsRelation}
use Rattle.au_algebra.proofs.Each.{all_append}
use Rattle.au_algebra.proofs.Items.{chosen_is}
use Rattle.au_plain.specs.Plans.{PlanTree}
use Rattle.au_encode.specs.Gives.{GivesRelation}
use Rattle.au_encode.proofs.Decoded.{cells_length}
use Rattle.au_rwexpr.proofs.Present.{present_all}
use Rattle.au_rwcore.specs.Gives.{Unites}
use Rattle.au_rwgroup.specs.Gives.{Distincts, Groups}
use Rattle.au_points.specs.GuessRows.{guess_row}
use Rattle.au_points.specs.Points.{distinct_points, group_points, numbers_by_points, other_outputs, other_rows, point_numbers, point_outputs, possible_row}
use Rattle.au_points.proofs.CertainRows.{points_are_distinct}
use Rattle.au_rwpoints.specs.Gives.{DistinctByPoints, GroupsByPoints, PointOutputs}
use Rattle.au_rwpoints.specs.RowPlans.{guess_plan, other_plan}
use Rattle.au_rwpoints.proofs.RowPlans.{guess_gives, other_gives}

-- ---- both parts

-- the numbers of two relations, one after the other
both_parts : (ks : List Kind) (xs ys : Bounded) → IsRelation ks xs → IsRelation ks ys → Fit (triple_numbers (union xs ys)) → Fit (triple_numbers xs) × Fit (triple_numbers ys)
both_parts ks xs ys a b f =
    let whole = present_all ks (xs ++ ys) (all_append (IsRangeRow ks) xs ys a b) in
    let apart : triple_numbers (union xs ys) ≡ triple_numbers xs ++ triple_numbers ys = ap triple_numbers whole ∙ flat_map-append (λ r. pos r.annot.least ∷ pos r.annot.guess ∷ pos r.annot.most ∷ []) xs ys in
    fit_parts (triple_numbers xs) (triple_numbers ys) (subst Fit apart f)

-- ---- Group

module _ (c k : ℕ) (aggs : List Agg) (of first second p : PlanTree) where
  pub group_gives : PointOutputs c k aggs of first → Groups c k aggs (other_plan c k of) second → Unites first second p → GroupsByPoints c k aggs of p
  group_gives of_first of_second of_plan kinds tables ks js rows ns fits long typed g =
      let within = leb-true k (length ks) (chosen_is (nat_le k (length ks)) _ js typed).0 in
      let points = point_outputs (take k) aggs rows in
      let others = other_outputs (take k) aggs rows in
      let a = of_first kinds tables ks js rows ns fits long typed g in
      let a_own = point_numbers (take k) aggs rows in
      let b_rows : GivesRelation kinds tables (other_plan c k of) ks (other_rows (take k) rows) ns = subst (λ q. GivesRelation kinds tables q ks (other_rows (take k) rows) ns) (ap (λ n. other_plan n k of) long) (other_gives ks k within kinds tables of rows ns fits g) in
      let b = of_second kinds tables ks js (other_rows (take k) rows) ns fits long typed b_rows in
      let b_sums = grouping_numbers (take k) aggs (other_rows (take k) rows) in
      let b_own = b_sums ++ triple_numbers others in
      let whole = of_plan kinds tables js points others (ns ++ a_own) (ns ++ b_own) a b in
      let triples = triple_numbers (group_points k aggs rows) in
      record {
        typed = whole.typed;
        relation = whole.relation;
        encoded = whole.encoded;
        fit = λ f.
            (let n = fit_parts ns (numbers_by_points (take k) aggs rows) f in
            let q = fit_parts a_own (b_sums ++ triples) n.1 in
            let r = fit_parts b_sums triples q.1 in
            let t = both_parts js points others a.relation b.relation r.1 in
            whole.fit
            (fit_both (ns ++ a_own) (ns ++ b_own) (fit_both ns a_own n.0 q.0)
            (fit_both ns b_own n.0 (fit_both b_sums (triple_numbers others) r.0 t.1))));
      }

-- ---- Distinct

same_filter : (p q : RangeRow → Bool) (rows : Bounded) → AllByRecursion (λ r. p r ≡ q r) rows → filter p rows ≡ filter q rows
same_filter p q [] h = refl
same_filter p q (r ∷ rows) h = λ i. cond (h.0 i) (r ∷ same_filter p q rows h.1 i) (same_filter p q rows h.1 i)

take_all : {A : Type 0} (n : ℕ) (xs : List A) → length xs ≡ n → take n xs ≡ xs
take_all zero [] e = refl
take_all zero (x ∷ xs) e = let never : ⊥ = omega (arith, e) in absurd never
take_all (suc n) [] e = let never : ⊥ = omega (arith, e) in absurd never
take_all (suc n) (x ∷ xs) e = ap (λ q. x ∷ q) (take_all n xs (omega (arith, e)))

same_tests : (ks : List Kind) (rows : Bounded) → IsRelation ks rows → AllByRecursion (λ r. not (all_certain (take (length ks) r.cells)) ≡ not (all_certain r.cells)) rows
same_tests ks [] ok = tt
same_tests ks (r ∷ rows) ok =
    (ap (λ cells. not (all_certain cells)) (take_all (length ks) r.cells (cells_length IsRangeOf ks r.cells ok.0.cells)), same_tests ks rows ok.1)

-- the rows with an unsure range among all columns
others_are : (ks : List Kind) (rows : Bounded) → IsRelation ks rows → other_rows (take (length ks)) rows ≡ other_rows (λ cells. cells) rows
others_are ks rows ok =
    ap (map possible_row)
    (same_filter (λ r. not (all_certain (take (length ks) r.cells))) (λ r. not (all_certain r.cells)) rows (same_tests ks rows ok))

module _ (c : ℕ) (of first second p : PlanTree) where
  pub distinct_gives : Distincts c (guess_plan c of) first → Distincts c (other_plan c c of) second → Unites first second p → DistinctByPoints c of p
  distinct_gives of_first of_second of_plan kinds tables ks rows ns fits long g =
      let points = point_outputs (λ cells. cells) [] rows in
      let others = distinct_rows (other_rows (λ cells. cells) rows) in
      let a_rows : GivesRelation kinds tables (guess_plan c of) ks (map guess_row rows) ns = subst (λ q. GivesRelation kinds tables q ks (map guess_row rows) ns) (ap (λ n. guess_plan n of) long) (guess_gives ks kinds tables of rows ns fits g) in
      let a = of_first kinds tables ks (map guess_row rows) ns fits long a_rows in
      let are : distinct_rows (map guess_row rows) ≡ points = points_are_distinct ks rows g.relation in
      let a_points : GivesRelation kinds tables first ks points (ns ++ triple_numbers points) = subst (λ q. GivesRelation kinds tables first ks q (ns ++ triple_numbers q)) are a in
      let b_take : GivesRelation kinds tables (other_plan c c of) ks (other_rows (take (length ks)) rows) ns = subst (λ q. GivesRelation kinds tables q ks (other_rows (take (length ks)) rows) ns) (λ i. other_plan (long i) (long i) of) (other_gives ks (length ks) (omega arith) kinds tables of rows ns fits g) in
      let b_rows : GivesRelation kinds tables (other_plan c c of) ks (other_rows (λ cells. cells) rows) ns = subst (λ q. GivesRelation kinds tables (other_plan c c of) ks q ns) (others_are ks rows g.relation) b_take in
      let b = of_second kinds tables ks (other_rows (λ cells. cells) rows) ns fits long b_rows in
      let whole = of_plan kinds tables ks points others (ns ++ triple_numbers points) (ns ++ triple_numbers others) a_points b in
      record {
        typed = whole.typed;
        relation = whole.relation;
        encoded = whole.encoded;
        fit = λ f.
            (let n = fit_parts ns (triple_numbers (distinct_points rows)) f in
            let t = both_parts ks points others a_points.relation b.relation n.1 in
            whole.fit (fit_both (ns ++ triple_numbers points) (ns ++ triple_numbers others) (fit_both ns (triple_numbers points) n.0 t.0) (fit_both ns (triple_numbers others) n.0 t.1)));
      }
