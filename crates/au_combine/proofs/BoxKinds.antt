-- The plans of boxes and of Combine are typed.
use Rattle.std.specs.Prelude.{◌≡◌, ℕ, zero, suc, ◌+◌, ◌*◌, List, [], ◌∷◌, ◌++◌, length, map, Some, None, option_and_then, if◌then◌else◌}
use Rattle.std.proofs.Common.{arith, refl, ◌∙◌, ap, subst, append_assoc}
use Rattle.std.proofs.lemmas.List.{length-append}
use Rattle.au_value.specs.declared.kinds.Kind.{Kind}
use Rattle.au_value.specs.declared.kinds.Kind.TheVariants.{Int}
use Rattle.au_expr.specs.Kinds.{is_kind}
use Rattle.au_algebra.specs.Typing.{all_kinds}
use Rattle.au_plain.specs.declared.plan.PAgg.{PAgg}
use Rattle.au_plain.specs.declared.plan.PAgg.TheVariants.{Sum}
use Rattle.au_plain.specs.Plans.{PlanTree, Group}
use Rattle.au_plain.specs.PlanKinds.{plan_kinds, plain_agg_kind, kept_kinds}
use Rattle.au_encode.specs.Encode.{encoded_kinds, triple_kinds}
use Rattle.au_combine.specs.Boxes.{sg_places, box_aggs, weave, boxes, combine_plan}
use Rattle.au_rwexpr.specs.Cells.{run}
use Rattle.au_rwexpr.proofs.Places.{At, at_more, at_past, EndsOfAll}
use Rattle.au_rwexpr.proofs.Picks.{Picks, kinds_kept, picks_more, coded_cells, coded_triple}
use Rattle.au_combine.proofs.BoxPlaces.{weave_picks, run_picks}
use Rattle.au_rwexpr.proofs.Coded.{own}
use Rattle.au_rwexpr.proofs.Gives.{HasKinds, kinds-keep}

-- each kind twice
abbrev pub twice : List Kind → List Kind
twice [] = []
twice (k ∷ ks) = k ∷ k ∷ twice ks

twice_at : (ks : List Kind) (d j : ℕ) (k : Kind) → At ks d k → j ≡ 2 * d → At (twice ks) j k × At (twice ks) (j + 1) k
twice_at [] d j k h e = cc
twice_at (x ∷ ks) zero zero k h e = (h, h)
twice_at (x ∷ ks) zero (suc j) k h e = let never : ⊥ = omega (arith, e) in absurd never
twice_at (x ∷ ks) (suc d) zero k h e = let never : ⊥ = omega (arith, e) in absurd never
twice_at (x ∷ ks) (suc d) (suc zero) k h e = let never : ⊥ = omega (arith, e) in absurd never
twice_at (x ∷ ks) (suc d) (suc (suc j)) k h e =
    let rest = twice_at ks d j k h (omega (arith, e)) in
    (rest.0, subst (λ n. At (x ∷ x ∷ twice ks) n k) (let q : suc (suc (j + 1)) ≡ suc (suc j) + 1 = omega arith in q) rest.1)

twice_long : (ks : List Kind) → length (twice ks) ≡ 2 * length ks
twice_long [] = refl
twice_long (k ∷ ks) = omega (arith, twice_long ks)

module _ (row : List Kind) where
  sg_kinds : (i k : ℕ) (ks : List Kind) → length ks ≡ k → EndsOfAll own own own row i ks → Picks row (sg_places i k) ks
  sg_kinds i zero [] e z = tt
  sg_kinds i (suc k) [] e z = let never : ⊥ = omega (arith, e) in absurd never
  sg_kinds i zero (x ∷ xs) e z = let never : ⊥ = omega (arith, e) in absurd never
  sg_kinds i (suc k) (x ∷ xs) e z = (z.0.sg, sg_kinds (i + 3) k xs (omega (arith, e)) z.1)

  agg_kinds : (i k : ℕ) (ks : List Kind) (extra : List PAgg) (es : List Kind) → length ks ≡ k → EndsOfAll own own own row i ks → all_kinds (map (plain_agg_kind row) extra) ≡ Some es → all_kinds (map (plain_agg_kind row) (box_aggs i k ++ extra)) ≡ Some (twice ks ++ es)
  agg_kinds i zero [] extra es e z h = h
  agg_kinds i (suc k) [] extra es e z h = let never : ⊥ = omega (arith, e) in absurd never
  agg_kinds i zero (x ∷ xs) extra es e z h = let never : ⊥ = omega (arith, e) in absurd never
  agg_kinds i (suc k) (x ∷ xs) extra es e z h =
      let rest = agg_kinds (i + 3) k xs extra es (omega (arith, e)) z.1 h in
      λ t. option_and_then (λ a. option_and_then (λ more. Some (a ∷ more)) (option_and_then (λ b. option_and_then (λ more. Some (b ∷ more)) (rest t)) (z.0.hi t))) (z.0.lo t)

  -- Boxes have the kinds of their ranges, and then those of the further aggregates.
  pub boxes_kinds : (tk : List (List Kind)) (p : PlanTree) (k : ℕ) (ks : List Kind) (extra : List PAgg) (es : List Kind) → length ks ≡ k → length es ≡ length extra → EndsOfAll own own own row 0 ks → all_kinds (map (plain_agg_kind row) extra) ≡ Some es → plan_kinds tk p ≡ Some row → plan_kinds tk (boxes k extra p) ≡ Some (triple_kinds ks ++ es)
  boxes_kinds tk p k ks extra es e el z h g =
      let aggs = box_aggs 0 k ++ extra in
      let all = ks ++ (twice ks ++ es) in
      let front = ks ++ twice ks in
      let turned : front ++ map own es ≡ all = ap (λ q. front ++ q) (same es) ∙ append_assoc ks (twice ks) es in
      let grouped : plan_kinds tk (Group (sg_places 0 k) aggs p) ≡ Some all =
      ap (option_and_then (λ js. option_and_then (λ ms. option_and_then (λ more. Some (ms ++ more)) (all_kinds (map (plain_agg_kind js) aggs))) (kept_kinds (sg_places 0 k) js))) g
      ∙ (λ t. option_and_then (λ ms. option_and_then (λ more. Some (ms ++ more)) (agg_kinds 0 k ks extra es e z h t)) (kinds_kept row (sg_places 0 k) ks (sg_kinds 0 k ks e z) t)) in
      let found : (d : ℕ) (x : Kind) → At ks d x → At all (0 + d) x × At all (k + 2 * d) x × At all (k + 2 * d + 1) x =
      (λ d x at.
      (let two = twice_at ks d (2 * d) x at refl in (
        at_more ks (twice ks ++ es) (0 + d) x (subst (λ n. At ks n x) (let q : d ≡ 0 + d = omega arith in q) at),
        at_past ks (twice ks ++ es) (2 * d) (k + 2 * d) x (omega (arith, e)) (at_more (twice ks) es (2 * d) x two.0),
        at_past ks (twice ks ++ es) (2 * d + 1) (k + 2 * d + 1) x (omega (arith, e)) (at_more (twice ks) es (2 * d + 1) x two.1),
      ))) in
      let front_long : length front ≡ k + 2 * k = omega (arith, length-append ks (twice ks), twice_long ks, e) in
      let last : Picks all (run (k + 2 * k) (length extra)) es =
      subst (λ m. Picks all (run (k + 2 * k) m) es) el
      (subst (λ vs. Picks all (run (k + 2 * k) (length es)) vs) (same es) (subst (λ r. Picks r (run (k + 2 * k) (length es)) (map own es)) turned (run_picks own front es (k + 2 * k) front_long))) in
      kinds-keep tk (weave 0 k k ++ run (k + 2 * k) (length extra)) (Group (sg_places 0 k) aggs p) all (triple_kinds ks ++ es) grouped
      (picks_more all (weave 0 k k) (run (k + 2 * k) (length extra)) (triple_kinds ks) es (weave_picks own own own all 0 k k ks e found) last)
    where
      same : (xs : List Kind) → map own xs ≡ xs
      same [] = refl
      same (x ∷ xs) = λ i. x ∷ same xs i

-- Combine's plan has the encoded kinds of its input.
pub combine_kinds : (tk : List (List Kind)) (ks : List Kind) (p : PlanTree) → HasKinds tk p ks → HasKinds tk (combine_plan (length ks) p) ks
combine_kinds tk ks p h =
    let c = length ks in
    let row = encoded_kinds ks in
    let t = coded_triple own own own own own own c ks Int refl in
    let sum_kind : (i : ℕ) → At row i Int → plain_agg_kind row (Sum i) ≡ Some Int = (λ i at. λ j. if is_kind Int (at j) then Some Int else None) in
    boxes_kinds row tk p c ks (Sum (3 * c) ∷ Sum (3 * c + 1) ∷ Sum (3 * c + 2) ∷ []) (Int ∷ Int ∷ Int ∷ []) refl refl (coded_cells own own own own own own c ks Int refl)
    (λ j. option_and_then (λ a. option_and_then (λ more. Some (a ∷ more)) (option_and_then (λ b. option_and_then (λ more. Some (b ∷ more)) (option_and_then (λ d. Some (d ∷ [])) (sum_kind (3 * c + 2) t.hi j))) (sum_kind (3 * c + 1) t.sg j))) (sum_kind (3 * c) t.lo j)) h
