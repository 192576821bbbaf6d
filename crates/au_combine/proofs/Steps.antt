-- One range more in a list of places or of aggregates.
use Rattle.std.specs.Prelude.{◌≡◌, ℕ, zero, suc, ◌+◌, ◌-◌, ◌<◌, List, [], ◌∷◌, ◌++◌}
use Rattle.std.proofs.Common.{arith, ◌∙◌, ap, append_assoc}
use Rattle.au_plain.specs.declared.plan.PAgg.{PAgg}
use Rattle.au_plain.specs.declared.plan.PAgg.TheVariants.{Min, Max}
use Rattle.au_rwexpr.specs.Cells.{run}
use Rattle.au_combine.specs.Boxes.{sg_places, box_aggs, weave}

-- the first item's part, and then those of the others
step : {A : Type 0} (xs part : List A) (rest : ℕ → List A) (n : ℕ) → (xs ++ part) ++ rest (suc n - 1) ≡ xs ++ (part ++ rest n)
step xs part rest n = ap (λ m. (xs ++ part) ++ rest m) (let e : suc n - 1 ≡ n = omega arith in e) ∙ append_assoc xs part (rest n)

pub run_step : (ps : List ℕ) (i n : ℕ) → 0 < n → (ps ++ i ∷ []) ++ run (i + 1) (n - 1) ≡ ps ++ run i n
run_step ps i zero h = let never : ⊥ = omega (arith, h) in absurd never
run_step ps i (suc n) h = step ps (i ∷ []) (run (i + 1)) n

pub guess_step : (ps : List ℕ) (i n : ℕ) → 0 < n → (ps ++ (i + 1) ∷ []) ++ sg_places (i + 3) (n - 1) ≡ ps ++ sg_places i n
guess_step ps i zero h = let never : ⊥ = omega (arith, h) in absurd never
guess_step ps i (suc n) h = step ps ((i + 1) ∷ []) (sg_places (i + 3)) n

pub ends_step : (aggs : List PAgg) (i n : ℕ) → 0 < n → (aggs ++ (Min i ∷ Max (i + 2) ∷ [])) ++ box_aggs (i + 3) (n - 1) ≡ aggs ++ box_aggs i n
ends_step aggs i zero h = let never : ⊥ = omega (arith, h) in absurd never
ends_step aggs i (suc n) h = step aggs (Min i ∷ Max (i + 2) ∷ []) (box_aggs (i + 3)) n

pub woven_step : (ps : List ℕ) (i j n : ℕ) → 0 < n → (ps ++ (j ∷ i ∷ (j + 1) ∷ [])) ++ weave (i + 1) (j + 2) (n - 1) ≡ ps ++ weave i j n
woven_step ps i j zero h = let never : ⊥ = omega (arith, h) in absurd never
woven_step ps i j (suc n) h = step ps (j ∷ i ∷ (j + 1) ∷ []) (weave (i + 1) (j + 2)) n
