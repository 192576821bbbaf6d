-- Rows of which a copy is possible.
use Rattle.std.specs.Prelude.{◌≡◌, ◌≤◌, cond, List, [], ◌∷◌, map}
use Rattle.std.specs.List.{AllByRecursion}
use Rattle.std.proofs.Common.{refl, ◌∙◌, ap}
use Rattle.au_value.specs.declared.kinds.Kind.{Kind}
use Rattle.au_algebra.specs.Bounded.{RangeRow, Bounded, present}
use Rattle.au_algebra.specs.Laws.{IsRelation}
use Rattle.au_rwexpr.proofs.Coded.{some_not_none}

-- rows of which a copy is possible are all there
pub present_map : {A : Type 0} (P : A → Type 0) (k : A → RangeRow) (xs : List A) → AllByRecursion P xs → ((x : A) → P x → 1 ≤ (k x).annot.most) → present (map k xs) ≡ map k xs
present_map P k [] v h = refl
present_map P k (x ∷ xs) v h =
    ap (λ b. cond b (k x ∷ present (map k xs)) (present (map k xs))) (some_not_none (k x).annot.most (h x v.0))
    ∙ (λ i. k x ∷ present_map P k xs v.1 h i)

pub present_all : (ks : List Kind) (rows : Bounded) → IsRelation ks rows → present rows ≡ rows
present_all ks [] ok = refl
present_all ks (r ∷ rows) ok =
    ap (λ b. cond b (r ∷ present rows) (present rows)) (some_not_none r.annot.most ok.0.present) ∙ (λ i. r ∷ present_all ks rows ok.1 i)
