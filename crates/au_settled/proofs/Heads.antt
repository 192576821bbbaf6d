-- Places of a list of which the first stands apart.
use Rattle.std.specs.Prelude.{◌≡◌, ◌<◌, ℕ, suc, List, ◌∷◌, get_or, length}
use Rattle.std.proofs.Common.{subst, arith}
use Rattle.au_columns.specs.Steps.{AreBelow}

module _ (n : ℕ) (places : List ℕ) (first : ℕ) (rest : List ℕ) where
  pub head_below : places ≡ first ∷ rest → AreBelow places n → first < n
  head_below split h = subst (λ (ps : List ℕ). AreBelow ps n) split h 0 (omega arith)

  pub item_below : (i : ℕ) → places ≡ first ∷ rest → AreBelow places n → i < length rest → get_or rest i 0 < n
  item_below i split h within = subst (λ (ps : List ℕ). AreBelow ps n) split h (suc i) (omega (arith, within))
