-- One range more in a list of places.
use Rattle.std.specs.Prelude.{◌≡◌, ℕ, zero, suc, ◌+◌, ◌-◌, ◌<◌, List, ◌++◌}
use Rattle.std.proofs.Common.{arith, ◌∙◌, ap, append_assoc}
use Rattle.au_rwexpr.specs.Cells.{cell_places, three_places}

-- the places of a range, and then of the others
pub cells_step : (ps : List ℕ) (p n : ℕ) → 0 < n → (ps ++ three_places p) ++ cell_places (p + 3) (n - 1) ≡ ps ++ cell_places p n
cells_step ps p zero h = let never : ⊥ = omega (arith, h) in absurd never
cells_step ps p (suc n) h =
    ap (λ m. (ps ++ three_places p) ++ cell_places (p + 3) m) (let e : suc n - 1 ≡ n = omega arith in e)
    ∙ append_assoc ps (three_places p) (cell_places (p + 3) n)
