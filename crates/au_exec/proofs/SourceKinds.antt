-- Of tables whose rows have kinds each has some.
use Rattle.std.specs.Prelude.{◌≡◌, ◌<◌, ℕ, zero, suc, List, [], ◌∷◌, length, get_or}
use Rattle.std.specs.List.{AllZip}
use Rattle.std.proofs.Common.{arith, subst, sym}
use Rattle.au_value.specs.declared.kinds.Kind.{Kind}
use Rattle.au_algebra.specs.Ordinary.{Rows}
use Rattle.au_plain.specs.PlanKinds.{HaveKinds}

zip_at : (tk : List (List Kind)) (ts : List Rows) (i : ℕ) (d : Rows) → AllZip HaveKinds tk ts → i < length ts → (ks : List Kind) × HaveKinds ks (get_or ts i d)
zip_at [] [] i d z below = absurd (omega (arith, below))
zip_at [] (t ∷ ts) i d z below = elim z [ ]
zip_at (k ∷ tk) [] i d z below = elim z [ ]
zip_at (k ∷ tk) (t ∷ ts) zero d z below = (k, z.0)
zip_at (k ∷ tk) (t ∷ ts) (suc i) d z below = zip_at tk ts i d z.1 (omega (arith, below))

pub some_kinds : (tk : List (List Kind)) (ts : List Rows) (i : ℕ) (rows : Rows) → AllZip HaveKinds tk ts → i < length ts → rows ≡ get_or ts i rows → (ks : List Kind) × HaveKinds ks rows
some_kinds tk ts i rows z below is = let found = zip_at tk ts i rows z below in (found.0, subst (HaveKinds found.0) (sym is) found.1)
