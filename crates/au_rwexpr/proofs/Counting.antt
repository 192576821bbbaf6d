-- How many Scans a rewritten plan has.
use Rattle.std.specs.Prelude.{◌≡◌, List, [], ◌∷◌}
use Rattle.std.proofs.Common.{refl}
use Rattle.au_plain.specs.PTerms.{PTerm}
use Rattle.au_plain.specs.Plans.{PlanTree, Extend, extend_all}
use Rattle.au_plain.specs.PlanNumbers.{scans}

-- added columns add no Scan
pub scans-extend_all : (es : List PTerm) (p : PlanTree) → scans (extend_all es p) ≡ scans p
scans-extend_all [] p = refl
scans-extend_all (e ∷ es) p = scans-extend_all es (Extend e p)
