-- Moving conjuncts towards the tables changes nothing that a plan does.
use Rattle.std.specs.Prelude.{◌≡◌, []}
use Rattle.std.proofs.Common.{◌∙◌, refl, subst, sym}
use Rattle.au_algebra.proofs.Filters.{filter_all}
use Rattle.au_algebra.proofs.TreeRelation.{its_kinds}
use Rattle.au_plain.specs.Meaning.{plain_rows}
use Rattle.au_plain.specs.PlanKinds.{plan_kinds}
use Rattle.au_plain.specs.Plans.{PlanTree}
use Rattle.au_plain.specs.Widths.{plan_width}
use Rattle.au_passes.specs.Keeps.{Keeps}
use Rattle.au_passes.specs.Pushing.{pushed}
use Rattle.au_passes.proofs.Strengthening.{strengthened_by, strengthened_is}
use Rattle.au_passes.proofs.StrengthenedKinds.{strengthened_kinds}
use Rattle.au_passes.proofs.StrengthenedRows.{strengthened_rows}
use Rattle.au_passes.proofs.StrengthenedNumbers.{strengthened_fits}

strengthened_keeps : (p : PlanTree) → Keeps p (strengthened_by [] p)
strengthened_keeps p = record {
  typed = λ kinds ks h. strengthened_kinds kinds [] p ks h tt;
  rows = λ ts t. let k = its_kinds (plan_kinds t.kinds p) t.typed in strengthened_rows t.kinds ts t.tables [] p k.0 k.1 tt ∙ filter_all (plain_rows p ts);
  numbers = λ ts held t f. let k = its_kinds (plan_kinds t.kinds p) t.typed in strengthened_fits t.kinds ts t.tables held [] p k.0 k.1 tt f;
}

pub push_keeps : (p q : PlanTree) → q ≡ pushed p → Keeps p q
push_keeps p q h = subst (Keeps p) (sym (h ∙ strengthened_is (plan_width p) [] p refl)) (strengthened_keeps p)
