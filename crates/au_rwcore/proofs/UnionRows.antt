-- The rows of Union as a plan are those of the bounded operator.
use Rattle.std.specs.Prelude.{not, List, ◌++◌}
use Rattle.std.proofs.Common.{sym, ◌∙◌, ap}
use Rattle.std.proofs.lemmas.List.{map-append}
use Rattle.au_value.specs.declared.kinds.Kind.{Kind}
use Rattle.au_annot.specs.Triples.{is_none}
use Rattle.au_algebra.specs.Ordinary.{Rows}
use Rattle.au_algebra.specs.Bounded as bounded
use Rattle.au_algebra.specs.Bounded.{Bounded}
use Rattle.au_algebra.specs.Laws.{IsRelation}
use Rattle.std.proofs.lemmas.List.Elements.{filter-append}
use Rattle.au_plain.specs.Plans.{PlanTree}
use Rattle.au_encode.specs.Encode.{encode, encode_row}
use Rattle.au_rwcore.specs.Core.{union_plan}
use Rattle.au_rwexpr.proofs.Gives.{GivesEncoded}
use Rattle.au_rwexpr.proofs.Present.{present_all}

-- Union's plan gives the rows of the bounded union.
pub union_gives : (ks : List Kind) (ts : List Rows) (p q : PlanTree) (xs ys : Bounded) → IsRelation ks xs → IsRelation ks ys → GivesEncoded ts p xs → GivesEncoded ts q ys → GivesEncoded ts (union_plan p q) (bounded.union xs ys)
union_gives ks ts p q xs ys v w g h =
    (λ i. g i ++ h i)
    ∙ sym (map-append encode_row xs ys)
    ∙ ap encode ((λ i. sym (present_all ks xs v) i ++ sym (present_all ks ys w) i) ∙ sym (filter-append (λ r. not (is_none r.annot)) xs ys))
