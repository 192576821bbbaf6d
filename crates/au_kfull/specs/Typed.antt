-- Trees that are typed for bounded relations,
-- and relations that have the columns of an operator.
use Rattle.std.specs.Prelude.{◌≡◌, List, Some}
use Rattle.std.specs.List.{AllZip}
use Rattle.au_value.specs.declared.kinds.Kind.{Kind}
use Rattle.au_value.specs.declared.kinds.Kind.TheVariants.{Flag}
use Rattle.au_expr.specs.Terms.{Term}
use Rattle.au_expr.specs.Kinds.{kind_in}
use Rattle.au_algebra.specs.Counted.{CountedRow}
use Rattle.au_algebra.specs.declared.query.Agg.{Agg}
use Rattle.au_algebra.specs.Bounded.{Bounded}
use Rattle.au_algebra.specs.Laws.{IsRelation}
use Rattle.au_algebra.specs.Trees.{Tree}
use Rattle.au_algebra.specs.Typing.{items_kinds, kinds_of, IsTyped}
use Rattle.au_kfull.specs.Embedding.{IsCountedTable}
use Rattle.au_kfull.specs.Outputs.{CanGroup, CanTotal}

-- the tree is typed for the relations
abbrev pub IsTypedOver : Tree → List Bounded → Type 0
IsTypedOver q ts = (kinds : List (List Kind)) × IsTyped kinds q × AllZip IsRelation kinds ts

-- rows of ranges of the kinds that the tree is typed with
abbrev pub HasTreeKinds : Tree → List Bounded → Bounded → Type 0
HasTreeKinds q ts rows =
    (kinds : List (List Kind)) (ks : List Kind) → AllZip IsRelation kinds ts → kinds_of kinds q ≡ Some ks → IsRelation ks rows

-- the tree is typed for tables of values with counts
abbrev pub IsTypedOverValues : Tree → List (List CountedRow) → Type 0
IsTypedOverValues q ts = (kinds : List (List Kind)) × IsTyped kinds q × AllZip IsCountedTable kinds ts

-- rows of values of the kinds that the tree is typed with
abbrev pub HasValueKinds : Tree → List (List CountedRow) → List CountedRow → Type 0
HasValueKinds q ts rows =
    (kinds : List (List Kind)) (ks : List Kind) →
    AllZip IsCountedTable kinds ts → kinds_of kinds q ≡ Some ks →
    IsCountedTable ks rows

-- the expression is a condition on the rows
abbrev pub CanSelect : Term → Bounded → Type 0
CanSelect e rows = (ks : List Kind) × (kind_in ks e ≡ Some Flag) × IsRelation ks rows

-- each item has a kind
abbrev pub CanProject : List Term → Bounded → Type 0
CanProject items rows = (ks : List Kind) × (js : List Kind) × (items_kinds ks items ≡ Some js) × IsRelation ks rows

-- both are relations, of any kinds
abbrev pub CanJoin : Bounded → Bounded → Type 0
CanJoin xs ys = (ks : List Kind) × (js : List Kind) × IsRelation ks xs × IsRelation js ys

-- both are relations of the same kinds
abbrev pub AreAlike : Bounded → Bounded → Type 0
AreAlike xs ys = (ks : List Kind) × IsRelation ks xs × IsRelation ks ys

-- each aggregate has a kind
abbrev pub IsGroupable : List Agg → Bounded → Type 0
IsGroupable aggs rows = (ks : List Kind) × IsRelation ks rows × CanGroup ks aggs

-- each aggregate is a sum of numbers
abbrev pub IsSummable : List Agg → Bounded → Type 0
IsSummable aggs rows = (ks : List Kind) × IsRelation ks rows × CanTotal ks aggs
