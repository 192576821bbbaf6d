-- Query trees in which the groups of Group and Distinct are formed in another way, and what such a grouping must keep:
-- then the relation of each tree bounds and guesses the ordinary answer as the bounded relation does.
use Rattle.std.specs.Prelude.{◌≡◌, ℕ, Bool, List, [], ◌++◌, take, Some, slice_get, unwrap_or, ℤ, if◌then◌else◌}
use Rattle.std.specs.List.{AllZip}
use Rattle.au_value.specs.declared.kinds.Kind.{Kind}
use Rattle.au_value.specs.Lists.{distinct}
use Rattle.au_algebra.specs.declared.query.Agg.{Agg}
use Rattle.au_algebra.specs.Bounded.{Bounded, combine, normal, select, project, union, difference, distinct_rows, group, total}
use Rattle.au_algebra.specs.Distribution.{Bounds}
use Rattle.au_algebra.specs.Fits.{grouping_numbers, triple_numbers}
use Rattle.au_algebra.specs.Laws.{IsRelation, Guesses}
use Rattle.au_algebra.specs.Lists.{same_row}
use Rattle.au_algebra.specs.Ordinary as ordinary
use Rattle.au_algebra.specs.Ordinary.{Rows, answer}
use Rattle.au_algebra.specs.Products.{KeepsProduct}
use Rattle.au_algebra.specs.Trees.{Tree, Table, Select, Project, Product, Union, Difference, Distinct, Group, Total}
use Rattle.au_algebra.specs.Typing.{group_kinds, kinds_of}

-- how groups by the leading columns, and distinct rows, are formed, and the numbers that are made for them
pub record Grouping : Type 0 where
  pub groups : ℕ → List Agg → Bounded → Bounded
  pub distinct_of : Bounded → Bounded
  pub groups_numbers : ℕ → List Agg → Bounded → List ℤ
  pub distinct_numbers : Bounded → List ℤ

-- Group and Distinct themselves
abbrev pub by_hulls : Grouping
by_hulls = record {
  groups = group;
  distinct_of = distinct_rows;
  groups_numbers = λ keys aggs rows. grouping_numbers (take keys) aggs rows ++ triple_numbers (group keys aggs rows);
  distinct_numbers = λ rows. triple_numbers (distinct_rows rows);
}

-- the bounded relation that the operators give, with these in place of Product, Group and Distinct
abbrev pub bounded_with : (Bounded → Bounded → Bounded) → Grouping → Tree → List Bounded → Bounded
bounded_with join by (Table i) ts = unwrap_or (slice_get ts i) []
bounded_with join by (Select e q) ts = select e (bounded_with join by q ts)
bounded_with join by (Project items q) ts = project items (bounded_with join by q ts)
bounded_with join by (Product a b) ts = join (bounded_with join by a ts) (bounded_with join by b ts)
bounded_with join by (Union a b) ts = union (bounded_with join by a ts) (bounded_with join by b ts)
bounded_with join by (Difference a b) ts = difference (bounded_with join by a ts) (bounded_with join by b ts)
bounded_with join by (Distinct q) ts = by.distinct_of (bounded_with join by q ts)
bounded_with join by (Group keys aggs q) ts = by.groups keys aggs (bounded_with join by q ts)
bounded_with join by (Total aggs q) ts = total aggs (bounded_with join by q ts)

-- the answer, combined where that is asked for
abbrev pub answer_with : (Bounded → Bounded → Bounded) → Grouping → Bool → Tree → List Bounded → Bounded
answer_with join by combined q ts =
    normal (if combined then combine (bounded_with join by q ts) else bounded_with join by q ts)

-- of a relation of the kinds ks an operator gives one of the kinds js, which bounds and guesses what the ordinary operator
-- gives of a list that the relation bounds and guesses
pub record KeepsRows (ks js : List Kind) (op : Bounded → Bounded) (plain : Rows → Rows) : Type 0 where
  pub relation : (rows : Bounded) → IsRelation ks rows → IsRelation js (op rows)
  pub bounds : (rows : Bounded) (w : Rows) → IsRelation ks rows → Bounds rows w → Bounds (op rows) (plain w)
  pub guesses : (rows : Bounded) (w : Rows) → IsRelation ks rows → Guesses rows w → Guesses (op rows) (plain w)

-- a grouping keeps what Group and Distinct keep
pub record KeepsGroups (by : Grouping) : Type 0 where
  pub groups :
      (ks js : List Kind) (keys : ℕ) (aggs : List Agg) →
      group_kinds keys aggs ks ≡ Some js → KeepsRows ks js (by.groups keys aggs) (ordinary.group keys aggs)
  pub distinct_of : (ks : List Kind) → KeepsRows ks ks by.distinct_of (distinct same_row)

-- rows of ranges of these kinds, which bound and guess the ordinary answer where the tables bound and guess lists
pub record IsAnswer (q : Tree) (kinds : List (List Kind)) (ks : List Kind) (ts : List Bounded) (rows : Bounded) : Type 0 where
  pub relation : IsRelation ks rows
  pub bounds : (ws : List Rows) → AllZip Bounds ts ws → Bounds rows (answer q ws)
  pub guesses : (ws : List Rows) → AllZip Guesses ts ws → Guesses rows (answer q ws)

-- the relation of each typed tree, and its answer, combined or not, bound and guess the ordinary answer
pub record AnswersWith (join : Bounded → Bounded → Bounded) (by : Grouping) : Type 0 where
  pub relation :
      (q : Tree) (kinds : List (List Kind)) (ks : List Kind) (ts : List Bounded) →
      kinds_of kinds q ≡ Some ks → AllZip IsRelation kinds ts → IsAnswer q kinds ks ts (bounded_with join by q ts)
  pub answer :
      (combined : Bool) (q : Tree) (kinds : List (List Kind)) (ks : List Kind) (ts : List Bounded) →
      kinds_of kinds q ≡ Some ks → AllZip IsRelation kinds ts → IsAnswer q kinds ks ts (answer_with join by combined q ts)

-- Each grouping that keeps what Group and Distinct keep may stand in their place, beside each product that keeps what
-- Product keeps.
abbrev pub AnyGrouping : Type 0
AnyGrouping = (join : Bounded → Bounded → Bounded) (by : Grouping) → KeepsProduct join → KeepsGroups by → AnswersWith join by
