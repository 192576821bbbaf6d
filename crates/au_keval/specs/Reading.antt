-- The general reading of a query of the four positive operators, by a domain's operators and any annotations
-- (Green, Karvounarakis, Tannen, PODS 2007), and whether its numbers and annotations lie in the range.
use Rattle.std.specs.Prelude.{Bool, true, ◌&&◌, IsTrue, List}
use Rattle.std.specs.List.{list_all, AllByRecursion, AllZip}
use Rattle.au_value.specs.declared.kinds.Kind.{Kind}
use Rattle.au_expr.specs.Terms.{Term}
use Rattle.au_expr.specs.Evaluate.{Operators, evaluate}
use Rattle.au_expr.specs.Figures.{Figures, fit, numbers_of}
use Rattle.au_algebra.specs.Entries.{Entry}
use Rattle.au_algebra.specs.Trees.{Tree, Table, Select, Project, Product, Union, Difference, Distinct, Group, Total}
use Rattle.au_algebra.specs.Typing.{IsTyped}
use Rattle.au_algebra.specs.Positive.{Annotations, is_positive, positive}

-- annotations with an order, of which zero is the least, where a cell has a truth and a truth a weight
abbrev pub annotations : {C T K : Type 0} → K → K → (K → K → K) → (K → K → K) → (K → K → Bool) → (T → K) → (C → T) → Annotations C K
annotations z u sum product below w t =
    record { zero = z; one = u; plus = sum; times = product; is_zero = λ k. below k z; weight = λ c. w (t c) }

module _ {C K : Type 0} (d : Operators C) (n : Figures C) (a : Annotations C K) (in_range : K → Bool) where
  -- the numbers of the condition, and the annotation times the condition's
  abbrev pub select_fits : Term → Entry C K → Bool
  select_fits e r = fit (numbers_of d n e r.cells) && in_range (a.times r.annot (a.weight (evaluate d e r.cells)))

  -- the numbers of each item
  abbrev pub project_fits : List Term → Entry C K → Bool
  project_fits items r = list_all (λ e. fit (numbers_of d n e r.cells)) items

  -- the annotation times that of the other side, and times each of them
  abbrev pub pair_fits : Entry C K → Entry C K → Bool
  pair_fits x y = in_range (a.times x.annot y.annot)

  abbrev pub product_fits : List (Entry C K) → Entry C K → Bool
  product_fits ys x = list_all (pair_fits x) ys

  -- whether all that is computed for a tree lies in the range
  abbrev pub fits : Tree → List (List (Entry C K)) → Bool
  fits (Table i) ts = true
  fits (Select e q) ts = fits q ts && list_all (select_fits e) (positive d a q ts)
  fits (Project items q) ts = fits q ts && list_all (project_fits items) (positive d a q ts)
  fits (Product q r) ts = fits q ts && (fits r ts && list_all (product_fits (positive d a r ts)) (positive d a q ts))
  fits (Union q r) ts = fits q ts && fits r ts
  fits (Difference q r) ts = true
  fits (Distinct q) ts = true
  fits (Group keys aggs q) ts = true
  fits (Total aggs q) ts = true

-- cells of these kinds, with a valid annotation
pub record IsRow {C K : Type 0} (is_kind : Kind → C → Type 0) (is_valid : K → Type 0) (ks : List Kind) (r : Entry C K) : Type 0 where
  pub cells : AllZip is_kind ks r.cells
  pub annot : is_valid r.annot

abbrev pub IsRelationOver : {C K : Type 0} → (Kind → C → Type 0) → (K → Type 0) → List Kind → List (Entry C K) → Type 0
IsRelationOver is_kind is_valid ks rows = AllByRecursion (IsRow is_kind is_valid ks) rows

-- a tree of the four operators, which is typed for the tables
pub record IsPositiveOver {C K : Type 0} (is_kind : Kind → C → Type 0) (is_valid : K → Type 0) (q : Tree) (ts : List (List (Entry C K))) : Type 0 where
  pub kinds : List (List Kind)
  pub tables : AllZip (IsRelationOver is_kind is_valid) kinds ts
  pub typed : IsTyped kinds q
  pub positive : IsTrue (is_positive q)
