-- One pass over rows: what each row adds to those that are done, and what the call of each operator answers.
-- A row of annotation zero is not put behind them.
use Rattle.std.specs.Prelude.{◌≡◌, Bool, true, false, List, [], ◌∷◌, ◌++◌, map, flat_map, if◌then◌else◌, Result, MatchResult, Vec}
use Rattle.std.specs.List.{list_all, AllByRecursion}
use Rattle.std.specs.declared.alloc.Global.{Global}
use Rattle.au_value.specs.declared.kinds.Kind.{Kind}
use Rattle.au_value.specs.declared.kinds.Kind.TheVariants.{Flag}
use Rattle.au_expr.specs.Terms.{Term}
use Rattle.au_expr.specs.Evaluate.{Operators, evaluate, HasKind}
use Rattle.au_expr.specs.Figures.{Figures, fit, numbers_of}
use Rattle.au_expr.specs.declared.fault.EvalFault.{EvalFault}
use Rattle.au_expr.specs.declared.fault.EvalFault.TheVariants as fault
use Rattle.au_algebra.specs.Entries.{Entry, entry}
use Rattle.au_algebra.specs.Positive.{Annotations}
use Rattle.au_keval.specs.Held.{HeldRow, held_entries}
use Rattle.au_keval.specs.Reading.{select_fits, project_fits, pair_fits, product_fits}

-- the rows after a pass, that each row passed a test, and what was learned of it
pub record Passed {A B : Type 0} (step : A → List B) (test : A → Bool) (Learned : A → Type 0) (xs : List A) (before after : List B) : Type 0 where
  pub rows : after ≡ before ++ flat_map step xs
  pub fits : list_all test xs ≡ true
  pub learned : AllByRecursion Learned xs

module _ {C K : Type 0} (a : Annotations C K) where
  -- the row, unless its annotation is zero
  abbrev pub kept : Entry C K → List (Entry C K)
  kept r = if a.is_zero r.annot then [] else r ∷ []

  -- two rows as one, and the row joined with each of the other side
  abbrev pub pair : Entry C K → Entry C K → List (Entry C K)
  pair x y = kept (entry (x.cells ++ y.cells) (a.times x.annot y.annot))

  abbrev pub joined : List (Entry C K) → Entry C K → List (Entry C K)
  joined ys x = flat_map (pair x) ys

  module _ (d : Operators C) where
    -- the row with its annotation times the condition's
    abbrev pub selected : Term → Entry C K → List (Entry C K)
    selected e r = kept (entry r.cells (a.times r.annot (a.weight (evaluate d e r.cells))))

    -- the row's items
    abbrev pub projected : List Term → Entry C K → List (Entry C K)
    projected items r = kept (entry (map (λ e. evaluate d e r.cells) items) r.annot)

-- the expression is a condition on the row
abbrev pub IsCondition : {C K : Type 0} → (Kind → C → Type 0) → Term → Entry C K → Type 0
IsCondition is_kind e r = HasKind is_kind r.cells e Flag

-- the expression has a kind on the row, as each of several has
abbrev pub HasSomeKind : {C : Type 0} → (Kind → C → Type 0) → List C → Term → Type 0
HasSomeKind is_kind row e = (k : Kind) × HasKind is_kind row e k

abbrev pub HaveKinds : {C K : Type 0} → (Kind → C → Type 0) → List Term → Entry C K → Type 0
HaveKinds is_kind items r = AllByRecursion (HasSomeKind is_kind r.cells) items

-- the weight of the condition is valid
abbrev pub WeightIsValid : {C K : Type 0} → Operators C → Annotations C K → (K → Type 0) → Term → Entry C K → Type 0
WeightIsValid d a is_valid e r = is_valid (a.weight (evaluate d e r.cells))

-- the value of the expression has the expression's kind, as that of each of several has
abbrev pub KeepsKind : {C : Type 0} → Operators C → (Kind → C → Type 0) → List C → Term → Type 0
KeepsKind d is_kind row e = (k : Kind) → HasKind is_kind row e k → is_kind k (evaluate d e row)

abbrev pub KeepKinds : {C K : Type 0} → Operators C → (Kind → C → Type 0) → List Term → Entry C K → Type 0
KeepKinds d is_kind items r = AllByRecursion (KeepsKind d is_kind r.cells) items

-- the value of the expression, and whether its numbers fit
abbrev pub value_step : {C : Type 0} → Operators C → List C → Term → List C
value_step d row e = evaluate d e row ∷ []

abbrev pub value_fits : {C : Type 0} → Operators C → Figures C → List C → Term → Bool
value_fits d n row e = fit (numbers_of d n e row)

-- nothing is learned
abbrev pub Nothing : {A : Type 0} → A → Type 0
Nothing x = Unit {0}

-- an annotation that was multiplied by a condition's
pub record Weighed {C K : Type 0} (d : Operators C) (n : Figures C) (a : Annotations C K) (in_range : K → Bool) (is_valid : K → Type 0) (e : Term) (r : Entry C K) (k : K) : Type 0 where
  pub value : k ≡ a.times r.annot (a.weight (evaluate d e r.cells))
  pub fits : select_fits d n a in_range e r ≡ true
  pub valid : WeightIsValid d a is_valid e r

-- ---- what the calls answer

-- One has gone through a step, behind what was done. An overflow comes only where it fails the test.
abbrev pub PassesOne : {A B R : Type 0} → (A → List B) → (A → Bool) → (A → Type 0) → A → List B → List B → Result R EvalFault → Type 0
PassesOne step test Learned x before after result =
    MatchResult result (λ _. Passed step test Learned (x ∷ []) before after) (λ f. f ≡ fault.Overflow → test x ≡ false)

-- All have gone through a step. An overflow comes only where one fails the test.
abbrev pub PassesAll : {A B R : Type 0} → (A → List B) → (A → Bool) → (A → Type 0) → List A → (R → List B) → Result R EvalFault → Type 0
PassesAll step test Learned xs made result =
    MatchResult result (λ r. Passed step test Learned xs [] (made r)) (λ f. f ≡ fault.Overflow → list_all test xs ≡ false)

-- Items have been evaluated on a row, one behind others or all of them.
module _ {C : Type 0} (d : Operators C) (n : Figures C) (is_kind : Kind → C → Type 0) (row : List C) where
  abbrev pub PutsItem : {R : Type 0} → Term → List C → List C → Result R EvalFault → Type 0
  PutsItem e before after result = PassesOne (value_step d row) (value_fits d n row) (KeepsKind d is_kind row) e before after result

  abbrev pub HasItems : List Term → Result (Vec C Global) EvalFault → Type 0
  HasItems items result = PassesAll (value_step d row) (value_fits d n row) (KeepsKind d is_kind row) items (λ v. v.items) result

module _ {C K : Type 0} (d : Operators C) (n : Figures C) (a : Annotations C K) (in_range : K → Bool) where
  -- The row's annotation has been multiplied by the condition's. An overflow comes only where a number or the product
  -- leaves the range.
  abbrev pub Weighs : (K → Type 0) → Term → Entry C K → Result K EvalFault → Type 0
  Weighs is_valid e r result =
      MatchResult result (λ k. Weighed d n a in_range is_valid e r k) (λ f. f ≡ fault.Overflow → select_fits d n a in_range e r ≡ false)

  -- Select of a row, and of all rows.
  abbrev pub SelectsOne : {R : Type 0} → (K → Type 0) → Term → Entry C K → List (HeldRow C K) → List (HeldRow C K) → Result R EvalFault → Type 0
  SelectsOne is_valid e r before after result =
      PassesOne (selected a d e) (select_fits d n a in_range e) (WeightIsValid d a is_valid e) r (held_entries before) (held_entries after) result

  abbrev pub SelectsAll : (K → Type 0) → Term → List (Entry C K) → Result (Vec (HeldRow C K) Global) EvalFault → Type 0
  SelectsAll is_valid e rows result =
      PassesAll (selected a d e) (select_fits d n a in_range e) (WeightIsValid d a is_valid e) rows (λ v. held_entries v.items) result

  -- Project of a row, and of all rows.
  abbrev pub ProjectsOne : {R : Type 0} → (Kind → C → Type 0) → List Term → Entry C K → List (HeldRow C K) → List (HeldRow C K) → Result R EvalFault → Type 0
  ProjectsOne is_kind items r before after result =
      PassesOne (projected a d items) (project_fits d n a in_range items) (KeepKinds d is_kind items) r (held_entries before) (held_entries after) result

  abbrev pub ProjectsAll : (Kind → C → Type 0) → List Term → List (Entry C K) → Result (Vec (HeldRow C K) Global) EvalFault → Type 0
  ProjectsAll is_kind items rows result =
      PassesAll (projected a d items) (project_fits d n a in_range items) (KeepKinds d is_kind items) rows (λ v. held_entries v.items) result

  -- The join of a row with one of the other side, that of a row with all of them, and that of all rows.
  abbrev pub JoinsPair : {R : Type 0} → Entry C K → Entry C K → List (HeldRow C K) → List (HeldRow C K) → Result R EvalFault → Type 0
  JoinsPair x y before after result = PassesOne (pair a x) (pair_fits d n a in_range x) Nothing y (held_entries before) (held_entries after) result

  abbrev pub JoinsOne : {R : Type 0} → List (Entry C K) → Entry C K → List (HeldRow C K) → List (HeldRow C K) → Result R EvalFault → Type 0
  JoinsOne ys x before after result = PassesOne (joined a ys) (product_fits d n a in_range ys) Nothing x (held_entries before) (held_entries after) result

  abbrev pub JoinsAll : List (Entry C K) → List (Entry C K) → Result (Vec (HeldRow C K) Global) EvalFault → Type 0
  JoinsAll xs ys result = PassesAll (joined a ys) (product_fits d n a in_range ys) Nothing xs (λ v. held_entries v.items) result
