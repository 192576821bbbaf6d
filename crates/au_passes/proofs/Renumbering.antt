-- An expression that is renumbered has on some columns of a row the value, the numbers and the kind
-- that it has on the whole row.
use Rattle.std.specs.Prelude.{◌≡◌, ◌<◌, ◌++◌, ◌&&◌, ℕ, zero, suc, cond, is_some, List, [], ◌∷◌, length, map, Some, slice_get, slice_index}
use Rattle.std.specs.List.{AllByRecursion}
use Rattle.std.proofs.Common.{refl, sym, ap, ◌∙◌}
use Rattle.std.proofs.lemmas.Option.{slice_get_within}
use Rattle.au_value.specs.declared.kinds.Kind.{Kind}
use Rattle.au_value.specs.declared.kinds.Kind.TheVariants as kind
use Rattle.au_value.specs.declared.value.Value.{Value}
use Rattle.au_value.specs.declared.value.Value.TheVariants.{Flag}
use Rattle.au_value.specs.Ranges.{lesser, greater}
use Rattle.au_expr.specs.Kinds.{kind_if, is_kind, agreed, only_if}
use Rattle.au_expr.specs.Numbers.{number_if_any}
use Rattle.au_expr.specs.Ordinary.{is_true}
use Rattle.au_expr.specs.Ordinary as on_values
use Rattle.au_expr.proofs.Along.{agreed_is, both_of, is_kind_is, kind_if_is, one_of, only_if_is, some_agreed}
use Rattle.au_algebra.specs.Lists.{value_at}
use Rattle.au_algebra.proofs.AggregateKinds.{kinds_parts}
use Rattle.au_algebra.proofs.Each.{all_append}
use Rattle.au_algebra.proofs.Items.{some_is}
use Rattle.au_plain.specs.Meaning.{kept}
use Rattle.au_plain.specs.PlanKinds.{common_kind, kept_kinds, plain_kind}
use Rattle.au_plain.specs.PlanNumbers.{parts_numbers, term_numbers}
use Rattle.au_plain.specs.PTerms.{PTerm, PTerms, nil, cons, greatest_value, least_value, plain_value, plainly}
use Rattle.au_plain.specs.PTerms.{Column, Literal, Add, Subtract, Multiply, Negate, Compare, And, Or, Not, Case, Least, Greatest}
use Rattle.au_passes.specs.Pruning.{all_renumbered, renumbered}
use Rattle.au_passes.specs.Reading.{all_columns, columns}

-- what holds of each item of two lists in turn holds of each item of both
pub all_parts : {A : Type 0} (P : A → Type 0) (xs ys : List A) → AllByRecursion P (xs ++ ys) → AllByRecursion P xs × AllByRecursion P ys
all_parts P [] ys h = (tt, h)
all_parts P (x ∷ xs) ys h = let p = all_parts P xs ys h.1 in ((h.0, p.0), p.1)

-- the value, and the kind, in one of some places
pub kept_at : (places : List ℕ) (row : List Value) (j i : ℕ) → slice_get places j ≡ Some i → value_at (kept places row) j ≡ value_at row i
kept_at [] row j i h = cc
kept_at (p ∷ places) row zero i h = ap (value_at row) (some_is p i h)
kept_at (p ∷ places) row (suc j) i h = kept_at places row j i h

pub kind_at : (places : List ℕ) (ks js : List Kind) → kept_kinds places ks ≡ Some js → (j i : ℕ) → slice_get places j ≡ Some i → slice_get js j ≡ slice_get ks i
kind_at [] ks js t j i h = cc
kind_at (p ∷ places) ks js t zero i h =
    let q = kinds_parts (slice_get ks p) (map (slice_get ks) places) js t in
    ap (λ ms. slice_get ms zero) q.whole ∙ sym q.first_is ∙ ap (slice_get ks) (some_is p i h)
kind_at (p ∷ places) ks js t (suc j) i h =
    let q = kinds_parts (slice_get ks p) (map (slice_get ks) places) js t in
    ap (λ ms. slice_get ms (suc j)) q.whole ∙ kind_at places ks q.others q.others_are j i h

-- the column `i` is among these places, where `found` says
abbrev pub Reaches : List ℕ → List ℕ → ℕ → Type 0
Reaches places found i = slice_get places (slice_index found i) ≡ Some i

module _ (places found : List ℕ) where
  abbrev All : List ℕ → Type 0
  All is = AllByRecursion (Reaches places found) is

  module _ (row : List Value) where
    mutual
      pub value_same : (e : PTerm) → All (columns e) → plain_value (renumbered found e) (kept places row) ≡ plain_value e row
      value_same (Column i) h = kept_at places row (slice_index found i) i h.0
      value_same (Literal v) h = refl
      value_same (Add a b) h = let p = all_parts (Reaches places found) (columns a) (columns b) h in λ i. on_values.add (value_same a p.0 i) (value_same b p.1 i)
      value_same (Subtract a b) h = let p = all_parts (Reaches places found) (columns a) (columns b) h in λ i. on_values.subtract (value_same a p.0 i) (value_same b p.1 i)
      value_same (Multiply a b) h = let p = all_parts (Reaches places found) (columns a) (columns b) h in λ i. on_values.multiply (value_same a p.0 i) (value_same b p.1 i)
      value_same (Negate a) h = ap on_values.negate (value_same a h)
      value_same (Compare how a b) h = let p = all_parts (Reaches places found) (columns a) (columns b) h in λ i. Flag (plainly how (value_same a p.0 i) (value_same b p.1 i))
      value_same (And a b) h = let p = all_parts (Reaches places found) (columns a) (columns b) h in λ i. on_values.and (value_same a p.0 i) (value_same b p.1 i)
      value_same (Or a b) h = let p = all_parts (Reaches places found) (columns a) (columns b) h in λ i. on_values.or (value_same a p.0 i) (value_same b p.1 i)
      value_same (Not a) h = ap on_values.opposite (value_same a h)
      value_same (Case c a b) h =
          let p = all_parts (Reaches places found) (columns c) (columns a ++ columns b) h in
          let q = all_parts (Reaches places found) (columns a) (columns b) p.1 in
          λ i. on_values.choose (value_same c p.0 i) (value_same a q.0 i) (value_same b q.1 i)
      value_same (Least es) h = least_same es h
      value_same (Greatest es) h = greatest_same es h

      least_same : (es : PTerms) → All (all_columns es) → least_value (all_renumbered found es) (kept places row) ≡ least_value es row
      least_same nil h = refl
      least_same (cons e nil) h = value_same e (all_parts (Reaches places found) (columns e) [] h).0
      least_same (cons e (cons f es)) h = let p = all_parts (Reaches places found) (columns e) (all_columns (cons f es)) h in λ i. lesser (value_same e p.0 i) (least_same (cons f es) p.1 i)

      greatest_same : (es : PTerms) → All (all_columns es) → greatest_value (all_renumbered found es) (kept places row) ≡ greatest_value es row
      greatest_same nil h = refl
      greatest_same (cons e nil) h = value_same e (all_parts (Reaches places found) (columns e) [] h).0
      greatest_same (cons e (cons f es)) h = let p = all_parts (Reaches places found) (columns e) (all_columns (cons f es)) h in λ i. greater (value_same e p.0 i) (greatest_same (cons f es) p.1 i)

    mutual
      pub numbers_same : (e : PTerm) → All (columns e) → term_numbers (renumbered found e) (kept places row) ≡ term_numbers e row
      numbers_same (Column i) h = ap number_if_any (value_same (Column i) h)
      numbers_same (Literal v) h = refl
      numbers_same (Add a b) h = let p = all_parts (Reaches places found) (columns a) (columns b) h in λ i. number_if_any (value_same (Add a b) h i) ++ (numbers_same a p.0 i ++ numbers_same b p.1 i)
      numbers_same (Subtract a b) h = let p = all_parts (Reaches places found) (columns a) (columns b) h in λ i. number_if_any (value_same (Subtract a b) h i) ++ (numbers_same a p.0 i ++ numbers_same b p.1 i)
      numbers_same (Multiply a b) h = let p = all_parts (Reaches places found) (columns a) (columns b) h in λ i. number_if_any (value_same (Multiply a b) h i) ++ (numbers_same a p.0 i ++ numbers_same b p.1 i)
      numbers_same (Negate a) h = λ i. number_if_any (value_same (Negate a) h i) ++ numbers_same a h i
      numbers_same (Compare how a b) h = let p = all_parts (Reaches places found) (columns a) (columns b) h in λ i. numbers_same a p.0 i ++ numbers_same b p.1 i
      numbers_same (And a b) h = let p = all_parts (Reaches places found) (columns a) (columns b) h in λ i. numbers_same a p.0 i ++ numbers_same b p.1 i
      numbers_same (Or a b) h = let p = all_parts (Reaches places found) (columns a) (columns b) h in λ i. numbers_same a p.0 i ++ numbers_same b p.1 i
      numbers_same (Not a) h = numbers_same a h
      numbers_same (Case c a b) h =
          let p = all_parts (Reaches places found) (columns c) (columns a ++ columns b) h in
          let q = all_parts (Reaches places found) (columns a) (columns b) p.1 in
          λ i. numbers_same c p.0 i ++ cond (is_true (value_same c p.0 i)) (numbers_same a q.0 i) (numbers_same b q.1 i)
      numbers_same (Least es) h = λ i. number_if_any (least_same es h i) ++ parts_same es h i
      numbers_same (Greatest es) h = λ i. number_if_any (greatest_same es h i) ++ parts_same es h i

      parts_same : (es : PTerms) → All (all_columns es) → parts_numbers (all_renumbered found es) (kept places row) ≡ parts_numbers es row
      parts_same nil h = refl
      parts_same (cons e es) h = let p = all_parts (Reaches places found) (columns e) (all_columns es) h in λ i. numbers_same e p.0 i ++ parts_same es p.1 i

  module _ (ks js : List Kind) (typed : kept_kinds places ks ≡ Some js) where
    mutual
      pub kind_same : (e : PTerm) → All (columns e) → plain_kind js (renumbered found e) ≡ plain_kind ks e
      kind_same (Column i) h = kind_at places ks js typed (slice_index found i) i h.0
      kind_same (Literal v) h = refl
      kind_same (Add a b) h = let p = all_parts (Reaches places found) (columns a) (columns b) h in λ i. kind_if (is_kind kind.Int (kind_same a p.0 i) && is_kind kind.Int (kind_same b p.1 i)) kind.Int
      kind_same (Subtract a b) h = let p = all_parts (Reaches places found) (columns a) (columns b) h in λ i. kind_if (is_kind kind.Int (kind_same a p.0 i) && is_kind kind.Int (kind_same b p.1 i)) kind.Int
      kind_same (Multiply a b) h = let p = all_parts (Reaches places found) (columns a) (columns b) h in λ i. kind_if (is_kind kind.Int (kind_same a p.0 i) && is_kind kind.Int (kind_same b p.1 i)) kind.Int
      kind_same (Negate a) h = λ i. kind_if (is_kind kind.Int (kind_same a h i)) kind.Int
      kind_same (Compare how a b) h = let p = all_parts (Reaches places found) (columns a) (columns b) h in λ i. kind_if (is_some (agreed (kind_same a p.0 i) (kind_same b p.1 i))) kind.Flag
      kind_same (And a b) h = let p = all_parts (Reaches places found) (columns a) (columns b) h in λ i. kind_if (is_kind kind.Flag (kind_same a p.0 i) && is_kind kind.Flag (kind_same b p.1 i)) kind.Flag
      kind_same (Or a b) h = let p = all_parts (Reaches places found) (columns a) (columns b) h in λ i. kind_if (is_kind kind.Flag (kind_same a p.0 i) && is_kind kind.Flag (kind_same b p.1 i)) kind.Flag
      kind_same (Not a) h = λ i. kind_if (is_kind kind.Flag (kind_same a h i)) kind.Flag
      kind_same (Case c a b) h =
          let p = all_parts (Reaches places found) (columns c) (columns a ++ columns b) h in
          let q = all_parts (Reaches places found) (columns a) (columns b) p.1 in
          λ i. only_if (is_kind kind.Flag (kind_same c p.0 i)) (agreed (kind_same a q.0 i) (kind_same b q.1 i))
      kind_same (Least es) h = kinds_same es h
      kind_same (Greatest es) h = kinds_same es h

      kinds_same : (es : PTerms) → All (all_columns es) → common_kind js (all_renumbered found es) ≡ common_kind ks es
      kinds_same nil h = refl
      kinds_same (cons e nil) h = kind_same e (all_parts (Reaches places found) (columns e) [] h).0
      kinds_same (cons e (cons f es)) h = let p = all_parts (Reaches places found) (columns e) (all_columns (cons f es)) h in λ i. agreed (kind_same e p.0 i) (kinds_same (cons f es) p.1 i)

-- a typed expression reads columns that are there
module _ (ks : List Kind) where
  abbrev Within : ℕ → Type 0
  Within i = i < length ks

  mutual
    pub columns_within : (e : PTerm) (k : Kind) → plain_kind ks e ≡ Some k → AllByRecursion Within (columns e)
    columns_within (Column i) k h = (slice_get_within ks i k h, tt)
    columns_within (Literal v) k h = tt
    columns_within (Add a b) k h = let p = both_of kind.Int kind.Int _ _ k h in all_append Within (columns a) (columns b) (columns_within a kind.Int p.0) (columns_within b kind.Int p.1)
    columns_within (Subtract a b) k h = let p = both_of kind.Int kind.Int _ _ k h in all_append Within (columns a) (columns b) (columns_within a kind.Int p.0) (columns_within b kind.Int p.1)
    columns_within (Multiply a b) k h = let p = both_of kind.Int kind.Int _ _ k h in all_append Within (columns a) (columns b) (columns_within a kind.Int p.0) (columns_within b kind.Int p.1)
    columns_within (Negate a) k h = columns_within a kind.Int (one_of kind.Int kind.Int _ k h).0
    columns_within (Compare how a b) k h =
        let p = some_agreed _ _ (kind_if_is _ _ _ h).0 in
        all_append Within (columns a) (columns b) (columns_within a p.0 p.1) (columns_within b p.0 p.2)
    columns_within (And a b) k h = let p = both_of kind.Flag kind.Flag _ _ k h in all_append Within (columns a) (columns b) (columns_within a kind.Flag p.0) (columns_within b kind.Flag p.1)
    columns_within (Or a b) k h = let p = both_of kind.Flag kind.Flag _ _ k h in all_append Within (columns a) (columns b) (columns_within a kind.Flag p.0) (columns_within b kind.Flag p.1)
    columns_within (Not a) k h = columns_within a kind.Flag (one_of kind.Flag kind.Flag _ k h).0
    columns_within (Case c a b) k h =
        let p = only_if_is _ _ _ h in
        let q = agreed_is _ _ _ p.1 in
        all_append Within (columns c) (columns a ++ columns b) (columns_within c kind.Flag (is_kind_is kind.Flag _ p.0))
        (all_append Within (columns a) (columns b) (columns_within a k q.0) (columns_within b k q.1))
    columns_within (Least es) k h = all_within es k h
    columns_within (Greatest es) k h = all_within es k h

    all_within : (es : PTerms) (k : Kind) → common_kind ks es ≡ Some k → AllByRecursion Within (all_columns es)
    all_within nil k h = tt
    all_within (cons e nil) k h = all_append Within (columns e) [] (columns_within e k h) tt
    all_within (cons e (cons f es)) k h =
        let q = agreed_is (plain_kind ks e) (common_kind ks (cons f es)) k h in
        all_append Within (columns e) (all_columns (cons f es)) (columns_within e k q.0) (all_within (cons f es) k q.1)
