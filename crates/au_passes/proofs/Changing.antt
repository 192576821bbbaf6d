-- Tests over other rows.
use Rattle.std.specs.Prelude.{◌≡◌, ℕ, zero, suc, ◌-◌, ◌<◌, ◌≤◌, Bool, true, ◌&&◌, List, [], ◌∷◌, ◌++◌, length, Some, is_some, slice_get}
use Rattle.std.proofs.Common.{refl, sym, ◌∙◌, ap, arith}
use Rattle.std.proofs.lemmas.Bool.{and_parts, and_from}
use Rattle.au_value.specs.declared.kinds.Kind.{Kind}
use Rattle.au_value.specs.declared.kinds.Kind.TheVariants as kind
use Rattle.au_value.specs.declared.value.Value.{Value}
use Rattle.au_value.specs.declared.value.Value.TheVariants.{Flag}
use Rattle.au_expr.specs.Ordinary as on_values
use Rattle.au_expr.specs.Ordinary.{is_true}
use Rattle.au_expr.specs.Kinds.{is_kind, kind_if, agreed}
use Rattle.au_algebra.specs.Lists.{value_at}
use Rattle.au_plain.specs.PTerms.{PTerm, Column, Literal, Add, Subtract, Multiply, Negate, Compare, And, Or, Not, Case, Least, Greatest, plain_value, plainly}
use Rattle.au_plain.specs.Meaning.{passes}
use Rattle.au_plain.specs.PlanKinds.{plain_kind}
use Rattle.au_passes.specs.Tests.{without_arithmetic, reads_only, with_columns}

-- a test reads columns alone, whichever they are
pub reads_any : (e : PTerm) → without_arithmetic e ≡ true → reads_only (λ i. true) e ≡ true
reads_any (Column i) h = refl
reads_any (Literal v) h = refl
reads_any (Compare how a b) h = let p = and_parts _ _ h in and_from _ _ (reads_any a p.0) (reads_any b p.1)
reads_any (And a b) h = let p = and_parts _ _ h in and_from _ _ (reads_any a p.0) (reads_any b p.1)
reads_any (Or a b) h = let p = and_parts _ _ h in and_from _ _ (reads_any a p.0) (reads_any b p.1)
reads_any (Not a) h = reads_any a h
reads_any (Add a b) h = cc
reads_any (Subtract a b) h = cc
reads_any (Multiply a b) h = cc
reads_any (Negate a) h = cc
reads_any (Case c a b) h = cc
reads_any (Least es) h = cc
reads_any (Greatest es) h = cc

-- columns in their own place change nothing
pub unchanged : (e : PTerm) → with_columns Column e ≡ e
unchanged (Column i) = refl
unchanged (Literal v) = refl
unchanged (Compare how a b) = λ i. Compare how (unchanged a i) (unchanged b i)
unchanged (And a b) = λ i. And (unchanged a i) (unchanged b i)
unchanged (Or a b) = λ i. Or (unchanged a i) (unchanged b i)
unchanged (Not a) = λ i. Not (unchanged a i)
unchanged (Add a b) = refl
unchanged (Subtract a b) = refl
unchanged (Multiply a b) = refl
unchanged (Negate a) = refl
unchanged (Case c a b) = refl
unchanged (Least es) = refl
unchanged (Greatest es) = refl

-- what is put in the place of columns that are read has their values on another row
module _ (test : ℕ → Bool) (f : ℕ → PTerm) (row old : List Value) (same : (i : ℕ) → test i ≡ true → plain_value (f i) row ≡ value_at old i) where
  pub value_changed : (e : PTerm) → reads_only test e ≡ true → plain_value (with_columns f e) row ≡ plain_value e old
  value_changed (Column i) h = same i h
  value_changed (Literal v) h = refl
  value_changed (Compare how a b) h = let p = and_parts _ _ h in λ i. Flag (plainly how (value_changed a p.0 i) (value_changed b p.1 i))
  value_changed (And a b) h = let p = and_parts _ _ h in λ i. on_values.and (value_changed a p.0 i) (value_changed b p.1 i)
  value_changed (Or a b) h = let p = and_parts _ _ h in λ i. on_values.or (value_changed a p.0 i) (value_changed b p.1 i)
  value_changed (Not a) h = λ i. on_values.opposite (value_changed a h i)
  value_changed (Add a b) h = cc
  value_changed (Subtract a b) h = cc
  value_changed (Multiply a b) h = cc
  value_changed (Negate a) h = cc
  value_changed (Case c a b) h = cc
  value_changed (Least es) h = cc
  value_changed (Greatest es) h = cc

  pub passes_changed : (e : PTerm) → reads_only test e ≡ true → passes (with_columns f e) row ≡ passes e old
  passes_changed e h = ap is_true (value_changed e h)

-- columns that are read have their values on another row
pub passes_same : (test : ℕ → Bool) (row old : List Value) → ((i : ℕ) → test i ≡ true → value_at row i ≡ value_at old i) → (e : PTerm) → reads_only test e ≡ true → passes e row ≡ passes e old
passes_same test row old same e h = ap (λ c. passes c row) (sym (unchanged e)) ∙ passes_changed test Column row old same e h

-- the same of kinds
module _ (test : ℕ → Bool) (f : ℕ → PTerm) (ks old : List Kind) (same : (i : ℕ) → test i ≡ true → plain_kind ks (f i) ≡ slice_get old i) where
  pub kind_changed : (e : PTerm) → reads_only test e ≡ true → plain_kind ks (with_columns f e) ≡ plain_kind old e
  kind_changed (Column i) h = same i h
  kind_changed (Literal v) h = refl
  kind_changed (Compare how a b) h =
      let p = and_parts _ _ h in λ i. kind_if (is_some (agreed (kind_changed a p.0 i) (kind_changed b p.1 i))) kind.Flag
  kind_changed (And a b) h =
      let p = and_parts _ _ h in λ i. kind_if (is_kind kind.Flag (kind_changed a p.0 i) && is_kind kind.Flag (kind_changed b p.1 i)) kind.Flag
  kind_changed (Or a b) h =
      let p = and_parts _ _ h in λ i. kind_if (is_kind kind.Flag (kind_changed a p.0 i) && is_kind kind.Flag (kind_changed b p.1 i)) kind.Flag
  kind_changed (Not a) h = λ i. kind_if (is_kind kind.Flag (kind_changed a h i)) kind.Flag
  kind_changed (Add a b) h = cc
  kind_changed (Subtract a b) h = cc
  kind_changed (Multiply a b) h = cc
  kind_changed (Negate a) h = cc
  kind_changed (Case c a b) h = cc
  kind_changed (Least es) h = cc
  kind_changed (Greatest es) h = cc

pub kind_same : (test : ℕ → Bool) (ks old : List Kind) → ((i : ℕ) → test i ≡ true → slice_get ks i ≡ slice_get old i) → (e : PTerm) → reads_only test e ≡ true → plain_kind ks e ≡ plain_kind old e
kind_same test ks old same e h = ap (plain_kind ks) (sym (unchanged e)) ∙ kind_changed test Column ks old same e h

-- a test is without arithmetic where what is put in it is
pub free_changed : (f : ℕ → PTerm) → ((i : ℕ) → without_arithmetic (f i) ≡ true) → (e : PTerm) → without_arithmetic e ≡ true → without_arithmetic (with_columns f e) ≡ true
free_changed f free (Column i) h = free i
free_changed f free (Literal v) h = h
free_changed f free (Compare how a b) h = let p = and_parts _ _ h in and_from _ _ (free_changed f free a p.0) (free_changed f free b p.1)
free_changed f free (And a b) h = let p = and_parts _ _ h in and_from _ _ (free_changed f free a p.0) (free_changed f free b p.1)
free_changed f free (Or a b) h = let p = and_parts _ _ h in and_from _ _ (free_changed f free a p.0) (free_changed f free b p.1)
free_changed f free (Not a) h = free_changed f free a h
free_changed f free (Add a b) h = cc
free_changed f free (Subtract a b) h = cc
free_changed f free (Multiply a b) h = cc
free_changed f free (Negate a) h = cc
free_changed f free (Case c a b) h = cc
free_changed f free (Least es) h = cc
free_changed f free (Greatest es) h = cc

-- places in a list with items more
pub front : {A : Type 0} (xs ys : List A) (i : ℕ) → i < length xs → slice_get (xs ++ ys) i ≡ slice_get xs i
front [] ys i h = absurd (omega arith)
front (x ∷ xs) ys zero h = refl
front (x ∷ xs) ys (suc i) h = front xs ys i (omega arith)

pub back : {A : Type 0} (xs ys : List A) (i : ℕ) → length xs ≤ i → slice_get (xs ++ ys) i ≡ slice_get ys (i - length xs)
back [] ys i h = ap (slice_get ys) (omega arith)
back (x ∷ xs) ys zero h = absurd (omega arith)
back (x ∷ xs) ys (suc i) h = back xs ys i (omega arith) ∙ ap (slice_get ys) (omega arith)

pub last : {A : Type 0} (xs : List A) (y : A) → slice_get (xs ++ y ∷ []) (length xs) ≡ Some y
last [] y = refl
last (x ∷ xs) y = last xs y

-- past the last place there is nothing
pub past : {A : Type 0} (xs : List A) (y : A) (i : ℕ) → (i ≡ length xs → ⊥) → slice_get (xs ++ y ∷ []) i ≡ slice_get xs i
past [] y zero h = absurd (h refl)
past [] y (suc i) h = refl
past (x ∷ xs) y zero h = refl
past (x ∷ xs) y (suc i) h = past xs y i (λ e. h (let next : suc i ≡ length (x ∷ xs) = omega (arith, e) in next))
