-- Counts times numbers: what a row adds to the ends of a sum.
use Rattle.std.specs.Prelude.{◌≡◌, ℕ, Bool, true, false, cond, List, ℤ, pos, ◌*ℤ◌, int_lt, if◌then◌else◌}
use Rattle.std.specs.declared.cmp.Ordering.TheVariants.{Less, Greater, Equal}
use Rattle.std.specs.Ordering.{is_lt}
use Rattle.std.proofs.Common.{refl, sym, ◌∙◌, ap}
use Rattle.std.proofs.Math.IntN.{zero-*ℤ}
use Rattle.au_value.specs.declared.value.Value.{Value}
use Rattle.au_value.specs.declared.value.Value.TheVariants as value
use Rattle.au_value.specs.Order.{below}
use Rattle.au_expr.specs.Ordinary as on_values
use Rattle.au_expr.specs.Ordinary.{number}
use Rattle.au_plain.specs.PTerms.{PTerm}
use Rattle.au_rwgroup.specs.Folds.{times_below, times_above}
use Rattle.au_rwgroup.specs.Totals.{signed}
use Rattle.au_rwexpr.proofs.OnValues.{Has}

lt_by : (b c : Bool) → is_lt (cond b Less (cond c Greater Equal)) ≡ b
lt_by true c = refl
lt_by false true = refl
lt_by false false = refl

-- a value below 0 is a number below 0
pub below-zero : (v : Value) → below v (value.Int (pos 0)) ≡ int_lt (number v) (pos 0)
below-zero (value.Int n) = lt_by (int_lt n (pos 0)) (int_lt (pos 0) n)
below-zero (value.Text bytes) = refl
below-zero (value.Flag b) = refl

-- the number of a signed term
abbrev pub signed_number : ℕ → ℕ → Value → ℤ
signed_number m k v = if int_lt (number v) (pos 0) then pos m *ℤ number v else pos k *ℤ number v

int_by : (b : Bool) (x y : ℤ) → (if b then value.Int x else value.Int y) ≡ value.Int (if b then x else y)
int_by true x y = refl
int_by false x y = refl

pub signed_has : (row : List Value) (a b x : PTerm) (m k : ℕ) (v : Value) → Has row a (value.Int (pos m)) → Has row b (value.Int (pos k)) → Has row x v → Has row (signed a b x) (value.Int (signed_number m k v))
signed_has row a b x m k v p q r =
    λ more.
    (λ i. on_values.choose (value.Flag (below (r more i) (value.Int (pos 0)))) (on_values.multiply (p more i) (r more i)) (on_values.multiply (q more i) (r more i)))
    ∙ ap (λ t. if t then value.Int (pos m *ℤ number v) else value.Int (pos k *ℤ number v)) (below-zero v)
    ∙ int_by (int_lt (number v) (pos 0)) (pos m *ℤ number v) (pos k *ℤ number v)

-- the same where one of the counts is 0
pub below_has : (row : List Value) (a x : PTerm) (m : ℕ) (v : Value) → Has row a (value.Int (pos m)) → Has row x v → Has row (times_below a x) (value.Int (signed_number m 0 v))
below_has row a x m v p r =
    λ more.
    (λ i. on_values.choose (value.Flag (below (r more i) (value.Int (pos 0)))) (on_values.multiply (p more i) (r more i)) (value.Int (pos 0)))
    ∙ ap (λ t. if t then value.Int (pos m *ℤ number v) else value.Int (pos 0)) (below-zero v)
    ∙ int_by (int_lt (number v) (pos 0)) (pos m *ℤ number v) (pos 0)
    ∙ (λ i. value.Int (if int_lt (number v) (pos 0) then pos m *ℤ number v else sym (zero-*ℤ (number v)) i))

pub above_has : (row : List Value) (b x : PTerm) (k : ℕ) (v : Value) → Has row b (value.Int (pos k)) → Has row x v → Has row (times_above b x) (value.Int (signed_number 0 k v))
above_has row b x k v q r =
    λ more.
    (λ i. on_values.choose (value.Flag (below (r more i) (value.Int (pos 0)))) (value.Int (pos 0)) (on_values.multiply (q more i) (r more i)))
    ∙ ap (λ t. if t then value.Int (pos 0) else value.Int (pos k *ℤ number v)) (below-zero v)
    ∙ int_by (int_lt (number v) (pos 0)) (pos 0) (pos k *ℤ number v)
    ∙ (λ i. value.Int (if int_lt (number v) (pos 0) then sym (zero-*ℤ (number v)) i else pos k *ℤ number v))
