-- The value of an expression where all its numbers fit, as a reading: columns that have it so fit.
use Rattle.std.specs.Prelude.{◌≡◌, ℕ, true, false, List, [], ◌∷◌, ◌++◌, Option, Some, None, if◌then◌else◌}
use Rattle.std.specs.List.{AllByRecursion}
use Rattle.std.proofs.Common.{refl, sym, ◌∙◌, ap}
use Rattle.std.proofs.lemmas.Bool.{cond_both}
use Rattle.au_value.specs.declared.value.Value.{Value}
use Rattle.au_value.specs.Ranges.{lesser, greater}
use Rattle.au_expr.specs.Ordinary as on_values
use Rattle.au_expr.specs.Ordinary.{is_true}
use Rattle.au_expr.specs.Figures.{Fit, fit}
use Rattle.au_expr.specs.Numbers.{number_if_any}
use Rattle.au_expr.proofs.Fits.{fit_both, fit_lesser, fit_greater}
use Rattle.au_algebra.proofs.Items.{and_then_is, some_is, chosen_is}
use Rattle.au_plain.specs.declared.expr.Comparison2.{Comparison2}
use Rattle.au_plain.specs.PTerms.{PTerm, plain_value, Column, Add, Subtract, Multiply, Negate, Compare, And, Or, Not, Case, least_of_two, greatest_of_two}
use Rattle.au_plain.specs.Meaning.{extended}
use Rattle.au_plain.specs.PlanNumbers.{term_numbers}
use Rattle.au_rwexpr.specs.Adding.{grow, grow_numbers}
use Rattle.au_rwexpr.proofs.Columns.{Means, AllMean, add_columns}
use Rattle.au_rwexpr.proofs.OnValues.{reading, Has}

-- the value, where its numbers fit
abbrev pub careful : List Value → PTerm → Option Value
careful row e = if fit (term_numbers e row) then Some (plain_value e row) else None

-- the numbers of an expression fit, whatever is added to the row on the right
abbrev pub Fits : List Value → PTerm → Type 0
Fits row e = (more : List Value) → Fit (term_numbers e (row ++ more))

pub careful_means : (row : List Value) (e : PTerm) (v : Value) → Means reading row e v → Fits row e → Means careful row e v
careful_means row e v m f = λ more. ap (λ b. if b then Some (plain_value e (row ++ more)) else None) (f more) ∙ m more

pub all_careful : (row : List Value) (es : List PTerm) (vs : List Value) → AllMean reading row es vs → AllByRecursion (Fits row) es → AllMean careful row es vs
all_careful row [] [] m f = tt
all_careful row [] (v ∷ vs) m f = elim m [ ]
all_careful row (e ∷ es) [] m f = elim m [ ]
all_careful row (e ∷ es) (v ∷ vs) m f = (careful_means row e v m.0 f.0, all_careful row es vs m.1 f.1)

-- Columns that are added with care are those of the plain reading, and their numbers fit.
pub careful_grow : (es : List PTerm) (row r : List Value) → add_columns careful es row ≡ Some r → (grow es row ≡ r) × Fit (grow_numbers es row)
careful_grow [] row r h = (some_is row r h, refl)
careful_grow (e ∷ es) row r h =
    let p = and_then_is _ (careful row e) r h in
    let q = chosen_is (fit (term_numbers e row)) (Some (plain_value e row)) p.0 p.1 in
    let same : plain_value e row ≡ p.0 = some_is _ _ q.1 in
    let rest = careful_grow es (extended e row) r (ap (λ v. add_columns careful es (row ++ v ∷ [])) same ∙ p.2) in
    (rest.0, fit_both (term_numbers e row) (grow_numbers es (extended e row)) q.0 rest.1)

-- each way of making an expression
module _ (row : List Value) where
  pub column_fits : (i : ℕ) (v : Value) → Has row (Column i) v → Fit (number_if_any v) → Fits row (Column i)
  column_fits i v h f = λ more. ap (λ x. fit (number_if_any x)) (h more) ∙ f

  module _ (e g : PTerm) (u v : Value) (he : Has row e u) (hg : Has row g v) (fe : Fits row e) (fg : Fits row g) where
    pub add_fits : Fit (number_if_any (on_values.add u v)) → Fits row (Add e g)
    add_fits f = λ more.
        let r = row ++ more in
        fit_both (number_if_any (on_values.add (plain_value e r) (plain_value g r))) (term_numbers e r ++ term_numbers g r)
        ((λ k. fit (number_if_any (on_values.add (he more k) (hg more k)))) ∙ f) (fit_both (term_numbers e r) (term_numbers g r) (fe more) (fg more))

    pub subtract_fits : Fit (number_if_any (on_values.subtract u v)) → Fits row (Subtract e g)
    subtract_fits f = λ more.
        let r = row ++ more in
        fit_both (number_if_any (on_values.subtract (plain_value e r) (plain_value g r))) (term_numbers e r ++ term_numbers g r)
        ((λ k. fit (number_if_any (on_values.subtract (he more k) (hg more k)))) ∙ f) (fit_both (term_numbers e r) (term_numbers g r) (fe more) (fg more))

    pub multiply_fits : Fit (number_if_any (on_values.multiply u v)) → Fits row (Multiply e g)
    multiply_fits f = λ more.
        let r = row ++ more in
        fit_both (number_if_any (on_values.multiply (plain_value e r) (plain_value g r))) (term_numbers e r ++ term_numbers g r)
        ((λ k. fit (number_if_any (on_values.multiply (he more k) (hg more k)))) ∙ f) (fit_both (term_numbers e r) (term_numbers g r) (fe more) (fg more))

    parts_fit : (more : List Value) → Fit (term_numbers e (row ++ more) ++ (term_numbers g (row ++ more) ++ []))
    parts_fit more = fit_both (term_numbers e (row ++ more)) (term_numbers g (row ++ more) ++ []) (fe more) (fit_both (term_numbers g (row ++ more)) [] (fg more) refl)

    pub least_fits : Fit (number_if_any u) → Fit (number_if_any v) → Fits row (least_of_two e g)
    least_fits p q = λ more.
        fit_both (number_if_any (lesser (plain_value e (row ++ more)) (plain_value g (row ++ more)))) (term_numbers e (row ++ more) ++ (term_numbers g (row ++ more) ++ []))
        ((λ k. fit (number_if_any (lesser (he more k) (hg more k)))) ∙ fit_lesser u v p q) (parts_fit more)

    pub greatest_fits : Fit (number_if_any u) → Fit (number_if_any v) → Fits row (greatest_of_two e g)
    greatest_fits p q = λ more.
        fit_both (number_if_any (greater (plain_value e (row ++ more)) (plain_value g (row ++ more)))) (term_numbers e (row ++ more) ++ (term_numbers g (row ++ more) ++ []))
        ((λ k. fit (number_if_any (greater (he more k) (hg more k)))) ∙ fit_greater u v p q) (parts_fit more)

  module _ (e g : PTerm) (fe : Fits row e) (fg : Fits row g) where
    pub compare_fits : (test : Comparison2) → Fits row (Compare test e g)
    compare_fits test = λ more. fit_both (term_numbers e (row ++ more)) (term_numbers g (row ++ more)) (fe more) (fg more)

    pub and_fits : Fits row (And e g)
    and_fits = λ more. fit_both (term_numbers e (row ++ more)) (term_numbers g (row ++ more)) (fe more) (fg more)

    pub or_fits : Fits row (Or e g)
    or_fits = λ more. fit_both (term_numbers e (row ++ more)) (term_numbers g (row ++ more)) (fe more) (fg more)

    pub case_fits : (c : PTerm) → Fits row c → Fits row (Case c e g)
    case_fits c fc = λ more.
        let r = row ++ more in
        fit_both (term_numbers c r) (if is_true (plain_value c r) then term_numbers e r else term_numbers g r) (fc more)
        (cond_both (is_true (plain_value c r)) (term_numbers e r) (term_numbers g r) Fit (λ _. fe more) (λ _. fg more))

  -- of a Case the branch that is chosen
  pub chosen_fits : (c e g : PTerm) (u : Value) → Has row c u → Fits row c → (is_true u ≡ true → Fits row e) → (is_true u ≡ false → Fits row g) → Fits row (Case c e g)
  chosen_fits c e g u h fc fe fg = λ more.
      let r = row ++ more in
      fit_both (term_numbers c r) (if is_true (plain_value c r) then term_numbers e r else term_numbers g r) (fc more)
      (cond_both (is_true (plain_value c r)) (term_numbers e r) (term_numbers g r) Fit (λ t. fe (ap is_true (sym (h more)) ∙ t) more) (λ t. fg (ap is_true (sym (h more)) ∙ t) more))

  pub negate_fits : (e : PTerm) (u : Value) → Has row e u → Fits row e → Fit (number_if_any (on_values.negate u)) → Fits row (Negate e)
  negate_fits e u he fe f = λ more.
      let r = row ++ more in
      fit_both (number_if_any (on_values.negate (plain_value e r))) (term_numbers e r) ((λ k. fit (number_if_any (on_values.negate (he more k)))) ∙ f) (fe more)

  pub not_fits : (e : PTerm) → Fits row e → Fits row (Not e)
  not_fits e fe = fe
