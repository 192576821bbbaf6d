-- The columns of a flattened expression have numbers that fit where those of the expression do.
use Rattle.std.specs.Prelude.{◌≡◌, ℕ, ◌+◌, ◌*◌, List, [], ◌++◌, length, ℤ}
use Rattle.std.specs.List.{AllByRecursion}
use Rattle.std.proofs.Common.{refl}
use Rattle.au_value.specs.declared.kinds.Kind.{Kind}
use Rattle.au_value.specs.declared.value.Value.{Value}
use Rattle.au_value.specs.declared.comparison.Comparison.{Comparison}
use Rattle.au_value.specs.declared.comparison.Comparison.TheVariants.{Equal, Differs, Less, AtMost, Greater, AtLeast}
use Rattle.au_value.specs.Ranges.{Span, lesser, greater}
use Rattle.au_expr.specs.Terms.{Term}
use Rattle.au_expr.specs.Terms as term
use Rattle.au_expr.specs.Ordinary as on_values
use Rattle.au_expr.specs.Ordinary.{number}
use Rattle.au_expr.specs.OnRanges as on_ranges
use Rattle.au_expr.specs.OnRanges.{range_of}
use Rattle.au_expr.specs.Figures.{Fit}
use Rattle.au_expr.specs.Numbers.{number_if_any, components, end_products, expr_numbers}
use Rattle.au_expr.proofs.Fits.{fit_parts, fit_lesser, fit_greater}
use Rattle.au_algebra.proofs.Items.{some_is}
use Rattle.au_plain.specs.declared.expr.Comparison2.{Comparison2}
use Rattle.au_plain.specs.declared.expr.Comparison2.TheVariants as how
use Rattle.au_plain.specs.PTerms.{PTerm, Multiply, Compare, And, Case, greatest_of_two, least_of_two}
use Rattle.au_rwexpr.specs.Flatten as step
use Rattle.au_rwexpr.proofs.Columns.{Means}
use Rattle.au_rwexpr.proofs.Structure.{Steps, Below, Any}
use Rattle.au_rwexpr.proofs.OnValues.{reading, span_ends, Has, EndsAt, lo_has, sg_has, hi_has, value_steps}
use Rattle.au_rwexpr.proofs.Careful.{careful, Fits, all_careful, column_fits, add_fits, subtract_fits, multiply_fits, least_fits, greatest_fits, compare_fits, and_fits, or_fits, case_fits, negate_fits, not_fits}

three_of : {A B C : Type 0} → A → B → C → A × (B × (C × Unit {0}))
three_of a b c = (a, (b, (c, tt)))

-- the three components
parts_of : (r : Span) → Fit (components r) → Fit (number_if_any r.lo) × Fit (number_if_any r.sg) × Fit (number_if_any r.hi)
parts_of r f =
    let p = fit_parts (number_if_any r.lo) (number_if_any r.sg ++ number_if_any r.hi) f in
    let q = fit_parts (number_if_any r.sg) (number_if_any r.hi) p.1 in
    (p.0, q.0, q.1)

has_from : (row : List Value) (e : PTerm) (v : Value) → Means reading row e v → Has row e v
has_from row e v m = λ more. some_is _ _ (m more)

-- three columns whose range has components that fit
module _ (row : List Value) (i : ℕ) (a : Span) (x : EndsAt row i a) (f : Fit (components a)) where
  pub lo_fits : Fits row (step.lo i)
  lo_fits = column_fits row i a.lo (lo_has row i a x) (parts_of a f).0

  pub sg_fits : Fits row (step.sg i)
  sg_fits = column_fits row (i + 1) a.sg (sg_has row i a x) (parts_of a f).1

  pub hi_fits : Fits row (step.hi i)
  hi_fits = column_fits row (i + 2) a.hi (hi_has row i a x) (parts_of a f).2

  abbrev AllFit : List PTerm → Type 0
  AllFit es = AllByRecursion (Fits row) es

  column_step_fits : AllFit (step.column_step i)
  column_step_fits = (three_of (lo_fits) (sg_fits) (hi_fits))

  not_step_fits : AllFit (step.not_step i)
  not_step_fits = (three_of (not_fits row (step.hi i) hi_fits) (not_fits row (step.sg i) sg_fits) (not_fits row (step.lo i) lo_fits))

  negate_step_fits : Fit (components (on_ranges.negate a)) → AllFit (step.negate_step i)
  negate_step_fits g =
      let p = parts_of (on_ranges.negate a) g in (three_of (negate_fits row (step.hi i) a.hi (hi_has row i a x) hi_fits p.0) (negate_fits row (step.sg i) a.sg (sg_has row i a x) sg_fits p.1) (negate_fits row (step.lo i) a.lo (lo_has row i a x) lo_fits p.2))

module _ (row : List Value) (i j : ℕ) (a b : Span) (x : EndsAt row i a) (y : EndsAt row j b) (f : Fit (components a)) (g : Fit (components b)) where
  al : Has row (step.lo i) a.lo
  al = lo_has row i a x

  ag : Has row (step.sg i) a.sg
  ag = sg_has row i a x

  ah : Has row (step.hi i) a.hi
  ah = hi_has row i a x

  bl : Has row (step.lo j) b.lo
  bl = lo_has row j b y

  bg : Has row (step.sg j) b.sg
  bg = sg_has row j b y

  bh : Has row (step.hi j) b.hi
  bh = hi_has row j b y

  fal : Fits row (step.lo i)
  fal = lo_fits row i a x f

  fag : Fits row (step.sg i)
  fag = sg_fits row i a x f

  fah : Fits row (step.hi i)
  fah = hi_fits row i a x f

  fbl : Fits row (step.lo j)
  fbl = lo_fits row j b y g

  fbg : Fits row (step.sg j)
  fbg = sg_fits row j b y g

  fbh : Fits row (step.hi j)
  fbh = hi_fits row j b y g

  abbrev All : List PTerm → Type 0
  All es = AllByRecursion (Fits row) es

  add_step_fits : Fit (components (on_ranges.add a b)) → All (step.add_step i j)
  add_step_fits h =
      let p = parts_of (on_ranges.add a b) h in (three_of (add_fits row (step.lo i) (step.lo j) a.lo b.lo al bl fal fbl p.0) (add_fits row (step.sg i) (step.sg j) a.sg b.sg ag bg fag fbg p.1) (add_fits row (step.hi i) (step.hi j) a.hi b.hi ah bh fah fbh p.2))

  subtract_step_fits : Fit (components (on_ranges.subtract a b)) → All (step.subtract_step i j)
  subtract_step_fits h =
      let p = parts_of (on_ranges.subtract a b) h in (three_of (subtract_fits row (step.lo i) (step.hi j) a.lo b.hi al bh fal fbh p.0) (subtract_fits row (step.sg i) (step.sg j) a.sg b.sg ag bg fag fbg p.1) (subtract_fits row (step.hi i) (step.lo j) a.hi b.lo ah bl fah fbl p.2))

  multiply_step_fits : Fit (end_products a b) → Fit (components (on_ranges.multiply a b)) → All (step.multiply_step i j)
  multiply_step_fits e h =
      let p = parts_of (on_ranges.multiply a b) h in
      let ll = Multiply (step.lo i) (step.lo j) in
      let lh = Multiply (step.lo i) (step.hi j) in
      let hl = Multiply (step.hi i) (step.lo j) in
      let hh = Multiply (step.hi i) (step.hi j) in
      let vll = on_values.multiply a.lo b.lo in
      let vlh = on_values.multiply a.lo b.hi in
      let vhl = on_values.multiply a.hi b.lo in
      let vhh = on_values.multiply a.hi b.hi in
      let q = fit_parts (number_if_any vll) (number_if_any vlh ++ (number_if_any vhl ++ number_if_any vhh)) e in
      let r = fit_parts (number_if_any vlh) (number_if_any vhl ++ number_if_any vhh) q.1 in
      let s = fit_parts (number_if_any vhl) (number_if_any vhh) r.1 in
      let hll : Has row ll vll = λ more k. on_values.multiply (al more k) (bl more k) in
      let hlh : Has row lh vlh = λ more k. on_values.multiply (al more k) (bh more k) in
      let hhl : Has row hl vhl = λ more k. on_values.multiply (ah more k) (bl more k) in
      let hhh : Has row hh vhh = λ more k. on_values.multiply (ah more k) (bh more k) in
      let fll = multiply_fits row (step.lo i) (step.lo j) a.lo b.lo al bl fal fbl q.0 in
      let flh = multiply_fits row (step.lo i) (step.hi j) a.lo b.hi al bh fal fbh r.0 in
      let fhl = multiply_fits row (step.hi i) (step.lo j) a.hi b.lo ah bl fah fbl s.0 in
      let fhh = multiply_fits row (step.hi i) (step.hi j) a.hi b.hi ah bh fah fbh s.1 in
      let low = least_fits row ll lh vll vlh hll hlh fll flh q.0 r.0 in
      let lower = least_fits row hl hh vhl vhh hhl hhh fhl fhh s.0 s.1 in
      let high = greatest_fits row ll lh vll vlh hll hlh fll flh q.0 r.0 in
      let higher = greatest_fits row hl hh vhl vhh hhl hhh fhl fhh s.0 s.1 in
      (three_of (least_fits row (least_of_two ll lh) (least_of_two hl hh) (lesser vll vlh) (lesser vhl vhh)
      (λ more k. lesser (hll more k) (hlh more k)) (λ more k. lesser (hhl more k) (hhh more k)) low lower
      (fit_lesser vll vlh q.0 r.0) (fit_lesser vhl vhh s.0 s.1)) (multiply_fits row (step.sg i) (step.sg j) a.sg b.sg ag bg fag fbg p.1) (greatest_fits row (greatest_of_two ll lh) (greatest_of_two hl hh) (greater vll vlh) (greater vhl vhh)
      (λ more k. greater (hll more k) (hlh more k)) (λ more k. greater (hhl more k) (hhh more k)) high higher
      (fit_greater vll vlh q.0 r.0) (fit_greater vhl vhh s.0 s.1)))

  pub equal_fits : Fits row (step.certainly_equal_term i j)
  equal_fits =
      and_fits row (And (Compare how.Equal (step.lo i) (step.hi i)) (Compare how.Equal (step.lo j) (step.hi j))) (Compare how.Equal (step.lo i) (step.lo j))
      (and_fits row (Compare how.Equal (step.lo i) (step.hi i)) (Compare how.Equal (step.lo j) (step.hi j)) (compare_fits row (step.lo i) (step.hi i) fal fah how.Equal)
      (compare_fits row (step.lo j) (step.hi j) fbl fbh how.Equal))
      (compare_fits row (step.lo i) (step.lo j) fal fbl how.Equal)

  pub overlap_fits : Fits row (step.overlap_term i j)
  overlap_fits =
      and_fits row (Compare how.AtMost (step.lo i) (step.hi j)) (Compare how.AtMost (step.lo j) (step.hi i))
      (compare_fits row (step.lo i) (step.hi j) fal fbh how.AtMost) (compare_fits row (step.lo j) (step.hi i) fbl fah how.AtMost)

  pub guess_fits : (test : Comparison2) → Fits row (Compare test (step.sg i) (step.sg j))
  guess_fits test = compare_fits row (step.sg i) (step.sg j) fag fbg test

  turned_fits : (test : Comparison2) → Fits row (Compare test (step.sg j) (step.sg i))
  turned_fits test = compare_fits row (step.sg j) (step.sg i) fbg fag test

  compare_step_fits : (as_is : Comparison) → All (step.compare_step as_is i j)
  compare_step_fits Equal = (three_of (equal_fits) (guess_fits how.Equal) (overlap_fits))
  compare_step_fits Differs = (three_of (not_fits row (step.overlap_term i j) overlap_fits) (not_fits row (Compare how.Equal (step.sg i) (step.sg j)) (guess_fits how.Equal)) (not_fits row (step.certainly_equal_term i j) equal_fits))
  compare_step_fits Less =
      (three_of (compare_fits row (step.hi i) (step.lo j) fah fbl how.Less) (guess_fits how.Less) (compare_fits row (step.lo i) (step.hi j) fal fbh how.Less))
  compare_step_fits AtMost =
      (three_of (compare_fits row (step.hi i) (step.lo j) fah fbl how.AtMost) (guess_fits how.AtMost) (compare_fits row (step.lo i) (step.hi j) fal fbh how.AtMost))
  compare_step_fits Greater =
      (three_of (compare_fits row (step.hi j) (step.lo i) fbh fal how.Less) (turned_fits how.Less) (compare_fits row (step.lo j) (step.hi i) fbl fah how.Less))
  compare_step_fits AtLeast =
      (three_of (compare_fits row (step.hi j) (step.lo i) fbh fal how.AtMost) (turned_fits how.AtMost) (compare_fits row (step.lo j) (step.hi i) fbl fah how.AtMost))

  and_step_fits : All (step.and_step i j)
  and_step_fits = (three_of (and_fits row (step.lo i) (step.lo j) fal fbl) (and_fits row (step.sg i) (step.sg j) fag fbg) (and_fits row (step.hi i) (step.hi j) fah fbh))

  or_step_fits : All (step.or_step i j)
  or_step_fits = (three_of (or_fits row (step.lo i) (step.lo j) fal fbl) (or_fits row (step.sg i) (step.sg j) fag fbg) (or_fits row (step.hi i) (step.hi j) fah fbh))

  case_step_fits : (m : ℕ) (c : Span) → EndsAt row m c → Fit (components c) → All (step.case_step m i j)
  case_step_fits m c z h =
      let p = parts_of a f in
      let q = parts_of b g in
      let cl = lo_fits row m c z h in
      let cg = sg_fits row m c z h in
      let ch = hi_fits row m c z h in (three_of (by_case_fits cl ch (step.lo i) (least_of_two (step.lo i) (step.lo j)) (step.lo j) fal
      (least_fits row (step.lo i) (step.lo j) a.lo b.lo al bl fal fbl p.0 q.0) fbl) (by_case_fits cl ch (step.sg i) (Case (step.sg m) (step.sg i) (step.sg j)) (step.sg j) fag
      (case_fits row (step.sg i) (step.sg j) fag fbg (step.sg m) cg) fbg) (by_case_fits cl ch (step.hi i) (greatest_of_two (step.hi i) (step.hi j)) (step.hi j) fah
      (greatest_fits row (step.hi i) (step.hi j) a.hi b.hi ah bh fah fbh p.2 q.2) fbh))
    where
      by_case_fits : Fits row (step.lo m) → Fits row (step.hi m) → (u both v : PTerm) → Fits row u → Fits row both → Fits row v → Fits row (step.by_case m u both v)
      by_case_fits cl ch u both v p q r = case_fits row u (Case (step.hi m) both v) p (case_fits row both v q r (step.hi m) ch) (step.lo m) cl

module _ (ks : List Kind) (cells : List Span) (long : length cells ≡ length ks) where
  abbrev pub result : Term → Span
  result e = range_of e cells

  -- the numbers of the expression fit
  abbrev pub Fine : Term → Type 0
  Fine e = Fit (expr_numbers e cells)

  two_parts : (xs : List ℤ) (a b : Term) → Fit (xs ++ (expr_numbers a cells ++ expr_numbers b cells)) → Fine a × Fine b
  two_parts xs a b f = fit_parts (expr_numbers a cells) (expr_numbers b cells) (fit_parts xs (expr_numbers a cells ++ expr_numbers b cells) f).1

  own : (xs ys : List ℤ) → Fit (xs ++ ys) → Fit xs
  own xs ys f = (fit_parts xs ys f).0

  product_parts : (a b : Term) → Fine (term.Multiply a b) → Fit (end_products (result a) (result b)) × Fit (components (result (term.Multiply a b))) × Fine a × Fine b
  product_parts a b f =
      let xs = end_products (result a) (result b) in
      let ys = components (result (term.Multiply a b)) in
      let p = fit_parts xs (ys ++ (expr_numbers a cells ++ expr_numbers b cells)) f in
      let q = two_parts ys a b p.1 in
      (p.0, own ys (expr_numbers a cells ++ expr_numbers b cells) p.1, q.0, q.1)

  case_parts : (c a b : Term) → Fine (term.Case c a b) → Fine c × Fine a × Fine b
  case_parts c a b f =
      let p = (fit_parts (components (result (term.Case c a b))) (expr_numbers c cells ++ (expr_numbers a cells ++ expr_numbers b cells)) f).1 in
      let q = fit_parts (expr_numbers c cells) (expr_numbers a cells ++ expr_numbers b cells) p in
      let r = fit_parts (expr_numbers a cells) (expr_numbers b cells) q.1 in
      (q.0, r.0, r.1)

  pub below_fine : Below Fine
  below_fine = record {
    add = λ a b f. two_parts (components (result (term.Add a b))) a b f;
    subtract = λ a b f. two_parts (components (result (term.Subtract a b))) a b f;
    multiply = λ a b f. (let p = product_parts a b f in (p.2, p.3));
    negate = λ a f. (fit_parts (components (result (term.Negate a))) (expr_numbers a cells) f).1;
    compare = λ as_is a b f. two_parts [] a b f;
    and = λ a b f. two_parts [] a b f;
    or = λ a b f. two_parts [] a b f;
    not = λ a f. f;
    choose = case_parts;
  }

  -- the components of an expression's range are among its numbers
  pub components_fit : (e : Term) → Fine e → Fit (components (result e))
  components_fit (term.Column i) f = f
  components_fit (term.Literal v) f = f
  components_fit (term.Add a b) f = own (components (result (term.Add a b))) (expr_numbers a cells ++ expr_numbers b cells) f
  components_fit (term.Subtract a b) f = own (components (result (term.Subtract a b))) (expr_numbers a cells ++ expr_numbers b cells) f
  components_fit (term.Multiply a b) f = (product_parts a b f).1
  components_fit (term.Negate a) f = own (components (result (term.Negate a))) (expr_numbers a cells) f
  components_fit (term.Compare Equal a b) f = refl
  components_fit (term.Compare Differs a b) f = refl
  components_fit (term.Compare Less a b) f = refl
  components_fit (term.Compare AtMost a b) f = refl
  components_fit (term.Compare Greater a b) f = refl
  components_fit (term.Compare AtLeast a b) f = refl
  components_fit (term.And a b) f = refl
  components_fit (term.Or a b) f = refl
  components_fit (term.Not a) f = refl
  components_fit (term.Case c a b) f = own (components (result (term.Case c a b))) (expr_numbers c cells ++ (expr_numbers a cells ++ expr_numbers b cells)) f

  abbrev plainly : Steps (λ (x : Span). x.lo) (λ (x : Span). x.sg) (λ (x : Span). x.hi) reading ks cells result Any
  plainly = value_steps ks cells long

  -- The columns of each node have the range of the expression, with care.
  pub careful_steps : Steps (λ (x : Span). x.lo) (λ (x : Span). x.sg) (λ (x : Span). x.hi) careful ks cells result Fine
  careful_steps = record {
    column = λ i k f t row e.
        (let m = plainly.column i k tt t row e in
        let p = parts_of (result (term.Column i)) f in
        all_careful row (step.column_step (3 * i)) (span_ends (result (term.Column i))) m (three_of (column_fits row (3 * i) _ (has_from row (step.lo (3 * i)) _ m.0) p.0) (column_fits row (3 * i + 1) _ (has_from row (step.sg (3 * i)) _ m.1.0) p.1) (column_fits row (3 * i + 2) _ (has_from row (step.hi (3 * i)) _ m.1.1.0) p.2)));
    literal = λ v f row.
        (let p = parts_of (result (term.Literal v)) f in
        all_careful row (step.flatten 0 (term.Literal v)) (span_ends (result (term.Literal v))) (plainly.literal v tt row) (three_of ((λ more. p.0)) ((λ more. p.0)) ((λ more. p.0))));
    add = λ a b f ka kb row i j x y.
        (let p = two_parts (components (result (term.Add a b))) a b f in
        all_careful row (step.add_step i j) (span_ends (result (term.Add a b))) (plainly.add a b tt ka kb row i j x y)
        (add_step_fits row i j (result a) (result b) x y (components_fit a p.0) (components_fit b p.1) (components_fit (term.Add a b) f)));
    subtract = λ a b f ka kb row i j x y.
        (let p = two_parts (components (result (term.Subtract a b))) a b f in
        all_careful row (step.subtract_step i j) (span_ends (result (term.Subtract a b))) (plainly.subtract a b tt ka kb row i j x y)
        (subtract_step_fits row i j (result a) (result b) x y (components_fit a p.0) (components_fit b p.1) (components_fit (term.Subtract a b) f)));
    multiply = λ a b f ka kb row i j x y.
        (let p = product_parts a b f in
        all_careful row (step.multiply_step i j) (span_ends (result (term.Multiply a b))) (plainly.multiply a b tt ka kb row i j x y)
        (multiply_step_fits row i j (result a) (result b) x y (components_fit a p.2) (components_fit b p.3) p.0 p.1));
    negate = λ a f ka row i x.
        all_careful row (step.negate_step i) (span_ends (result (term.Negate a))) (plainly.negate a tt ka row i x)
        (negate_step_fits row i (result a) x (components_fit a (below_fine.negate a f)) (components_fit (term.Negate a) f));
    compare = λ as_is k a b f ka kb row i j x y.
        (let p = two_parts [] a b f in
        all_careful row (step.compare_step as_is i j) (span_ends (result (term.Compare as_is a b))) (plainly.compare as_is k a b tt ka kb row i j x y)
        (compare_step_fits row i j (result a) (result b) x y (components_fit a p.0) (components_fit b p.1) as_is));
    and = λ a b f ka kb row i j x y.
        (let p = two_parts [] a b f in
        all_careful row (step.and_step i j) (span_ends (result (term.And a b))) (plainly.and a b tt ka kb row i j x y)
        (and_step_fits row i j (result a) (result b) x y (components_fit a p.0) (components_fit b p.1)));
    or = λ a b f ka kb row i j x y.
        (let p = two_parts [] a b f in
        all_careful row (step.or_step i j) (span_ends (result (term.Or a b))) (plainly.or a b tt ka kb row i j x y)
        (or_step_fits row i j (result a) (result b) x y (components_fit a p.0) (components_fit b p.1)));
    not = λ a f ka row i x. all_careful row (step.not_step i) (span_ends (result (term.Not a))) (plainly.not a tt ka row i x) (not_step_fits row i (result a) x (components_fit a f));
    choose = λ k c a b f kc ka kb row m i j z x y.
        (let p = case_parts c a b f in
        all_careful row (step.case_step m i j) (span_ends (result (term.Case c a b))) (plainly.choose k c a b tt kc ka kb row m i j z x y)
        (case_step_fits row i j (result a) (result b) x y (components_fit a p.1) (components_fit b p.2) m (result c) z (components_fit c p.0)));
  }
