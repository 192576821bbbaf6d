-- The columns of a flattened expression on a row of values hold the expression's range.
use Rattle.std.specs.Prelude.{◌≡◌, ℕ, zero, suc, ◌+◌, ◌*◌, Bool, true, false, not, List, [], ◌∷◌, ◌++◌, length, Option, Some, unwrap_or, pos, if◌then◌else◌}
use Rattle.std.proofs.Common.{arith, refl, sym, ◌∙◌, ap, subst}
use Rattle.au_value.specs.declared.kinds.Kind.{Kind}
use Rattle.au_value.specs.declared.value.Value.{Value}
use Rattle.au_value.specs.declared.value.Value.TheVariants as value
use Rattle.au_value.specs.declared.comparison.Comparison.{Comparison}
use Rattle.au_value.specs.declared.comparison.Comparison.TheVariants.{Equal, Differs, Less, AtMost, Greater, AtLeast}
use Rattle.au_value.specs.Ranges as ranges
use Rattle.au_value.specs.Ranges.{Span, range, lesser, greater, certain}
use Rattle.au_expr.specs.Terms.{Term}
use Rattle.au_expr.specs.Terms as term
use Rattle.au_expr.specs.Kinds.{kind_in}
use Rattle.au_expr.specs.Ordinary as on_values
use Rattle.au_expr.specs.OnRanges as on_ranges
use Rattle.au_expr.specs.OnRanges.{range_of}
use Rattle.au_plain.specs.declared.expr.Comparison2.TheVariants as how
use Rattle.au_plain.specs.PTerms.{PTerm, plain_value, plainly}
use Rattle.au_plain.specs.PTerms as plain
use Rattle.au_rwexpr.specs.Flatten as step
use Rattle.au_rwexpr.proofs.Places.{At, at_more, Ends, EndsOfAll, ends_at}
use Rattle.au_rwexpr.proofs.Columns.{Means, AllMean}
use Rattle.au_rwexpr.proofs.Structure.{Steps, Any}
use Rattle.au_rwexpr.proofs.Coded.{rs}

-- an expression's value as a reading
abbrev pub reading : List Value → PTerm → Option Value
reading row e = Some (plain_value e row)

-- the value of an expression on a row, whatever is added on the right
abbrev pub Has : List Value → PTerm → Value → Type 0
Has row e v = (more : List Value) → plain_value e (row ++ more) ≡ v

pub column_has : (row : List Value) (i : ℕ) (v : Value) → At row i v → Has row (plain.Column i) v
column_has row i v h = λ more. ap (λ o. unwrap_or o (value.Int (pos 0))) (at_more row more i v h)

pub means : (row : List Value) (e : PTerm) (v : Value) → Has row e v → Means reading row e v
means row e v h = λ more. ap Some (h more)

abbrev pub EndsAt : List Value → ℕ → Span → Type 0
EndsAt row i r = Ends (λ (x : Span). x.lo) (λ (x : Span). x.sg) (λ (x : Span). x.hi) row i r

abbrev pub span_ends : Span → List Value
span_ends r = r.lo ∷ r.sg ∷ r.hi ∷ []

abbrev pub AllEnds : List Value → ℕ → List Span → Type 0
AllEnds row i rs = EndsOfAll (λ (x : Span). x.lo) (λ (x : Span). x.sg) (λ (x : Span). x.hi) row i rs

module _ (row : List Value) (i : ℕ) (a : Span) (x : EndsAt row i a) where
  pub lo_has : Has row (step.lo i) a.lo
  lo_has = column_has row i a.lo x.lo

  pub sg_has : Has row (step.sg i) a.sg
  sg_has = column_has row (i + 1) a.sg x.sg

  pub hi_has : Has row (step.hi i) a.hi
  hi_has = column_has row (i + 2) a.hi x.hi

module _ (row : List Value) (i j : ℕ) (a b : Span) (x : EndsAt row i a) (y : EndsAt row j b) where
  al : Has row (step.lo i) a.lo
  al = lo_has row i a x

  ag : Has row (step.sg i) a.sg
  ag = sg_has row i a x

  ah : Has row (step.hi i) a.hi
  ah = hi_has row i a x

  bl : Has row (step.lo j) b.lo
  bl = lo_has row j b y

  bg : Has row (step.sg j) b.sg
  bg = sg_has row j b y

  bh : Has row (step.hi j) b.hi
  bh = hi_has row j b y

  add_law : AllMean reading row (step.add_step i j) (span_ends (on_ranges.add a b))
  add_law = (λ more. λ k. Some (on_values.add (al more k) (bl more k)), (λ more. λ k. Some (on_values.add (ag more k) (bg more k)), (λ more. λ k. Some (on_values.add (ah more k) (bh more k)), tt)))

  subtract_law : AllMean reading row (step.subtract_step i j) (span_ends (on_ranges.subtract a b))
  subtract_law = (λ more. λ k. Some (on_values.subtract (al more k) (bh more k)), (λ more. λ k. Some (on_values.subtract (ag more k) (bg more k)), (λ more. λ k. Some (on_values.subtract (ah more k) (bl more k)), tt)))

  multiply_law : AllMean reading row (step.multiply_step i j) (span_ends (on_ranges.multiply a b))
  multiply_law = (λ more. λ k. Some (on_ranges.least_of_four (on_values.multiply (al more k) (bl more k)) (on_values.multiply (al more k) (bh more k)) (on_values.multiply (ah more k) (bl more k)) (on_values.multiply (ah more k) (bh more k))), (λ more. λ k. Some (on_values.multiply (ag more k) (bg more k)), (λ more. λ k. Some (on_ranges.greatest_of_four (on_values.multiply (al more k) (bl more k)) (on_values.multiply (al more k) (bh more k)) (on_values.multiply (ah more k) (bl more k)) (on_values.multiply (ah more k) (bh more k))), tt)))

  and_law : AllMean reading row (step.and_step i j) (span_ends (on_ranges.and a b))
  and_law = (λ more. λ k. Some (on_values.and (al more k) (bl more k)), (λ more. λ k. Some (on_values.and (ag more k) (bg more k)), (λ more. λ k. Some (on_values.and (ah more k) (bh more k)), tt)))

  or_law : AllMean reading row (step.or_step i j) (span_ends (on_ranges.or a b))
  or_law = (λ more. λ k. Some (on_values.or (al more k) (bl more k)), (λ more. λ k. Some (on_values.or (ag more k) (bg more k)), (λ more. λ k. Some (on_values.or (ah more k) (bh more k)), tt)))

  -- the two tests of a comparison, as columns
  pub equal_has : Has row (step.certainly_equal_term i j) (value.Flag (ranges.certainly_equal a b))
  equal_has = λ more. λ k. value.Flag (ranges.certainly_equal (range (al more k) a.sg (ah more k)) (range (bl more k) b.sg (bh more k)))

  pub overlap_has : Has row (step.overlap_term i j) (value.Flag (ranges.overlap a b))
  overlap_has = λ more. λ k. value.Flag (ranges.overlap (range (al more k) a.sg (ah more k)) (range (bl more k) b.sg (bh more k)))

  compare_law : (how : Comparison) → AllMean reading row (step.compare_step how i j) (span_ends (on_ranges.compare how a b))
  compare_law Equal = (λ more. λ k. Some (value.Flag (ranges.certainly_equal (range (al more k) a.sg (ah more k)) (range (bl more k) b.sg (bh more k)))), (λ more. λ k. Some (value.Flag (plainly how.Equal (ag more k) (bg more k))), (λ more. λ k. Some (value.Flag (ranges.overlap (range (al more k) a.sg (ah more k)) (range (bl more k) b.sg (bh more k)))), tt)))
  compare_law Differs = (λ more. λ k. Some (on_values.opposite (value.Flag (ranges.overlap (range (al more k) a.sg (ah more k)) (range (bl more k) b.sg (bh more k))))), (λ more. λ k. Some (on_values.opposite (value.Flag (plainly how.Equal (ag more k) (bg more k)))), (λ more. λ k. Some (on_values.opposite (value.Flag (ranges.certainly_equal (range (al more k) a.sg (ah more k)) (range (bl more k) b.sg (bh more k))))), tt)))
  compare_law Less = (λ more. λ k. Some (value.Flag (plainly how.Less (ah more k) (bl more k))), (λ more. λ k. Some (value.Flag (plainly how.Less (ag more k) (bg more k))), (λ more. λ k. Some (value.Flag (plainly how.Less (al more k) (bh more k))), tt)))
  compare_law AtMost = (λ more. λ k. Some (value.Flag (plainly how.AtMost (ah more k) (bl more k))), (λ more. λ k. Some (value.Flag (plainly how.AtMost (ag more k) (bg more k))), (λ more. λ k. Some (value.Flag (plainly how.AtMost (al more k) (bh more k))), tt)))
  compare_law Greater = (λ more. λ k. Some (value.Flag (plainly how.Less (bh more k) (al more k))), (λ more. λ k. Some (value.Flag (plainly how.Less (bg more k) (ag more k))), (λ more. λ k. Some (value.Flag (plainly how.Less (bl more k) (ah more k))), tt)))
  compare_law AtLeast = (λ more. λ k. Some (value.Flag (plainly how.AtMost (bh more k) (al more k))), (λ more. λ k. Some (value.Flag (plainly how.AtMost (bg more k) (ag more k))), (λ more. λ k. Some (value.Flag (plainly how.AtMost (bl more k) (ah more k))), tt)))

  -- a choice by the ends of the condition
  chosen : (t u : Bool) (both : Span) (part : Span → Value) → (if t then part a else (if u then part both else part b)) ≡ part (if t then a else (if not u then b else both))
  chosen true u both part = refl
  chosen false true both part = refl
  chosen false false both part = refl

  case_law : (m : ℕ) (c : Span) → EndsAt row m c → AllMean reading row (step.case_step m i j) (span_ends (on_ranges.choose c a b))
  case_law m c z =
      let cl = lo_has row m c z in
      let cg = sg_has row m c z in
      let ch = hi_has row m c z in
      let both = range (lesser a.lo b.lo) (on_values.choose c.sg a.sg b.sg) (greater a.hi b.hi) in
      let t = on_values.is_true c.lo in
      let u = on_values.is_true c.hi in (
        λ more.
            (λ k. Some (on_values.choose (cl more k) (al more k) (on_values.choose (ch more k) (lesser (al more k) (bl more k)) (bl more k))))
            ∙ ap Some (chosen t u both (λ r. r.lo)),
        (
          λ more.
              (λ k. Some (on_values.choose (cl more k) (ag more k) (on_values.choose (ch more k) (on_values.choose (cg more k) (ag more k) (bg more k)) (bg more k))))
              ∙ ap Some (chosen t u both (λ r. r.sg)),
          (
            λ more.
                (λ k. Some (on_values.choose (cl more k) (ah more k) (on_values.choose (ch more k) (greater (ah more k) (bh more k)) (bh more k))))
                ∙ ap Some (chosen t u both (λ r. r.hi)),
            tt,
          ),
        ),
      )

module _ (row : List Value) (i : ℕ) (a : Span) (x : EndsAt row i a) where
  column_law : AllMean reading row (step.column_step i) (span_ends (a))
  column_law = (λ more. λ k. Some ((lo_has row i a x more k)), (λ more. λ k. Some ((sg_has row i a x more k)), (λ more. λ k. Some ((hi_has row i a x more k)), tt)))

  negate_law : AllMean reading row (step.negate_step i) (span_ends (on_ranges.negate a))
  negate_law = (λ more. λ k. Some (on_values.negate (hi_has row i a x more k)), (λ more. λ k. Some (on_values.negate (sg_has row i a x more k)), (λ more. λ k. Some (on_values.negate (lo_has row i a x more k)), tt)))

  not_law : AllMean reading row (step.not_step i) (span_ends (on_ranges.opposite a))
  not_law = (λ more. λ k. Some (on_values.opposite (hi_has row i a x more k)), (λ more. λ k. Some (on_values.opposite (sg_has row i a x more k)), (λ more. λ k. Some (on_values.opposite (lo_has row i a x more k)), tt)))

-- a column that has a kind is there
pub there : {A B : Type 0} (ks : List A) (xs : List B) (i : ℕ) (k : A) → length xs ≡ length ks → At ks i k → (x : B) × At xs i x
there [] xs i k e h = cc
there (j ∷ ks) [] i k e h = let never : ⊥ = omega (arith, e) in absurd never
there (j ∷ ks) (x ∷ xs) zero k e h = (x, refl)
there (j ∷ ks) (x ∷ xs) (suc i) k e h = there ks xs i k (omega (arith, e)) h

module _ (ks : List Kind) (cells : List Span) (long : length cells ≡ length ks) where
  abbrev pub result : Term → Span
  result e = range_of e cells

  column_steps : (i : ℕ) (k : Kind) → kind_in ks (term.Column i) ≡ Some k → (row : List Value) → AllEnds row 0 cells → AllMean reading row (step.column_step (3 * i)) (span_ends (result (term.Column i)))
  column_steps i k t row e =
      let x = there ks cells i k long t in
      let is : result (term.Column i) ≡ x.0 = ap (λ o. unwrap_or o (certain (value.Int (pos 0)))) x.1 in
      let at = ends_at (λ (r : Span). r.lo) (λ (r : Span). r.sg) (λ (r : Span). r.hi) row 0 i (3 * i) cells x.0 e x.1 (omega arith) in
      subst (λ r. AllMean reading row (step.column_step (3 * i)) (span_ends r)) (sym is) (column_law row (3 * i) x.0 at)

  -- The columns of each node have the range of the expression.
  pub value_steps : Steps (λ (x : Span). x.lo) (λ (x : Span). x.sg) (λ (x : Span). x.hi) reading ks cells result Any
  value_steps = record {
    column = λ i k z t row e. column_steps i k t row e;
    literal = λ v z row. (λ more. refl, (λ more. refl, (λ more. refl, tt)));
    add = λ a b z ka kb row i j x y. add_law row i j (result a) (result b) x y;
    subtract = λ a b z ka kb row i j x y. subtract_law row i j (result a) (result b) x y;
    multiply = λ a b z ka kb row i j x y. multiply_law row i j (result a) (result b) x y;
    negate = λ a z ka row i x. negate_law row i (result a) x;
    compare = λ how k a b z ka kb row i j x y. compare_law row i j (result a) (result b) x y how;
    and = λ a b z ka kb row i j x y. and_law row i j (result a) (result b) x y;
    or = λ a b z ka kb row i j x y. or_law row i j (result a) (result b) x y;
    not = λ a z ka row i x. not_law row i (result a) x;
    choose = λ k c a b fine kc ka kb row m i j z x y. case_law row i j (result a) (result b) x y m (result c) z;
  }
