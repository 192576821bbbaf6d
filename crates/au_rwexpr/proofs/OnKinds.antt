-- The columns of a flattened expression on a row of kinds have the expression's kind.
use Rattle.std.specs.Prelude.{◌≡◌, ℕ, ◌+◌, ◌*◌, ◌&&◌, List, [], ◌∷◌, Some, unwrap_or, is_some}
use Rattle.std.proofs.Common.{arith, refl, sym, ◌∙◌, ap, subst}
use Rattle.au_value.specs.declared.kinds.Kind.{Kind}
use Rattle.au_value.specs.declared.kinds.Kind.TheVariants.{Int, Flag}
use Rattle.au_value.specs.declared.comparison.Comparison.{Comparison}
use Rattle.au_value.specs.declared.comparison.Comparison.TheVariants as how
use Rattle.au_expr.specs.Terms.{Term}
use Rattle.au_expr.specs.Terms as term
use Rattle.au_expr.specs.Kinds.{kind_in, kind_if, is_kind, agreed, only_if}
use Rattle.au_plain.specs.declared.expr.Comparison2.{Comparison2}
use Rattle.au_plain.specs.declared.expr.Comparison2.TheVariants.{Equal, Less, AtMost}
use Rattle.au_plain.specs.PTerms.{PTerm, Column, Add, Subtract, Multiply, Negate, Compare, And, Or, Not, Case, greatest_of_two, least_of_two}
use Rattle.au_plain.specs.PlanKinds.{plain_kind}
use Rattle.au_rwexpr.specs.Flatten as step
use Rattle.au_rwexpr.specs.Counts.{zero_term, positive}
use Rattle.au_rwexpr.proofs.Places.{At, at_more, Ends, EndsOfAll, ends_at}
use Rattle.au_rwexpr.proofs.Columns.{Means, AllMean}
use Rattle.au_rwexpr.proofs.Structure.{Steps, Any}
use Rattle.au_value.specs.KindLaws.{kind_itself}
use Rattle.au_rwexpr.proofs.Coded.{cl}

-- the kind of an expression on a row of kinds, whatever is added on the right
abbrev pub HasKind : List Kind → PTerm → Kind → Type 0
HasKind row e k = Means plain_kind row e k

pub column_kind : (row : List Kind) (i : ℕ) (k : Kind) → At row i k → HasKind row (Column i) k
column_kind row i k h = λ more. at_more row more i k h

pub agreed_same : (k : Kind) → agreed (Some k) (Some k) ≡ Some k
agreed_same k = rw (kind_itself k) refl

abbrev pub KindsAt : List Kind → ℕ → Kind → Type 0
KindsAt row i k = Ends (λ (x : Kind). x) (λ x. x) (λ x. x) row i k

abbrev pub AllKindsAt : List Kind → ℕ → List Kind → Type 0
AllKindsAt row i ks = EndsOfAll (λ (x : Kind). x) (λ x. x) (λ x. x) row i ks

abbrev pub thrice : Kind → List Kind
thrice k = k ∷ k ∷ k ∷ []

-- each way of making an expression
module _ (row : List Kind) where
  abbrev Of : PTerm → Kind → Type 0
  Of e k = HasKind row e k

  module _ (e f : PTerm) where
    pub add_kind : Of e Int → Of f Int → Of (Add e f) Int
    add_kind p q = λ more. λ i. kind_if (is_kind Int (p more i) && is_kind Int (q more i)) Int

    pub subtract_kind : Of e Int → Of f Int → Of (Subtract e f) Int
    subtract_kind p q = λ more. λ i. kind_if (is_kind Int (p more i) && is_kind Int (q more i)) Int

    pub multiply_kind : Of e Int → Of f Int → Of (Multiply e f) Int
    multiply_kind p q = λ more. λ i. kind_if (is_kind Int (p more i) && is_kind Int (q more i)) Int

    pub and_kind : Of e Flag → Of f Flag → Of (And e f) Flag
    and_kind p q = λ more. λ i. kind_if (is_kind Flag (p more i) && is_kind Flag (q more i)) Flag

    pub or_kind : Of e Flag → Of f Flag → Of (Or e f) Flag
    or_kind p q = λ more. λ i. kind_if (is_kind Flag (p more i) && is_kind Flag (q more i)) Flag

    pub test_kind : (test : Comparison2) (k : Kind) → Of e k → Of f k → Of (Compare test e f) Flag
    test_kind test k p q = λ more. (λ i. kind_if (is_some (agreed (p more i) (q more i))) Flag) ∙ ap (λ o. kind_if (is_some o) Flag) (agreed_same k)

    pub least_kind : (k : Kind) → Of e k → Of f k → Of (least_of_two e f) k
    least_kind k p q = λ more. (λ i. agreed (p more i) (q more i)) ∙ agreed_same k

    pub greatest_kind : (k : Kind) → Of e k → Of f k → Of (greatest_of_two e f) k
    greatest_kind k p q = λ more. (λ i. agreed (p more i) (q more i)) ∙ agreed_same k

    pub case_kind : (k : Kind) (c : PTerm) → Of c Flag → Of e k → Of f k → Of (Case c e f) k
    case_kind k c r p q = λ more. (λ i. only_if (is_kind Flag (r more i)) (agreed (p more i) (q more i))) ∙ agreed_same k

  pub negate_kind : (e : PTerm) → Of e Int → Of (Negate e) Int
  negate_kind e p = λ more. λ i. kind_if (is_kind Int (p more i)) Int

  pub not_kind : (e : PTerm) → Of e Flag → Of (Not e) Flag
  not_kind e p = λ more. λ i. kind_if (is_kind Flag (p more i)) Flag

module _ (row : List Kind) (i j : ℕ) (k : Kind) (x : KindsAt row i k) (y : KindsAt row j k) where
  al : HasKind row (step.lo i) k
  al = column_kind row i k x.lo

  ag : HasKind row (step.sg i) k
  ag = column_kind row (i + 1) k x.sg

  ah : HasKind row (step.hi i) k
  ah = column_kind row (i + 2) k x.hi

  bl : HasKind row (step.lo j) k
  bl = column_kind row j k y.lo

  bg : HasKind row (step.sg j) k
  bg = column_kind row (j + 1) k y.sg

  bh : HasKind row (step.hi j) k
  bh = column_kind row (j + 2) k y.hi

  pub equal_kind : HasKind row (step.certainly_equal_term i j) Flag
  equal_kind =
      let p = test_kind row (step.lo i) (step.hi i) Equal k al ah in
      let q = test_kind row (step.lo j) (step.hi j) Equal k bl bh in
      let r = test_kind row (step.lo i) (step.lo j) Equal k al bl in
      let inner = And (Compare Equal (step.lo i) (step.hi i)) (Compare Equal (step.lo j) (step.hi j)) in
      and_kind row inner (Compare Equal (step.lo i) (step.lo j))
      (and_kind row (Compare Equal (step.lo i) (step.hi i)) (Compare Equal (step.lo j) (step.hi j)) p q) r

  pub overlap_kind : HasKind row (step.overlap_term i j) Flag
  overlap_kind =
      and_kind row (Compare AtMost (step.lo i) (step.hi j)) (Compare AtMost (step.lo j) (step.hi i)) (test_kind row (step.lo i) (step.hi j) AtMost k al bh)
      (test_kind row (step.lo j) (step.hi i) AtMost k bl ah)

  guess_test : (test : Comparison2) → HasKind row (Compare test (step.sg i) (step.sg j)) Flag
  guess_test test = test_kind row (step.sg i) (step.sg j) test k ag bg

  turned_test : (test : Comparison2) → HasKind row (Compare test (step.sg j) (step.sg i)) Flag
  turned_test test = test_kind row (step.sg j) (step.sg i) test k bg ag

  compare_kinds : (as_is : Comparison) → AllMean plain_kind row (step.compare_step as_is i j) (thrice Flag)
  compare_kinds how.Equal = (equal_kind, (guess_test Equal, (overlap_kind, tt)))
  compare_kinds how.Differs = (
    not_kind row (step.overlap_term i j) overlap_kind,
    (
      not_kind row (Compare Equal (step.sg i) (step.sg j)) (guess_test Equal),
      (not_kind row (step.certainly_equal_term i j) equal_kind, tt),
    ),
  )
  compare_kinds how.Less =
      (test_kind row (step.hi i) (step.lo j) Less k ah bl, (guess_test Less, (test_kind row (step.lo i) (step.hi j) Less k al bh, tt)))
  compare_kinds how.AtMost =
      (test_kind row (step.hi i) (step.lo j) AtMost k ah bl, (guess_test AtMost, (test_kind row (step.lo i) (step.hi j) AtMost k al bh, tt)))
  compare_kinds how.Greater =
      (test_kind row (step.hi j) (step.lo i) Less k bh al, (turned_test Less, (test_kind row (step.lo j) (step.hi i) Less k bl ah, tt)))
  compare_kinds how.AtLeast =
      (test_kind row (step.hi j) (step.lo i) AtMost k bh al, (turned_test AtMost, (test_kind row (step.lo j) (step.hi i) AtMost k bl ah, tt)))

  case_kinds : (m : ℕ) → KindsAt row m Flag → AllMean plain_kind row (step.case_step m i j) (thrice k)
  case_kinds m z =
      let cl = column_kind row m Flag z.lo in
      let cg = column_kind row (m + 1) Flag z.sg in
      let ch = column_kind row (m + 2) Flag z.hi in (
        by_case_kind cl ch (step.lo i) (least_of_two (step.lo i) (step.lo j)) (step.lo j) al (least_kind row (step.lo i) (step.lo j) k al bl) bl,
        (
          by_case_kind cl ch (step.sg i) (Case (step.sg m) (step.sg i) (step.sg j)) (step.sg j) ag (case_kind row (step.sg i) (step.sg j) k (step.sg m) cg ag bg) bg,
          (by_case_kind cl ch (step.hi i) (greatest_of_two (step.hi i) (step.hi j)) (step.hi j) ah (greatest_kind row (step.hi i) (step.hi j) k ah bh) bh, tt),
        ),
      )
    where
      by_case_kind : HasKind row (step.lo m) Flag → HasKind row (step.hi m) Flag → (a both b : PTerm) → HasKind row a k → HasKind row both k → HasKind row b k → HasKind row (step.by_case m a both b) k
      by_case_kind cl ch a both b p q r =
          case_kind row a (Case (step.hi m) both b) k (step.lo m) cl p (case_kind row both b k (step.hi m) ch q r)

module _ (row : List Kind) (i j : ℕ) (x : KindsAt row i Int) (y : KindsAt row j Int) where
  add_kinds : AllMean plain_kind row (step.add_step i j) (thrice Int)
  add_kinds = (
    add_kind row (step.lo i) (step.lo j) (al row i j Int x y) (bl row i j Int x y),
    (
      add_kind row (step.sg i) (step.sg j) (ag row i j Int x y) (bg row i j Int x y),
      (add_kind row (step.hi i) (step.hi j) (ah row i j Int x y) (bh row i j Int x y), tt),
    ),
  )

  subtract_kinds : AllMean plain_kind row (step.subtract_step i j) (thrice Int)
  subtract_kinds = (
    subtract_kind row (step.lo i) (step.hi j) (al row i j Int x y) (bh row i j Int x y),
    (
      subtract_kind row (step.sg i) (step.sg j) (ag row i j Int x y) (bg row i j Int x y),
      (subtract_kind row (step.hi i) (step.lo j) (ah row i j Int x y) (bl row i j Int x y), tt),
    ),
  )

  multiply_kinds : AllMean plain_kind row (step.multiply_step i j) (thrice Int)
  multiply_kinds =
      let ll = Multiply (step.lo i) (step.lo j) in
      let lh = Multiply (step.lo i) (step.hi j) in
      let hl = Multiply (step.hi i) (step.lo j) in
      let hh = Multiply (step.hi i) (step.hi j) in
      let p = multiply_kind row (step.lo i) (step.lo j) (al row i j Int x y) (bl row i j Int x y) in
      let q = multiply_kind row (step.lo i) (step.hi j) (al row i j Int x y) (bh row i j Int x y) in
      let r = multiply_kind row (step.hi i) (step.lo j) (ah row i j Int x y) (bl row i j Int x y) in
      let s = multiply_kind row (step.hi i) (step.hi j) (ah row i j Int x y) (bh row i j Int x y) in (
        least_kind row (least_of_two ll lh) (least_of_two hl hh) Int (least_kind row ll lh Int p q) (least_kind row hl hh Int r s),
        (
          multiply_kind row (step.sg i) (step.sg j) (ag row i j Int x y) (bg row i j Int x y),
          (greatest_kind row (greatest_of_two ll lh) (greatest_of_two hl hh) Int (greatest_kind row ll lh Int p q) (greatest_kind row hl hh Int r s), tt),
        ),
      )

module _ (row : List Kind) (i j : ℕ) (x : KindsAt row i Flag) (y : KindsAt row j Flag) where
  and_kinds : AllMean plain_kind row (step.and_step i j) (thrice Flag)
  and_kinds = (
    and_kind row (step.lo i) (step.lo j) (al row i j Flag x y) (bl row i j Flag x y),
    (
      and_kind row (step.sg i) (step.sg j) (ag row i j Flag x y) (bg row i j Flag x y),
      (and_kind row (step.hi i) (step.hi j) (ah row i j Flag x y) (bh row i j Flag x y), tt),
    ),
  )

  or_kinds : AllMean plain_kind row (step.or_step i j) (thrice Flag)
  or_kinds = (
    or_kind row (step.lo i) (step.lo j) (al row i j Flag x y) (bl row i j Flag x y),
    (
      or_kind row (step.sg i) (step.sg j) (ag row i j Flag x y) (bg row i j Flag x y),
      (or_kind row (step.hi i) (step.hi j) (ah row i j Flag x y) (bh row i j Flag x y), tt),
    ),
  )

module _ (ks : List Kind) where
  -- the kind of an expression, and Int where it has none
  abbrev pub result : Term → Kind
  result e = unwrap_or (kind_in ks e) Int

  pub result_is : (e : Term) (k : Kind) → kind_in ks e ≡ Some k → result e ≡ k
  result_is e k t = ap (λ o. unwrap_or o Int) t

  found_as : (e : Term) (k : Kind) → kind_in ks e ≡ Some k → (row : List Kind) (i : ℕ) → KindsAt row i (result e) → KindsAt row i k
  found_as e k t row i x = subst (λ j. KindsAt row i j) (result_is e k t) x

  own_as : (e : Term) (k : Kind) → kind_in ks e ≡ Some k → (row : List Kind) (es : List PTerm) → AllMean plain_kind row es (thrice k) → AllMean plain_kind row es (thrice (result e))
  own_as e k t row es x = subst (λ j. AllMean plain_kind row es (thrice j)) (sym (result_is e k t)) x

  both : (a b : Term) (m n : Kind) → kind_in ks a ≡ Some m → kind_in ks b ≡ Some m → kind_if (is_kind m (kind_in ks a) && is_kind m (kind_in ks b)) n ≡ kind_if (is_kind m (Some m) && is_kind m (Some m)) n
  both a b m n p q = λ i. kind_if (is_kind m (p i) && is_kind m (q i)) n

  -- The columns of each node have its kind.
  pub kind_steps : Steps (λ (x : Kind). x) (λ x. x) (λ x. x) plain_kind ks ks result Any
  kind_steps = record {
    column = λ i k z t row e.
        (let at = found_as (term.Column i) k t row (3 * i) (ends_at (λ (x : Kind). x) (λ x. x) (λ x. x) row 0 i (3 * i) ks (result (term.Column i)) e (t ∙ ap Some (sym (result_is (term.Column i) k t))) (omega arith)) in
        own_as (term.Column i) k t row (step.column_step (3 * i))
        (column_kind row (3 * i) k at.lo, (column_kind row (3 * i + 1) k at.sg, (column_kind row (3 * i + 2) k at.hi, tt))));
    literal = λ v z row. (λ more. refl, (λ more. refl, (λ more. refl, tt)));
    add = λ a b z ka kb row i j x y. own_as (term.Add a b) Int (both a b Int Int ka kb) row (step.add_step i j) (add_kinds row i j (found_as a Int ka row i x) (found_as b Int kb row j y));
    subtract = λ a b z ka kb row i j x y. own_as (term.Subtract a b) Int (both a b Int Int ka kb) row (step.subtract_step i j) (subtract_kinds row i j (found_as a Int ka row i x) (found_as b Int kb row j y));
    multiply = λ a b z ka kb row i j x y. own_as (term.Multiply a b) Int (both a b Int Int ka kb) row (step.multiply_step i j) (multiply_kinds row i j (found_as a Int ka row i x) (found_as b Int kb row j y));
    negate = λ a z ka row i x.
        (let at = found_as a Int ka row i x in
        own_as (term.Negate a) Int (λ k. kind_if (is_kind Int (ka k)) Int) row (step.negate_step i)
        (negate_kind row (step.hi i) (column_kind row (i + 2) Int at.hi), (negate_kind row (step.sg i) (column_kind row (i + 1) Int at.sg), (negate_kind row (step.lo i) (column_kind row i Int at.lo), tt))));
    compare = λ as_is k a b z ka kb row i j x y.
        own_as (term.Compare as_is a b) Flag ((λ n. kind_if (is_some (agreed (ka n) (kb n))) Flag) ∙ ap (λ o. kind_if (is_some o) Flag) (agreed_same k)) row (step.compare_step as_is i j)
        (compare_kinds row i j k (found_as a k ka row i x) (found_as b k kb row j y) as_is);
    and = λ a b z ka kb row i j x y. own_as (term.And a b) Flag (both a b Flag Flag ka kb) row (step.and_step i j) (and_kinds row i j (found_as a Flag ka row i x) (found_as b Flag kb row j y));
    or = λ a b z ka kb row i j x y. own_as (term.Or a b) Flag (both a b Flag Flag ka kb) row (step.or_step i j) (or_kinds row i j (found_as a Flag ka row i x) (found_as b Flag kb row j y));
    not = λ a z ka row i x.
        (let at = found_as a Flag ka row i x in
        own_as (term.Not a) Flag (λ k. kind_if (is_kind Flag (ka k)) Flag) row (step.not_step i)
        (not_kind row (step.hi i) (column_kind row (i + 2) Flag at.hi), (not_kind row (step.sg i) (column_kind row (i + 1) Flag at.sg), (not_kind row (step.lo i) (column_kind row i Flag at.lo), tt))));
    choose = λ k c a b fine kc ka kb row m i j z x y.
        own_as (term.Case c a b) k ((λ n. only_if (is_kind Flag (kc n)) (agreed (ka n) (kb n))) ∙ agreed_same k) row (step.case_step m i j)
        (case_kinds row i j k (found_as a k ka row i x) (found_as b k kb row j y) m (found_as c Flag kc row m z));
  }

-- the test of a count is a flag
pub positive_kind : (row : List Kind) (e : PTerm) → HasKind row e Int → HasKind row (positive e) Flag
positive_kind row e p = test_kind row zero_term e Less Int (λ more. refl) p
