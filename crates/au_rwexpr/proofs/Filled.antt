-- A plan over other plans makes their numbers, and those that it makes over Scans of their rows.
use Rattle.std.specs.Prelude.{◌≡◌, ℕ, zero, suc, ◌+◌, ◌*◌, ◌<◌, ◌⊎◌, ◌==◌, List, [], ◌∷◌, ◌++◌, length, map, filter, flat_map, slice_get, unwrap_or, option_and_then, Some, IsTrue, ℤ}
use Rattle.std.specs.List.{AllByRecursion, Contains, list_all}
use Rattle.std.proofs.Common.{arith, refl, sym, ◌∙◌, ap, subst, inl, inr, eq-eqb}
use Rattle.std.proofs.lemmas.Bool.{and_parts}
use Rattle.std.proofs.lemmas.List.Elements.{Contains-append_left, Contains-append_right}
use Rattle.au_value.specs.Numeral.{is_i128}
use Rattle.au_value.specs.declared.kinds.Kind.{Kind}
use Rattle.au_value.specs.declared.kinds.Kind.TheVariants.{Int}
use Rattle.au_expr.specs.Figures.{Fit}
use Rattle.au_expr.proofs.Fits.{fit_parts}
use Rattle.au_algebra.specs.Bounded.{Bounded}
use Rattle.au_algebra.specs.Laws.{IsRelation}
use Rattle.au_algebra.specs.Ordinary.{Rows as RowList}
use Rattle.au_algebra.specs.Typing.{kinds_if}
use Rattle.au_algebra.proofs.Each.{all_append, all_from}
use Rattle.au_plain.specs.PTerms.{PTerm}
use Rattle.au_plain.specs.Plans.{PlanTree, Scan, Rows, Extend, Keep, Filter, Join, Union, Group, extend_all}
use Rattle.au_plain.specs.Meaning.{plain_rows, plain_group, extended, kept, passes}
use Rattle.au_plain.specs.PlanNumbers.{plan_numbers, group_numbers, term_numbers}
use Rattle.au_encode.specs.Encode.{encode, encoded_kinds}
use Rattle.au_encode.specs.Gives.{GivesRelation}
use Rattle.au_rwexpr.specs.Added.{AddsInRange}
use Rattle.au_rwexpr.proofs.Coded.{own}
use Rattle.au_rwexpr.proofs.Picks.{coded_long}

-- the plan with others in the place of its Scans, by the tables' numbers
abbrev pub filled : (ℕ → PlanTree) → PlanTree → PlanTree
filled s (Scan t w) = s t
filled s (Rows w rows) = Rows w rows
filled s (Extend e p) = Extend e (filled s p)
filled s (Keep places p) = Keep places (filled s p)
filled s (Filter e p) = Filter e (filled s p)
filled s (Join e p q) = Join e (filled s p) (filled s q)
filled s (Union p q) = Union (filled s p) (filled s q)
filled s (Group keys aggs p) = Group keys aggs (filled s p)

-- Added columns stay where Scans are filled.
pub filled-extend_all : (s : ℕ → PlanTree) (es : List PTerm) (p : PlanTree) → filled s (extend_all es p) ≡ extend_all es (filled s p)
filled-extend_all s [] p = refl
filled-extend_all s (e ∷ es) p = filled-extend_all s es (Extend e p)

module _ (s : ℕ → PlanTree) (ts us : List RowList) (same : (t : ℕ) → plain_rows (s t) ts ≡ unwrap_or (slice_get us t) []) where
  -- the rows are those over the rows of the others
  rows-filled : (p : PlanTree) → plain_rows (filled s p) ts ≡ plain_rows p us
  rows-filled (Scan t w) = same t
  rows-filled (Rows w rows) = refl
  rows-filled (Extend e p) = ap (map (extended e)) (rows-filled p)
  rows-filled (Keep places p) = ap (map (kept places)) (rows-filled p)
  rows-filled (Filter e p) = ap (filter (passes e)) (rows-filled p)
  rows-filled (Join e p q) = λ i. filter (passes e) (flat_map (λ a. map (λ b. a ++ b) (rows-filled q i)) (rows-filled p i))
  rows-filled (Union p q) = λ i. rows-filled p i ++ rows-filled q i
  rows-filled (Group keys aggs p) = ap (plain_group keys aggs) (rows-filled p)

  module _ (P : ℤ → Type 0) (in_range : (n : ℤ) → IsTrue (is_i128 n) → P n) (others : (t : ℕ) → AllByRecursion P (plan_numbers (s t) ts)) where
    each_in_range : (ns : List ℤ) → Fit ns → AllByRecursion P ns
    each_in_range [] f = tt
    each_in_range (n ∷ ns) f = let p = and_parts (is_i128 n) (list_all is_i128 ns) f in (in_range n p.0, each_in_range ns p.1)

    -- the numbers of a plan, and those of what is done with its rows
    with_own : (p : PlanTree) (made : RowList → List ℤ) → (Fit (plan_numbers p us) → AllByRecursion P (plan_numbers (filled s p) ts)) → Fit (plan_numbers p us ++ made (plain_rows p us)) → AllByRecursion P (plan_numbers (filled s p) ts ++ made (plain_rows (filled s p) ts))
    with_own p made of f =
        let q = fit_parts (plan_numbers p us) (made (plain_rows p us)) f in
        all_append P (plan_numbers (filled s p) ts) (made (plain_rows (filled s p) ts)) (of q.0)
        (subst (λ rows. AllByRecursion P (made rows)) (sym (rows-filled p)) (each_in_range (made (plain_rows p us)) q.1))

    both : (p q : PlanTree) → (Fit (plan_numbers p us) → AllByRecursion P (plan_numbers (filled s p) ts)) → (Fit (plan_numbers q us) → AllByRecursion P (plan_numbers (filled s q) ts)) → Fit (plan_numbers p us ++ plan_numbers q us) → AllByRecursion P (plan_numbers (filled s p) ts ++ plan_numbers (filled s q) ts)
    both p q left right f =
        let parts = fit_parts (plan_numbers p us) (plan_numbers q us) f in
        all_append P (plan_numbers (filled s p) ts) (plan_numbers (filled s q) ts) (left parts.0) (right parts.1)

    -- what holds of the numbers in the range and of the others' holds of the plan's
    pub numbers-filled : (p : PlanTree) → Fit (plan_numbers p us) → AllByRecursion P (plan_numbers (filled s p) ts)
    numbers-filled (Scan t w) f = others t
    numbers-filled (Rows w rows) f = tt
    numbers-filled (Extend e p) f = with_own p (flat_map (term_numbers e)) (numbers-filled p) f
    numbers-filled (Keep places p) f = numbers-filled p f
    numbers-filled (Filter e p) f = with_own p (flat_map (term_numbers e)) (numbers-filled p) f
    numbers-filled (Join e p q) f =
        let joined : RowList → RowList → List ℤ = λ xs ys. flat_map (term_numbers e) (flat_map (λ a. map (λ b. a ++ b) ys) xs) in
        let parts = fit_parts (plan_numbers p us ++ plan_numbers q us) (joined (plain_rows p us) (plain_rows q us)) f in
        all_append P (plan_numbers (filled s p) ts ++ plan_numbers (filled s q) ts) (joined (plain_rows (filled s p) ts) (plain_rows (filled s q) ts))
        (both p q (numbers-filled p) (numbers-filled q) parts.0)
        (subst (λ xs. AllByRecursion P (joined xs (plain_rows (filled s q) ts))) (sym (rows-filled p))
        (subst (λ ys. AllByRecursion P (joined (plain_rows p us) ys)) (sym (rows-filled q)) (each_in_range (joined (plain_rows p us) (plain_rows q us)) parts.1)))
    numbers-filled (Union p q) f = both p q (numbers-filled p) (numbers-filled q) f
    numbers-filled (Group keys aggs p) f = with_own p (group_numbers keys aggs) (numbers-filled p) f

-- ---- one plan and two in the place of the first Scans

-- each number is one of a list
each_there : (ns : List ℤ) → AllByRecursion (Contains ns) ns
each_there [] = tt
each_there (n ∷ ns) =
    let first : 0 < length (n ∷ ns) = omega arith in
    ((0, first, refl), all_from (Contains ns) (Contains (n ∷ ns)) ns (λ m there. Contains-append_right (n ∷ []) ns m there) (each_there ns))

abbrev Known : List ℤ → ℤ → Type 0
Known before n = IsTrue (is_i128 n) ⊎ Contains before n

abbrev pub one_filled : PlanTree → ℕ → PlanTree
one_filled p zero = p
one_filled p (suc t) = Rows 0 []

-- The numbers of a plan over one input, from those over a Scan of its rows.
module _ (ts : List RowList) (p : PlanTree) (rows : RowList) (is : plain_rows p ts ≡ rows) where
  one_same : (t : ℕ) → plain_rows (one_filled p t) ts ≡ unwrap_or (slice_get (rows ∷ []) t) []
  one_same zero = is
  one_same (suc t) = refl

  one_numbers : (t : ℕ) → AllByRecursion (Known (plan_numbers p ts)) (plan_numbers (one_filled p t) ts)
  one_numbers zero = all_from (Contains (plan_numbers p ts)) (Known (plan_numbers p ts)) (plan_numbers p ts) (λ n there. inr there) (each_there (plan_numbers p ts))
  one_numbers (suc t) = tt

  pub one_adds : (over made : PlanTree) → filled (one_filled p) over ≡ made → Fit (plan_numbers over (rows ∷ [])) → AddsInRange (plan_numbers p ts) (plan_numbers made ts)
  one_adds over made e f =
      subst (λ q. AddsInRange (plan_numbers p ts) (plan_numbers q ts)) e
      (numbers-filled (one_filled p) ts (rows ∷ []) one_same (Known (plan_numbers p ts)) (λ n fits. inl fits) one_numbers over f)

abbrev pub two_filled : PlanTree → PlanTree → ℕ → PlanTree
two_filled p q zero = p
two_filled p q (suc zero) = q
two_filled p q (suc (suc t)) = Rows 0 []

-- The same over two inputs.
module _ (ts : List RowList) (p q : PlanTree) (xs ys : RowList) (left : plain_rows p ts ≡ xs) (right : plain_rows q ts ≡ ys) where
  two_same : (t : ℕ) → plain_rows (two_filled p q t) ts ≡ unwrap_or (slice_get (xs ∷ ys ∷ []) t) []
  two_same zero = left
  two_same (suc zero) = right
  two_same (suc (suc t)) = refl

  abbrev before : List ℤ
  before = plan_numbers p ts ++ plan_numbers q ts

  two_numbers : (t : ℕ) → AllByRecursion (Known before) (plan_numbers (two_filled p q t) ts)
  two_numbers zero =
      all_from (Contains (plan_numbers p ts)) (Known before) (plan_numbers p ts)
      (λ n there. inr (Contains-append_left (plan_numbers p ts) (plan_numbers q ts) n there)) (each_there (plan_numbers p ts))
  two_numbers (suc zero) =
      all_from (Contains (plan_numbers q ts)) (Known before) (plan_numbers q ts)
      (λ n there. inr (Contains-append_right (plan_numbers p ts) (plan_numbers q ts) n there)) (each_there (plan_numbers q ts))
  two_numbers (suc (suc t)) = tt

  pub two_add : (over made : PlanTree) → filled (two_filled p q) over ≡ made → Fit (plan_numbers over (xs ∷ ys ∷ [])) → AddsInRange before (plan_numbers made ts)
  two_add over made e f =
      subst (λ r. AddsInRange before (plan_numbers r ts)) e
      (numbers-filled (two_filled p q) ts (xs ∷ ys ∷ []) two_same (Known before) (λ n fits. inl fits) two_numbers over f)

-- ---- Scans of encoded rows

pub wide_enough : (ks : List Kind) → kinds_if (length (encoded_kinds ks) == 3 * length ks + 3) (encoded_kinds ks) ≡ Some (encoded_kinds ks)
wide_enough ks = let e = eq-eqb _ _ (coded_long own own own own own own (length ks) ks Int refl) in rw e

-- The Scan of the encoded rows of a relation gives the relation.
pub scan_gives :
    (tk : List (List Kind)) (tables : List RowList) (i : ℕ) (ks : List Kind) (rows : Bounded) (ns : List ℤ) →
    slice_get tk i ≡ Some (encoded_kinds ks) → slice_get tables i ≡ Some (encode rows) → IsRelation ks rows →
    GivesRelation tk tables (Scan i (3 * length ks + 3)) ks rows ns
scan_gives tk tables i ks rows ns kind table relation = record {
  typed = ap (option_and_then (λ js. kinds_if (length js == 3 * length ks + 3) js)) kind ∙ wide_enough ks;
  relation = relation;
  encoded = ap (λ o. unwrap_or o []) table;
  fit = λ f. refl;
}
