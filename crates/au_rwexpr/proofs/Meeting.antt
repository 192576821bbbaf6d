-- Tests of two lists of ranges: their values in a row, and what they say of one another.
use Rattle.std.specs.Prelude.{◌≡◌, ℕ, zero, suc, ◌+◌, true, ◌&&◌, List, [], ◌∷◌, length}
use Rattle.std.specs.List.{AllZip}
use Rattle.std.proofs.Common.{arith, refl, sym, ◌∙◌, subst}
use Rattle.std.proofs.lemmas.Bool.{and_parts, and_from, true≢false}
use Rattle.au_value.specs.declared.kinds.Kind.{Kind}
use Rattle.au_value.specs.declared.value.Value.{Value}
use Rattle.au_value.specs.declared.value.Value.TheVariants as value
use Rattle.au_value.specs.Order.{equal, at_most}
use Rattle.au_value.specs.Ranges as ranges
use Rattle.au_value.specs.Ranges.{Span, IsRangeOf, all_overlap, all_certainly_equal, all_certain, guesses, range, overlap}
use Rattle.au_value.proofs.OrderLaws.{at_most_trans, at_most_refl, equal_is}
use Rattle.au_expr.specs.Ordinary.{is_true}
use Rattle.au_algebra.specs.Lists.{same_row}
use Rattle.au_rwexpr.specs.Meets.{meets_term, same_guesses, surely_equal}
use Rattle.au_rwexpr.proofs.Places.{EndsOfAll}
use Rattle.au_rwexpr.proofs.OnValues.{Has, lo_has, sg_has, hi_has}
use Rattle.au_rwexpr.proofs.Coded.{rl, rs, rh}

module _ (row : List Value) where
  abbrev There : ℕ → List Span → Type 0
  There i xs = EndsOfAll rl rs rh row i xs

  pub meets_has : (i j k : ℕ) (xs ys : List Span) → length xs ≡ k → length ys ≡ k → There i xs → There j ys → Has row (meets_term i j k) (value.Flag (all_overlap xs ys))
  meets_has i j zero [] [] e h x y = λ more. refl
  meets_has i j zero (a ∷ xs) ys e h x y = let never : ⊥ = omega (arith, e) in absurd never
  meets_has i j zero [] (b ∷ ys) e h x y = let never : ⊥ = omega (arith, h) in absurd never
  meets_has i j (suc k) [] ys e h x y = let never : ⊥ = omega (arith, e) in absurd never
  meets_has i j (suc k) (a ∷ xs) [] e h x y = let never : ⊥ = omega (arith, h) in absurd never
  meets_has i j (suc k) (a ∷ xs) (b ∷ ys) e h x y =
      let rest = meets_has (i + 3) (j + 3) k xs ys (omega (arith, e)) (omega (arith, h)) x.1 y.1 in
      λ more. λ t.
      value.Flag (overlap (range (lo_has row i a x.0 more t) a.sg (hi_has row i a x.0 more t)) (range (lo_has row j b y.0 more t) b.sg (hi_has row j b y.0 more t)) && is_true (rest more t))

  pub same_has : (i j k : ℕ) (xs ys : List Span) → length xs ≡ k → length ys ≡ k → There i xs → There j ys → Has row (same_guesses i j k) (value.Flag (same_row (guesses xs) (guesses ys)))
  same_has i j zero [] [] e h x y = λ more. refl
  same_has i j zero (a ∷ xs) ys e h x y = let never : ⊥ = omega (arith, e) in absurd never
  same_has i j zero [] (b ∷ ys) e h x y = let never : ⊥ = omega (arith, h) in absurd never
  same_has i j (suc k) [] ys e h x y = let never : ⊥ = omega (arith, e) in absurd never
  same_has i j (suc k) (a ∷ xs) [] e h x y = let never : ⊥ = omega (arith, h) in absurd never
  same_has i j (suc k) (a ∷ xs) (b ∷ ys) e h x y =
      let rest = same_has (i + 3) (j + 3) k xs ys (omega (arith, e)) (omega (arith, h)) x.1 y.1 in
      λ more. λ t. value.Flag (equal (sg_has row i a x.0 more t) (sg_has row j b y.0 more t) && is_true (rest more t))

  pub surely_has : (i j k : ℕ) (xs ys : List Span) → length xs ≡ k → length ys ≡ k → There i xs → There j ys → Has row (surely_equal i j k) (value.Flag (all_certainly_equal xs ys))
  surely_has i j zero [] [] e h x y = λ more. refl
  surely_has i j zero (a ∷ xs) ys e h x y = let never : ⊥ = omega (arith, e) in absurd never
  surely_has i j zero [] (b ∷ ys) e h x y = let never : ⊥ = omega (arith, h) in absurd never
  surely_has i j (suc k) [] ys e h x y = let never : ⊥ = omega (arith, e) in absurd never
  surely_has i j (suc k) (a ∷ xs) [] e h x y = let never : ⊥ = omega (arith, h) in absurd never
  surely_has i j (suc k) (a ∷ xs) (b ∷ ys) e h x y =
      let rest = surely_has (i + 3) (j + 3) k xs ys (omega (arith, e)) (omega (arith, h)) x.1 y.1 in
      λ more. λ t.
      value.Flag (ranges.certainly_equal (range (lo_has row i a x.0 more t) a.sg (hi_has row i a x.0 more t)) (range (lo_has row j b y.0 more t) b.sg (hi_has row j b y.0 more t)) && is_true (rest more t))

-- ranges with one guess overlap
pub guesses_meet : (ks : List Kind) (xs ys : List Span) → AllZip IsRangeOf ks xs → AllZip IsRangeOf ks ys → same_row (guesses xs) (guesses ys) ≡ true → all_overlap xs ys ≡ true
guesses_meet [] [] [] v w s = refl
guesses_meet [] (x ∷ xs) ys v w s = elim v [ ]
guesses_meet [] [] (y ∷ ys) v w s = elim w [ ]
guesses_meet (k ∷ ks) [] ys v w s = elim v [ ]
guesses_meet (k ∷ ks) (x ∷ xs) [] v w s = elim w [ ]
guesses_meet (k ∷ ks) (x ∷ xs) (y ∷ ys) v w s =
    let p = and_parts _ _ s in
    let is : x.sg ≡ y.sg = equal_is x.sg y.sg p.0 in
    let first : at_most x.lo y.hi ≡ true = at_most_trans x.lo x.sg y.hi v.0.range.lo_sg (subst (λ u. at_most u y.hi ≡ true) (sym is) w.0.range.sg_hi) in
    let second : at_most y.lo x.hi ≡ true = at_most_trans y.lo y.sg x.hi w.0.range.lo_sg (subst (λ u. at_most u x.hi ≡ true) is v.0.range.sg_hi) in
    and_from _ _ (and_from _ _ first second) (guesses_meet ks xs ys v.1 w.1 p.1)

-- ranges that are certain and equal overlap
pub equal_meet : (xs ys : List Span) → all_certainly_equal xs ys ≡ true → all_overlap xs ys ≡ true
equal_meet [] [] s = refl
equal_meet (x ∷ xs) [] s = absurd (true≢false (sym s))
equal_meet [] (y ∷ ys) s = absurd (true≢false (sym s))
equal_meet (x ∷ xs) (y ∷ ys) s =
    let p = and_parts _ _ s in
    let q = and_parts _ _ p.0 in
    let r = and_parts _ _ q.0 in
    let xx : x.lo ≡ x.hi = equal_is x.lo x.hi r.0 in
    let yy : y.lo ≡ y.hi = equal_is y.lo y.hi r.1 in
    let xy : x.lo ≡ y.lo = equal_is x.lo y.lo q.1 in
    let first : at_most x.lo y.hi ≡ true = subst (λ u. at_most u y.hi ≡ true) (sym (xy ∙ yy)) (at_most_refl y.hi) in
    let second : at_most y.lo x.hi ≡ true = subst (λ u. at_most u x.hi ≡ true) (sym xx ∙ xy) (at_most_refl x.hi) in
    and_from _ _ (and_from _ _ first second) (equal_meet xs ys p.1)
