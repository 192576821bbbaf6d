-- When the numbers of a plan with columns added, of a filter and of a join fit.
use Rattle.std.specs.Prelude.{◌≡◌, Bool, true, false, cond, List, [], ◌∷◌, map, filter, flat_map, ℤ}
use Rattle.std.specs.List.{AllByRecursion}
use Rattle.std.proofs.Common.{refl}
use Rattle.au_expr.specs.Figures.{Fit}
use Rattle.au_expr.proofs.Fits.{fit_both, fit_parts}
use Rattle.au_algebra.specs.Ordinary.{Rows}
use Rattle.au_plain.specs.PTerms.{PTerm}
use Rattle.au_plain.specs.Plans.{PlanTree, Extend, Filter, extend_all}
use Rattle.au_plain.specs.Meaning.{plain_rows, extended}
use Rattle.au_plain.specs.PlanNumbers.{term_numbers, plan_numbers}
use Rattle.au_rwexpr.specs.Adding.{grow_numbers}

module _ {A : Type 0} (f : A → List ℤ) where
  -- lists one after the other fit where each does
  pub fit_all : (xs : List A) → AllByRecursion (λ x. Fit (f x)) xs → Fit (flat_map f xs)
  fit_all [] h = refl
  fit_all (x ∷ xs) h = fit_both (f x) (flat_map f xs) h.0 (fit_all xs h.1)

  pub all_fit : (xs : List A) → Fit (flat_map f xs) → AllByRecursion (λ x. Fit (f x)) xs
  all_fit [] h = tt
  all_fit (x ∷ xs) h = let p = fit_parts (f x) (flat_map f xs) h in (p.0, all_fit xs p.1)

module _ {A B : Type 0} (P : A → Type 0) (Q : B → Type 0) (g : A → B) where
  -- what holds of each made item
  pub all_made : (xs : List A) → AllByRecursion P xs → ((x : A) → P x → Q (g x)) → AllByRecursion Q (map g xs)
  all_made [] h to = tt
  all_made (x ∷ xs) h to = (to x h.0, all_made xs h.1 to)

  pub made_all : (xs : List A) → AllByRecursion P xs → AllByRecursion Q (map g xs) → AllByRecursion (λ x. P x × Q (g x)) xs
  made_all [] p q = tt
  made_all (x ∷ xs) p q = ((p.0, q.0), made_all xs p.1 q.1)

module _ {A : Type 0} (P Q : A → Type 0) (test : A → Bool) where
  -- what holds of each item that passes
  passing_if : (b : Bool) (x : A) (xs : List A) → (b ≡ true → Q x) → AllByRecursion Q xs → AllByRecursion Q (cond b (x ∷ xs) xs)
  passing_if true x xs h rest = (h refl, rest)
  passing_if false x xs h rest = rest

  pub all_passing : (xs : List A) → AllByRecursion P xs → ((x : A) → P x → test x ≡ true → Q x) → AllByRecursion Q (filter test xs)
  all_passing [] h to = tt
  all_passing (x ∷ xs) h to = passing_if (test x) x (filter test xs) (to x h.0) (all_passing xs h.1 to)

  passed_if : (b : Bool) (x : A) (xs : List A) → AllByRecursion Q (cond b (x ∷ xs) xs) → (b ≡ true → Q x) × AllByRecursion Q xs
  passed_if true x xs h = ((λ _. h.0), h.1)
  passed_if false x xs h = ((λ e. cc), h)

  pub passed_all : (xs : List A) → AllByRecursion Q (filter test xs) → AllByRecursion (λ x. test x ≡ true → Q x) xs
  passed_all [] h = tt
  passed_all (x ∷ xs) h = let p = passed_if (test x) x (filter test xs) h in (p.0, passed_all xs p.1)

module _ (ts : List Rows) where
  -- added columns whose numbers fit on each row
  pub numbers-extend_all : (es : List PTerm) (p : PlanTree) → Fit (plan_numbers p ts) → AllByRecursion (λ row. Fit (grow_numbers es row)) (plain_rows p ts) → Fit (plan_numbers (extend_all es p) ts)
  numbers-extend_all [] p n h = n
  numbers-extend_all (e ∷ es) p n h =
      let split : AllByRecursion (λ row. Fit (term_numbers e row) × Fit (grow_numbers es (extended e row))) (plain_rows p ts) = apart (plain_rows p ts) h in
      numbers-extend_all es (Extend e p)
      (fit_both (plan_numbers p ts) (flat_map (term_numbers e) (plain_rows p ts)) n (fit_all (term_numbers e) (plain_rows p ts) (first (plain_rows p ts) split)))
      (all_made (λ row. Fit (term_numbers e row) × Fit (grow_numbers es (extended e row))) (λ row. Fit (grow_numbers es row)) (extended e) (plain_rows p ts) split (λ row q. q.1))
    where
      apart : (rows : Rows) → AllByRecursion (λ row. Fit (grow_numbers (e ∷ es) row)) rows → AllByRecursion (λ row. Fit (term_numbers e row) × Fit (grow_numbers es (extended e row))) rows
      apart [] g = tt
      apart (row ∷ rows) g = (fit_parts (term_numbers e row) (grow_numbers es (extended e row)) g.0, apart rows g.1)

      first : (rows : Rows) → AllByRecursion (λ row. Fit (term_numbers e row) × Fit (grow_numbers es (extended e row))) rows → AllByRecursion (λ row. Fit (term_numbers e row)) rows
      first [] g = tt
      first (row ∷ rows) g = (g.0.0, first rows g.1)

  pub numbers-filter : (e : PTerm) (p : PlanTree) → Fit (plan_numbers p ts) → AllByRecursion (λ row. Fit (term_numbers e row)) (plain_rows p ts) → Fit (plan_numbers (Filter e p) ts)
  numbers-filter e p n h = fit_both (plan_numbers p ts) (flat_map (term_numbers e) (plain_rows p ts)) n (fit_all (term_numbers e) (plain_rows p ts) h)
