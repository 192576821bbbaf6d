-- Rows of which each stands before the next are their own normal form.
use Rattle.std.specs.Prelude.{◌≡◌, ℕ, suc, ◌+◌, ◌^◌, ◌<◌, Bool, true, false, cond, List, [], ◌∷◌, ◌++◌, map, length}
use Rattle.std.specs.List.{AllAdjacentBelow, AllByRecursion, IsAllAdjacentAnswer}
use Rattle.std.specs.declared.cmp.Ordering.{Ordering}
use Rattle.std.specs.declared.cmp.Ordering.TheVariants.{Less, Equal, Greater}
use Rattle.std.specs.Ordering.{is_eq, is_gt, is_lt}
use Rattle.std.proofs.Common.{refl, sym, ◌∙◌, ap, subst, arith, get_or}
use Rattle.std.proofs.lemmas.Bool.{true≢false}
use Rattle.au_annot.specs.Triples.{IsTriple, plus}
use Rattle.au_algebra.specs.Entries.{entry}
use Rattle.au_algebra.specs.Bounded.{RangeRow, Bounded, ranges_order, normal}
use Rattle.au_algebra.specs.Fits.{triples_fit}
use Rattle.au_algebra.proofs.Runs.{joins, runs_from, Ascends, row_below, runs_normal}
use Rattle.au_algebra.proofs.TripleFits.{fits_more}

-- what the test tells of an order
less : (o : Ordering) → true ≡ is_lt o → o ≡ Less
less Less h = refl
less Equal h = absurd (true≢false h)
less Greater h = absurd (true≢false h)

-- each row is below the one after it
abbrev Climbs : RangeRow → Bounded → Type 0
Climbs r [] = Unit {0}
Climbs r (s ∷ rows) = (ranges_order r.cells s.cells ≡ Less) × Climbs s rows

-- so none is below the one before it
climbs_ascends : (r : RangeRow) (rows : Bounded) → Climbs r rows → Ascends r rows
climbs_ascends r [] h = tt
climbs_ascends r (s ∷ rows) h = (ap is_gt h.0, climbs_ascends s rows h.1)

-- and no neighbours are put into one
climbs_runs : (r : RangeRow) (rows : Bounded) → Climbs r rows → runs_from r rows ≡ r ∷ rows
unfolding runs_from
climbs_runs r [] h = refl
climbs_runs r (s ∷ rows) h =
    let apart : joins r s ≡ false = ap is_eq h.0 in
    (λ i. cond (apart i) [] (r ∷ []) ++ runs_from (cond (apart i) (entry r.cells (plus r.annot s.annot)) s) rows)
    ∙ ap (λ xs. r ∷ xs) (climbs_runs s rows h.1)

module _ {X : Type 0} (f : X → RangeRow) where
  -- neighbours at all places
  neighbours_climb : (x : X) (xs : List X) → AllAdjacentBelow (λ a b. true ≡ row_below f a b) (x ∷ xs) (length (x ∷ xs)) → Climbs (f x) (map f xs)
  neighbours_climb x [] h = tt
  neighbours_climb x (y ∷ ys) h =
      let later : (k : ℕ) (d : X) → k + 1 < length (y ∷ ys) → true ≡ row_below f (get_or (y ∷ ys) k d) (get_or (y ∷ ys) (k + 1) d) =
      λ k d q. (let one : suc k + 1 ≡ suc (k + 1) = omega arith in
      subst (λ n. true ≡ row_below f (get_or (y ∷ ys) k d) (get_or (x ∷ y ∷ ys) n d)) one (h (suc k) d (omega (arith, q)))) in
      (less (ranges_order (f x).cells (f y).cells) (h 0 x (omega arith)), neighbours_climb y ys later)

  -- what a test of all neighbours tells
  pub strict_normal : (xs : List X) (b : Bool) → IsAllAdjacentAnswer (λ x y c. c ≡ row_below f x y) xs b → b ≡ true → normal (map f xs) ≡ map f xs
  strict_normal [] b h e = refl
  strict_normal (x ∷ xs) true h e =
      let climbs = neighbours_climb x xs h in
      sym (runs_normal (f x) (map f xs) (climbs_ascends (f x) (map f xs) climbs)) ∙ climbs_runs (f x) (map f xs) climbs
  strict_normal (x ∷ xs) false h e = absurd (true≢false (sym e))

  -- triples that were read lie in the range
  read_fit : (xs : List X) → AllByRecursion (λ x. IsTriple (f x).annot × (f x).annot.most < 2 ^ 127) xs → triples_fit (map f xs) ≡ true
  read_fit [] h = refl
  read_fit (x ∷ xs) h = fits_more (f x) (map f xs) (record { triple = h.0.0; most = h.0.1 }) (read_fit xs h.1)

  -- and those of the normal form, where the rows are this
  pub strict_fits : (xs ys zs : List X) → ys ≡ xs → zs ≡ xs → normal (map f ys) ≡ map f ys → AllByRecursion (λ x. IsTriple (f x).annot × (f x).annot.most < 2 ^ 127) zs → triples_fit (normal (map f xs)) ≡ true
  strict_fits xs ys zs e g own h =
      ap (λ rows. triples_fit (normal (map f rows))) (sym e)
      ∙ ap triples_fit own
      ∙ ap (λ rows. triples_fit (map f rows)) (e ∙ sym g)
      ∙ read_fit zs h
