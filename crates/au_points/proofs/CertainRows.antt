-- The distinct rows of rows whose ranges are the guesses of others' keys.
use Rattle.std.specs.Prelude.{◌≡◌, ℕ, ◌+◌, ◌≤◌, ◌<◌, Bool, true, false, not, ◌&&◌, ◌||◌, cond, nat_le, List, [], ◌∷◌, ◌++◌, length, map, filter}
use Rattle.std.specs.List.{AllByRecursion, list_any}
use Rattle.std.proofs.Common.{arith, refl, sym, ◌∙◌, ap}
use Rattle.au_value.specs.declared.value.Value.{Value}
use Rattle.au_value.specs.Ranges.{Span, certain, all_certain, guesses}
use Rattle.au_value.specs.Lists.{distinct}
use Rattle.au_annot.specs.Triples.{Counts, counts}
use Rattle.au_algebra.specs.Entries.{entry}
use Rattle.au_algebra.specs.Lists.{same_row, copies}
use Rattle.au_algebra.specs.Bounded.{RangeRow, Bounded, distinct_rows, hull_of, most_of, output, present, some_of}
use Rattle.au_algebra.proofs.Copies.{copies-cons, same_row_is}
use Rattle.au_algebra.proofs.DistinctKeys.{Keys, Occurs, occurs_distinct}
use Rattle.au_algebra.proofs.Each as each
use Rattle.au_algebra.proofs.Filters.{filter_none}
use Rattle.au_points.specs.Points.{point_counts, points_of}
use Rattle.au_points.specs.GuessRows.{guess_row, PointsAreDistinct}
use Rattle.au_points.proofs.PointBasics.{certain_guesses, hull_of_point, points_certain}
use Rattle.au_points.proofs.PointsWithin.{all_present}

-- ---- tests of rows

any_same : (f g : RangeRow → Bool) → ((r : RangeRow) → f r ≡ g r) → (q : Bounded) → list_any f q ≡ list_any g q
any_same f g h [] = refl
any_same f g h (r ∷ q) = λ i. h r i || any_same f g h q i

le_if : (c : Bool) (n : ℕ) → nat_le 1 (cond c n 0) ≡ (c && nat_le 1 n)
le_if true n = refl
le_if false n = refl

own_if : (b : Bool) (r : RangeRow) (xs : Bounded) (n : ℕ) → (0 < n → 0 < length xs) → 0 < cond b 1 0 + n → 0 < length (cond b (r ∷ xs) xs)
own_if true r xs n ih h = omega arith
own_if false r xs n ih h = ih (omega (arith, h))

-- some row guesses the keys that occur
pub own_some : (key : List Span → List Span) (p : List Value) (rows : Bounded) → 0 < copies p (map (λ r. guesses (key r.cells)) rows) → 0 < length (filter (λ r. same_row p (guesses (key r.cells))) rows)
own_some key p [] h = let never : ⊥ = omega (arith, h) in absurd never
own_some key p (r ∷ rows) h =
    own_if (same_row p (guesses (key r.cells))) r (filter (λ s. same_row p (guesses (key s.cells))) rows) (copies p (map (λ s. guesses (key s.cells)) rows)) (own_some key p rows)
    (omega (arith, h, copies-cons p (guesses (key r.cells)) (map (λ s. guesses (key s.cells)) rows)))

module _ (key : List Span → List Span) (n : RangeRow → Counts) where
  -- the guesses of a row's keys
  abbrev pub made : RangeRow → RangeRow
  made r = entry (map certain (guesses (key r.cells))) (n r)

  abbrev own : List Value → Bounded → Bounded
  own p rows = filter (λ r. same_row p (guesses (key r.cells))) rows

  keys_same : (rows : Bounded) → map (λ r. guesses r.cells) (map made rows) ≡ map (λ r. guesses (key r.cells)) rows
  keys_same [] = refl
  keys_same (r ∷ rows) = λ i. certain_guesses (guesses (key r.cells)) i ∷ keys_same rows i

  map_cond : (b : Bool) (r : RangeRow) (xs : Bounded) → cond b (made r ∷ map made xs) (map made xs) ≡ map made (cond b (r ∷ xs) xs)
  map_cond true r xs = refl
  map_cond false r xs = refl

  belong : (p : List Value) (rows : Bounded) → filter (λ x. same_row p (guesses x.cells)) (map made rows) ≡ map made (own p rows)
  belong p [] = refl
  belong p (r ∷ rows) =
      (λ i. cond (same_row p (certain_guesses (guesses (key r.cells)) i)) (made r ∷ belong p rows i) (belong p rows i))
      ∙ map_cond (same_row p (guesses (key r.cells))) r (own p rows)

  -- ---- the row of a point

  boxes : (p : List Value) (q : Bounded) → AllByRecursion (λ r. same_row p (guesses (key r.cells)) ≡ true) q → AllByRecursion (λ cells. cells ≡ map certain p) (map (λ x. x.cells) (map made q))
  boxes p [] h = tt
  boxes p (r ∷ q) h = (ap (map certain) (sym (same_row_is p (guesses (key r.cells)) h.0)), boxes p q h.1)

  boxes_some : (q : Bounded) → 0 < length q → 0 < length (map (λ x. x.cells) (map made q))
  boxes_some [] some = some
  boxes_some (r ∷ q) some = omega arith

  least_same : (q : Bounded) → list_any (λ x. all_certain x.cells && nat_le 1 x.annot.least) (map made q) ≡ list_any (λ r. nat_le 1 (n r).least) q
  least_same [] = refl
  least_same (r ∷ q) = λ i. (points_certain (guesses (key r.cells)) i && nat_le 1 (n r).least) || least_same q i

  guess_same : (q : Bounded) → list_any (λ x. nat_le 1 x.annot.guess) (map made q) ≡ list_any (λ r. nat_le 1 (n r).guess) q
  guess_same [] = refl
  guess_same (r ∷ q) = λ i. nat_le 1 (n r).guess || guess_same q i

  none_unsure : (q : Bounded) → AllByRecursion (λ x. not (all_certain x.cells) ≡ false) (map made q)
  none_unsure [] = tt
  none_unsure (r ∷ q) = (ap not (points_certain (guesses (key r.cells))), none_unsure q)

  some_sure : (q : Bounded) → 0 < length q → list_any (λ x. all_certain x.cells) (map made q) ≡ true
  some_sure [] some = let never : ⊥ = omega (arith, some) in absurd never
  some_sure (r ∷ q) some = ap (λ b. b || list_any (λ x. all_certain x.cells) (map made q)) (points_certain (guesses (key r.cells)))

  most_one : (q : Bounded) → 0 < length q → most_of (filter (λ x. not (all_certain x.cells)) (map made q)) + some_of (λ x. all_certain x.cells) (map made q) ≡ 1
  most_one q some =
      λ i. most_of (filter_none (λ x. not (all_certain x.cells)) (map made q) (none_unsure q) i) + cond (some_sure q some i) 1 0

  -- the point, and the tests of the rows that guess it
  abbrev pub point_of : Bounded → List Value → RangeRow
  point_of rows p =
      entry (map certain p ++ [])
      (counts
      (cond (list_any (λ r. nat_le 1 (n r).least) (own p rows)) 1 0)
      (cond (list_any (λ r. nat_le 1 (n r).guess) (own p rows)) 1 0)
      1)

  output_is : (rows : Bounded) (p : List Value) → 0 < length (own p rows) → output (λ cells. cells) [] (map made rows) p ≡ point_of rows p
  output_is rows p some =
      let q = own p rows in
      let box : hull_of (map (λ x. x.cells) (map made q)) ≡ map certain p = hull_of_point p (map (λ x. x.cells) (map made q)) (boxes p q (each.passing (λ r. same_row p (guesses (key r.cells))) rows)) (boxes_some q some) in
      (λ i. entry (hull_of (map (λ x. x.cells) (belong p rows i)) ++ [])
      (counts
      (some_of (λ x. all_certain x.cells && nat_le 1 x.annot.least) (belong p rows i))
      (some_of (λ x. nat_le 1 x.annot.guess) (belong p rows i))
      (most_of (filter (λ x. not (all_certain x.cells)) (belong p rows i)) + some_of (λ x. all_certain x.cells) (belong p rows i))))
      ∙ (λ i. entry (box i ++ []) (counts (cond (least_same q i) 1 0) (cond (guess_same q i) 1 0) (most_one q some i)))

  outputs_are : (rows : Bounded) (ps : Keys) → Occurs (map (λ r. guesses (key r.cells)) rows) ps → map (output (λ cells. cells) [] (map made rows)) ps ≡ map (point_of rows) ps
  outputs_are rows [] o = refl
  outputs_are rows (p ∷ ps) o = λ i. output_is rows p (own_some key p rows o.0) i ∷ outputs_are rows ps o.1 i

  possible : (rows : Bounded) (ps : Keys) → AllByRecursion (λ r. 1 ≤ r.annot.most) (map (point_of rows) ps)
  possible rows [] = tt
  possible rows (p ∷ ps) = (omega arith, possible rows ps)

  -- the distinct rows are the points
  pub distinct_are : (rows : Bounded) → distinct_rows (map made rows) ≡ map (point_of rows) (points_of key rows)
  distinct_are rows =
      ap (λ ks. present (map (output (λ cells. cells) [] (map made rows)) (distinct same_row ks))) (keys_same rows)
      ∙ ap present (outputs_are rows (points_of key rows) (occurs_distinct (map (λ r. guesses (key r.cells)) rows)))
      ∙ all_present (map (point_of rows) (points_of key rows)) (possible rows (points_of key rows))

-- ---- the distinct rows

sure_same : (q : Bounded) → list_any (λ r. nat_le 1 (guess_row r).annot.least) q ≡ list_any (λ r. all_certain r.cells && nat_le 1 r.annot.least) q
sure_same q = any_same (λ r. nat_le 1 (guess_row r).annot.least) (λ r. all_certain r.cells && nat_le 1 r.annot.least) (λ r. le_if (all_certain r.cells) r.annot.least) q

counts_same : (rows : Bounded) (ps : Keys) → map (point_of (λ cells. cells) (λ r. (guess_row r).annot) rows) ps ≡ map (λ p. entry (map certain p ++ []) (point_counts (λ cells. cells) (filter (λ r. same_row p (guesses r.cells)) rows))) ps
counts_same rows [] = refl
counts_same rows (p ∷ ps) =
    let q = filter (λ r. same_row p (guesses r.cells)) rows in
    λ i. entry (map certain p ++ []) (counts (cond (sure_same q i) 1 0) (some_of (λ r. nat_le 1 r.annot.guess) q) 1) ∷ counts_same rows ps i

pub points_are_distinct : PointsAreDistinct
points_are_distinct ks rows ok =
    distinct_are (λ cells. cells) (λ r. (guess_row r).annot) rows ∙ counts_same rows (points_of (λ cells. cells) rows)
