-- Rows of which no copy is certain or guessed, and lists with the same copies.
use Rattle.std.specs.Prelude.{◌≡◌, ℕ, ◌≤◌, ◌<◌, true, false, cond, List, [], ◌∷◌, ◌++◌, map, filter, nat_le}
use Rattle.std.specs.List.{AllByRecursion, AllZip, list_any}
use Rattle.std.proofs.Common.{arith, refl, sym, ap, inl, inr}
use Rattle.std.proofs.lemmas.Bool.{or_from, and_right, cases_lt}
use Rattle.au_value.specs.declared.kinds.Kind.{Kind}
use Rattle.au_value.specs.declared.value.Value.{Value}
use Rattle.au_value.specs.declared.value.Value.TheVariants.{Int}
use Rattle.au_value.specs.Order.{at_most}
use Rattle.au_value.specs.Ranges.{Span, guesses}
use Rattle.au_value.specs.Lists.{distinct}
use Rattle.au_expr.specs.Ordinary.{number}
use Rattle.au_algebra.specs.declared.query.Agg.{Agg}
use Rattle.au_algebra.specs.declared.query.Agg.TheVariants.{Sum, Min, Max}
use Rattle.au_algebra.specs.Lists.{same_row, copies, value_at, least, greatest}
use Rattle.au_algebra.specs.Bounded.{Bounded, output, group_by, guessed_keys}
use Rattle.au_algebra.specs.Ordinary as ordinary
use Rattle.au_algebra.specs.Ordinary.{Rows}
use Rattle.au_algebra.specs.Distribution.{Bounds, guess_count}
use Rattle.au_algebra.specs.Laws.{IsRelation}
use Rattle.au_algebra.proofs.AggregateRanges.{all_same}
use Rattle.au_algebra.proofs.Choices.{cond_zero}
use Rattle.au_algebra.proofs.DistinctKeys.{Keys, occurs_distinct}
use Rattle.au_algebra.proofs.Each.{all_filter}
use Rattle.au_algebra.proofs.Extremes.{least_below, greatest_above, one_least, one_greatest}
use Rattle.au_algebra.proofs.GuessCounts.{guess-cons}
use Rattle.au_algebra.proofs.Occurring.{SameCopies, same_sum, occurring}
use Rattle.au_algebra.proofs.Places.{belongs, is_sure_there}
use Rattle.au_algebra.proofs.Spread.{Spread, from_left, from_right, next_row, Takes, Bounds-Spread, Spread-Bounds}
use Rattle.au_points.specs.Points.{possible_row}

-- ---- aggregates of lists with the same copies

module _ (c : ℕ) where
  abbrev at_c : List Value → Value
  at_c row = value_at row c

  same_least : (xs ys : Rows) → SameCopies xs ys → least (map at_c xs) ≡ least (map at_c ys)
  same_least [] [] same = refl
  same_least [] (y ∷ ys) same = absurd (all_same (λ _. ⊥) [] (y ∷ ys) same tt).0
  same_least (x ∷ xs) [] same = absurd (all_same (λ _. ⊥) [] (x ∷ xs) (λ v. sym (same v)) tt).0
  same_least (x ∷ xs) (y ∷ ys) same =
      one_least at_c at_c (x ∷ xs) (y ∷ ys) (omega arith) (omega arith)
      (all_same (λ v. at_most (least (map at_c (y ∷ ys))) (at_c v) ≡ true) (y ∷ ys) (x ∷ xs) (λ v. sym (same v)) (least_below at_c (y ∷ ys)))
      (all_same (λ v. at_most (least (map at_c (x ∷ xs))) (at_c v) ≡ true) (x ∷ xs) (y ∷ ys) same (least_below at_c (x ∷ xs)))

  same_greatest : (xs ys : Rows) → SameCopies xs ys → greatest (map at_c xs) ≡ greatest (map at_c ys)
  same_greatest [] [] same = refl
  same_greatest [] (y ∷ ys) same = absurd (all_same (λ _. ⊥) [] (y ∷ ys) same tt).0
  same_greatest (x ∷ xs) [] same = absurd (all_same (λ _. ⊥) [] (x ∷ xs) (λ v. sym (same v)) tt).0
  same_greatest (x ∷ xs) (y ∷ ys) same =
      one_greatest at_c at_c (x ∷ xs) (y ∷ ys) (omega arith) (omega arith)
      (all_same (λ v. at_most (at_c v) (greatest (map at_c (y ∷ ys))) ≡ true) (y ∷ ys) (x ∷ xs) (λ v. sym (same v)) (greatest_above at_c (y ∷ ys)))
      (all_same (λ v. at_most (at_c v) (greatest (map at_c (x ∷ xs))) ≡ true) (x ∷ xs) (y ∷ ys) same (greatest_above at_c (x ∷ xs)))

same_aggregate : (xs ys : Rows) → SameCopies xs ys → (agg : Agg) → ordinary.aggregate xs agg ≡ ordinary.aggregate ys agg
same_aggregate xs ys same (Sum c) = ap Int (same_sum (λ row. number (value_at row c)) xs ys same)
same_aggregate xs ys same (Min c) = same_least c xs ys same
same_aggregate xs ys same (Max c) = same_greatest c xs ys same

-- lists with the same copies have the same aggregates
pub same_aggregates : (xs ys : Rows) → SameCopies xs ys → (aggs : List Agg) → map (ordinary.aggregate xs) aggs ≡ map (ordinary.aggregate ys) aggs
same_aggregates xs ys same [] = refl
same_aggregates xs ys same (agg ∷ aggs) = λ i. same_aggregate xs ys same agg i ∷ same_aggregates xs ys same aggs i

-- what does not occur is not among the distinct rows
pub distinct_none : (v : List Value) (ks : Keys) → copies v ks ≤ 0 → copies v (distinct same_row ks) ≤ 0
distinct_none v ks none = elim (cases_lt 0 (copies v (distinct same_row ks))) [
  | inl some ↦ (
      let there = occurring (λ k. 0 < copies k ks) v (distinct same_row ks) (occurs_distinct ks) some in
      let never : ⊥ = omega (arith, there, none) in absurd never)
  | inr few ↦ few
]

-- ---- a relation that asks for no copy bounds each part of a list that it bounds

abbrev pub AsksNothing : Bounded → Type 0
AsksNothing rows = AllByRecursion (λ r. r.annot.least ≡ 0) rows

one_less : (rows : Bounded) (v : List Value) (c : Rows) → AsksNothing rows → Spread rows (v ∷ c) → Spread rows c
one_less [] v c none s = elim s [ ]
one_less (r ∷ rows) v c none (next_row t (from_left {p} s) others) =
    let takes : Takes r p = record { held = t.held.1; least = omega (arith, none.0); most = omega (arith, t.most) } in
    next_row takes s others
one_less (r ∷ rows) v c none (next_row t (from_right s) others) = next_row t s (one_less rows v _ none.1 others)

all_less : (rows : Bounded) (c d : Rows) → AsksNothing rows → Spread rows (c ++ d) → Spread rows d
all_less rows [] d none s = s
all_less rows (v ∷ c) d none s = all_less rows c d none (one_less rows v (c ++ d) none s)

-- what comes behind other rows is bounded too
pub bounds_behind : (rows : Bounded) (c d : Rows) → AsksNothing rows → Bounds rows (c ++ d) → Bounds rows d
bounds_behind rows c d none b = Spread-Bounds rows d (all_less rows c d none (Bounds-Spread rows (c ++ d) b))

-- ---- rows of which no copy is certain or guessed

pub possible_asks : (q : Bounded) → AsksNothing (map possible_row q)
possible_asks [] = tt
possible_asks (r ∷ q) = (refl, possible_asks q)

pub possible_guess : (v : List Value) (q : Bounded) → guess_count (map possible_row q) v ≡ 0
possible_guess v [] = refl
possible_guess v (r ∷ q) =
    omega (arith, guess-cons v (possible_row r) (map possible_row q), cond_zero (same_row v (guesses r.cells)) 0 refl, possible_guess v q)

pub possible_relation : (ks : List Kind) (q : Bounded) → IsRelation ks q → IsRelation ks (map possible_row q)
possible_relation ks [] ok = tt
possible_relation ks (r ∷ q) ok =
    (record { cells = ok.0.cells; triple = record { least_guess = omega arith; guess_most = omega arith }; present = ok.0.present }, possible_relation ks q ok.1)

pub possible_takes : (q : Bounded) (ps : List Rows) → AllZip Takes q ps → AllZip Takes (map possible_row q) ps
possible_takes [] [] z = tt
possible_takes [] (p ∷ ps) z = elim z [ ]
possible_takes (r ∷ q) [] z = elim z [ ]
possible_takes (r ∷ q) (p ∷ ps) z = (record { held = z.0.held; least = omega arith; most = z.0.most }, possible_takes q ps z.1)

-- what holds of the ranges of all rows holds of theirs
pub possible_each : (P : List Span → Type 0) (q : Bounded) → AllByRecursion (λ r. P r.cells) q → AllByRecursion (λ r. P r.cells) (map possible_row q)
possible_each P [] h = tt
possible_each P (r ∷ q) h = (h.0, possible_each P q h.1)

-- ---- groups of rows that ask for nothing

module _ (key : List Span → List Span) (aggs : List Agg) where
  never_sure : (q : Bounded) → AsksNothing q → list_any (is_sure_there key) q ≡ false
  never_sure [] h = refl
  never_sure (r ∷ q) h =
      or_from (is_sure_there key r) (list_any (is_sure_there key) q) (and_right _ (nat_le 1 r.annot.least) (ap (nat_le 1) h.0)) (never_sure q h.1)

  outputs_ask : (rows : Bounded) → AsksNothing rows → (gs : Keys) → AsksNothing (map (output key aggs rows) gs)
  outputs_ask rows h [] = tt
  outputs_ask rows h (g ∷ gs) =
      (ap (λ b. cond {A = ℕ} b 1 0) (never_sure (filter (belongs key g) rows) (all_filter (λ r. r.annot.least ≡ 0) (belongs key g) rows h)), outputs_ask rows h gs)

  -- they ask for nothing
  pub groups_ask : (rows : Bounded) → AsksNothing rows → AsksNothing (group_by key aggs rows)
  groups_ask rows h = all_filter (λ r. r.annot.least ≡ 0) _ (map (output key aggs rows) (guessed_keys key rows)) (outputs_ask rows h (guessed_keys key rows))
