-- Whether triples lie in the range, also of rows whose neighbours are put into one.
use Rattle.std.specs.Prelude.{◌≡◌, ℕ, ◌+◌, ◌-◌, ◌^◌, ◌<◌, ◌≤◌, ◌&&◌, Bool, true, false, cond, [], ◌∷◌, ◌++◌, pos}
use Rattle.std.specs.List.{AllByRecursion}
use Rattle.std.proofs.Common.{arith, refl, sym, ◌∙◌, ap, append_assoc, append-nil, inl, inr}
use Rattle.std.proofs.lemmas.Bool.{false_from_ne_true, true≢false, cases_lt}
use Rattle.au_value.specs.Numeral.{is_i128}
use borrow.Author.Tests.{leb-true, le-leb, lt-ltb}
use Rattle.au_annot.specs.Triples.{Counts, IsTriple, plus, in_range as counts_in_range}
use Rattle.au_algebra.specs.Entries.{entry}
use Rattle.au_algebra.specs.Bounded.{RangeRow, Bounded}
use Rattle.au_algebra.specs.Fits.{triples_fit}
use Rattle.au_algebra.proofs.Runs.{joins, finished, carried, runs_from}

-- the triple is in order, and its greatest count is in the range
pub record IsInRange (r : RangeRow) : Type 0 where
  pub triple : IsTriple r.annot
  pub most : r.annot.most < 2 ^ 127

in_range_count : (n : ℕ) → n < 2 ^ 127 → is_i128 (pos n) ≡ true
in_range_count n h = let le : n ≤ 2 ^ 127 - 1 = omega arith in le-leb n (2 ^ 127 - 1) le

out_of_range : (n : ℕ) → 2 ^ 127 ≤ n → is_i128 (pos n) ≡ false
out_of_range n h = false_from_ne_true (is_i128 (pos n)) (λ t. let le = leb-true n (2 ^ 127 - 1) t in absurd (omega (arith, le, h)))

-- one row more that lies in the range
pub fits_more : (r : RangeRow) (rows : Bounded) → IsInRange r → triples_fit rows ≡ true → triples_fit (r ∷ rows) ≡ true
fits_more r rows f h =
    let l = in_range_count r.annot.least (omega (arith, f.triple.least_guess, f.triple.guess_most, f.most)) in
    let g = in_range_count r.annot.guess (omega (arith, f.triple.guess_most, f.most)) in
    let m = in_range_count r.annot.most f.most in
    λ i. l i && (g i && (m i && h i))

-- rows that lie in the range
pub all_fit : (rows : Bounded) → AllByRecursion IsInRange rows → triples_fit rows ≡ true
all_fit [] h = refl
all_fit (r ∷ rows) h = fits_more r rows h.0 (all_fit rows h.1)

and_none : (a b : Bool) → (a && (b && false)) ≡ false
and_none true true = refl
and_none true false = refl
and_none false b = refl

-- a row past the range
pub fails_here : (r : RangeRow) (rows : Bounded) → 2 ^ 127 ≤ r.annot.most → triples_fit (r ∷ rows) ≡ false
fails_here r rows h =
    let m = out_of_range r.annot.most h in
    (λ i. is_i128 (pos r.annot.least) && (is_i128 (pos r.annot.guess) && (m i && triples_fit rows)))
    ∙ and_none (is_i128 (pos r.annot.least)) (is_i128 (pos r.annot.guess))

and_three : (a b c d : Bool) → d ≡ false → (a && (b && (c && d))) ≡ false
and_three true true true d h = h
and_three true true false d h = refl
and_three true false c d h = refl
and_three false b c d h = refl

-- and behind others
pub fails_behind : (done rows : Bounded) → triples_fit rows ≡ false → triples_fit (done ++ rows) ≡ false
fails_behind [] rows h = h
fails_behind (r ∷ done) rows h =
    and_three (is_i128 (pos r.annot.least)) (is_i128 (pos r.annot.guess)) (is_i128 (pos r.annot.most)) (triples_fit (done ++ rows)) (fails_behind done rows h)

-- sums only rise, so what follows does not bring a row back into the range
pub runs_fail : (r : RangeRow) (rows : Bounded) → 2 ^ 127 ≤ r.annot.most → triples_fit (runs_from r rows) ≡ false
unfolding runs_from
runs_fail r [] h = fails_here r [] h
runs_fail r (s ∷ rows) h =
    let both : RangeRow = entry r.cells (plus r.annot s.annot) in
    elim (joins r s) as (λ b. triples_fit (cond b [] (r ∷ []) ++ runs_from (cond b both s) rows) ≡ false) [
      | true ↦ runs_fail both rows (omega (arith, h))
      | false ↦ fails_here r (runs_from s rows) h
    ]

-- ---- one row after the other

-- the rows so far are in their runs: those that are done with, and the one that goes on
abbrev pub RunsSoFar : RangeRow → Bounded → Bounded → RangeRow → Type 0
RunsSoFar first seen done current = (rest : Bounded) → runs_from first (seen ++ rest) ≡ done ++ runs_from current rest

pub one_more : (first : RangeRow) (seen done : Bounded) (current s : RangeRow) → RunsSoFar first seen done current → RunsSoFar first (seen ++ s ∷ []) (done ++ finished current s) (carried current s)
unfolding runs_from
one_more first seen done current s h rest =
    ap (runs_from first) (append_assoc seen (s ∷ []) rest)
    ∙ h (s ∷ rest)
    ∙ sym (append_assoc done (finished current s) (runs_from (carried current s) rest))

-- a sum past the range is in the runs of all rows
pub one_too_many : (first : RangeRow) (seen done : Bounded) (current s : RangeRow) (rest : Bounded) → RunsSoFar first seen done current → joins current s ≡ true → 2 ^ 127 ≤ current.annot.most + s.annot.most → triples_fit (runs_from first (seen ++ s ∷ rest)) ≡ false
unfolding runs_from
one_too_many first seen done current s rest h e m =
    let both : RangeRow = entry current.cells (plus current.annot s.annot) in
    ap triples_fit (h (s ∷ rest) ∙ (λ i. done ++ (cond (e i) [] (current ∷ []) ++ runs_from (cond (e i) both s) rest)))
    ∙ fails_behind done (runs_from both rest) (runs_fail both rest m)

-- behind the last row
pub at_end : (first : RangeRow) (seen done : Bounded) (current : RangeRow) → RunsSoFar first seen done current → runs_from first seen ≡ done ++ current ∷ []
unfolding runs_from
at_end first seen done current h = ap (runs_from first) (sym (append-nil seen)) ∙ h []

-- where a component of a sum of triples is past the range, the greatest count is
pub most_past : (a b : Counts) → IsTriple a → IsTriple b → counts_in_range (plus a b) ≡ false → 2 ^ 127 ≤ a.most + b.most
most_past a b p q h = elim (cases_lt (a.most + b.most) (2 ^ 127)) [
  | inl l ↦ (
      let least = lt-ltb (a.least + b.least) (2 ^ 127) (omega (arith, p.least_guess, p.guess_most, q.least_guess, q.guess_most, l)) in
      let guess = lt-ltb (a.guess + b.guess) (2 ^ 127) (omega (arith, p.guess_most, q.guess_most, l)) in
      let most = lt-ltb (a.most + b.most) (2 ^ 127) l in
      absurd (true≢false (sym (λ i. least i && guess i && most i) ∙ h)))
  | inr m ↦ m
]
