-- The cells of a block's row: each alternative has one in each column, and the ends of a column are those of a range.
use Rattle.std.specs.Prelude.{◌≡◌, ℕ, zero, suc, pos, ◌+◌, ◌<◌, true, List, [], ◌∷◌, drop, length, slice_get, unwrap_or, Some}
use Rattle.std.specs.List.{AllByRecursion, AllZip, list_all}
use Rattle.std.proofs.Common.{◌∙◌, ap, arith, subst, sym}
use Rattle.std.proofs.lemmas.Option.{slice_get-get_or, unwrap_or-slice_get}
use Rattle.au_value.specs.declared.kinds.Kind.{Kind}
use Rattle.au_value.specs.declared.value.Value.TheVariants.{Int}
use Rattle.au_value.specs.Ranges.{Span, IsRange, IsRangeOf, certain, guesses}
use Rattle.au_blocks.specs.Blocks.{Candidate, Choices}
use Rattle.au_blocks.specs.Tables.{fits_kinds}
use Rattle.au_translate.specs.Translate.{candidate_cell, marked_or_first, span_in}
use Rattle.au_translate.proofs.Alternatives.{all_wide, fits_long, passes_at, spans_from, spans_ranges}
use Rattle.au_translate.proofs.Places.{left_at}

-- there is an alternative, where one of them is shown
some_shown : {X : Type 0} (xs : List X) (i : ℕ) (x : X) → slice_get xs i ≡ Some x → 0 < length xs
some_shown [] i x h = cc
some_shown (y ∷ xs) i x h = omega arith

-- the cell in a column
pub cell_at : (a : Candidate) (j : ℕ) → j < length a.cells → slice_get a.cells j ≡ Some (candidate_cell j a)
cell_at a j low =
    let d = certain (Int (pos 0)) in
    slice_get-get_or a.cells j d low ∙ ap Some (sym (unwrap_or-slice_get a.cells j d))

-- the ranges from a column on, of which the first is that of the cell there
pub next_span : (alternatives : List Candidate) (a : Candidate) (j : ℕ) → j < length a.cells
    → spans_from alternatives j (guesses (drop j a.cells)) ≡ span_in alternatives j (candidate_cell j a).sg ∷ spans_from alternatives (j + 1) (guesses (drop (j + 1) a.cells))
next_span alternatives a j low = ap (λ cs. spans_from alternatives j (guesses cs)) (left_at a.cells j (candidate_cell j a) (cell_at a j low))

-- each alternative has a cell where the shown one has
pub wide : (ks : List Kind) (b : Choices) → list_all (λ a. fits_kinds ks a.cells) b.alternatives ≡ true → slice_get b.alternatives (unwrap_or b.guess 0) ≡ Some (marked_or_first b) → (at : ℕ) → at < length (marked_or_first b).cells
    → AllByRecursion (λ a. at < length a.cells) b.alternatives
wide ks b fit place at low =
    let long = fits_long ks (marked_or_first b).cells (passes_at (λ a. fits_kinds ks a.cells) b.alternatives fit (unwrap_or b.guess 0) (marked_or_first b) place) in
    all_wide ks b.alternatives fit at (omega (arith, long, low))

-- one of some ranges that were made from a column on
range_from : (alternatives : List Candidate) (ks : List Kind) (cs : List Span) (j i n : ℕ) (u : Span) → n ≡ j + i → AllZip IsRangeOf ks (spans_from alternatives j (guesses cs)) → slice_get cs i ≡ Some u
    → IsRange (span_in alternatives n u.sg)
range_from alternatives ks [] j i n u place are at = cc
range_from alternatives [] (c ∷ cs) j i n u place are at = absurd are
range_from alternatives (k ∷ ks) (c ∷ cs) j zero n u place are at =
    let same : c ≡ u = cc in
    let here : j ≡ n = omega (arith, place) in
    subst (λ m. IsRange (span_in alternatives m u.sg)) here (subst (λ r. IsRange (span_in alternatives j r.sg)) same are.0.range)
range_from alternatives (k ∷ ks) (c ∷ cs) j (suc i) n u place are at = range_from alternatives ks cs (j + 1) i n u (omega (arith, place)) are.1 at

-- the ends in a column with the guess of the cell that is shown there
range_at : (ks : List Kind) (b : Choices) → list_all (λ a. fits_kinds ks a.cells) b.alternatives ≡ true → slice_get b.alternatives (unwrap_or b.guess 0) ≡ Some (marked_or_first b) → (at : ℕ) (u : Span)
    → slice_get (marked_or_first b).cells at ≡ Some u → IsRange (span_in b.alternatives at u.sg)
range_at ks b fit place at u found =
    range_from b.alternatives ks (marked_or_first b).cells 0 at at u (omega arith)
    (spans_ranges b.alternatives (unwrap_or b.guess 0) (marked_or_first b) place ks (some_shown b.alternatives (unwrap_or b.guess 0) (marked_or_first b) place) fit) found

pub shown_range : (ks : List Kind) (b : Choices) → list_all (λ a. fits_kinds ks a.cells) b.alternatives ≡ true → slice_get b.alternatives (unwrap_or b.guess 0) ≡ Some (marked_or_first b) → (at : ℕ)
    → at < length (marked_or_first b).cells → IsRange (span_in b.alternatives at (candidate_cell at (marked_or_first b)).sg)
shown_range ks b fit place at low = range_at ks b fit place at (candidate_cell at (marked_or_first b)) (cell_at (marked_or_first b) at low)
