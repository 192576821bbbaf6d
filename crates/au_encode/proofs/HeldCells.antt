-- The numbers of encoded rows lie in the 128-bit range where those of their cells and triples do.
use Rattle.std.specs.Prelude.{List, [], ◌∷◌, ◌++◌, ℤ, pos}
use Rattle.std.specs.List.{AllByRecursion}
use Rattle.std.proofs.Common.{subst}
use Rattle.std.proofs.lemmas.Bool.{and_parts}
use Rattle.au_value.specs.declared.kinds.Kind.{Kind}
use Rattle.au_value.specs.Ranges.{Span}
use Rattle.au_annot.specs.Triples.{Counts}
use Rattle.au_expr.specs.Figures.{fit, Fit}
use Rattle.au_expr.specs.Numbers.{components, number_if_any}
use Rattle.au_expr.proofs.Fits.{fit_both}
use Rattle.au_algebra.specs.Bounded.{RangeRow, Bounded}
use Rattle.au_algebra.specs.Ordinary.{Rows}
use Rattle.au_plain.specs.Plans.{PlanTree}
use Rattle.au_plain.specs.PlanKinds.{FitRows, FitTables, row_fits}
use Rattle.au_plain.proofs.Held.{RowFits, rows_fit}
use Rattle.au_encode.specs.Encode.{encode, encode_cells, encode_counts, encoded_kinds}
use Rattle.au_encode.specs.Gives.{GivesRelation}

-- the components of each range fit
abbrev pub AllFit : List Span → Type 0
AllFit xs = AllByRecursion (λ x. Fit (components x)) xs

-- the components of a row's ranges fit, and the numbers of its triple
pub record FitRow (r : RangeRow) : Type 0 where
  pub cells : AllFit r.cells
  pub triple : Fit (pos r.annot.least ∷ pos r.annot.guess ∷ pos r.annot.most ∷ [])

-- each row's do
abbrev pub AllFitRows : Bounded → Type 0
AllFitRows rows = AllByRecursion FitRow rows

counts_held : (t : Counts) → RowFits (encode_counts t) → Fit (pos t.least ∷ pos t.guess ∷ pos t.most ∷ [])
counts_held t h =
    let p = and_parts (fit (pos t.least ∷ [])) _ h in
    let q = and_parts (fit (pos t.guess ∷ [])) _ p.1 in
    let r = and_parts (fit (pos t.most ∷ [])) _ q.1 in
    fit_both (pos t.least ∷ []) (pos t.guess ∷ pos t.most ∷ []) p.0 (fit_both (pos t.guess ∷ []) (pos t.most ∷ []) q.0 r.0)

cells_held : (rs : List Span) (t : Counts) → RowFits (encode_cells rs ++ encode_counts t) → AllFit rs × Fit (pos t.least ∷ pos t.guess ∷ pos t.most ∷ [])
cells_held [] t h = (tt, counts_held t h)
cells_held (r ∷ rs) t h =
    let lo = and_parts (fit (number_if_any r.lo)) _ h in
    let sg = and_parts (fit (number_if_any r.sg)) _ lo.1 in
    let hi = and_parts (fit (number_if_any r.hi)) (row_fits (encode_cells rs ++ encode_counts t)) sg.1 in
    let rest = cells_held rs t hi.1 in
    let own = fit_both (number_if_any r.lo) (number_if_any r.sg ++ number_if_any r.hi) lo.0 (fit_both (number_if_any r.sg) (number_if_any r.hi) sg.0 hi.0) in
    ((own, rest.0), rest.1)

-- encoded rows whose numbers lie in the range
pub encoded_held : (rows : Bounded) → FitRows (encode rows) → AllFitRows rows
encoded_held [] h = tt
encoded_held (r ∷ rows) h =
    let p = cells_held r.cells r.annot h.0 in
    (record { cells = p.0; triple = p.1 }, encoded_held rows h.1)

-- the rows of a plan that gives a relation, over tables whose numbers lie in the range
pub gives_held :
    (kinds : List (List Kind)) (tables : List Rows) (p : PlanTree) (ks : List Kind) (rows : Bounded) (numbers : List ℤ) →
    GivesRelation kinds tables p ks rows numbers → FitTables tables → Fit numbers → AllFitRows rows
gives_held kinds tables p ks rows numbers g h f =
    encoded_held rows (subst FitRows g.encoded (rows_fit kinds (encoded_kinds ks) p tables g.typed h (g.fit f)))
