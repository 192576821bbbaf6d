-- The sums of greatest counts are among the numbers of a compressed product, and a relation has one kind in each column.
use Rattle.std.specs.Prelude.{◌≡◌, ℕ, true, false, List, [], ◌∷◌, ◌++◌}
use Rattle.std.specs.List.{AllZip}
use Rattle.std.proofs.Common.{refl, sym, ◌∙◌, ap}
use Rattle.std.proofs.lemmas.Bool.{and_from, true≢false}
use Rattle.au_value.specs.declared.kinds.Kind.{Kind}
use Rattle.au_value.specs.Ranges.{Span, IsRangeOf}
use Rattle.au_expr.specs.Figures.{Fit}
use Rattle.au_expr.proofs.Fits.{fit_parts}
use Rattle.au_algebra.specs.Bounded.{Bounded}
use Rattle.au_algebra.specs.Fits.{triple_numbers}
use Rattle.au_algebra.specs.Laws.{IsRelation}
use Rattle.au_compress.specs.CompressedFits.{part_numbers}
use Rattle.au_compress.specs.Kinds.{HasKinds, kinds}
use Rattle.au_compress.specs.Splitting.{compressed, compressed_fits, possible_rows}

pub covered : (n : ℕ) (rows : Bounded) → Fit (part_numbers n rows) → compressed_fits n rows ≡ true
covered n rows f =
    let p = fit_parts (triple_numbers (possible_rows rows)) (triple_numbers (compressed n rows)) f in
    and_from _ _ p.0 p.1

own_kinds : (ks : List Kind) (cells : List Span) → AllZip IsRangeOf ks cells → kinds cells ≡ ks
own_kinds [] [] z = refl
own_kinds [] (r ∷ cells) z = elim z [ ]
own_kinds (k ∷ ks) [] z = elim z [ ]
own_kinds (k ∷ ks) (r ∷ cells) z = λ i. z.0.kind i ∷ own_kinds ks cells z.1 i

pub has_kinds : (ks : List Kind) (rows : Bounded) → IsRelation ks rows → HasKinds ks rows
has_kinds ks [] h = tt
has_kinds ks (r ∷ rows) h = (own_kinds ks r.cells h.0.cells, has_kinds ks rows h.1)
