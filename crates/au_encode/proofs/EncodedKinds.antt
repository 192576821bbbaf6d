-- Encoded rows have the encoded kinds.
use Rattle.std.specs.Prelude.{◌≡◌, List, [], ◌∷◌, ◌++◌, map}
use Rattle.std.specs.List.{AllZip}
use Rattle.std.proofs.Common.{refl, ◌∙◌}
use Rattle.au_value.specs.declared.kinds.Kind.{Kind}
use Rattle.au_value.specs.declared.kinds.Kind.TheVariants.{Int}
use Rattle.au_value.specs.Order.{kind_of}
use Rattle.au_value.specs.Ranges.{Span, IsRangeOf}
use Rattle.au_annot.specs.Triples.{Counts}
use Rattle.au_algebra.specs.Bounded.{Bounded}
use Rattle.au_algebra.specs.Laws.{IsRelation}
use Rattle.au_plain.specs.PlanKinds.{HaveKinds}
use Rattle.au_encode.specs.Encode.{encode, encode_cells, encode_counts, encoded_kinds, triple_kinds}

cells_kinds : (ks : List Kind) (rs : List Span) (t : Counts) → AllZip IsRangeOf ks rs → map kind_of (encode_cells rs ++ encode_counts t) ≡ triple_kinds ks ++ Int ∷ Int ∷ Int ∷ []
cells_kinds [] [] t z = refl
cells_kinds [] (r ∷ rs) t z = elim z [ ]
cells_kinds (k ∷ ks) [] t z = elim z [ ]
cells_kinds (k ∷ ks) (r ∷ rs) t z =
    let lo = z.0.range.lo_kind ∙ z.0.kind in
    let hi = z.0.range.hi_kind ∙ z.0.kind in
    λ i. lo i ∷ z.0.kind i ∷ hi i ∷ cells_kinds ks rs t z.1 i

pub rows_have_kinds : (ks : List Kind) (rows : Bounded) → IsRelation ks rows → HaveKinds (encoded_kinds ks) (encode rows)
rows_have_kinds ks [] ok = tt
rows_have_kinds ks (r ∷ rows) ok = (cells_kinds ks r.cells r.annot ok.0.cells, rows_have_kinds ks rows ok.1)
