-- Rows from their codes, and how wide these are.
use Rattle.std.specs.Prelude.{◌≡◌, List, [], ◌∷◌, length, map}
use Rattle.std.specs.List.{AllByRecursion}
use Rattle.std.proofs.Common.{refl, sym, ap, ◌∙◌}
use Rattle.std.proofs.lemmas.List.{length-map}
use Rattle.au_value.specs.declared.kinds.Kind.{Kind}
use Rattle.au_value.specs.Order.{kind_of}
use Rattle.au_algebra.specs.Ordinary.{Rows}
use Rattle.au_plain.specs.PlanKinds.{HaveKinds}
use Rattle.au_codes.specs.Books.{Book, IsCodebook}
use Rattle.au_codes.specs.Codes.{Code, KnowsRows, code, coded_row, coded_rows}
use Rattle.au_codes.specs.Decoding.{decoded_row}
use Rattle.au_codes.specs.TextCodes.{text_code}
use Rattle.au_codes.specs.TextLaws.{CellsStand}

pub rows_back : CellsStand → (book : Book) (kinds : List Kind) (rows : Rows) → IsCodebook book → HaveKinds kinds rows → KnowsRows (text_code book) rows → map (decoded_row book kinds) (coded_rows (text_code book) rows) ≡ rows
rows_back back book kinds [] is have knows = refl
rows_back back book kinds (row ∷ rows) is have knows =
    let first = ap (λ ks. decoded_row book ks (coded_row (text_code book) row)) (sym have.0) ∙ back book row is knows.0 in
    λ i. first i ∷ rows_back back book kinds rows is have.1 knows.1 i

pub coded_wide : (c : Code) (kinds : List Kind) (rows : Rows) → HaveKinds kinds rows → AllByRecursion (λ cells. length cells ≡ length kinds) (coded_rows c rows)
coded_wide c kinds [] have = tt
coded_wide c kinds (row ∷ rows) have = (length-map row (code c) ∙ sym (length-map row kind_of) ∙ ap length have.0, coded_wide c kinds rows have.1)
