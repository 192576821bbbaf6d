-- A header's record and the rows' records make the text of an answer.
use Rattle.std.proofs.Common.{◌≡◌, ℕ, List, ◌++◌, map, flat_map, sym, ◌∙◌, ap}
use Rattle.std.proofs.lemmas.List.Folds.{flat_map-map}
use Rattle.au_value.specs.declared.kinds.Kind.{Kind}
use Rattle.au_algebra.specs.Bounded.{RangeRow, Bounded}
use Rattle.au_print.specs.Texts.{csv_text, header_fields, record_text, row_fields}

pub csv_text_is : {A : Type 0} (goes : A → RangeRow) (names : List (List ℕ)) (kinds : List Kind) (xs : List A) (rows : Bounded) (front end : List ℕ)
    → map goes xs ≡ rows → front ≡ record_text (header_fields names)
    → end ≡ front ++ flat_map (λ x. record_text (row_fields kinds (goes x))) xs → end ≡ csv_text names kinds rows
csv_text_is goes names kinds xs rows front end view titled behind =
    let back = sym (flat_map-map (λ r. record_text (row_fields kinds r)) goes xs) ∙ ap (flat_map (λ r. record_text (row_fields kinds r))) view in
    behind ∙ ap (λ t. t ++ flat_map (λ x. record_text (row_fields kinds (goes x))) xs) titled ∙ ap (λ t. record_text (header_fields names) ++ t) back
