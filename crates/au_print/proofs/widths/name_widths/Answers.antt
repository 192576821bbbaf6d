-- A name is shown with as many characters as it has.
use Rattle.std.proofs.Common.{sym, ◌∙◌, ap, ◌++◌, ◌∷◌, [], ℕ, List, map, take}
use Rattle.std.proofs.lemmas.List.{map-append}
use Rattle.au_print.specs.Tables.{characters, printable}
use Rattle.au_print.proofs.PlacedRows.{item_next}
use Rattle.au_print.proofs.TableWidths.{printable_characters}
use Rattle.au_print.proofs.widths.name_widths.Goals as goal

abbrev width : List ℕ → ℕ
width name = characters (printable name)

pub loop-name-preserved : goal.loop-name-preserved
loop-name-preserved c =
    let names = c.args.names.now in
    let i = c.loop-name.name-index in
    let name = c.name-item.result in
    let counted = c.characters.ensures ∙ ap characters (c.as_bytes.ensures.value ∙ c.as_str.ensures) ∙ sym (printable_characters name) in
    c.in_ok-push.ensures.items
    ∙ (λ j. c.loop-name.invariant j ++ counted j ∷ [])
    ∙ sym (map-append width (take i names) (name ∷ []))
    ∙ ap (map width) (sym (item_next names i name c.loop-name-test.true c.name-item.is))
