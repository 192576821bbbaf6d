-- The records are those of the rows of the guess.
use Rattle.std.proofs.Common.{◌∷◌, ◌++◌, ◌∙◌, sym, ap, flat_map, codes}
use Rattle.std.proofs.lemmas.List.Folds.{flat_map-map}
use Rattle.au_algebra.specs.Counted.{CountedRow}
use Rattle.au_print.specs.Texts.{record_text}
use Rattle.au_print.specs.GuessTexts.{counted_fields, counted_text}
use Rattle.au_print.specs.Places.{row_at}
use Rattle.au_print.proofs.GuessWorlds.{guess_world}
use Rattle.au_print.proofs.guess_form.guess_text.Goals as goal

pub returns-in-Ok-printed-clause-text : goal.returns-in-Ok-printed-clause-text
returns-in-Ok-printed-clause-text c =
    let rows = c.args.rows.now in
    let places = c.in-Ok.places.items in
    let printed = λ (r : CountedRow). record_text (counted_fields c.args.kinds.now r) in
    let header = record_text (codes "row" ∷ c.args.names.now) in
    c.in-Ok-printed.ensures
    ∙ ap (λ ps. header ++ flat_map (λ p. printed (row_at rows p)) ps) c.as_slice.ensures.value
    ∙ ap (λ t. header ++ t) (sym (flat_map-map printed (row_at rows) places) ∙ ap (flat_map printed) c.in-Ok.ensures.rows)

pub returns-in-Ok-printed-clause-world : goal.returns-in-Ok-printed-clause-world
returns-in-Ok-printed-clause-world c world stands =
    returns-in-Ok-printed-clause-text c ∙ ap (counted_text c.args.names.now c.args.kinds.now) (guess_world c.args.rows.now world stands)
