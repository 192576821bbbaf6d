-- One more goes into the least so far.
use Rattle.std.proofs.Common.{◌≡◌, ◌∙◌, ◌<◌, [], ap, arith, get_or, length}
use Rattle.std.proofs.lemmas.List.{get_or_read}
use Rattle.au_value.specs.declared.value.Value.TheVariants.{Text}
use Rattle.au_value.specs.Ranges.{lesser}
use Rattle.au_batches.proofs.ListEnds.{more_least}
use Rattle.au_batches.proofs.listed.least_text.Goals as goal

pub loop-place-preserved : goal.loop-place-preserved
loop-place-preserved c =
    let texts = c.args.texts.now in
    let i = c.loop-place.place in
    let best = c.loop-place.least.now in
    let within : i < length texts = grind (arith, c.loop-place-test.true) in
    let here : c.index-texts-place.result ≡ get_or texts i [] = get_or_read texts i c.index-texts-place.result c.loop-place-test.true c.index-texts-place.is [] in
    more_least (λ x. Text x) texts i [] within (Text best) (Text c.lesser_text-least.result.now) _ (c.lesser_text-least.ensures ∙ ap (λ t. lesser (Text best) (Text t)) here) c.loop-place.invariant
