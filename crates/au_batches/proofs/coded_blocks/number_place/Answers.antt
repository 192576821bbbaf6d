-- What is made of the list is what stands in the place.
use Rattle.std.proofs.Common.{◌∙◌}
use Rattle.au_codes.specs.TextCodes.{text_code}
use Rattle.au_batches.proofs.ListedPlaces.{of_numbers}
use Rattle.au_batches.proofs.coded_blocks.number_place.Goals as goal

pub returns-in_ok-made-in-Some : goal.returns-in_ok-made-in-Some
returns-in_ok-made-in-Some c =
    c.narrow.ensures
    ∙ of_numbers c.parts.result.0.now c.parts.result.1.now c.args.blocks.now c.parts.ensures.held c.parts.ensures.within (text_code c.args.book.now) c.in-Some.numbers.now c.in_ok-made-in-Some.made.items c.args.place c.in-Some.ensures c.requires.each c.in_ok-made-in-Some.ensures
