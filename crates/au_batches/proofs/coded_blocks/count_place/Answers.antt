-- The counts of blocks whose alternatives stand once.
use Rattle.std.proofs.Common.{◌≡◌, ◌∙◌, ◌≤◌, ◌/◌, arith, length}
use Rattle.au_codes.specs.TextCodes.{text_code}
use Rattle.au_batches.proofs.ListedPlaces.{none_listed, of_counts}
use Rattle.au_batches.proofs.coded_blocks.count_place.Goals as goal

pub returns-in_ok-made : goal.returns-in_ok-made
returns-in_ok-made c =
    let past : length c.args.columns.now ≤ c.args.place / 3 = grind (arith, c.if-place-columns.true) in
    let none : length c.listed_times.result.now ≡ 0 = grind (arith, c.is_empty.ensures, c.if-is_empty.true) in
    let copies = none_listed c.parts.result.0.now c.listed_times.result.now none c.listed_times.ensures in
    c.narrow.ensures
    ∙ of_counts c.parts.result.0.now c.parts.result.1.now c.args.blocks.now c.parts.ensures.held c.parts.ensures.within c.args.columns.now c.requires.table (text_code c.args.book.now) c.in_ok-made.made.items c.args.place past copies c.requires.each c.in_ok-made.ensures
