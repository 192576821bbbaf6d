use Rattle.std.proofs.Common.{◌∙◌, sym, Some, None}
use Rattle.au_words.proofs.SameNames.{same_more}
use Rattle.au_words.proofs.words.table_words.same_names.Goals as goal

pub returns-in-Some : goal.returns-in-Some
returns-in-Some c = sym (c.loop-place.invariant ∙ same_more c.args.tables.now c.loop-place.place c.name_at-name.result.now (Some c.in-Some.other) c.loop-place-test.true c.name_at-name.ensures c.in-Some.ensures)

pub loop-place-preserved : goal.loop-place-preserved
loop-place-preserved c = c.loop-place.invariant ∙ same_more c.args.tables.now c.loop-place.place c.name_at-name.result.now None c.loop-place-test.true c.name_at-name.ensures c.in_default.ensures
