-- One name more.
use Rattle.std.proofs.Common.{◌≡◌, [], get_or}
use Rattle.std.proofs.lemmas.List.{get_or_read}
use Rattle.au_blocks.specs.Headers.{column_name}
use Rattle.au_blocks.proofs.Enumerated.{map_enumerate_more}
use Rattle.au_blocks.proofs.header.column_names.Goals as goal

pub loop-place-preserved : goal.loop-place-preserved
loop-place-preserved c =
    let fields = c.args.fields.now in
    let at : c.index-fields-place.result ≡ get_or fields c.loop-place.place [] = get_or_read fields c.loop-place.place c.index-fields-place.result c.loop-place-test.true c.index-fields-place.is [] in
    let more = map_enumerate_more (column_name c.args.format) fields c.loop-place.place [] c.loop-place-test.true in
    let name = rw (c.as_str.ensures, at) at c.in_ok-column_name.ensures in
    rw (more, ← c.loop-place.invariant, ← name) c.in_ok-push.ensures.items
