-- One record more.
use Rattle.std.proofs.Common.{map}
use Rattle.au_blocks.specs.declared.format.Format.TheVariants as format
use Rattle.au_blocks.specs.Entries.{entry_blocks}
use Rattle.au_blocks.specs.Tallies.{tally_of}
use Rattle.au_blocks.proofs.Laying.{plain-more}
use Rattle.au_blocks.proofs.layout.certain.Goals as goal

pub loop-preserved : goal.loop-preserved
loop-preserved c =
    let rows = c.args.rows.now in
    rw (c.in_ok-push.ensures.items, c.certain.ensures) (plain-more rows c.loop.counter c.loop.tallies.items (map tally_of (entry_blocks format.Plain rows)) c.loop-test.true c.loop.invariant)
