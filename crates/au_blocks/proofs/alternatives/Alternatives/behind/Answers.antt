-- There are no more alternatives than their number.
use Rattle.std.proofs.Common.{arith}
use Rattle.au_blocks.proofs.Lookup.{rows-length}
use Rattle.au_blocks.proofs.alternatives.Alternatives.behind.Goals as goal

pub returns : goal.returns
returns c =
    let a = c.self.inside in
    let within = rw (← c.self.view_is) at c.requires in
    grind (arith, rows-length a.count a.columns.items a.times.items, within, c.min.ensures, c.saturating_add.ensures)
