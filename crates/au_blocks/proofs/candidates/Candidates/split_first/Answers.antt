-- The first of some alternatives, and the others.
use Rattle.std.proofs.Common.{arith}
use Rattle.au_blocks.proofs.Lookup.{part-split}
use Rattle.au_blocks.proofs.candidates.Candidates.split_first.Goals as goal

pub returns : goal.returns
returns c =
    let a = c.self.inside in
    rw (← c.self.view_is, c.of-first.ensures, c.of-others.ensures, c.behind.ensures) (part-split a.rows.now a.first a.count c.self.invariant (omega (arith, c.if-self-eq0.false)))
