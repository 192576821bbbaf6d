-- The alternative at a place.
use Rattle.std.proofs.Common.{arith}
use Rattle.au_blocks.proofs.Lookup.{part-at, part-length}
use Rattle.au_blocks.proofs.candidates.Candidates.get.Goals as goal

pub returns : goal.returns
returns c =
    let a = c.self.inside in
    let low = rw (← c.self.view_is) at c.requires in
    rw (← c.self.view_is, c.of.ensures, c.behind.ensures) (part-at a.rows.now a.first a.count c.self.invariant c.args.place (omega (arith, low, part-length a.rows.now a.first a.count c.self.invariant)))
