-- The places behind the first are within the alternatives, too.
use Rattle.std.proofs.Common.{All, subst}
use Rattle.std.proofs.lemmas.List.Elements.{All-tail}
use Rattle.au_blocks.specs.Held.{IsWithin}
use Rattle.au_blocks.proofs.blocks.Blocks.split_first.Goals as goal

pub of-requires : goal.of-requires
of-requires c =
    let within = IsWithin c.self.inside.rows.now in
    All-tail within c.in-Some.first.now c.in-Some.others.now (subst (All within) c.in-Some.ensures.cases.0 c.self.invariant)
