-- The counts of a block are in order.
use Rattle.au_translate.proofs.BlockRelation.{triple_order}
use Rattle.au_translate.proofs.bounds.triple.Goals as goal

pub ordered-requires : goal.ordered-requires
ordered-requires c =
    let order = triple_order c.args.block.now c.alternatives.ensures.is_block in
    rw (c.least_count-least.ensures, c.count-guess.ensures, c.guessed_copies.ensures, c.count-most.ensures, c.most_copies.ensures, c.alternatives.ensures.of) (record { least_guess = order.0; guess_most = order.1 })
