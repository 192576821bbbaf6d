-- The first place of a text in a book in order is its rank.
use Rattle.std.proofs.Common.{◌∙◌}
use Rattle.au_codes.proofs.BookPlaces.{position_is_rank}
use Rattle.au_codes.proofs.book.Codebook.rank.Goals as goal

pub returns : goal.returns
returns c = rw (← c.self.view_is) (c.get_index_of.ensures.index ∙ position_is_rank c.self.inside.texts.keys c.args.word.now c.self.invariant.rising)
