-- A text of a book stands at the place of its rank.
use Rattle.au_codes.proofs.BookPlaces.{place_is_rank}
use Rattle.au_codes.proofs.theorems.ranks_are_places.Goals as goal

pub returns : goal.returns
returns c = λ book w is there. place_is_rank book w is.rising there
