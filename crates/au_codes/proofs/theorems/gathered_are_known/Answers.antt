-- A book of gathered texts knows what they were gathered from.
use Rattle.au_codes.proofs.GatheredTexts.{book_of_all}
use Rattle.au_codes.proofs.theorems.gathered_are_known.Goals as goal

pub returns : goal.returns
returns c = book_of_all
