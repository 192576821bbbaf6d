-- The number of a short text needs no book.
use Rattle.au_codes.proofs.TextOrder.{needs_no_book}
use Rattle.au_codes.proofs.theorems.short_need_no_book.Goals as goal

pub returns : goal.returns
returns c = needs_no_book
