-- A rank is at most the number of texts.
use Rattle.std.proofs.Common.{◌∙◌, ap, sym, arith, length}
use Rattle.au_codes.specs.Books.{IsCodebook}
use Rattle.au_codes.proofs.Ranks.{rank_small, some_few}
use Rattle.au_codes.proofs.book.Codebook.below.Goals as goal

pub returns-in-Some-clause-few : goal.returns-in-Some-clause-few
returns-in-Some-clause-few c =
    let is : IsCodebook c.args.self.now = rw (← c.self.view_is) c.self.invariant in
    some_few c.args.self.now c.args.word.now c.in-Some.rank is.few (sym c.in-Some.is ∙ c.rank.ensures)

pub returns-in-None-clause-few : goal.returns-in-None-clause-few
returns-in-None-clause-few c =
    let few = c.self.invariant.few in
    let small = rank_small c.as_slice.result.now c.args.word.now in
    let texts = ap length c.as_slice.ensures.keys in
    let is = c.count_below.ensures in
    omega (arith, is, small, texts, few)
