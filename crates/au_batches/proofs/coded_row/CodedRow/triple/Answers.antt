-- The counts stand behind the ranges, in order.
use Rattle.std.proofs.Common.{◌≡◌, ◌+◌, ◌*◌, ◌∙◌, arith, refl, sym}
use Rattle.au_annot.specs.Triples.{counts}
use Rattle.au_batches.proofs.EncodedPlaces.{count_there, counts_from}
use Rattle.au_batches.proofs.coded_row.CodedRow.triple.Goals as goal

pub overflow_mul-first : goal.overflow_mul-first
overflow_mul-first c =
    let at = counts_from c.args.columns c.args.self.now (3 * c.args.columns) c.requires.encoded refl in
    omega (arith, at.within, c.requires.few)

pub overflow_add-first : goal.overflow_add-first
overflow_add-first c =
    let at = counts_from c.args.columns c.args.self.now (3 * c.args.columns) c.requires.encoded refl in
    omega (arith, at.within, c.requires.few)

pub overflow_add-first-2 : goal.overflow_add-first-2
overflow_add-first-2 c =
    let at = counts_from c.args.columns c.args.self.now (3 * c.args.columns) c.requires.encoded refl in
    omega (arith, at.within, c.requires.few)

pub count-requires : goal.count-requires
count-requires c = let at = counts_from c.args.columns c.args.self.now (3 * c.args.columns) c.requires.encoded refl in (at.least, at.at_least)

pub count-requires-2 : goal.count-requires-2
count-requires-2 c = let at = counts_from c.args.columns c.args.self.now (3 * c.args.columns) c.requires.encoded refl in (at.guess, at.at_guess)

pub count-requires-3 : goal.count-requires-3
count-requires-3 c = let at = counts_from c.args.columns c.args.self.now (3 * c.args.columns) c.requires.encoded refl in (at.most, at.at_most)

pub ordered-requires-clause-low : goal.ordered-requires-clause-low
ordered-requires-clause-low c =
    let n = 3 * c.args.columns in
    let at = counts_from c.args.columns c.args.self.now n c.requires.encoded refl in
    let least : c.count.result ≡ at.least = c.count.ensures ∙ count_there c.args.self.now n at.least at.at_least in
    let guess : c.count-2.result ≡ at.guess = c.count-2.ensures ∙ count_there c.args.self.now (n + 1) at.guess at.at_guess in
    omega (arith, least, guess, at.low)

pub ordered-requires-clause-high : goal.ordered-requires-clause-high
ordered-requires-clause-high c =
    let n = 3 * c.args.columns in
    let at = counts_from c.args.columns c.args.self.now n c.requires.encoded refl in
    let guess : c.count-2.result ≡ at.guess = c.count-2.ensures ∙ count_there c.args.self.now (n + 1) at.guess at.at_guess in
    let most : c.count-3.result ≡ at.most = c.count-3.ensures ∙ count_there c.args.self.now (n + 2) at.most at.at_most in
    omega (arith, guess, most, at.high)

pub returns : goal.returns
returns c =
    let n = 3 * c.args.columns in
    let at = counts_from c.args.columns c.args.self.now n c.requires.encoded refl in
    let least : c.count.result ≡ at.least = c.count.ensures ∙ count_there c.args.self.now n at.least at.at_least in
    let guess : c.count-2.result ≡ at.guess = c.count-2.ensures ∙ count_there c.args.self.now (n + 1) at.guess at.at_guess in
    let most : c.count-3.result ≡ at.most = c.count-3.ensures ∙ count_there c.args.self.now (n + 2) at.most at.at_most in
    c.ordered.ensures ∙ ((λ i. counts (least i) (guess i) (most i)) ∙ sym at.is)
