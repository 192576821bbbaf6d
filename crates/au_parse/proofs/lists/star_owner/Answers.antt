use Rattle.std.proofs.Common.{◌<◌, length, arith}
use Rattle.std.proofs.lemmas.Bool.Decides.{nat_tests}
use Rattle.au_parse.proofs.ListPieces.{longer_list}
use Rattle.au_parse.proofs.lists.star_owner.Goals as goal

pub returns-then-not-is_empty : goal.returns-then-not-is_empty
returns-then-not-is_empty c =
    let more : 0 < length c.in_ok-star.rest.now = grind (arith, nat_tests) in
    longer_list c.args.tokens.now c.in_ok-owner.others.now c.in_ok-dot.behind.now c.in_ok-star.rest.now c.in_ok-owner.owner.now c.in_ok-dot.dot.now c.in_ok-star.star.now
    c.in_ok-owner.ensures.cases.0 c.in_ok-dot.ensures.cases.0 c.in_ok-star.ensures.cases.0 more
