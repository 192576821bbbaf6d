use Rattle.au_parse.proofs.ListPieces.{pieces_none, pieces_some}
use Rattle.au_parse.proofs.lists.at_comma.Goals as goal

pub returns-in-Some-clause-pieces : goal.returns-in-Some-clause-pieces
returns-in-Some-clause-pieces c =
    pieces_some c.args.tokens.now c.split_at.result.0.now c.split_at.result.1.now c.in-Some.others.now c.in-Some._comma.now c.front_length.result c.front_length.ensures.count
    c.split_at.ensures.front c.split_at.ensures.back c.in-Some.ensures.cases.0

pub returns-in-None-clause-pieces : goal.returns-in-None-clause-pieces
returns-in-None-clause-pieces c =
    pieces_none c.args.tokens.now c.split_at.result.0.now c.split_at.result.1.now c.front_length.result c.front_length.ensures.count c.split_at.ensures.front c.split_at.ensures.back c.in-None.ensures.cases
