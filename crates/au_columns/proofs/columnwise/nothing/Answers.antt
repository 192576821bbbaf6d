-- A 0 for each row.
use Rattle.std.proofs.Common.{ap, pos, refl, replicate, ◌∙◌}
use Rattle.au_plain.specs.PTerms.{nil}
use Rattle.au_codes.specs.Careful.{careful_extreme}
use Rattle.au_columns.proofs.Made.{made_constant}
use Rattle.au_columns.proofs.columnwise.nothing.Goals as goal

pub returns : goal.returns
returns c =
    made_constant (careful_extreme c.args.how nil) c.args.batch.now (pos 0) c.in_ok-made.made (λ row. refl)
    (c.in_ok-made.ensures ∙ ap (λ n. replicate n (pos 0)) c.len.ensures)
