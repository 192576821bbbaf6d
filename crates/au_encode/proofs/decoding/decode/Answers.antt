-- The rows are those of the definition, which encode what they decode to.
use Rattle.std.proofs.Common.{ap, ◌∙◌, map, arith}
use Rattle.std.proofs.lemmas.Grind.{common_steps}
use Rattle.au_encode.specs.Encode.{encode as encoded}
use Rattle.au_encode.proofs.Decoded.{rows_again}
use Rattle.au_encode.proofs.decoding.decode.Goals as goal

pub returns-clause-rows : goal.returns-clause-rows
returns-clause-rows c = grind (arith, common_steps)

pub returns-clause-back : goal.returns-clause-back
returns-clause-back c = ap encoded (returns-clause-rows c) ∙ rows_again c.args.columns (map (λ row. row.items) c.args.rows.items) c.requires
