-- The rows are those of the definition, which encode what they decode to.
use Rattle.std.proofs.Common.{ap, ◌∙◌, map}
use Rattle.rayon.proofs.ListFacts.{IfOk-then}
use Rattle.au_encode.specs.Encode.{encode as encoded}
use Rattle.au_encode.proofs.Decoded.{rows_again}
use Rattle.au_encode.proofs.PartsDecoded.{decoded_all}
use Rattle.au_encode.proofs.decoding_rows.decode_rows.Goals as goal

pub returns-clause-rows : goal.returns-clause-rows
returns-clause-rows g c =
    IfOk-then c.gathered.result _ _ c.gathered.ensures (λ rel h. decoded_all c.args.columns c.args.rows.now c.in_ok-parts.parts.items rel c.in_ok-parts.ensures h)

pub returns-clause-back : goal.returns-clause-back
returns-clause-back g c =
    IfOk-then c.gathered.result _ _ (returns-clause-rows g c) (λ rel h. ap encoded h ∙ rows_again c.args.columns (map (λ row. row.items) c.args.rows.now) c.requires)
