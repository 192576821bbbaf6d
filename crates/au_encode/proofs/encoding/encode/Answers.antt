-- The rows are those of the definition, which decode to the relation.
use Rattle.std.proofs.Common.{ap, ◌∙◌, arith, subst, sym, List}
use Rattle.std.proofs.lemmas.Grind.{common_steps}
use Rattle.au_value.specs.declared.value.Value.{Value}
use Rattle.au_plain.specs.PlanKinds.{HaveKinds}
use Rattle.au_encode.specs.Encode.{AreEncoded, decode as decoded, encoded_kinds}
use Rattle.au_encode.proofs.Decoded.{rows_back, rows_encoded}
use Rattle.au_encode.proofs.EncodedKinds.{rows_have_kinds}
use Rattle.au_encode.proofs.encoding.encode.Goals as goal

pub returns-clause-rows : goal.returns-clause-rows
returns-clause-rows c = grind (arith, common_steps)

pub returns-clause-encodings : goal.returns-clause-encodings
returns-clause-encodings c ks n relation columns =
    subst (λ (rows : List (List Value)). AreEncoded n rows) (sym (returns-clause-rows c)) (rows_encoded ks n c.args.rel.now relation columns)

pub returns-clause-kinds : goal.returns-clause-kinds
returns-clause-kinds c ks relation =
    subst (λ (rows : List (List Value)). HaveKinds (encoded_kinds ks) rows) (sym (returns-clause-rows c)) (rows_have_kinds ks c.args.rel.now relation)

pub returns-clause-back : goal.returns-clause-back
returns-clause-back c n columns = ap (decoded n) (returns-clause-rows c) ∙ rows_back n c.args.rel.now columns
