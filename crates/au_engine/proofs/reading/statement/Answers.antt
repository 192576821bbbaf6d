-- Why the tokens are not read.
use Rattle.std.proofs.Common.{sym, subst}
use Rattle.au_parse.specs.Parsing.{HasCause}
use Rattle.au_engine.specs.Reading.{TokensCause}
use Rattle.au_engine.proofs.ReadCauses.{parsed_cause}
use Rattle.au_engine.proofs.reading.statement.Goals as goal

pub returns-in-Err-clause-refused : goal.returns-in-Err-clause-refused
returns-in-Err-clause-refused c =
    let cause = subst (λ tokens. HasCause c.args.length tokens c.in-Err.fault) c.items.ensures (c.in-Err.ensures).cause in
    subst (λ o. TokensCause c.args.length c.args.list.now o) (sym c.parse_fault.ensures) (parsed_cause c.args.length c.args.list.now c.in-Err.fault cause)
