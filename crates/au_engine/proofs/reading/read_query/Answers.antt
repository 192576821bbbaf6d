-- Why the text is not read.
use Rattle.std.proofs.Common.{sym, subst}
use Rattle.au_engine.specs.Reading.{TextCause}
use Rattle.au_engine.proofs.ReadCauses.{long_cause, lexed_cause}
use Rattle.au_engine.proofs.reading.read_query.Goals as goal

pub returns-then-text-gt-MAX_LENGTH-clause-refused : goal.returns-then-text-gt-MAX_LENGTH-clause-refused
returns-then-text-gt-MAX_LENGTH-clause-refused c = long_cause c.args.text.now c.if-text-gt-MAX_LENGTH.true

pub returns-in-Err-clause-refused : goal.returns-in-Err-clause-refused
returns-in-Err-clause-refused c =
    subst (λ o. TextCause c.args.text.now o) (sym c.token_fault.ensures)
    (lexed_cause c.args.text.now c.in-Err.fault c.if-text-gt-MAX_LENGTH.false (c.in-Err.ensures).fault)
