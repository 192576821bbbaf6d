-- Both triples are in order, so their greatest counts have the greatest sum.
use Rattle.std.proofs.Common.{refl}
use Rattle.au_algebra.proofs.TripleFits.{most_past}
use Rattle.au_algebra.proofs.normal_form.sum.Goals as goal

pub returns-in-Err-clause-overflow : goal.returns-in-Err-clause-overflow
returns-in-Err-clause-overflow c =
    most_past c.args.a c.args.b c.most-first.ensures.triple c.most-second.ensures.triple (c.in-Err.ensures.overflow.0 refl)
