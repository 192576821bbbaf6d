-- A fault of the clauses.
use Rattle.std.proofs.Common.{map, subst}
use Rattle.au_typing.specs.Results.{clauses_of, from_view}
use Rattle.au_typing.specs.Selects.{resolved_select}
use Rattle.au_typing.proofs.select.select.Goals as goal
use Rattle.au_typing.specs.Queries.{Refuses}

pub returns-in-Err-clause-fault : goal.returns-in-Err-clause-fault
returns-in-Err-clause-fault c =
    subst (λ from. Refuses ((resolved_select (clauses_of c.args.part.now) (map from_view from)).faults) c.in-Err.fault) c.as_slice-2.ensures.value c.in-Err.ensures
