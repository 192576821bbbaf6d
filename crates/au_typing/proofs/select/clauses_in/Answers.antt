-- A fault of a key, or of another clause.
use Rattle.std.proofs.Common.{subst}
use Rattle.au_typing.specs.Results.{clauses_of, scope_view}
use Rattle.au_typing.specs.Selects.{clauses_faults, setting_of}
use Rattle.au_typing.proofs.Clauses.{key_refuses}
use Rattle.au_typing.proofs.select.clauses_in.Goals as goal
use Rattle.au_typing.specs.Queries.{Refuses}

pub returns-in-Err-terms_of : goal.returns-in-Err-terms_of
returns-in-Err-terms_of c =
    subst (λ g. Refuses (clauses_faults (scope_view c.args.scope.now) g (clauses_of c.args.part.now)) c.in-Err-terms_of.fault) c.in-Ok.ensures.setting c.in-Err-terms_of.ensures

pub returns-in-Err : goal.returns-in-Err
returns-in-Err c =
    key_refuses (scope_view c.args.scope.now) (setting_of (scope_view c.args.scope.now) c.args.joins (clauses_of c.args.part.now)) (clauses_of c.args.part.now) c.in-Err.fault c.in-Err.ensures.fault
