-- A name that is used twice, or what is answered over its scope.
use Rattle.std.proofs.Common.{map}
use Rattle.au_typing.specs.Results.{ClausesAnswer, clauses_of, from_view}
use Rattle.au_typing.specs.Selects.{clauses_faults, is_join, scope_of, setting_of}
use Rattle.au_typing.proofs.Clauses.{select_step}
use Rattle.au_typing.proofs.FromItems.{alias_refuses}
use Rattle.au_typing.proofs.select.clauses_over.Goals as goal

pub returns-in-Some : goal.returns-in-Some
returns-in-Some c =
    let s = scope_of (map from_view c.args.from.now) in
    alias_refuses c.args.from.now (clauses_faults s (setting_of s (is_join (map from_view c.args.from.now)) (clauses_of c.args.part.now)) (clauses_of c.args.part.now)) c.in-Some.fault c.in-Some.ensures.some

pub returns-in_ok-scope-in-None : goal.returns-in_ok-scope-in-None
returns-in_ok-scope-in-None c =
    let found : ClausesAnswer (scope_of (map from_view c.args.from.now)) (is_join (map from_view c.args.from.now)) (clauses_of c.args.part.now) c.clauses_in.result =
    rw (c.in_ok-scope-in-None.ensures, c.is_join.ensures) at c.clauses_in.ensures in
    select_step (clauses_of c.args.part.now) c.args.from.now c.clauses_in.result c.in-None.ensures.none found
