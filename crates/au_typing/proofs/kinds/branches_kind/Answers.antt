-- Where there is a WHEN part, its kind is one that two kinds are brought to.
use Rattle.std.proofs.Common.{◌<◌, length, arith}
use Rattle.std.proofs.lemmas.Bool.Decides.{nat_tests}
use Rattle.au_typing.specs.Results.{scope_view}
use Rattle.au_typing.proofs.Steps.{arms_few}
use Rattle.au_typing.proofs.kinds.branches_kind.Goals as goal

pub returns-clause-few : goal.returns-clause-few
returns-clause-few c =
    let test = c.if-is_empty.ensures in
    let some : 0 < length c.args.arms.now = grind (arith, nat_tests) in
    rw c.kind_of_case.ensures (arms_few (scope_view c.args.scope.now) c.args.arms.now c.args.otherwise.now some)
