-- The first column of the name, and no other or one more.
use Rattle.std.proofs.Common.{◌≡◌, sym, ◌∙◌, Some, true, rules}
use Rattle.au_typing.specs.Results.{scope_view}
use Rattle.au_typing.specs.Scopes.{knows_owner, place_of}
use Rattle.au_typing.proofs.Names.{ambiguous, field_at}
use Rattle.au_typing.proofs.scope.column.Goals as goal

pub returns-then-occurs-clause-fault : goal.returns-then-occurs-clause-fault
returns-then-occurs-clause-fault c =
    let s = scope_view c.args.scope.now in
    let n = c.args.name.now in
    let knows : knows_owner s n.table ≡ true = search (rules, c.if-not-knows_owner.false, c.knows_owner.ensures, c.as_ref.ensures) in
    let place : place_of s n ≡ Some c.in-Some.place = search (rules, c.in-Some.ensures.place, c.as_slice-fields.ensures.value) in
    let more = rw (c.as_slice-fields.ensures.value) at c.occurs.ensures in
    ambiguous s n c.in-Some.place knows place (sym more ∙ c.if-occurs.true)

pub returns-clause-field : goal.returns-clause-field
returns-clause-field c =
    let s = scope_view c.args.scope.now in
    let n = c.args.name.now in
    let place : place_of s n ≡ Some c.in-Some.place = search (rules, c.in-Some.ensures.place, c.as_slice-fields.ensures.value) in
    field_at s n c.in-Some.place c.index-fields-place.result place (search (rules, c.in-Some.ensures.within)) (search (rules, c.index-fields-place.is))
