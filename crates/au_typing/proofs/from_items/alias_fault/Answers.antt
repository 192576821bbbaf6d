-- An item under the name of an earlier one, or under a new name.
use Rattle.std.proofs.Common.{◌<◌, length, sym, subst, ◌∙◌, rules}
use Rattle.std.specs.Prelude.{Contains}
use Rattle.au_typing.specs.declared.fault.TypingFault.TheVariants as fault
use Rattle.au_typing.proofs.FromItems.{alias_new, alias_same}
use Rattle.au_typing.proofs.from_items.alias_fault.Goals as goal

pub returns-then-is_visible-clause-some : goal.returns-then-is_visible-clause-some
returns-then-is_visible-clause-some c =
    let within : c.loop-place.place < length c.args.from.now = search (rules, c.loop-place-test.true) in
    subst (λ fs. Contains fs (fault.SameAlias c.index-from-place.result.at)) (sym c.loop-place.invariant)
    (alias_same c.args.from.now c.loop-place.place c.index-from-place.result within (search (rules, c.index-from-place.is)) (sym c.is_visible.ensures ∙ c.if-is_visible.true))

pub loop-place-preserved : goal.loop-place-preserved
loop-place-preserved c =
    let within : c.loop-place.place < length c.args.from.now = search (rules, c.loop-place-test.true) in
    c.loop-place.invariant
    ∙ alias_new c.args.from.now c.loop-place.place c.index-from-place.result within (search (rules, c.index-from-place.is)) (sym c.is_visible.ensures ∙ c.if-is_visible.false)
