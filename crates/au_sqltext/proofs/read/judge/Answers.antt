use Rattle.std.proofs.Common.{◌≡◌, ◌==◌, false, true, length, rules, sym, ◌∙◌}
use Rattle.au_plain.specs.Plans.{plan_tree}
use Rattle.au_sqltext.proofs.ReadBack.{more_behind, other_text, own_text}
use Rattle.au_sqltext.proofs.read.judge.Goals as goal

pub returns-then-not-is_empty-clause-fault : goal.returns-then-not-is_empty-clause-fault
returns-then-not-is_empty-clause-fault c =
    let some : (length c.args.rest.now == 0) ≡ false = search rules in
    more_behind c.args.text.now c.args.rest.now (plan_tree c.args.plan.now) c.requires.flat c.requires.read some

pub returns-then-not-branch-clause-fault : goal.returns-then-not-branch-clause-fault
returns-then-not-branch-clause-fault c =
    let no : c.in_ok-is_plan_of.field-0 ≡ false = search rules in
    other_text c.args.text.now c.args.rest.now (plan_tree c.args.plan.now) c.requires.flat c.requires.read (sym c.in_ok-is_plan_of.ensures ∙ no)

pub returns-clause-own : goal.returns-clause-own
returns-clause-own c =
    let yes : c.in_ok-is_plan_of.field-0 ≡ true = search rules in
    own_text c.args.text.now c.args.rest.now (plan_tree c.args.plan.now) c.requires.flat c.requires.read (sym c.in_ok-is_plan_of.ensures ∙ yes) c.read_numbers.ensures
