use Rattle.std.proofs.Common.{arith, sym}
use Rattle.au_parse.proofs.ListPieces.{no_name, behind_as, behind_operand, no_alias, short_list}
use Rattle.au_parse.proofs.lists.aliased.Goals as goal

pub returns-in_default-clause-parts : goal.returns-in_default-clause-parts
returns-in_default-clause-parts c = sym (short_list c.args.tokens.now (omega (arith, c.in_default.ensures.cases)))

pub returns-in_default-split_last-clause-parts : goal.returns-in_default-split_last-clause-parts
returns-in_default-split_last-clause-parts c = sym (short_list c.args.tokens.now (omega (arith, c.in_default-split_last.ensures.cases, c.in-Some.ensures.cases.1)))

pub returns-then-not-is_name-clause-parts : goal.returns-then-not-is_name-clause-parts
returns-then-not-is_name-clause-parts c = sym (no_name c.args.tokens.now c.in-Some.front.now c.in-Some-split_last.rest.now c.in-Some-split_last.before.now c.in-Some.last.now c.in-Some.ensures.cases.0 c.in-Some-split_last.ensures.cases.0 (sym c.if-not-is_name.ensures))

pub returns-then-is_as-clause-parts : goal.returns-then-is_as-clause-parts
returns-then-is_as-clause-parts c = sym (behind_as c.args.tokens.now c.in-Some.front.now c.in-Some-split_last.rest.now c.in-Some-split_last.before.now c.in-Some.last.now c.in-Some.ensures.cases.0 c.in-Some-split_last.ensures.cases.0 (sym c.if-not-is_name.ensures) (sym c.if-is_as.ensures))

pub returns-then-ends_operand-clause-parts : goal.returns-then-ends_operand-clause-parts
returns-then-ends_operand-clause-parts c = sym (behind_operand c.args.tokens.now c.in-Some.front.now c.in-Some-split_last.rest.now c.in-Some-split_last.before.now c.in-Some.last.now c.in-Some.ensures.cases.0 c.in-Some-split_last.ensures.cases.0 (sym c.if-not-is_name.ensures) (sym c.if-is_as.ensures) (sym c.if-ends_operand.ensures))

pub returns-else-ends_operand-clause-parts : goal.returns-else-ends_operand-clause-parts
returns-else-ends_operand-clause-parts c = sym (no_alias c.args.tokens.now c.in-Some.front.now c.in-Some-split_last.rest.now c.in-Some-split_last.before.now c.in-Some.last.now c.in-Some.ensures.cases.0 c.in-Some-split_last.ensures.cases.0 (sym c.if-is_as.ensures) (sym c.if-ends_operand.ensures))
