use Rattle.std.proofs.Common.{◌^◌, Some, arith, sym, subst, ap, ◌∙◌}
use Rattle.au_parse.specs.Statements.{counted}
use Rattle.au_parse.proofs.Commas.{IsReached, reached_first, reached_last, reached_next, reached_end, reached_room}
use Rattle.au_parse.proofs.limits.passes.Goals as goal

pub loop-token-init : goal.loop-token-init
loop-token-init c = reached_first (counted c.args.listed) c.args.limit c.args.end c.args.tokens.now c.new-commas.result c.new-commas.ensures

pub is_last-requires : goal.is_last-requires
is_last-requires c =
    reached_room (counted c.args.listed) c.args.limit c.args.end (2 ^ 64) c.args.tokens.now c.loop-token.rest.now c.in-Some.others.now c.in-Some.token.now c.loop-token.commas c.in-Some.ensures.cases.0 c.loop-token.invariant (omega arith)

pub pass-requires : goal.pass-requires
pass-requires c =
    reached_room (counted c.args.listed) c.args.limit c.args.end (2 ^ 64) c.args.tokens.now c.loop-token.rest.now c.in-Some.others.now c.in-Some.token.now c.loop-token.commas c.in-Some.ensures.cases.0 c.loop-token.invariant (omega arith)

pub returns-then-is_last : goal.returns-then-is_last
returns-then-is_last c =
    ap (λ n. Some n) c.place_of.ensures
    ∙ reached_last (counted c.args.listed) c.args.limit c.args.end c.args.tokens.now c.loop-token.rest.now c.in-Some.others.now c.in-Some.token.now c.loop-token.commas c.in-Some.ensures.cases.0 c.loop-token.invariant (sym c.if-is_last.ensures)

pub loop-token-preserved : goal.loop-token-preserved
loop-token-preserved c =
    subst (IsReached (counted c.args.listed) c.args.limit c.args.end c.args.tokens.now c.in-Some.others.now) (sym c.in_ok-pass.ensures)
    (reached_next (counted c.args.listed) c.args.limit c.args.end c.args.tokens.now c.loop-token.rest.now c.in-Some.others.now c.in-Some.token.now c.loop-token.commas c.in-Some.ensures.cases.0 c.loop-token.invariant (sym c.if-is_last.ensures))

pub returns : goal.returns
returns c = reached_end (counted c.args.listed) c.args.limit c.args.end c.args.tokens.now c.loop-token.rest.now c.loop-token.commas c.in_default.ensures.cases c.loop-token.invariant
