use Rattle.std.proofs.Common.{length}
use Rattle.au_parse.specs.Statements.{counted}
use Rattle.au_parse.proofs.Commas.{IsReached}
use Rattle.au_parse.proofs.limits.passes.Given as goal

-- the tokens that are left decide, with the commas so far
abbrev pub invariant-loop-token : goal.invariant-loop-token
invariant-loop-token l = IsReached (counted l.listed) l.limit l.end l.tokens l.rest l.commas

abbrev pub decreases-loop-token : goal.decreases-loop-token
decreases-loop-token l = length l.rest
