use Rattle.std.proofs.Common.{◌≡◌, ℕ, length}
use Rattle.std.specs.Prelude.{Any}
use Rattle.au_parse.proofs.places.misplaced.Given as goal

-- a token that is left is a token of the list
abbrev pub invariant-loop-token : goal.invariant-loop-token
invariant-loop-token l = (at : ℕ) → Any (λ t. t.from ≡ at) l.rest → Any (λ t. t.from ≡ at) l.tokens

abbrev pub decreases-loop-token : goal.decreases-loop-token
decreases-loop-token l = length l.rest
