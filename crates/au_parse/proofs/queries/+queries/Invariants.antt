use Rattle.std.proofs.Common.{◌+◌, ◌*◌, ◌≤◌, length}
use Rattle.std.specs.Prelude.{option_map}
use Rattle.au_parse.specs.Statements.{query_read}
use Rattle.au_parse.proofs.ListPieces.{left_length}
use Rattle.au_parse.proofs.Sets.{GoesOnSets, GoesOnSources}
use Rattle.au_parse.proofs.queries.+queries.Given as goal

abbrev pub decreases-query : goal.decreases-query
decreases-query l = 16 * length l.tokens.now + 10

abbrev pub decreases-operand : goal.decreases-operand
decreases-operand l = 16 * length l.tokens.now + 9

abbrev pub decreases-select : goal.decreases-select
decreases-select l = 16 * length l.tokens.now + 15

abbrev pub decreases-sources : goal.decreases-sources
decreases-sources l = 16 * length l.tokens.now + 14

abbrev pub decreases-source : goal.decreases-source
decreases-source l = 16 * length l.tokens.now + 13

-- what has been read and what is left make the whole
abbrev pub invariant-query-sides : goal.invariant-query-sides
invariant-query-sides l = GoesOnSets l.tokens (query_read l.tree) l.rest × (length l.rest ≤ length l.tokens)

abbrev pub decreases-query-sides : goal.decreases-query-sides
decreases-query-sides l = length l.rest

-- the sources so far and those that are left make the clause
abbrev pub invariant-sources-list : goal.invariant-sources-list
invariant-sources-list l = GoesOnSources l.tokens l.list.items (option_map (λ x. x.now) l.left) × (left_length (option_map (λ x. x.now) l.left) ≤ length l.tokens + 1)

abbrev pub decreases-sources-list : goal.decreases-sources-list
decreases-sources-list l = left_length (option_map (λ x. x.now) l.left)
