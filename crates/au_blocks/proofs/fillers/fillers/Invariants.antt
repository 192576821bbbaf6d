use Rattle.std.proofs.Common.{◌≡◌, ◌++◌, [], drop, map}
use Rattle.au_blocks.specs.OnePass.{filled}
use Rattle.au_blocks.proofs.fillers.fillers.Given as goal

-- the columns so far stand before those of the kinds that are left
abbrev pub invariant-loop-kind : goal.invariant-loop-kind
invariant-loop-kind l = l.columns.items ++ map (λ k. filled k []) (drop l.kind-index l.kinds) ≡ map (λ k. filled k []) l.kinds
