-- The kinds so far, with those of the places that are left, are those of all places.
use Rattle.std.proofs.Common.{◌≡◌, ◌++◌, ◌∷◌, [], drop, map}
use Rattle.au_algebra.specs.Lists.{value_at}
use Rattle.au_encode.specs.Encode.{encode}
use Rattle.au_translate.specs.Translate.{bounded_blocks}
use Rattle.au_value.specs.Order.{kind_of}
use Rattle.au_exec.specs.HeldRows.{first_row}
use Rattle.au_exec.proofs.block_kinds.kinds_in.Given as goal

abbrev pub invariant-loop-place : goal.invariant-loop-place
invariant-loop-place l =
    l.kinds.items ++ map (λ place. kind_of (value_at (first_row (encode (bounded_blocks (l.block ∷ [])))) place)) (drop l.place-index l.places)
    ≡ map (λ place. kind_of (value_at (first_row (encode (bounded_blocks (l.block ∷ [])))) place)) l.places
