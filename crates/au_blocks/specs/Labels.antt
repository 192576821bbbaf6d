-- The labels of blocks as a set of texts in the order of insertion.
use Rattle.std.specs.Prelude.{ℕ, List, map}
use Rattle.std.specs.Borrow.{Bor}
use Rattle.std.specs.HashSet.{HashSet}

-- the bytes of the labels that are lent
abbrev pub lent_labels : {S : Type 0} → HashSet (Bor (List ℕ)) S → List (List ℕ)
lent_labels s = map (λ k. k.now) s.keys
