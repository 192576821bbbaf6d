-- What is made of inputs that were made before, if memory sufficed for them.
use Rattle.std.specs.Prelude.{◌≡◌, Result, IfOk, MatchResult}
use Rattle.au_value.specs.declared.faults.NoMemory.{NoMemory}
use Rattle.au_physical.specs.declared.physical.Physical.{Physical}
use Rattle.au_physical.specs.Physicals.{PhysicalTree, physical_tree}

-- a physical plan, made of one
abbrev pub MadeOf : (PhysicalTree → PhysicalTree) → Result Physical NoMemory → Result Physical NoMemory → Type 0
MadeOf made of result = IfOk result (λ p. MatchResult of (λ q. physical_tree p ≡ made (physical_tree q)) (λ _. ⊥))

-- and of two, to which it is related
abbrev pub MadeOfTwo : (PhysicalTree → PhysicalTree → PhysicalTree → Type 0) → Result Physical NoMemory → Result Physical NoMemory → Result Physical NoMemory → Type 0
MadeOfTwo IsMade left right result =
    IfOk result (λ p. MatchResult left (λ l. MatchResult right (λ r. IsMade (physical_tree l) (physical_tree r) (physical_tree p)) (λ _. ⊥)) (λ _. ⊥))
