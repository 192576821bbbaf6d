-- The rows that code holds, as entries, and what a call answers that puts rows behind others.
use Rattle.std.specs.Prelude.{◌≡◌, List, ◌++◌, map, Result, MatchResult, Vec}
use Rattle.std.specs.declared.alloc.Global.{Global}
use Rattle.au_expr.specs.declared.fault.EvalFault.{EvalFault}
use Rattle.au_expr.specs.declared.fault.EvalFault.TheVariants as fault
use Rattle.au_algebra.specs.Entries.{Entry, entry}

-- cells with an annotation, as code holds them
abbrev pub HeldRow : Type 0 → Type 0 → Type 0
HeldRow C K = Vec C Global × K

abbrev pub held_entry : {C K : Type 0} → HeldRow C K → Entry C K
held_entry r = entry r.0.items r.1

abbrev pub held_entries : {C K : Type 0} → List (HeldRow C K) → List (Entry C K)
held_entries rows = map (λ r. entry r.0.items r.1) rows

-- The rows have been put behind the others, or memory is wanting.
abbrev pub PutsRows : {C K R : Type 0} → List (Entry C K) → List (HeldRow C K) → List (HeldRow C K) → Result R EvalFault → Type 0
PutsRows rows before after result = MatchResult result (λ _. held_entries after ≡ held_entries before ++ rows) (λ f. f ≡ fault.NoMemory)

-- The rows have been made, or memory is wanting.
abbrev pub MakesRows : {C K : Type 0} → List (Entry C K) → Result (Vec (HeldRow C K) Global) EvalFault → Type 0
MakesRows rows result = MatchResult result (λ v. held_entries v.items ≡ rows) (λ f. f ≡ fault.NoMemory)
