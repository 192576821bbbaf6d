-- What a read that consumed told bytes says of their end.
use Rattle.std.proofs.Common.{◌≡◌, ℕ, ◌<◌, ◌≤◌, List, ◌++◌, Some, None, take, length, ap, ◌∙◌, arith, length-append, length-take-le}
use Rattle.std.specs.Prelude.{Option, Result, Ok, Err, IfOk}
use Rattle.std.specs.Io.{ReadsAtMost}
use Rattle.std.specs.Io.KnownBytes.{Consumes, IsAtEnd, ReadConsumes}
use Rattle.au_io.specs.Files.{EndsWith}

-- n bytes were consumed, none of them only at the end: with room, n is 0 exactly where none was left
pub ends_with : (old new : Option (List ℕ)) (into : List ℕ) (n : ℕ) → n ≤ length into
    → Consumes old new (take n into) → (n ≡ 0 → 0 < length into → IsAtEnd new) → EndsWith old into n
ends_with None new into n within taken end = _
ends_with (Some xs) None into n within taken end = absurd taken
ends_with (Some xs) (Some ys) into n within taken end =
    let counted = ap length taken in
    let sum = length-append (take n into) ys in
    let front = length-take-le n into within in
    λ room. (
      (λ none. taken ∙ (λ i. take (none i) into ++ end none room i)),
      (λ empty. let nothing = ap length empty in omega arith),
    )

-- what a read answers
pub read_ends : {E : Type 0} (old new : Option (List ℕ)) (result : Result ℕ E) (into : List ℕ)
    → ReadsAtMost result into → ReadConsumes old new result into → IfOk result (EndsWith old into)
read_ends old new (Ok n) into within bytes = ends_with old new into n within.0 bytes.0 bytes.1
read_ends old new (Err e) into within bytes = _
