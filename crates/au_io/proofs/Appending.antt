-- Known bytes that grow by one front after the other.
use Rattle.std.proofs.Common.{ℕ, ◌+◌, ◌-◌, List, Some, None, take, drop, length, append_assoc}
use Rattle.std.specs.Prelude.{Option}
use Rattle.std.specs.Io.KnownBytes.{Appends}
use Rattle.std.proofs.Math.Seq.{take-add}
use Rattle.std.proofs.lemmas.List.{take_rest}

-- grown by the first bytes, and then by the next ones
pub appends_more : (old mid new : Option (List ℕ)) (bytes : List ℕ) (at n : ℕ)
    → Appends old mid (take at bytes) → Appends mid new (take n (take (length bytes - at) (drop at bytes)))
    → Appends old new (take (at + n) bytes)
appends_more None mid new bytes at n first second = _
appends_more (Some xs) None new bytes at n first second = absurd first
appends_more (Some xs) (Some ys) None bytes at n first second = absurd second
appends_more (Some xs) (Some ys) (Some zs) bytes at n first second =
    rw (take-add, ← append_assoc, ← first, second, take_rest)
