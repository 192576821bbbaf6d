-- Where the bytes of a word lie.

use Rattle.std.specs.Prelude.{ℕ, List, string_bytes}
use Rattle.au_value.specs.declared.word.Held.{Held}
use Rattle.au_value.specs.declared.word.Held.TheVariants.{Short, Long}

-- The bytes of a short text, or of a long one.
abbrev pub held_bytes : Held → List ℕ
held_bytes (Short s) = s.bytes
held_bytes (Long s) = string_bytes s
