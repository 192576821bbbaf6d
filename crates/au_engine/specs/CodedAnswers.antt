-- Rows that encode a relation.
use Rattle.std.specs.Prelude.{◌≡◌, ℕ}
use Rattle.au_algebra.specs.Bounded.{Bounded}
use Rattle.au_algebra.specs.Ordinary.{Rows}
use Rattle.au_encode.specs.Encode.{AreEncoded, decode}

-- each encodes a row of so many columns, and they decode to the relation
abbrev pub Encodes : ℕ → Rows → Bounded → Type 0
Encodes columns rows rel = AreEncoded columns rows × (decode columns rows ≡ rel)
