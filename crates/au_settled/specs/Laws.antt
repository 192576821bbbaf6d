-- What the normal form of rows of numbers is, where these are codes of the rows of an encoded relation.
use Rattle.std.specs.Prelude.{◌≡◌, ℕ, List, map}
use Rattle.au_value.specs.declared.kinds.Kind.{Kind}
use Rattle.au_algebra.specs.Bounded.{normal}
use Rattle.au_algebra.specs.Fits.{triples_fit}
use Rattle.au_codes.specs.Books.{Book}
use Rattle.au_codes.specs.Codes.{CellRows}
use Rattle.au_codes.specs.Decoding.{decoded_row}
use Rattle.au_encode.specs.Encode.{AreEncoded, decode}
use Rattle.au_settled.specs.Coded.{IsCoded}
use Rattle.au_settled.specs.Settled.{HaveCounts, normal_rows, relation_of}

-- The rows have counts; their normal form is codes again, of the encoded rows of the relation's normal form; and the counts
-- of both fit alike.
pub record Settles (c : ℕ) (book : Book) (kinds : List Kind) (rows : CellRows) : Type 0 where
  pub have_counts : HaveCounts c rows
  pub coded : IsCoded book kinds (normal_rows c rows)
  pub encoded : AreEncoded c (map (decoded_row book kinds) (normal_rows c rows))
  pub form : decode c (map (decoded_row book kinds) (normal_rows c rows)) ≡ normal (decode c (map (decoded_row book kinds) rows))
  pub fit : triples_fit (normal (relation_of c rows)) ≡ triples_fit (normal (decode c (map (decoded_row book kinds) rows)))

abbrev pub SettledIsNormal : Type 0
SettledIsNormal =
    (c : ℕ) (book : Book) (kinds : List Kind) (rows : CellRows) →
    IsCoded book kinds rows → AreEncoded c (map (decoded_row book kinds) rows) → Settles c book kinds rows
