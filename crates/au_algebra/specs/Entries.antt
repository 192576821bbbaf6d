-- Rows of a relation: cells with an annotation,
-- which are ranges with triples, or values with counts.
use Rattle.std.specs.Prelude.{List}

-- cells with an annotation
pub record Entry (C K : Type 0) : Type 0 where
  pub cells : List C
  pub annot : K

abbrev pub entry : {C K : Type 0} → List C → K → Entry C K
entry cells annot = record { cells = cells; annot = annot }
