-- What rows decode to, each by itself, where memory sufficed.
use Rattle.std.specs.Prelude.{◌≡◌, ℕ, List, [], ◌∷◌, Result, Ok, Err, IfOk, Vec}
use Rattle.std.specs.declared.alloc.Global.{Global}
use Rattle.au_value.specs.declared.faults.NoMemory.{NoMemory}
use Rattle.au_value.specs.declared.value.Value.{Value}
use Rattle.au_value.specs.Ranges.{Span}
use Rattle.au_annot.specs.Triples.{Counts}
use Rattle.au_algebra.specs.Entries.{entry}
use Rattle.au_algebra.specs.Bounded.{Bounded}
use Rattle.au_encode.specs.Encode.{decode_row}

abbrev pub Part : Type 0
Part = Result (Vec Span Global × Counts) NoMemory

abbrev pub DecodesTo : ℕ → List Value → Part → Type 0
DecodesTo columns row part = IfOk part (λ r. entry r.0.items r.1 ≡ decode_row columns row)

-- the rows of the parts, in order, none of which was refused
abbrev pub AreDecoded : List Part → Bounded → Type 0
AreDecoded [] rows = rows ≡ []
AreDecoded (Err e ∷ parts) rows = ⊥
AreDecoded (Ok r ∷ parts) [] = ⊥
AreDecoded (Ok r ∷ parts) (row ∷ rows) = (row ≡ entry r.0.items r.1) × AreDecoded parts rows
