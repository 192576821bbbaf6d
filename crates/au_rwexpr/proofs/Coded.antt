-- The parts of a range, of a triple and of a kind as columns.
use Rattle.std.specs.Prelude.{◌≡◌, ◌≤◌, ℕ, zero, suc, ◌==◌, true, not, pos}
use Rattle.std.proofs.Common.{arith, refl, ap}
use Rattle.std.proofs.Math.Dec.{eqb-suc-zero}
use Rattle.au_value.specs.declared.kinds.Kind.{Kind}
use Rattle.au_value.specs.declared.value.Value.{Value}
use Rattle.au_value.specs.declared.value.Value.TheVariants as value
use Rattle.au_value.specs.Ranges.{Span}
use Rattle.au_annot.specs.Triples.{Counts}
use Rattle.au_algebra.specs.Bounded.{RangeRow}
use Rattle.au_encode.specs.Encode.{encode_row}
use Rattle.au_rwexpr.proofs.Picks.{coded}

-- the parts of a range and of a triple, as values
abbrev pub rl : Span → Value
rl x = x.lo

abbrev pub rs : Span → Value
rs x = x.sg

abbrev pub rh : Span → Value
rh x = x.hi

abbrev pub cl : Counts → Value
cl t = value.Int (pos t.least)

abbrev pub cg : Counts → Value
cg t = value.Int (pos t.guess)

abbrev pub cm : Counts → Value
cm t = value.Int (pos t.most)

-- an encoded row as such columns
pub as_coded : (r : RangeRow) → encode_row r ≡ coded rl rs rh cl cg cm r.cells r.annot
as_coded r = refl

-- a kind as each of its three columns
abbrev pub own : Kind → Kind
own k = k

pub some_not_none : (n : ℕ) → 1 ≤ n → not (n == 0) ≡ true
some_not_none zero h = let never : ⊥ = omega (arith, h) in absurd never
some_not_none (suc n) h = ap not (eqb-suc-zero n)
