-- The parts of the chain are those of the slice.
use Rattle.std.proofs.Common.{◌∙◌, subst, sym}
use Rattle.rayon.proofs.ToStd.{slice-AllZip}
use Rattle.au_encode.specs.Encode.{IsEncoded}
use Rattle.au_encode.specs.Gathered.{DecodesTo, Part}
use Rattle.au_encode.proofs.PartsDecoded.{Row, each_row}
use Rattle.au_encode.proofs.decoding_rows.parts.Goals as goal

pub collect-requires-clause-ready : goal.collect-requires-clause-ready
collect-requires-clause-ready g c κs within =
    let all = each_row (IsEncoded c.args.columns) c.args.rows.now c.requires in
    rw (c.map.ensures.base, c.map.ensures.f, c.par_iter.ensures)
    (λ k d lt x is. (subst (λ (row : Row). IsEncoded c.args.columns row.items) (sym is) (all k d lt), λ y p. tt))

pub returns : goal.returns
returns g c =
    let h = c.in_ok-parts.ensures in
    let chain = rw (c.map.ensures.base, c.map.ensures.f) at h.1 in
    rw h.2 (slice-AllZip chain.0 c.args.rows.now (chain.1 ∙ c.par_iter.ensures) (λ (row : Row) (part : Part). DecodesTo c.args.columns row.items part) h.0 chain.2)
