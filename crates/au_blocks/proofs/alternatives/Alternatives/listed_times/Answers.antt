-- The copies at each place.
use Rattle.std.proofs.Common.{◌∙◌, sym, ap, get_or}
use Rattle.au_blocks.specs.Blocks.{once}
use Rattle.au_blocks.proofs.Lookup.{row-copies}
use Rattle.au_blocks.proofs.alternatives.Alternatives.listed_times.Goals as goal

pub returns : goal.returns
returns c =
    let a = c.self.inside in
    rw (← c.self.view_is)
    (λ i within. row-copies a.count a.columns.items a.times.items i within ∙ ap (λ xs. get_or xs i once) (sym c.as_slice.ensures.value))
