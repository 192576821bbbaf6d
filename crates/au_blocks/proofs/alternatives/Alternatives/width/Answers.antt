-- There are as many cells as columns.
use Rattle.std.proofs.Common.{◌∙◌, sym}
use Rattle.au_blocks.proofs.Lookup.{row-width}
use Rattle.au_blocks.proofs.alternatives.Alternatives.width.Goals as goal

pub returns : goal.returns
returns c =
    let a = c.self.inside in
    let within = rw (← c.self.view_is) at c.requires in
    rw (← c.self.view_is) (c.len.ensures ∙ a.columns.ok.0 ∙ sym (row-width a.count a.columns.items a.times.items c.args.place within))
