-- The copies at the place.
use Rattle.std.proofs.Common.{◌∙◌, sym, ap, get_or}
use Rattle.au_blocks.specs.Blocks.{once}
use Rattle.au_blocks.proofs.Lookup.{row-copies}
use Rattle.au_blocks.proofs.alternatives.Alternatives.times.Goals as goal

pub returns-clause-of : goal.returns-clause-of
returns-clause-of c =
    let a = c.self.inside in
    let within = rw (← c.self.view_is) at c.requires in
    let at = c.times_at.ensures ∙ ap (λ xs. get_or xs c.args.place once) c.deref.ensures.value in
    rw (← c.self.view_is, c.copied.ensures.of) (at ∙ sym (row-copies a.count a.columns.items a.times.items c.args.place within))

pub returns-clause-copies : goal.returns-clause-copies
returns-clause-copies c =
    let a = c.self.inside in
    let within = rw (← c.self.view_is) at c.requires in
    let at = c.times_at.ensures ∙ ap (λ xs. get_or xs c.args.place once) c.deref.ensures.value in
    rw (← c.self.view_is, row-copies a.count a.columns.items a.times.items c.args.place within, ← at) c.copied.ensures.copies
