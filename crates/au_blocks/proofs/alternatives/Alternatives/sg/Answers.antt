-- The cell at a place of a column is that of the alternative at this place.
use Rattle.std.proofs.Common.{arith}
use Rattle.au_value.specs.Ranges.{Span}
use Rattle.au_blocks.proofs.Lookup.{column-length, row-cell, row-width}
use Rattle.au_blocks.proofs.alternatives.Alternatives.sg.Goals as goal

pub item-requires : goal.item-requires
item-requires c =
    let a = c.self.inside in
    let within = rw (← c.self.view_is) at c.requires.place in
    let column = rw (← c.self.view_is) at c.requires.column in
    let width = row-width a.count a.columns.items a.times.items c.args.place within in
    rw (c.deref.ensures.value) (omega (arith, width, column))

pub sg-requires : goal.sg-requires
sg-requires c =
    let a = c.self.inside in
    let within = rw (← c.self.view_is) at c.requires.place in
    let column = rw (← c.self.view_is) at c.requires.column in
    let width = row-width a.count a.columns.items a.times.items c.args.place within in
    column-length a.count a.columns.items a.times.items c.args.place c.args.column c.item.result.now c.self.invariant within (omega (arith, width, column)) (rw c.deref.ensures.value at c.item.ensures)

pub returns : goal.returns
returns c =
    let a = c.self.inside in
    let within = rw (← c.self.view_is) at c.requires.place in
    rw (← c.self.view_is, c.sg.ensures)
    (row-cell a.count a.columns.items a.times.items (λ (s : Span). s.sg) c.args.place c.args.column c.item.result.now within (rw c.deref.ensures.value at c.item.ensures))
