-- The alternatives of the columns are those of the records.
use Rattle.std.proofs.Common.{◌≡◌, List, length}
use Rattle.std.proofs.lemmas.List.Elements.{All-map}
use Rattle.au_value.specs.Ranges.{Span}
use Rattle.au_blocks.specs.OnePass.{Filled}
use Rattle.au_blocks.proofs.OnePassColumns.{made-over}
use Rattle.au_blocks.proofs.fillers.filled_alternatives.Goals as goal

pub of-requires : goal.of-requires
of-requires c =
    rw (c.in_ok-cells.ensures) (All-map (λ (cells : List Span). length cells ≡ c.args.count) (λ (x : Filled). x.cells) c.args.columns.items c.requires)

pub returns : goal.returns
returns c f kinds rows has over long wide =
    rw (c.of.ensures, c.in_ok-cells.ensures, c.new.ensures.items, over, ← long) (made-over f kinds rows has wide)
