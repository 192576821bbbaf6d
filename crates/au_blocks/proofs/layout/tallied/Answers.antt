-- A plain table, whose records are all alternatives.
use Rattle.std.proofs.Common.{◌≡◌, ◌∙◌, map, sym, ap}
use Rattle.au_blocks.specs.declared.format.Format.TheVariants as format
use Rattle.au_blocks.specs.Entries.{entry_blocks}
use Rattle.au_blocks.specs.Order.{chosen}
use Rattle.au_blocks.specs.Tallies.{tally_of}
use Rattle.au_blocks.proofs.Laying.{plain-chosen, plain-format}
use Rattle.au_blocks.proofs.layout.tallied.Goals as goal

pub returns-clause-tallies : goal.returns-clause-tallies
returns-clause-tallies c =
    let plain : c.args.format ≡ format.Plain = plain-format c.args.format (sym c.has_blocks.ensures ∙ c.if-has_blocks.false) in
    c.in_ok-tallies.ensures ∙ ap (λ f. map tally_of (entry_blocks f c.args.rows.now)) (sym plain)

pub returns-clause-records : goal.returns-clause-records
returns-clause-records c =
    let plain : c.args.format ≡ format.Plain = plain-format c.args.format (sym c.has_blocks.ensures ∙ c.if-has_blocks.false) in
    c.in_ok-lent.ensures ∙ sym (plain-chosen c.args.rows.now) ∙ ap (λ f. chosen f c.args.rows.now) (sym plain)
