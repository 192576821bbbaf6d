-- The last block is whole, or none is begun.
use Rattle.std.proofs.Common.{List, sym, subst}
use Rattle.au_csv.specs.Texts.{Record}
use Rattle.au_blocks.specs.declared.block_places.BlockPlaces.{BlockPlaces}
use Rattle.au_blocks.specs.declared.format.Format.{Format}
use Rattle.au_blocks.specs.BlockPlaces.{Lays}
use Rattle.au_blocks.proofs.BlocksSoFar.{Found, all-whole, last-whole}
use Rattle.au_blocks.proofs.block_places.BlockPlaces.finish.Goals as goal
use Rattle.au_blocks.proofs.block_places.BlockPlaces.finish.Goals.{then-whole+in_ok-place+else-not-branch, else-whole}

whole : (c : goal.After-drop-whole-2) → (f : Format) (rows : List Record) → Lays f rows c.args.self → Found f rows c.if-whole.whole.extents.items
whole c f rows lays =
    let ends = λ (held : BlockPlaces). Found f rows held.extents.items in
    elim c.if-whole.branch [
      | then-whole+in_ok-place+else-not-branch w ↦
          subst ends (sym w.whole-is) (last-whole f rows c.args.self w.place.new.self w.if-whole.true lays (w.in_ok-place.ensures w.if-not-branch.false))
      | else-whole w ↦ subst ends (sym w.whole-is) (all-whole f rows c.args.self w.if-whole.false lays)
    ]

pub returns-clause-places : goal.returns-clause-places
returns-clause-places c f rows lays = (whole c f rows lays).places

pub returns-clause-sound : goal.returns-clause-sound
returns-clause-sound c f rows lays = (whole c f rows lays).sound

pub returns-clause-order : goal.returns-clause-order
returns-clause-order c f rows lays = (whole c f rows lays).order
