-- The records that were read below the header left these marks.
use Rattle.std.proofs.Common.{◌≡◌, ◌∷◌, List}
use Rattle.au_csv.specs.Reader.{HasRead}
use Rattle.au_csv.specs.Texts.{Record}
use Rattle.au_blocks.specs.Marks.{marks}
use Rattle.au_blocks.proofs.inference.narrow_by_first.Given as goal

abbrev pub invariant-loop : goal.invariant-loop
invariant-loop l = record {
  header : Record;
  rows : List Record;
  read : HasRead l.bytes (header ∷ rows) l.reader;
  left : l.marks ≡ marks l.format rows 0 l.fn.marks;
}
