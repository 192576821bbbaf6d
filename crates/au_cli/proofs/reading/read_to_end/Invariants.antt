use Rattle.std.proofs.Common.{◌≡◌, ◌+◌, ◌-◌, ◌≤◌, vec_len}
use Rattle.std.specs.Io.KnownBytes.{Consumes}
use Rattle.au_cli.specs.Files.{greatest_size}
use Rattle.au_cli.proofs.reading.read_to_end.Given as goal

abbrev pub invariant-loop-bytes : goal.invariant-loop-bytes
invariant-loop-bytes g l = record {
  files : g.S.Shelf.files l.shelf ≡ g.S.Shelf.files l.initial.shelf;
  faults : g.S.Shelf.faults l.initial.shelf ≤ g.S.Shelf.faults l.shelf;
  absences : g.S.Shelf.absences l.initial.shelf ≤ g.S.Shelf.absences l.shelf;
  size : vec_len l.bytes ≤ greatest_size + 1;
  so_far : Consumes (g.S.Shelf.left l.initial.shelf) (g.S.Shelf.left l.shelf) l.bytes.items;
}

abbrev pub decreases-loop-bytes : goal.decreases-loop-bytes
decreases-loop-bytes g l = (greatest_size + 1) - vec_len l.bytes
