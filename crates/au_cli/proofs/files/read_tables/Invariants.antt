-- The tables so far and those of the words left are those of all words.
use Rattle.std.proofs.Common.{◌≡◌, ◌≤◌, length, map, drop}
use Rattle.au_words.specs.CommandLine.{seen_table}
use Rattle.au_cli.specs.Files.{greatest_total}
use Rattle.au_cli.proofs.TablesRead.{ReadSoFar}
use Rattle.au_cli.proofs.files.read_tables.Given as goal

abbrev pub invariant-loop-word : goal.invariant-loop-word
invariant-loop-word g l = record {
  files : g.S.Shelf.files l.shelf ≡ g.S.Shelf.files l.initial.shelf;
  faults : g.S.Shelf.faults l.initial.shelf ≤ g.S.Shelf.faults l.shelf;
  absences : g.S.Shelf.absences l.initial.shelf ≤ g.S.Shelf.absences l.shelf;
  small : l.read ≤ greatest_total;
  count : length l.tables.items ≡ l.word-index;
  so_far : ReadSoFar (g.S.Shelf.files l.initial.shelf) l.purpose l.first l.before (map seen_table l.words) l.tables.items l.word-index l.read (map seen_table (drop l.word-index l.words));
}
