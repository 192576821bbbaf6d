use Rattle.std.proofs.Common.{◌≡◌, ◌+◌, ◌≤◌, ◌∷◌, List, length}
use Rattle.au_csv.specs.Texts.{Record}
use Rattle.au_blocks.specs.Headers.{format_of}
use Rattle.au_blocks.specs.Intakes.{TakesIn}
use Rattle.au_csv.specs.Reader.{HasRead}
use Rattle.au_blocks.proofs.one_pass.taken_in.Given as goal

-- the records so far, one in each turn, are taken in, and are no more than the bytes
abbrev pub invariant-loop : goal.invariant-loop
invariant-loop l = record {
  rows : List Record;
  read : HasRead l.bytes (l.header ∷ rows) l.reader;
  taken : TakesIn (format_of l.header) (length l.header) l.kinds rows l.intake;
  count : length rows ≡ l.counter;
  few : l.counter ≤ length l.bytes + 1;
}
