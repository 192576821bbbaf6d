use Rattle.std.proofs.Common.{◌≡◌, ◌++◌, drop}
use Rattle.au_blocks.specs.Columns.{column_texts}
use Rattle.au_blocks.proofs.filling.texts.Given as goal

-- the texts so far stand before those of the records that are left
abbrev pub invariant-loop-record : goal.invariant-loop-record
invariant-loop-record l = l.texts.items ++ column_texts l.format l.place (drop l.record-index l.records) ≡ column_texts l.format l.place l.records
