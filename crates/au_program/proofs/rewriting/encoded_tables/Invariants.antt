-- The kinds so far are those of the schemas so far.
use Rattle.std.proofs.Common.{◌≡◌, map, take}
use Rattle.au_encode.specs.Encode.{encoded_kinds}
use Rattle.au_typing.specs.Queries.{relations, table_kinds}
use Rattle.au_program.proofs.rewriting.encoded_tables.Given as goal

abbrev pub invariant-loop-schema : goal.invariant-loop-schema
invariant-loop-schema l = map (λ ks. ks.items) l.all.items ≡ map encoded_kinds (table_kinds (relations (take l.schema-index l.schemas)))
