use Rattle.std.proofs.Common.{◌≡◌, ◌*◌, ◌++◌, string_bytes}
use Rattle.std.specs.List.{flat_map, range_with_len}
use Rattle.au_gen.specs.Generator.{state, header, drawn_block}
use Rattle.au_gen.proofs.table.table_text.Given as goal

abbrev pub invariant-loop-block : goal.invariant-loop-block
invariant-loop-block l = record {
  written : string_bytes l.text ≡ header ++ flat_map (drawn_block l.fn.start) (range_with_len 0 l.block);
  drawn : l.draws ≡ state l.fn.start (3 * l.block);
}
