-- One more block is one more step of the definition.
use Rattle.std.proofs.Common.{◌≡◌, ◌++◌, length, string_bytes, vec_items, ap, ◌∙◌, arith}
use Rattle.std.specs.List.{flat_map, range_with_len}
use Rattle.au_gen.specs.Generator.{header, drawn_block, text}
use Rattle.au_gen.proofs.Blocks.{state_more, text_more}
use Rattle.au_gen.proofs.Lengths.{text_length}
use Rattle.au_gen.proofs.table.table_text.Goals as goal

pub loop-block-preserved : goal.loop-block-preserved
loop-block-preserved c = record {
  written = text_more c.args.start c.loop-block.block c.loop-block.draws (string_bytes c.loop-block.text) (string_bytes c.write_block.new.text)
      c.loop-block.invariant.written c.loop-block.invariant.drawn c.in_ok-write_block.ensures.ok;
  drawn = state_more c.args.start c.loop-block.block c.loop-block.draws c.write_block.new.draws c.loop-block.invariant.drawn c.in_ok-write_block.ensures.draws;
}

-- the text that is given
written : (c : goal.After-into_bytes) → c.into_bytes.result.items ≡ text c.args.start c.args.blocks
unfolding text
written c =
    let all : c.loop-block.block ≡ c.args.blocks = omega arith in
    ap vec_items c.into_bytes.ensures.value
    ∙ c.loop-block.invariant.written
    ∙ ap (λ n. header ++ flat_map (drawn_block c.args.start) (range_with_len 0 n)) all

pub returns : goal.returns
returns c = record {
  value = written c;
  short = omega (arith, c.into_bytes.result.ok.0, ap length (written c), text_length c.args.start c.args.blocks c.requires.few);
}
