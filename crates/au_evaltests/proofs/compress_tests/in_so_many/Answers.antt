-- The rows have one range of numbers each.
use Rattle.std.proofs.Common.{replicate}
use Rattle.au_value.specs.declared.kinds.Kind.TheVariants.{Int}
use Rattle.au_compress.proofs.Covered.{has_kinds}
use Rattle.au_evaltests.proofs.compress_tests.in_so_many.Goals as goal

pub compressed-requires : goal.compressed-requires
compressed-requires c = record {
  size = c.requires.size;
  one_kind = (replicate 1 Int, has_kinds (replicate 1 Int) c.args.of.now c.requires.relation);
}
