-- The rows encode ranges of numbers, two in each.
use Rattle.std.proofs.Common.{replicate}
use Rattle.au_value.specs.declared.kinds.Kind.TheVariants.{Int}
use Rattle.au_evaltests.proofs.Columns.{have_columns}
use Rattle.au_evaltests.proofs.form_tests.again.Goals as goal

pub decode-requires : goal.decode-requires
decode-requires c =
    c.in_ok-rows.ensures.encodings (replicate 2 Int) 2 c.requires (have_columns Int 2 c.args.of.now c.requires)
