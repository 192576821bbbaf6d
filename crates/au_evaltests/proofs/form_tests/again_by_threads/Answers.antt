-- The rows encode ranges of numbers, two in each.
use denote.Param.Send.{sendable}
use Rattle.std.proofs.Common.{List, Vec, Global, map, replicate, rules, subst, sym}
use Rattle.au_value.specs.declared.kinds.Kind.TheVariants.{Int}
use Rattle.au_value.specs.declared.value.Value.{Value}
use Rattle.au_encode.specs.Encode.{AreEncoded}
use Rattle.au_evaltests.proofs.Columns.{have_columns}
use Rattle.au_evaltests.proofs.form_tests.again_by_threads.Goals as goal

pub decode_rows-requires : goal.decode_rows-requires
decode_rows-requires g c = (
  (search (rules, sendable) depth 20),
  subst (λ (rows : List (Vec Value Global)). AreEncoded 2 (map (λ row. row.items) rows)) (sym c.as_slice.ensures.value)
      (c.in_ok-rows.ensures.encodings (replicate 2 Int) 2 c.requires (have_columns Int 2 c.args.of.now c.requires)),
)
