-- Where those that are left are short, all are.
use Rattle.std.proofs.Common.{[], drop}
use Rattle.std.specs.Prelude.{IsTrue}
use Rattle.std.specs.List.{AllByRecursion}
use Rattle.au_codes.specs.TextCodes.{knows_text}
use Rattle.au_batches.proofs.block_texts.are_short.Given as goal

abbrev pub invariant-loop-text : goal.invariant-loop-text
invariant-loop-text l = AllByRecursion (λ w. IsTrue (knows_text [] w)) (drop l.text-index l.texts) → AllByRecursion (λ w. IsTrue (knows_text [] w)) l.texts
