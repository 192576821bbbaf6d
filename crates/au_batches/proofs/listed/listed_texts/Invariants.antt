-- The codes so far are those of the blocks so far.
use Rattle.std.proofs.Common.{◌≡◌, map, take}
use Rattle.au_value.specs.declared.value.Value.TheVariants.{Text}
use Rattle.au_codes.specs.Codes.{code}
use Rattle.au_codes.specs.TextCodes.{text_code}
use Rattle.au_batches.specs.Listed.{listed_value}
use Rattle.au_batches.proofs.listed.listed_texts.Given as goal

abbrev pub invariant-loop-extent : goal.invariant-loop-extent
invariant-loop-extent l = l.made.items ≡ map (λ e. code (text_code l.book) (listed_value (λ t. Text t) l.texts l.part e)) (take l.extent-index l.extents)
