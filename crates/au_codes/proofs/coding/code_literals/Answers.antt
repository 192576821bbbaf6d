-- Each value is coded.
use Rattle.std.proofs.Common.{sym, ◌∙◌, arith}
use Rattle.au_value.specs.declared.value.Value.{Value}
use Rattle.au_codes.specs.CodedPlans.{coded_literal}
use Rattle.au_codes.specs.TextCodes.{text_code}
use Rattle.au_codes.proofs.CodedInPlace.{same_items, map_itself}
use Rattle.au_codes.proofs.coding.code_literals.Goals as goal

pub returns : goal.returns
returns c =
    sym (map_itself c.loop-i.row)
    ∙ same_items (λ (v : Value). v) (coded_literal (text_code c.args.book.now)) c.loop-i.row c.args.row.now c.loop-i.invariant.0
    (λ k d l. c.loop-i.invariant.2 k d (omega (arith, l, c.loop-i-test.false)))
