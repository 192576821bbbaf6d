-- Each row is coded.
use Rattle.std.proofs.Common.{sym, ◌∙◌, arith, Vec, Global}
use Rattle.au_value.specs.declared.value.Value.{Value}
use Rattle.au_codes.specs.CodedPlans.{coded_literals}
use Rattle.au_codes.specs.TextCodes.{text_code}
use Rattle.au_codes.proofs.Lists.{map-map}
use Rattle.au_codes.proofs.CodedInPlace.{same_items}
use Rattle.au_codes.proofs.coding.code_rows.Goals as goal

pub returns : goal.returns
returns c =
    same_items (λ (row : Vec Value Global). row.items) (λ (row : Vec Value Global). coded_literals (text_code c.args.book.now) row.items) c.loop-i.rows c.args.rows.now c.loop-i.invariant.0
    (λ k d l. c.loop-i.invariant.2 k d (omega (arith, l, c.loop-i-test.false)))
    ∙ sym (map-map (λ (row : Vec Value Global). row.items) (coded_literals (text_code c.args.book.now)) c.args.rows.now)
