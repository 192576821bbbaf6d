-- Terms over counts.
use Rattle.std.specs.Prelude.{pos}
use Rattle.au_value.specs.declared.value.Value.TheVariants.{Int}
use Rattle.au_plain.specs.declared.expr.Comparison2.TheVariants.{Less}
use Rattle.au_plain.specs.PTerms.{PTerm, Literal, Compare}

abbrev pub zero_term : PTerm
zero_term = Literal (Int (pos 0))

abbrev pub one_term : PTerm
one_term = Literal (Int (pos 1))

-- whether a count is not 0
abbrev pub positive : PTerm → PTerm
positive e = Compare Less zero_term e
