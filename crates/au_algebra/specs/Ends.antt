-- The three values of a range, by name:
-- its guess, its lower end and its upper end.
use Rattle.au_value.specs.declared.value.Value.{Value}
use Rattle.au_value.specs.Ranges.{Span}
use Rattle.au_algebra.specs.declared.range_order.End.{End}
use Rattle.au_algebra.specs.declared.range_order.End.TheVariants.{Guess, Lower, Upper}

-- the value of a range that is named
abbrev pub end_of : End → Span → Value
end_of Guess r = r.sg
end_of Lower r = r.lo
end_of Upper r = r.hi
