-- Results of two calls, in one.
use Rattle.std.specs.Prelude.{Result, Ok, Err}

-- both values, or else the first fault
abbrev pub both_results : {A B E : Type 0} → Result A E → Result B E → Result (A × B) E
both_results (Ok a) (Ok b) = Ok (a, b)
both_results (Ok a) (Err f) = Err f
both_results (Err f) b = Err f
