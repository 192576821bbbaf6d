-- What is made of results that were joined is made of the results themselves.
use Rattle.std.specs.Prelude.{◌≡◌, Result, Ok, Err}
use Rattle.std.proofs.Common.{subst}
use Rattle.au_value.specs.Results.{both_results}
use Rattle.au_typing.specs.Joined.{OfPair, OfTriple}
use Rattle.au_typing.specs.Results.{OfTwo, OfThree}
use Rattle.au_typing.specs.declared.fault.TypingFault.{TypingFault}

pub of_two : {A B R : Type 0} (Made : A → B → Result R TypingFault → Type 0) (x : Result A TypingFault) (y : Result B TypingFault)
    (p : Result (A × B) TypingFault) (r : Result R TypingFault) → p ≡ both_results x y → OfPair Made p r → OfTwo Made x y r
of_two Made (Ok x) (Ok y) p r is of = subst (λ q. OfPair Made q r) is of
of_two Made (Ok x) (Err f) p r is of = subst (λ q. OfPair Made q r) is of
of_two Made (Err f) y p r is of = subst (λ q. OfPair Made q r) is of

pub of_three : {A B C R : Type 0} (Made : A → B → C → Result R TypingFault → Type 0) (x : Result A TypingFault) (y : Result B TypingFault) (z : Result C TypingFault)
    (p : Result ((A × B) × C) TypingFault) (r : Result R TypingFault) → p ≡ both_results (both_results x y) z → OfTriple Made p r → OfThree Made x y z r
of_three Made (Ok x) (Ok y) (Ok z) p r is of = subst (λ q. OfTriple Made q r) is of
of_three Made (Ok x) (Ok y) (Err f) p r is of = subst (λ q. OfTriple Made q r) is of
of_three Made (Ok x) (Err f) z p r is of = subst (λ q. OfTriple Made q r) is of
of_three Made (Err f) y z p r is of = subst (λ q. OfTriple Made q r) is of
