-- What an empty list of faults says of its parts.
use Rattle.std.specs.Prelude.{◌≡◌, ℕ, ◌&&◌, Bool, true, false, List, [], ◌∷◌, ◌++◌, Option, Some, None, is_some, is_none}
use Rattle.std.specs.List.{list_all}
use Rattle.std.proofs.Common.{refl}
use Rattle.std.proofs.lemmas.Bool.{false≢true}
use Rattle.au_value.specs.declared.kinds.Kind.{Kind}
use Rattle.au_typing.specs.Scopes.{fault_if, then_faults}
use Rattle.au_typing.specs.Terms.{misfit}
use Rattle.au_typing.specs.declared.fault.TypingFault.{TypingFault}

-- two lists are empty where they are together
pub none_of : {A : Type 0} (xs ys : List A) → xs ++ ys ≡ [] → (xs ≡ []) × (ys ≡ [])
none_of [] ys h = (refl, h)
none_of (x ∷ xs) ys h = cc

-- two stages are without a fault
pub then_none : (fs more : List TypingFault) → then_faults fs more ≡ [] → (fs ≡ []) × (more ≡ [])
then_none [] more h = (refl, h)
then_none (f ∷ fs) more h = cc

-- the test of no fault
pub no_fault : (test : Bool) (f : TypingFault) → fault_if test f ≡ [] → test ≡ false
no_fault true f h = cc
no_fault false f h = refl

-- a test on parts that are known
fits : (known : Bool) (whole : Option Kind) (f : TypingFault) → fault_if (known && is_none whole) f ≡ [] → known ≡ true → is_some whole ≡ true
fits true None f h e = cc
fits true (Some k) f h e = refl
fits false whole f h e = absurd (false≢true e)

-- where the parts are known and fit, the whole has a kind
pub fitting : (at : ℕ) (parts : List (Option Kind)) (whole : Option Kind) → misfit at parts whole ≡ [] → list_all is_some parts ≡ true → is_some whole ≡ true
fitting at parts whole h e = fits (list_all is_some parts) whole _ h e
