-- What holds of a value holds of what is equal to it.
use Rattle.std.specs.Prelude.{◌≡◌, Err, IfOk, Ok, Result}
use Rattle.std.proofs.Common.{subst}

pub at_equal : {A : Type 0} (x y : A) → x ≡ y → (P : A → Type 0) → P x → P y
at_equal x y is P h = subst P is h

-- the value of a result
pub at_ok : {A E : Type 0} (r : Result A E) (x : A) → r ≡ Ok x → (P : A → Type 0) → IfOk r P → P x
at_ok r x is P h = subst (λ s. IfOk s P) is h

-- what two facts of a value give together
pub from_two : {X E : Type 0} (r : Result X E) (P Q R : X → Type 0) → ((x : X) → P x → Q x → R x) → IfOk r P → IfOk r Q → IfOk r R
from_two (Ok x) P Q R f p q = f x p q
from_two (Err e) P Q R f p q = tt
