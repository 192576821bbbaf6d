-- Two lists of rows put together overflow where one of them does.
use Rattle.std.specs.Prelude.{◌≡◌, Bool, true, false, ◌||◌, refl}

pub front_over : (p q : Bool) → p ≡ true → (p || q) ≡ true
front_over p q over = λ i. over i || q

pub back_over : (p q : Bool) → q ≡ true → (p || q) ≡ true
back_over true q over = refl
back_over false q over = over
