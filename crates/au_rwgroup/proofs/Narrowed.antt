-- Items that pass two tests, and what holds of them.
use Rattle.std.specs.Prelude.{◌≡◌, Bool, true, false, ◌&&◌, cond, List, [], ◌∷◌, filter}
use Rattle.std.specs.List.{AllByRecursion}
use Rattle.std.proofs.Common.{refl, sym, ◌∙◌}
use Rattle.std.proofs.lemmas.Bool.{true≢false}
use Rattle.au_algebra.proofs.Filters.{filter_both}

from_filter_by : {A : Type 0} (P : A → Type 0) (test : A → Bool) (b : Bool) (x : A) (xs : List A) → test x ≡ b → (AllByRecursion P (filter test xs) → AllByRecursion (λ y. test y ≡ true → P y) xs) → AllByRecursion P (cond b (x ∷ filter test xs) (filter test xs)) → AllByRecursion (λ y. test y ≡ true → P y) (x ∷ xs)
from_filter_by P test true x xs e rest h = ((λ t. h.0), rest h.1)
from_filter_by P test false x xs e rest h = ((λ t. absurd (true≢false (sym t ∙ e))), rest h)

-- what holds of each that passes
pub from_filter : {A : Type 0} (P : A → Type 0) (test : A → Bool) (xs : List A) → AllByRecursion P (filter test xs) → AllByRecursion (λ x. test x ≡ true → P x) xs
from_filter P test [] h = tt
from_filter P test (x ∷ xs) h = from_filter_by P test (test x) x xs refl (from_filter P test xs) h

absorb : (a b c : Bool) → (b ≡ true → a ≡ true) → (a && (b && c)) ≡ (b && c)
absorb true b c h = refl
absorb false true c h = absurd (true≢false (sym (h refl)))
absorb false false c h = refl

pub filter_valid : {A : Type 0} (P : A → Type 0) (f g : A → Bool) (xs : List A) → AllByRecursion P xs → ((x : A) → P x → f x ≡ g x) → filter f xs ≡ filter g xs
filter_valid P f g [] v same = refl
filter_valid P f g (x ∷ xs) v same = λ i. cond (same x v.0 i) (x ∷ filter_valid P f g xs v.1 same i) (filter_valid P f g xs v.1 same i)

-- those of a wider test that pass a narrower one and another are those of the narrower one that pass the other
pub narrowed : {A : Type 0} (P : A → Type 0) (wide narrow test : A → Bool) (xs : List A) → AllByRecursion P xs → ((x : A) → P x → narrow x ≡ true → wide x ≡ true) → filter (λ x. narrow x && test x) (filter wide xs) ≡ filter test (filter narrow xs)
narrowed P wide narrow test xs v h =
    filter_both (λ x. narrow x && test x) wide xs
    ∙ filter_valid P (λ x. wide x && (narrow x && test x)) (λ x. narrow x && test x) xs v (λ x p. absorb (wide x) (narrow x) (test x) (h x p))
    ∙ sym (filter_both test narrow xs)
