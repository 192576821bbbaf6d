-- The three intervals are what an index asks of its entries.
use Rattle.std.proofs.Common.{◌≡◌, ℕ, ◌<◌, Bool, true, List, [], ◌∷◌, length, get_or, refl, sym, arith, IsTrue}
use Rattle.std.specs.List.{All, AllPairs}
use Rattle.std.proofs.lemmas.Bool.{true≢false}
use Rattle.std.proofs.lemmas.List.Elements.{All-from_recursion, All-nil}
use Rattle.std.proofs.lemmas.List.Kept.{AllPairs-cons}
use Rattle.au_value.specs.declared.kinds.Kind.TheVariants.{Int}
use Rattle.au_value.specs.declared.value.Value.{Value}
use Rattle.au_value.specs.Order.{at_most, kind_of}
use Rattle.au_overlap.specs.Alike.{values_alike}
use Rattle.au_overlap.specs.Overlap.{AnyTwo, InOrder}
use Rattle.au_evaltests.specs.Intervals.{intervals, first, second, third}

-- both ends are numbers
abbrev IsOfNumbers : Value × Value × ℕ → Type 0
IsOfNumbers e = (kind_of e.0 ≡ Int) × (kind_of e.1 ≡ Int)

of_numbers : All IsOfNumbers intervals
of_numbers = All-from_recursion IsOfNumbers intervals ((refl, refl), ((refl, refl), ((refl, refl), tt)))

alike : (a b : Value) → kind_of a ≡ Int → kind_of b ≡ Int → values_alike a b ≡ true
alike a b is also = rw (is, also) refl

pub any_los : AnyTwo (λ a b. values_alike a.0 b.0) intervals
any_los i j d i_in j_in = alike _ _ (of_numbers i d i_in).0 (of_numbers j d j_in).0

pub any_his : AnyTwo (λ a b. values_alike a.1 b.1) intervals
any_his i j d i_in j_in = alike _ _ (of_numbers i d i_in).1 (of_numbers j d j_in).1

-- a number is alike to each end
pub all_los : (n : Value) → kind_of n ≡ Int → All (λ e. IsTrue (values_alike e.0 n)) intervals
all_los n is k d k_in = alike _ n (of_numbers k d k_in).0 is

pub all_his : (n : Value) → kind_of n ≡ Int → All (λ e. IsTrue (values_alike n e.1)) intervals
all_his n is k d k_in = alike n _ is (of_numbers k d k_in).1

-- each stands before those behind it, by its lower end
pub ordered : AllPairs (InOrder at_most) intervals
ordered =
    let a : All (InOrder at_most first) (second ∷ third ∷ []) = All-from_recursion (InOrder at_most first) (second ∷ third ∷ []) ((refl, λ f. absurd (true≢false (sym f))), ((refl, λ f. absurd (true≢false (sym f))), tt)) in
    let b : All (InOrder at_most second) (third ∷ []) = All-from_recursion (InOrder at_most second) (third ∷ []) ((refl, λ f. absurd (true≢false (sym f))), tt) in
    AllPairs-cons (InOrder at_most) first (second ∷ third ∷ []) a
    (AllPairs-cons (InOrder at_most) second (third ∷ []) b
    (AllPairs-cons (InOrder at_most) third [] (All-nil (InOrder at_most third)) (λ i j d below within. absurd (omega arith))))
