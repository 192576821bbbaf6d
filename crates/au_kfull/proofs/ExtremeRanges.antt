-- The range of a least or of a greatest value, from its three values.
use Rattle.std.specs.Prelude.{◌≡◌, ℕ, Bool, true, false, cond}
use Rattle.std.proofs.Common.{refl, ◌∙◌, ap}
use Rattle.au_value.specs.declared.extreme.Extreme.TheVariants.{Least, Greatest}
use Rattle.au_value.specs.declared.value.Value.{Value}
use Rattle.au_value.specs.Ranges.{range}
use Rattle.au_algebra.specs.declared.query.Agg.TheVariants.{Min, Max}
use Rattle.au_algebra.specs.Bounded.{Grouped, aggregate, guess_if, guessed_there, surely_there, or_else}
use Rattle.au_kfull.specs.declared.sums.Bound.TheVariants.{Lower, Guess, Upper}
use Rattle.au_kfull.specs.Extremes.{extreme_of, values_at}

with_guess : (b : Bool) (lo sg hi : Value) → range lo (cond b sg lo) hi ≡ guess_if b (range lo sg hi)
with_guess true lo sg hi = refl
with_guess false lo sg hi = refl

module _ (g : Grouped) (at : ℕ) (lo sg hi : Value) where
  -- the three values make the range of the least value
  pub least_whole : lo ≡ extreme_of Least (values_at Lower at g.members) → sg ≡ cond g.is_guessed (extreme_of Least (values_at Guess at (guessed_there g))) lo → hi ≡ or_else (surely_there g) (extreme_of Least (values_at Upper at (surely_there g))) (extreme_of Greatest (values_at Upper at g.members)) → range lo sg hi ≡ aggregate g (Min at)
  least_whole l s h =
      (λ i. range (l i) (s i) (h i))
      ∙ ap (λ v. range (extreme_of Least (values_at Lower at g.members)) (cond g.is_guessed (extreme_of Least (values_at Guess at (guessed_there g))) v) (or_else (surely_there g) (extreme_of Least (values_at Upper at (surely_there g))) (extreme_of Greatest (values_at Upper at g.members)))) l
      ∙ with_guess g.is_guessed (extreme_of Least (values_at Lower at g.members)) (extreme_of Least (values_at Guess at (guessed_there g))) (or_else (surely_there g) (extreme_of Least (values_at Upper at (surely_there g))) (extreme_of Greatest (values_at Upper at g.members)))

  -- and that of the greatest value
  pub greatest_whole : lo ≡ or_else (surely_there g) (extreme_of Greatest (values_at Lower at (surely_there g))) (extreme_of Least (values_at Lower at g.members)) → sg ≡ cond g.is_guessed (extreme_of Greatest (values_at Guess at (guessed_there g))) lo → hi ≡ extreme_of Greatest (values_at Upper at g.members) → range lo sg hi ≡ aggregate g (Max at)
  greatest_whole l s h =
      (λ i. range (l i) (s i) (h i))
      ∙ ap (λ v. range (or_else (surely_there g) (extreme_of Greatest (values_at Lower at (surely_there g))) (extreme_of Least (values_at Lower at g.members))) (cond g.is_guessed (extreme_of Greatest (values_at Guess at (guessed_there g))) v) (extreme_of Greatest (values_at Upper at g.members))) l
      ∙ with_guess g.is_guessed (or_else (surely_there g) (extreme_of Greatest (values_at Lower at (surely_there g))) (extreme_of Least (values_at Lower at g.members))) (extreme_of Greatest (values_at Guess at (guessed_there g))) (extreme_of Greatest (values_at Upper at g.members))
