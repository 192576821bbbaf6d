-- Of the groups whose keys nobody guessed none is certain and none is guessed.
use Rattle.std.specs.Prelude.{◌≡◌, ℕ, false, cond, nat_le, List, [], ◌∷◌, map, filter}
use Rattle.std.specs.List.{AllByRecursion, list_any}
use Rattle.std.proofs.Common.{refl, ap}
use Rattle.std.proofs.lemmas.Bool.{or_from}
use Rattle.au_value.specs.Ranges.{Span, guesses}
use Rattle.au_algebra.specs.declared.query.Agg.{Agg}
use Rattle.au_algebra.specs.Lists.{same_row}
use Rattle.au_algebra.specs.Bounded.{Bounded, group_by, guessed_keys, output}
use Rattle.au_algebra.proofs.DistinctKeys.{Keys}
use Rattle.au_algebra.proofs.Each.{all_filter}
use Rattle.au_points.specs.BesideGroup.{OthersArePossible}
use Rattle.au_points.specs.Points.{possible_row, other_rows, unsure_rows}
use Rattle.au_points.proofs.Possible.{groups_ask, possible_asks}

-- rows of which no copy is guessed
abbrev NoneGuessed : Bounded → Type 0
NoneGuessed rows = AllByRecursion (λ r. r.annot.guess ≡ 0) rows

none_there : (q : Bounded) → NoneGuessed q → list_any (λ r. nat_le 1 r.annot.guess) q ≡ false
none_there [] h = refl
none_there (r ∷ q) h = or_from (nat_le 1 r.annot.guess) (list_any (λ s. nat_le 1 s.annot.guess) q) (ap (nat_le 1) h.0) (none_there q h.1)

possible_none : (q : Bounded) → NoneGuessed (map possible_row q)
possible_none [] = tt
possible_none (r ∷ q) = (refl, possible_none q)

module _ (key : List Span → List Span) (aggs : List Agg) where
  outputs_none : (rows : Bounded) → NoneGuessed rows → (gs : Keys) → NoneGuessed (map (output key aggs rows) gs)
  outputs_none rows h [] = tt
  outputs_none rows h (g ∷ gs) = (
    ap (λ b. cond {A = ℕ} b 1 0) (none_there (filter (λ r. same_row g (guesses (key r.cells))) rows) (all_filter (λ r. r.annot.guess ≡ 0) (λ r. same_row g (guesses (key r.cells))) rows h)),
    outputs_none rows h gs,
  )

  groups_none : (rows : Bounded) → NoneGuessed rows → NoneGuessed (group_by key aggs rows)
  groups_none rows h = all_filter (λ r. r.annot.guess ≡ 0) _ (map (output key aggs rows) (guessed_keys key rows)) (outputs_none rows h (guessed_keys key rows))

both : (rows : Bounded) → AllByRecursion (λ r. r.annot.least ≡ 0) rows → NoneGuessed rows → AllByRecursion (λ r. (r.annot.least ≡ 0) × (r.annot.guess ≡ 0)) rows
both [] l g = tt
both (r ∷ rows) l g = ((l.0, g.0), both rows l.1 g.1)

pub others_are_possible : OthersArePossible
others_are_possible keys aggs rows =
    let others = other_rows keys rows in
    both (group_by keys aggs others) (groups_ask keys aggs others (possible_asks (unsure_rows keys rows))) (groups_none keys aggs others (possible_none (unsure_rows keys rows)))
