-- Grouping by points guesses what Group guesses.
use Rattle.std.specs.Prelude.{◌≡◌, ℕ, ◌≤◌, ◌<◌, Bool, true, false, cond, List, [], ◌∷◌, ◌++◌, length, map, filter}
use Rattle.std.specs.List.{list_any}
use Rattle.std.proofs.Common.{arith, refl, sym, ◌∙◌, ap}
use Rattle.std.proofs.lemmas.List.{map-append}
use Rattle.std.proofs.lemmas.Bool.{true≢false}
use Rattle.au_value.specs.declared.value.Value.{Value}
use Rattle.au_value.specs.Ranges.{Span, guesses}
use Rattle.au_algebra.specs.declared.query.Agg.{Agg}
use Rattle.au_algebra.specs.Lists.{same_row}
use Rattle.au_algebra.specs.Bounded.{RangeRow, Bounded, aggregate, grouped, output, guessed_keys, group_by, union}
use Rattle.au_algebra.specs.Distribution.{guess_count}
use Rattle.au_algebra.proofs.AggregateGuesses.{aggregates_guess}
use Rattle.au_algebra.proofs.Choices.{cond_zero}
use Rattle.au_algebra.proofs.DistinctKeys.{Keys}
use Rattle.au_algebra.proofs.Each as each
use Rattle.au_algebra.proofs.Each.{all_filter, all_append}
use Rattle.au_algebra.proofs.GuessCounts.{guess-cons, guess-append, guess-present}
use Rattle.au_algebra.proofs.GuessedByGroup as guessed
use Rattle.au_algebra.proofs.GuessWorld.{guess_world, is_there}
use Rattle.au_algebra.proofs.Hulls.{KeysWide}
use Rattle.au_algebra.proofs.Places.{belongs}
use Rattle.au_algebra.proofs.RelationRows.{Triples}
use Rattle.au_points.specs.Points.{at_point, point_output, points_of, other_rows, group_by_points}
use Rattle.au_points.proofs.PointBasics.{certain_guesses}

any_some : (test : RangeRow → Bool) (rows : Bounded) → list_any test rows ≡ true → 0 < length rows
any_some test [] h = absurd (true≢false (sym h))
any_some test (r ∷ rows) h = omega arith

-- a choice of 1 and 0 is at most 1
pub at_most_one : (b : Bool) → cond {A = ℕ} b 1 0 ≤ 1
at_most_one true = omega arith
at_most_one false = omega arith

module _ (key : List Span → List Span) (aggs : List Agg) where
  point_triples : (rows : Bounded) (gs : Keys) → Triples (map (point_output key aggs rows) gs)
  point_triples rows [] = tt
  point_triples rows (g ∷ gs) = (at_most_one (list_any is_there (filter (belongs key g) rows)), point_triples rows gs)

  module _ (key_of : List Value → List Value) (natural : (cells : List Span) → guesses (key cells) ≡ key_of (guesses cells)) (n : ℕ) (rows : Bounded) (wide : KeysWide key n rows) (triples : Triples rows) where
    abbrev own : List Value → Bounded
    own g = filter (belongs key g) rows

    -- where it is guessed, a point guesses what the output of these keys does
    same_guesses : (g : List Value) → list_any is_there (own g) ≡ true → guesses (point_output key aggs rows g).cells ≡ guesses (output key aggs rows g).cells
    same_guesses g h =
        let out = at_point key rows g in
        let old = grouped key rows g in
        let box = guessed.box_guesses key key_of natural n g (own g) (all_filter (λ r. length (key r.cells) ≡ n) (belongs key g) rows wide) (each.passing (belongs key g) rows) (any_some is_there (own g) h) in
        let new_guess = map-append (λ r. r.sg) out.box (map (aggregate out) aggs) ∙ (λ i. certain_guesses g i ++ aggregates_guess out (guess_world (own g)) h (λ v. refl) aggs i) in
        let old_guess = map-append (λ r. r.sg) old.box (map (aggregate old) aggs) ∙ (λ i. box i ++ aggregates_guess old (guess_world (own g)) h (λ v. refl) aggs i) in
        new_guess ∙ sym old_guess

    same_if : (v : List Value) (b : Bool) (g : List Value) → list_any is_there (own g) ≡ b → cond (same_row v (guesses (point_output key aggs rows g).cells)) (cond {A = ℕ} b 1 0) 0 ≡ cond (same_row v (guesses (output key aggs rows g).cells)) (cond b 1 0) 0
    same_if v true g e = ap (λ q. cond (same_row v q) 1 0) (same_guesses g e)
    same_if v false g e =
        cond_zero (same_row v (guesses (point_output key aggs rows g).cells)) 0 refl
        ∙ sym (cond_zero (same_row v (guesses (output key aggs rows g).cells)) 0 refl)

    points_alike : (v : List Value) (gs : Keys) → guess_count (map (point_output key aggs rows) gs) v ≡ guess_count (map (output key aggs rows) gs) v
    points_alike v [] = refl
    points_alike v (g ∷ gs) =
        omega (arith, same_if v (list_any is_there (own g)) g refl, guess-cons v (point_output key aggs rows g) (map (point_output key aggs rows) gs), guess-cons v (output key aggs rows g) (map (output key aggs rows) gs), points_alike v gs)

    old_triples : (gs : Keys) → Triples (map (output key aggs rows) gs)
    old_triples [] = tt
    old_triples (g ∷ gs) = (guessed.triple_holds key key_of natural (own g) (all_filter (λ r. r.annot.guess ≤ r.annot.most) (belongs key g) rows triples), old_triples gs)

    -- beside rows that guess nothing, the points guess what the outputs guess
    points_beside : (others : Bounded) → Triples others → ((v : List Value) → guess_count others v ≡ 0) → (v : List Value) → guess_count (union (map (point_output key aggs rows) (points_of key rows)) others) v ≡ guess_count (group_by key aggs rows) v
    points_beside others small nothing v =
        let points = map (point_output key aggs rows) (points_of key rows) in
        guess-present v (points ++ others) (all_append (λ r. r.annot.guess ≤ r.annot.most) points others (point_triples rows (points_of key rows)) small)
        ∙ guess-append v points others
        ∙ (let none = nothing v in let same = points_alike v (points_of key rows) in omega (arith, none, same))
        ∙ sym (guess-present v (map (output key aggs rows) (guessed_keys key rows)) (old_triples (guessed_keys key rows)))

    -- each row of values is guessed as often by the one grouping as by the other
    pub guessed_alike : Triples (group_by key aggs (other_rows key rows)) → ((v : List Value) → guess_count (group_by key aggs (other_rows key rows)) v ≡ 0) → (v : List Value) → guess_count (group_by_points key aggs rows) v ≡ guess_count (group_by key aggs rows) v
    guessed_alike small nothing v = points_beside (group_by key aggs (other_rows key rows)) small nothing v
