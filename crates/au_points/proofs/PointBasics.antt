-- Certain ranges of some values.
use Rattle.std.specs.Prelude.{◌≡◌, ◌<◌, Bool, true, false, ◌&&◌, cond, List, [], ◌∷◌, length, map}
use Rattle.std.specs.List.{AllByRecursion, AllZip}
use Rattle.std.proofs.Common.{arith, refl, sym, ◌∙◌, ap}
use Rattle.std.proofs.lemmas.Bool.{and_from}
use Rattle.au_value.specs.declared.kinds.Kind.{Kind}
use Rattle.au_value.specs.declared.value.Value.{Value}
use Rattle.au_value.specs.Order.{at_most}
use Rattle.au_value.specs.Ranges.{Span, IsRangeOf, range, certain, hull, hulls, holds, is_certain, all_hold, all_certain, guesses}
use Rattle.au_algebra.specs.Bounded.{hull_of}
use Rattle.au_value.proofs.OrderLaws.{at_most_refl, equal_from}
use Rattle.au_value.proofs.RangeLaws.{IsRange-certain}

-- they hold these values
pub hold_themselves : (vs : List Value) → all_hold (map certain vs) vs ≡ true
hold_themselves [] = refl
hold_themselves (v ∷ vs) =
    and_from (holds (certain v) v) (all_hold (map certain vs) vs) (and_from (at_most v v) (at_most v v) (at_most_refl v) (at_most_refl v)) (hold_themselves vs)

-- they guess these values
pub certain_guesses : (vs : List Value) → guesses (map certain vs) ≡ vs
certain_guesses [] = refl
certain_guesses (v ∷ vs) = ap (λ ws. v ∷ ws) (certain_guesses vs)

-- they are certain
pub points_certain : (vs : List Value) → all_certain (map certain vs) ≡ true
points_certain [] = refl
points_certain (v ∷ vs) =
    and_from (is_certain (certain v)) (all_certain (map certain vs)) (equal_from v v (at_most_refl v) (at_most_refl v)) (points_certain vs)

-- those of the guesses have the kinds of the ranges
pub certain_ranges : (ks : List Kind) (rs : List Span) → AllZip IsRangeOf ks rs → AllZip IsRangeOf ks (map certain (guesses rs))
certain_ranges [] [] z = tt
certain_ranges [] (r ∷ rs) z = elim z [ ]
certain_ranges (k ∷ ks) [] z = elim z [ ]
certain_ranges (k ∷ ks) (r ∷ rs) z = (record { range = IsRange-certain r.sg; kind = z.0.kind }, certain_ranges ks rs z.1)

pub and_true : (b c : Bool) → c ≡ true → b && c ≡ b
and_true true c e = e
and_true false c e = refl

-- ranges are certain where they are and a point is
pub certain_beside : (rs : List Span) (vs : List Value) → all_certain rs ≡ all_certain rs && all_certain (map certain vs)
certain_beside rs vs = sym (and_true (all_certain rs) (all_certain (map certain vs)) (points_certain vs))

-- ---- their hulls

either : (b : Bool) (v : Value) → cond b v v ≡ v
either true v = refl
either false v = refl

point_hull : (v : Value) → hull (certain v) (certain v) ≡ certain v
point_hull v = λ i. range (either (at_most v v) v i) v (either (at_most v v) v i)

point_hulls : (p : List Value) → hulls (map certain p) (map certain p) ≡ map certain p
point_hulls [] = refl
point_hulls (v ∷ p) = λ i. point_hull v i ∷ point_hulls p i

-- the hull of a point that stands several times
pub hull_of_point : (p : List Value) (q : List (List Span)) → AllByRecursion (λ cells. cells ≡ map certain p) q → 0 < length q → hull_of q ≡ map certain p
hull_of_point p [] h some = let never : ⊥ = omega (arith, some) in absurd never
hull_of_point p (x ∷ []) h some = h.0
hull_of_point p (x ∷ y ∷ q) h some = (λ i. hulls (h.0 i) (hull_of_point p (y ∷ q) h.1 (omega arith) i)) ∙ point_hulls p
