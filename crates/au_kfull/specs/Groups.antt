-- The rows of an output as the code keeps them,
-- and what a row adds to a sum at least, in the guess world and at most.
use Rattle.std.specs.Prelude.{◌≡◌, ℕ, ◌<◌, ◌^◌, Bool, ◌&&◌, not, List, [], ℤ, filter, length, map, nat_abs, nat_le, sum_by}
use Rattle.std.specs.List.{list_any}
use Rattle.au_value.specs.declared.kinds.Kind.{Kind}
use Rattle.au_value.specs.declared.value.Value.{Value}
use Rattle.au_value.specs.Ranges.{Span, all_certain, all_overlap}
use Rattle.au_algebra.specs.Bounded.{RangeRow, Bounded, Grouped, hull_of, lower_term, guess_term, upper_term}
use Rattle.au_kfull.specs.declared.grouping.Grouping.{Grouping}
use Rattle.au_kfull.specs.declared.keys.Keys.{Keys}
use Rattle.au_kfull.specs.declared.sums.Bound.{Bound}
use Rattle.au_kfull.specs.declared.sums.Bound.TheVariants.{Lower, Guess, Upper}
use Rattle.au_kfull.specs.Keys.{keys_of, HasKinds}

-- the rows of an output whose keys are certain or not, and in which a row is guessed or not
abbrev pub gathered : Keys → Bool → Bool → Bounded → Bounded → Grouped
gathered keys certain guessed belonging members = record {
  belonging = belonging;
  box = [];
  members = members;
  is_certain_member = λ r. all_certain (keys_of keys r.cells) && certain;
  is_guessed = guessed;
}

-- an output of which only the certain members are told
abbrev pub like : Keys → Bool → Grouped
like keys certain = gathered keys certain certain [] []

-- the value of a range that is named
abbrev pub end_of : Bound → Span → Value
end_of Lower r = r.lo
end_of Guess r = r.sg
end_of Upper r = r.hi

-- what a row adds to a sum
abbrev pub term_of : Grouped → Bound → ℕ → RangeRow → ℤ
term_of g Lower c r = lower_term g c r
term_of g Guess c r = guess_term c r
term_of g Upper c r = upper_term g c r

-- the rows of an output
abbrev pub seen : Grouping → Grouped
seen g = gathered g.keys g.is_certain g.is_guessed g.belonging.items g.members.items

-- the sum of the magnitudes of what rows add
abbrev pub magnitude : Grouped → Bound → ℕ → Bounded → ℕ
magnitude g bound c rows = sum_by nat_abs (map (term_of g bound c) rows)

-- the three sums of magnitudes lie in the range
abbrev pub MagnitudesFit : Grouped → ℕ → Type 0
MagnitudesFit g c = (magnitude g Lower c g.members < 2 ^ 127) × (magnitude g Guess c g.belonging < 2 ^ 127) × (magnitude g Upper c g.members < 2 ^ 127)

-- the rows whose keys are not all certain
abbrev pub unsure : Keys → Bounded → Bounded
unsure keys rows = filter (λ r. not (all_certain (keys_of keys r.cells))) rows

-- the rows of the output to which these belong
abbrev pub grouped_with : Keys → Bounded → Bounded → Grouped
grouped_with keys rows belonging =
    let box = hull_of (map (λ r. keys_of keys r.cells) belonging) in
    record {
      belonging = belonging;
      box = box;
      members = filter (λ r. all_overlap (keys_of keys r.cells) box) rows;
      is_certain_member = λ r. all_certain (keys_of keys r.cells) && all_certain box;
      is_guessed = list_any (λ r. nat_le 1 r.annot.guess) belonging;
    }

-- some rows belong, which have the kinds of all; where the keys of all rows are certain, they are the members
pub record IsGroupOf (keys : Keys) (rows belonging : Bounded) : Type 0 where
  pub some : 0 < length belonging
  pub one_kinds : (ks : List Kind) × HasKinds ks rows × HasKinds ks belonging
  pub certain : unsure keys rows ≡ [] → (grouped_with keys rows belonging).members ≡ belonging

-- these are the key ranges and the rows of the output to which some rows belong
pub record IsGrouping (keys : Keys) (rows belonging : Bounded) (box : List Span) (g : Grouping) : Type 0 where
  pub keys_are : g.keys ≡ keys
  pub box_is : box ≡ (grouped_with keys rows belonging).box
  pub belonging_are : g.belonging.items ≡ belonging
  pub members_are : g.members.items ≡ (grouped_with keys rows belonging).members
  pub certain_is : g.is_certain ≡ all_certain (grouped_with keys rows belonging).box
  pub guessed_is : g.is_guessed ≡ (grouped_with keys rows belonging).is_guessed
