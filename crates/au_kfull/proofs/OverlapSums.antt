-- The sums of a difference over the right rows: which of these are to be looked at.
use Rattle.std.specs.Prelude.{◌≡◌, ℕ, ◌+◌, true, ◌&&◌, not, List, [], ◌∷◌, filter, sum_by, Result, Ok, Err, IsErr, OkIff}
use Rattle.std.specs.List.{AllByRecursion}
use Rattle.std.proofs.Common.{arith, refl, sym, ◌∙◌, ap, subst, inl, inr}
use Rattle.std.proofs.lemmas.Bool.{cases_Bool, true≢false}
use Rattle.std.proofs.lemmas.List.Sums.{sum_by-cons}
use Rattle.au_value.specs.Ranges.{Span, all_overlap, all_certain, all_certainly_equal, guesses}
use Rattle.au_algebra.specs.Bounded.{RangeRow, Bounded, guessing}
use Rattle.au_algebra.specs.Lists.{same_row}
use Rattle.au_algebra.proofs.Each.{all_filter}
use Rattle.au_algebra.proofs.Filters.{filter_again, filter_both}
use Rattle.au_kfull.specs.declared.keys.Keys.TheVariants.{All}
use Rattle.au_kfull.specs.declared.meeting.Meeting.TheVariants.{Guess, Overlap, Certain}
use Rattle.au_kfull.specs.declared.meeting.Part.{Part}
use Rattle.au_kfull.specs.Groups.{unsure}
use Rattle.au_kfull.specs.Keys.{kinds, HasKinds}
use Rattle.au_kfull.specs.Meeting.{count_of, sum_meeting}
use Rattle.au_kfull.specs.Numbers.{IsFound}
use Rattle.au_kfull.proofs.CertainRows.{Held, equal_guesses, certain_meet, certain_right, filter_same}

module _ (part : Part) (cells : List Span) where
  abbrev own : RangeRow → ℕ
  own r = count_of part r.annot

  -- the rows with the same guesses are among those with the same guesses
  pub sum_guess : (rows : Bounded) → sum_meeting Guess part cells (guessing (guesses cells) rows) ≡ sum_meeting Guess part cells rows
  sum_guess rows = ap (sum_by own) (filter_again (λ (r : RangeRow). same_row (guesses cells) (guesses r.cells)) rows)

  module _ (held : Held cells) where
    equal_same : (rows : Bounded) → AllByRecursion (λ r. Held r.cells) rows → AllByRecursion (λ r. (same_row (guesses cells) (guesses r.cells) && all_certainly_equal cells r.cells) ≡ all_certainly_equal cells r.cells) rows
    equal_same [] h = tt
    equal_same (r ∷ rows) h =
        elim (cases_Bool (all_certainly_equal cells r.cells)) [
          | inl e ↦ (ap (λ b. b && all_certainly_equal cells r.cells) (equal_guesses cells r.cells held h.0 e), equal_same rows h.1)
          | inr e ↦ (
            elim (cases_Bool (same_row (guesses cells) (guesses r.cells))) [
              | inl s ↦ rw s refl
              | inr s ↦ rw (s, e) refl
            ],
            equal_same rows h.1,
          )
        ]

    -- and so are those that are certainly equal
    pub sum_certain : (rows : Bounded) → AllByRecursion (λ r. Held r.cells) rows → sum_meeting Certain part cells (guessing (guesses cells) rows) ≡ sum_meeting Certain part cells rows
    sum_certain rows h =
        ap (sum_by own)
        (filter_both (λ (r : RangeRow). all_certainly_equal cells r.cells) (λ (r : RangeRow). same_row (guesses cells) (guesses r.cells)) rows
        ∙ filter_same _ (λ (r : RangeRow). all_certainly_equal cells r.cells) rows (equal_same rows h))

    -- what overlaps a certain row is certainly equal to it, or unsure
    pub sum_overlap : (rows : Bounded) → all_certain cells ≡ true → AllByRecursion (λ r. Held r.cells) rows → sum_meeting Overlap part cells rows ≡ sum_meeting Certain part cells rows + sum_meeting Overlap part cells (unsure All rows)
    sum_overlap [] c h = refl
    sum_overlap (r ∷ rows) c h =
        let over = filter (λ (s : RangeRow). all_overlap cells s.cells) rows in
        let equal = filter (λ (s : RangeRow). all_certainly_equal cells s.cells) rows in
        let others = filter (λ (s : RangeRow). all_overlap cells s.cells) (unsure All rows) in
        let rest = sum_overlap rows c h.1 in
        let a = sum_by-cons own r over in
        let b = sum_by-cons own r equal in
        let d = sum_by-cons own r others in
        elim (cases_Bool (all_certain r.cells)) [
          | inl k ↦
              let e = certain_meet cells r.cells held h.0 c k in
              elim (cases_Bool (all_overlap cells r.cells)) [
                | inl o ↦ rw (k, e, o) (omega (arith, a, b, rest))
                | inr o ↦ rw (k, e, o) rest
              ]
          | inr k ↦ elim (cases_Bool (all_certainly_equal cells r.cells)) [
            | inl e ↦ absurd (true≢false (sym (certain_right cells r.cells e) ∙ k))
            | inr e ↦ elim (cases_Bool (all_overlap cells r.cells)) [
              | inl o ↦ rw (k, e, o) (omega (arith, a, d, rest))
              | inr o ↦ rw (k, e, o) rest
            ]
          ]
        ]

-- rows that were found, and their sums
module _ (right same : Bounded) (cells : List Span) (found : IsFound right same cells) where
  pub equal_found : (part : Part) → sum_meeting Certain part cells same ≡ sum_meeting Certain part cells right
  equal_found part = ap (sum_meeting Certain part cells) found.same_are ∙ sum_certain part cells found.like.held right found.like.all_held

  pub guess_found : (part : Part) → sum_meeting Guess part cells same ≡ sum_meeting Guess part cells right
  guess_found part = ap (sum_meeting Guess part cells) found.same_are ∙ sum_guess part cells right

  pub same_kinds : HasKinds (kinds cells) same
  same_kinds =
      subst (HasKinds (kinds cells)) (sym found.same_are)
      (all_filter (λ r. kinds r.cells ≡ kinds cells) (λ r. same_row (guesses cells) (guesses r.cells)) right found.like.one_kinds)

  -- and unsure rows, among which all are that overlap a certain row and aren't certainly equal to it
  module _ (others : Bounded) (others_are : others ≡ unsure All right) where
    pub others_kinds : HasKinds (kinds cells) others
    others_kinds =
        subst (HasKinds (kinds cells)) (sym others_are)
        (all_filter (λ r. kinds r.cells ≡ kinds cells) (λ r. not (all_certain r.cells)) right found.like.one_kinds)

    pub overlap_found : (part : Part) → all_certain cells ≡ true → sum_meeting Overlap part cells right ≡ sum_meeting Certain part cells right + sum_meeting Overlap part cells others
    overlap_found part c =
        sum_overlap part cells found.like.held right c found.like.all_held
        ∙ ap (λ rs. sum_meeting Certain part cells right + sum_meeting Overlap part cells rs) (sym others_are)

-- a refusal says that what would be is not
pub refused : {T E : Type 0} (r : Result T E) (P : Type 0) (v : T) → IsErr r → (P → ⊥) → OkIff r P v
refused (Ok x) P v h never = absurd (true≢false (sym h))
refused (Err e) P v h never = never
