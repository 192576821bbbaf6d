-- What a pass over sorted rows gives.
use Rattle.std.specs.Prelude.{◌≡◌, ◌+◌, ◌^◌, ◌≤◌, Bool, true, false, cond, List, [], ◌∷◌, ◌++◌, map, length}
use Rattle.std.specs.List.{AllByRecursion}
use Rattle.std.specs.List.Sorted.{IsSortedBy}
use Rattle.std.proofs.Common.{arith, refl, sym, ◌∙◌, ap, subst}
use Rattle.std.proofs.lemmas.List.{append-nil, map-append}
use Rattle.au_algebra.specs.Bounded.{RangeRow, Bounded, normal}
use Rattle.au_algebra.specs.Fits.{triples_fit}
use Rattle.au_algebra.proofs.Each.{all_append}
use Rattle.au_algebra.proofs.Runs.{joins, runs_from, row_below, sorted_ascends, runs_normal}
use Rattle.au_algebra.proofs.TripleFits.{IsInRange, RunsSoFar, at_end, one_too_many, all_fit}

none_left : {X : Type 0} (xs : List X) → length xs ≡ 0 → xs ≡ []
none_left [] h = refl
none_left (x ∷ xs) h = absurd (omega (arith, h))

module _ {X : Type 0} (f : X → RangeRow) (items : List X) (first : X) (later : List X) (split : items ≡ first ∷ later) (up : IsSortedBy (row_below f) items) where
  runs_are : runs_from (f first) (map f later) ≡ normal (map f items)
  runs_are =
      runs_normal (f first) (map f later) (sorted_ascends f first later (subst (IsSortedBy (row_below f)) split up))
      ∙ ap (λ xs. normal (map f xs)) (sym split)

  -- behind the last row the rows that are done with are the normal form
  pub ended : (seen left done : List X) (current : X) → seen ++ left ≡ later → length left ≡ 0 → RunsSoFar (f first) (map f seen) (map f done) (f current) → map f (done ++ current ∷ []) ≡ normal (map f items)
  ended seen left done current e n h =
      let all : seen ≡ later = sym (append-nil seen) ∙ ap (λ xs. seen ++ xs) (sym (none_left left n)) ∙ e in
      map-append f done (current ∷ [])
      ∙ sym (at_end (f first) (map f seen) (map f done) (f current) h)
      ∙ ap (λ xs. runs_from (f first) (map f xs)) all
      ∙ runs_are

  -- where a sum is past the range the normal form is
  pub passed : (seen left done : List X) (current next : X) → seen ++ next ∷ left ≡ later → RunsSoFar (f first) (map f seen) (map f done) (f current) → joins (f current) (f next) ≡ true → 2 ^ 127 ≤ (f current).annot.most + (f next).annot.most → triples_fit (normal (map f items)) ≡ false
  passed seen left done current next e h j m =
      ap triples_fit (sym runs_are ∙ ap (λ xs. runs_from (f first) (map f xs)) (sym e) ∙ ap (runs_from (f first)) (map-append f seen (next ∷ left)))
      ∙ one_too_many (f first) (map f seen) (map f done) (f current) (f next) (map f left) h j m

-- the rows that are done with lie in the range
pub done_fit : {X : Type 0} (f : X → RangeRow) (done : List X) (current : X) → AllByRecursion IsInRange (map f done) → IsInRange (f current) → triples_fit (map f (done ++ current ∷ [])) ≡ true
done_fit f done current h k =
    ap triples_fit (map-append f done (current ∷ []))
    ∙ all_fit (map f done ++ f current ∷ []) (all_append IsInRange (map f done) (f current ∷ []) h (k, tt))

-- a row that may be put behind others
pub map_put : {X : Type 0} (f : X → RangeRow) (b : Bool) (xs : List X) (x : X) → map f (xs ++ cond b [] (x ∷ [])) ≡ map f xs ++ cond b [] (f x ∷ [])
map_put f true xs x = map-append f xs []
map_put f false xs x = map-append f xs (x ∷ [])

-- what holds of the others and of the row
pub all_put : (P : RangeRow → Type 0) (b : Bool) (rows : Bounded) (r : RangeRow) → AllByRecursion P rows → P r → AllByRecursion P (rows ++ cond b [] (r ∷ []))
all_put P true rows r h p = all_append P rows [] h tt
all_put P false rows r h p = all_append P rows (r ∷ []) h (p, tt)
