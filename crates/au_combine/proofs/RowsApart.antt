-- Boxes of different keys are different rows; so a combined relation has pairwise different rows.
use Rattle.std.specs.Prelude.{◌≡◌, ◌<◌, ℕ, zero, suc, ◌+◌, false, List, [], ◌∷◌, ◌++◌, length, map, filter}
use Rattle.std.specs.List.{AllByRecursion}
use Rattle.std.proofs.Common.{arith, refl, sym, ◌∙◌, ap, subst}
use Rattle.std.proofs.lemmas.Bool.{true≢false, false_from_ne_true}
use Rattle.au_value.specs.declared.kinds.Kind.{Kind}
use Rattle.au_value.specs.declared.value.Value.{Value}
use Rattle.au_value.specs.Ranges.{Span, IsRangeOf, hulls, guesses}
use Rattle.au_value.specs.Lists.{distinct}
use Rattle.au_algebra.specs.Lists.{same_row, copies}
use Rattle.au_algebra.specs.Ordinary.{Rows}
use Rattle.au_algebra.specs.Bounded as bounded
use Rattle.au_algebra.specs.Bounded.{RangeRow, Bounded, hull_of, guessing, merged}
use Rattle.au_algebra.specs.Laws.{IsRangeRow, IsRelation}
use Rattle.au_algebra.proofs.Copies.{same_row_is, same_row_refl}
use Rattle.au_algebra.proofs.Each.{all_filter, all_from}
use Rattle.au_plain.specs.Meaning.{kept}
use Rattle.au_encode.specs.Encode.{encode_row, encode_cells, encode_counts}
use Rattle.au_encode.proofs.Decoded.{cells_length}
use Rattle.au_combine.specs.Boxes.{sg_places}
use Rattle.au_rwexpr.proofs.Places.{EndsOfAll, all_ends_at}
use Rattle.au_rwexpr.proofs.Picks.{Picks, kept_are}
use Rattle.au_combine.proofs.Grouping.{Some, all_occur, some_with}
use Rattle.au_combine.proofs.BoxRows.{hull_long}
use Rattle.au_combine.proofs.JoinGroups.{Apart, distinct_apart}
use Rattle.au_rwexpr.proofs.Coded.{rl, rs, rh}

module _ (e back : List Value → List Value) where
  apart_one : (k : List Value) (ks : Rows) → back (e k) ≡ k → AllByRecursion (λ u. back (e u) ≡ u) ks → AllByRecursion (λ u. same_row k u ≡ false) ks → AllByRecursion (λ u. same_row (e k) (e u) ≡ false) ks
  apart_one k [] b bs a = tt
  apart_one k (u ∷ ks) b bs a = (
    false_from_ne_true (same_row (e k) (e u))
        (λ t. true≢false (sym (same_row_refl k) ∙ ap (same_row k) (sym b ∙ ap back (same_row_is (e k) (e u) t) ∙ bs.0) ∙ a.0)),
    apart_one k ks b bs.1 a.1,
  )

  -- rows that show their keys are as different as these
  pub apart_from : (ks : Rows) → AllByRecursion (λ u. back (e u) ≡ u) ks → Apart (λ k. k) ks → Apart e ks
  apart_from [] b a = tt
  apart_from (k ∷ ks) b a = (apart_one k ks b.0 b.1 a.0, apart_from ks b.1 a.1)

one_mapped : {S T : Type 0} (f : S → T) (e : T → List Value) (x : S) (ys : List S) → AllByRecursion (λ u. same_row (e (f x)) (e (f u)) ≡ false) ys → AllByRecursion (λ u. same_row (e (f x)) (e u) ≡ false) (map f ys)
one_mapped f e x [] v = tt
one_mapped f e x (y ∷ ys) v = (v.0, one_mapped f e x ys v.1)

pub apart_mapped : {S T : Type 0} (f : S → T) (e : T → List Value) (xs : List S) → Apart (λ x. e (f x)) xs → Apart e (map f xs)
apart_mapped f e [] a = tt
apart_mapped f e (x ∷ xs) a = (one_mapped f e x xs a.0, apart_mapped f e xs a.1)

guesses-hulls : (k : ℕ) (xs ys : List Span) → length xs ≡ k → length ys ≡ k → guesses (hulls xs ys) ≡ guesses xs
guesses-hulls k [] ys e h = refl
guesses-hulls k (x ∷ xs) [] e h = let never : ⊥ = omega (arith, e, h) in absurd never
guesses-hulls zero (x ∷ xs) (y ∷ ys) e h = let never : ⊥ = omega (arith, e) in absurd never
guesses-hulls (suc k) (x ∷ xs) (y ∷ ys) e h = λ i. x.sg ∷ guesses-hulls k xs ys (omega (arith, e)) (omega (arith, h)) i

module _ {S : Type 0} (cells : S → List Span) (k : ℕ) where
  -- the hull has the guesses of the first
  pub guesses-hull : (g : S) (gs : List S) → AllByRecursion (λ s. length (cells s) ≡ k) (g ∷ gs) → guesses (hull_of (map cells (g ∷ gs))) ≡ guesses (cells g)
  guesses-hull g [] v = refl
  guesses-hull g (s ∷ gs) v = guesses-hulls k (cells g) (hull_of (map cells (s ∷ gs))) v.0 (hull_long cells k s gs v.1)

guess_picks : (row : List Value) (i k : ℕ) (xs : List Span) → length xs ≡ k → EndsOfAll rl rs rh row i xs → Picks row (sg_places i k) (guesses xs)
guess_picks row i zero [] e z = tt
guess_picks row i (suc k) [] e z = let never : ⊥ = omega (arith, e) in absurd never
guess_picks row i zero (x ∷ xs) e z = let never : ⊥ = omega (arith, e) in absurd never
guess_picks row i (suc k) (x ∷ xs) e z = (z.0.sg, guess_picks row (i + 3) k xs (omega (arith, e)) z.1)

module _ {S : Type 0} (P : S → Type 0) (cells : S → List Span) (k : ℕ) (long : (s : S) → P s → length (cells s) ≡ k) (xs : List S) (ok : AllByRecursion P xs) where
  abbrev keys : S → List Value
  keys s = guesses (cells s)

  -- a box of a key that occurs has the key for its guesses
  module _ (key : List Value) (some : Some keys key xs) where
    abbrev group : List S
    group = filter (λ s. same_row key (keys s)) xs

    longs : AllByRecursion (λ s. length (cells s) ≡ k) (some.first ∷ some.others)
    longs = all_from P (λ s. length (cells s) ≡ k) (some.first ∷ some.others) long (subst (λ ss. AllByRecursion P ss) some.is (all_filter P (λ s. same_row key (keys s)) xs ok))

    pub box_guesses : guesses (hull_of (map cells group)) ≡ key
    box_guesses = ap (λ ss. guesses (hull_of (map cells ss))) some.is ∙ guesses-hull cells k some.first some.others longs ∙ sym (same_row_is key (keys some.first) some.key_is)

    -- and shows it
    pub box_shows : (more : List Value) → kept (sg_places 0 k) (encode_cells (hull_of (map cells group)) ++ more) ≡ key
    box_shows more =
        let box = hull_of (map cells group) in
        let box_long : length box ≡ k = subst (λ ss. length (hull_of (map cells ss)) ≡ k) (sym some.is) (hull_long cells k some.first some.others longs) in
        kept_are (encode_cells box ++ more) (sg_places 0 k) (guesses box) (guess_picks (encode_cells box ++ more) 0 k box box_long (all_ends_at rl rs rh [] more 0 box refl)) ∙ box_guesses

  -- so the boxes of the distinct keys are pairwise different
  pub boxes_apart : (more : List Value → List Value) → Apart (λ key. encode_cells (hull_of (map cells (filter (λ s. same_row key (keys s)) xs))) ++ more key) (distinct same_row (map keys xs))
  boxes_apart more =
      apart_from (λ key. encode_cells (hull_of (map cells (filter (λ s. same_row key (keys s)) xs))) ++ more key) (kept (sg_places 0 k)) (distinct same_row (map keys xs))
      (all_from (λ key. 0 < copies key (map keys xs)) (λ u. kept (sg_places 0 k) (encode_cells (hull_of (map cells (filter (λ s. same_row u (keys s)) xs))) ++ more u) ≡ u) (distinct same_row (map keys xs))
      (λ key o. box_shows key (some_with keys key xs o) (more key)) (all_occur keys xs))
      (distinct_apart (map keys xs))

-- the rows of a combined relation are pairwise different
pub combine_apart : (ks : List Kind) (rows : Bounded) → IsRelation ks rows → Apart encode_row (bounded.combine rows)
combine_apart ks rows ok =
    apart_mapped (λ key. merged (guessing key rows)) encode_row (distinct same_row (map (λ r. guesses r.cells) rows))
    (boxes_apart (IsRangeRow ks) (λ r. r.cells) (length ks) (λ r v. cells_length IsRangeOf ks r.cells v.cells) rows ok (λ key. encode_counts (merged (guessing key rows)).annot))

-- and so are their guesses
pub combine_guesses_apart : (ks : List Kind) (rows : Bounded) → IsRelation ks rows → Apart (λ r. guesses r.cells) (bounded.combine rows)
combine_guesses_apart ks rows ok =
    let shown = λ (r : RangeRow). guesses r.cells in
    let all = distinct same_row (map shown rows) in
    let own = λ (key : List Value). merged (guessing key rows) in
    apart_mapped own shown all
    (apart_from (λ key. shown (own key)) (λ key. key) all
    (all_from (λ key. 0 < copies key (map shown rows)) (λ key. shown (own key) ≡ key) all
    (λ key o. box_guesses (IsRangeRow ks) (λ r. r.cells) (length ks) (λ r v. cells_length IsRangeOf ks r.cells v.cells) rows ok key (some_with shown key rows o)) (all_occur shown rows))
    (distinct_apart (map shown rows)))
