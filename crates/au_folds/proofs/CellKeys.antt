-- Rows of cells told apart, and the groups of some rows by their keys, one row more.
use Rattle.std.proofs.Common.{◌≡◌, ℕ, suc, ◌+◌, ◌<◌, Bool, true, false, cond, List, [], ◌∷◌, ◌++◌, length, map, Decides, inl, inr, refl, sym, ap, ◌∙◌, arith, subst}
use Rattle.std.specs.Cmp.{decided}
use Rattle.std.specs.List.{list_any}
use Rattle.std.specs.Ordering.{int_eq}
use Rattle.std.proofs.lemmas.Bool.{and_from, and_parts, cases_Bool, true≢false}
use Rattle.std.proofs.lemmas.Bool.Decides.{Decides-int_eq}
use Rattle.std.proofs.lemmas.List.{append-nil, map-append}
use Rattle.std.proofs.lemmas.List.Elements.{filter-append}
use Rattle.au_value.specs.Lists.{distinct}
use Rattle.au_value.proofs.FirstSeen.{Apart, one, any-distinct, apart-distinct, distinct-last}
use Rattle.au_codes.specs.Codes.{Cells, CellRows}
use Rattle.au_codes.specs.CellMeaning.{cell_members, cells_kept, same_cells}
use Rattle.au_folds.specs.Places.{place_of, seen_with}
use Rattle.au_folds.specs.Puts.{put_at}

-- rows that are found equal are one row, and a row is found equal to itself
pub same : (xs ys : Cells) → same_cells xs ys ≡ true → xs ≡ ys
same [] [] h = refl
same [] (y ∷ ys) h = absurd (true≢false (sym h))
same (x ∷ xs) [] h = absurd (true≢false (sym h))
same (x ∷ xs) (y ∷ ys) h = let p = and_parts _ _ h in λ i. (Decides-int_eq x y).0 p.0 i ∷ same xs ys p.1 i

pub itself : (xs : Cells) → same_cells xs xs ≡ true
itself [] = refl
itself (x ∷ xs) = and_from (int_eq x x) (same_cells xs xs) ((Decides-int_eq x x).1 refl) (itself xs)

pub same_cells-Decides : (x y : Cells) → Decides (same_cells x y) (x ≡ y)
same_cells-Decides x y = (same x y, λ e. ap (same_cells x) (sym e) ∙ itself x)

pub turned : (x y : Cells) → same_cells x y ≡ same_cells y x
turned x y = (decided same_cells same_cells-Decides).symm x y

-- the distinct rows, one more
pub distinct-push : (xs : CellRows) (y : Cells) → distinct same_cells (xs ++ y ∷ []) ≡ seen_with (distinct same_cells xs) y
distinct-push xs y = distinct-last same_cells same_cells-Decides xs y

some_if : (b : Bool) (r : Cells) (rows : CellRows) → b ≡ true → 0 < length (cond b (r ∷ rows) rows)
some_if true r rows h = omega arith
some_if false r rows h = cc

more_if : (b : Bool) (r : Cells) (rows : CellRows) → 0 < length rows → 0 < length (cond b (r ∷ rows) rows)
more_if true r rows h = omega arith
more_if false r rows h = h

-- there is no member where no row has the key
pub none_with : (keys : List ℕ) (k : Cells) (rows : CellRows) → list_any (same_cells k) (map (cells_kept keys) rows) ≡ false → cell_members keys rows k ≡ []
none_with keys k [] absent = refl
none_with keys k (r ∷ rows) absent =
    elim (cases_Bool (same_cells k (cells_kept keys r))) [
      | inl here ↦ let t : true ≡ false = rw here at absent in cc
      | inr here ↦
          let later : list_any (same_cells k) (map (cells_kept keys) rows) ≡ false = rw here at absent in
          rw here (none_with keys k rows later)
    ]

-- a key that some row has is that of some member
pub some_members : (keys : List ℕ) (k : Cells) (rows : CellRows) → list_any (same_cells k) (map (cells_kept keys) rows) ≡ true → 0 < length (cell_members keys rows k)
some_members keys k [] h = cc
some_members keys k (r ∷ rows) h =
    elim (cases_Bool (same_cells k (cells_kept keys r))) [
      | inl here ↦ some_if (same_cells k (cells_kept keys r)) r (cell_members keys rows k) here
      | inr here ↦ more_if (same_cells k (cells_kept keys r)) r (cell_members keys rows k) (some_members keys k rows (rw here at h))
    ]

module _ (keys : List ℕ) (rows : CellRows) (r : Cells) where
  abbrev k : Cells
  k = cells_kept keys r

  abbrev G : Cells → CellRows
  G key = cell_members keys rows key

  abbrev H : Cells → CellRows
  H key = cell_members keys (rows ++ r ∷ []) key

  -- the rows with the key of the one more
  own : H k ≡ G k ++ r ∷ []
  own = rw (itself k) at (filter-append (λ (y : Cells). same_cells k (cells_kept keys y)) rows (r ∷ []))

  -- and those with another
  keeps : (m : Cells) → same_cells k m ≡ false → H m ≡ G m
  keeps m apart =
      let no : same_cells m k ≡ false = turned m k ∙ apart in
      rw no at (filter-append (λ (y : Cells). same_cells m (cells_kept keys y)) rows (r ∷ [])) ∙ append-nil (G m)

  -- the keys
  pub keys-push : distinct same_cells (map (cells_kept keys) (rows ++ r ∷ [])) ≡ seen_with (distinct same_cells (map (cells_kept keys) rows)) k
  keys-push = ap (distinct same_cells) (map-append (cells_kept keys) rows (r ∷ [])) ∙ distinct-push (map (cells_kept keys) rows) k

  -- what is kept of the members of each group
  module _ {A S : Type 0} (f : CellRows → S) (first : A → S) (more : S → A → S) (x : A) (alone : f (r ∷ []) ≡ first x) (beside : (ms : CellRows) → 0 < length ms → f (ms ++ r ∷ []) ≡ more (f ms) x) where
    others_kept : (ls : CellRows) → list_any (same_cells k) ls ≡ false → map (λ m. f (H m)) ls ≡ map (λ m. f (G m)) ls
    others_kept [] absent = refl
    others_kept (m ∷ ls) absent =
        elim (cases_Bool (same_cells k m)) [
          | inl here ↦ let t : true ≡ false = rw here at absent in cc
          | inr here ↦
              let later : list_any (same_cells k) ls ≡ false = rw here at absent in
              rw (keeps m here, others_kept ls later) refl
        ]

    known_step : (ls : CellRows) → Apart same_cells ls → list_any (same_cells k) ls ≡ true → 0 < length (G k) → put_at first more (map (λ m. f (G m)) ls) (place_of ls k) x ≡ map (λ m. f (H m)) ls
    known_step [] apart present some = cc
    known_step (m ∷ ls) (one absent apart) present some =
        elim (cases_Bool (same_cells k m)) [
          | inl here ↦
              let e : k ≡ m = same k m here in
              let none : list_any (same_cells k) ls ≡ false = rw e absent in
              let own_one : more (f (G k)) x ≡ f (H k) = sym (ap f own ∙ beside (G k) some) in
              let this : more (f (G m)) x ≡ f (H m) = subst (λ (c : Cells). more (f (G c)) x ≡ f (H c)) e own_one in
              rw (here, others_kept ls none) (ap (λ (s : S). s ∷ map (λ m. f (G m)) ls) this)
          | inr here ↦
              let later : list_any (same_cells k) ls ≡ true = rw here at present in
              let next : 1 + place_of ls k ≡ suc (place_of ls k) = omega arith in
              rw (here, next, keeps m here, known_step ls apart later some) refl
        ]

    new_step : (ls : CellRows) → G k ≡ [] → list_any (same_cells k) ls ≡ false → put_at first more (map (λ m. f (G m)) ls) (place_of ls k) x ≡ map (λ m. f (H m)) (ls ++ k ∷ [])
    new_step [] none absent =
        let this : first x ≡ f (H k) = sym (ap f (own ∙ ap (λ (ms : CellRows). ms ++ r ∷ []) none) ∙ alone) in
        ap (λ (s : S). s ∷ []) this
    new_step (m ∷ ls) none absent =
        elim (cases_Bool (same_cells k m)) [
          | inl here ↦ let t : true ≡ false = rw here at absent in cc
          | inr here ↦
              let later : list_any (same_cells k) ls ≡ false = rw here at absent in
              let next : 1 + place_of ls k ≡ suc (place_of ls k) = omega arith in
              rw (here, next, keeps m here, new_step ls none later) refl
        ]

    pub kept_push : put_at first more (map (λ m. f (G m)) (distinct same_cells (map (cells_kept keys) rows))) (place_of (distinct same_cells (map (cells_kept keys) rows)) k) x
        ≡ map (λ m. f (H m)) (distinct same_cells (map (cells_kept keys) (rows ++ r ∷ [])))
    kept_push =
        let ks = map (cells_kept keys) rows in
        let ls = distinct same_cells ks in
        let known = any-distinct same_cells same_cells-Decides k ks in
        elim (cases_Bool (list_any (same_cells k) ls)) [
          | inl here ↦
              known_step ls (apart-distinct same_cells ks) here (some_members keys k rows (sym known ∙ here))
              ∙ ap (map (λ m. f (H m))) (sym (rw here at keys-push))
          | inr here ↦ new_step ls (none_with keys k rows (sym known ∙ here)) here ∙ ap (map (λ m. f (H m))) (sym (rw here at keys-push))
        ]
