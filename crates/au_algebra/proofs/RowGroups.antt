-- Items in groups by a row of values, one item more.
use Rattle.std.proofs.Common.{◌≡◌, ℕ, suc, ◌+◌, ◌≤◌, Bool, true, false, List, [], ◌∷◌, ◌++◌, length, map, inl, inr, refl, sym, ap, ◌∙◌, arith, subst}
use Rattle.std.specs.List.{list_any, position_or_len}
use Rattle.std.proofs.lemmas.Bool.{cases_Bool}
use Rattle.std.proofs.lemmas.List.{append-nil, map-append}
use Rattle.std.proofs.lemmas.List.Elements.{filter-append}
use Rattle.indexmap.specs.IndexSet.{insert_key}
use Rattle.au_value.specs.Lists.{distinct}
use Rattle.au_value.proofs.FirstSeen.{Apart, one, any-distinct, apart-distinct}
use Rattle.au_algebra.specs.Keys.{with_key, groups_by, with_item_at}
use Rattle.au_algebra.specs.Lists.{same_row}
use Rattle.au_algebra.proofs.FirstSeen.{Cells, same_row-Decides, itself, turned, same, distinct-push}

module _ {A : Type 0} (key : A → Cells) (items : List A) (x : A) where
  abbrev k : Cells
  k = key x

  abbrev G : Cells → List A
  G values = with_key key items values

  abbrev H : Cells → List A
  H values = with_key key (items ++ x ∷ []) values

  -- the items with the key of the one more
  pub own : H k ≡ G k ++ x ∷ []
  own = rw (itself k) at (filter-append (λ (y : A). same_row k (key y)) items (x ∷ []))

  -- and those with another
  pub keeps : (m : Cells) → same_row k m ≡ false → H m ≡ G m
  keeps m apart =
      let no : same_row m k ≡ false = turned m k ∙ apart in
      rw no at (filter-append (λ (y : A). same_row m (key y)) items (x ∷ [])) ∙ append-nil (G m)

  others-kept : (ls : List Cells) → list_any (same_row k) ls ≡ false → map H ls ≡ map G ls
  others-kept [] absent = refl
  others-kept (m ∷ ls) absent =
      elim (cases_Bool (same_row k m)) [
        | inl here ↦ let t : true ≡ false = rw here at absent in cc
        | inr here ↦
            let later : list_any (same_row k) ls ≡ false = rw here at absent in
            rw (keeps m here, others-kept ls later) refl
      ]

  known-step : (ls : List Cells) → Apart same_row ls → list_any (same_row k) ls ≡ true → with_item_at (map G ls) (position_or_len (same_row k) ls) x ≡ map H ls
  known-step [] apart present = cc
  known-step (m ∷ ls) (one absent apart) present =
      elim (cases_Bool (same_row k m)) [
        | inl here ↦
            let e : k ≡ m = same k m here in
            let none : list_any (same_row k) ls ≡ false = rw e absent in
            let first : G m ++ x ∷ [] ≡ H m = subst (λ (c : Cells). G c ++ x ∷ [] ≡ H c) e (sym own) in
            rw (here, others-kept ls none) (ap (λ (g : List A). g ∷ map G ls) first)
        | inr here ↦
            let later : list_any (same_row k) ls ≡ true = rw here at present in
            let next : 1 + position_or_len (same_row k) ls ≡ suc (position_or_len (same_row k) ls) = omega arith in
            rw (here, next, keeps m here, known-step ls apart later) refl
      ]

  new-step : (ls : List Cells) → G k ≡ [] → list_any (same_row k) ls ≡ false → with_item_at (map G ls) (position_or_len (same_row k) ls) x ≡ map H (ls ++ k ∷ [])
  new-step [] none absent = ap (λ (g : List A). g ∷ []) (sym (own ∙ ap (λ (g : List A). g ++ x ∷ []) none))
  new-step (m ∷ ls) none absent =
      elim (cases_Bool (same_row k m)) [
        | inl here ↦ let t : true ≡ false = rw here at absent in cc
        | inr here ↦
            let later : list_any (same_row k) ls ≡ false = rw here at absent in
            let next : 1 + position_or_len (same_row k) ls ≡ suc (position_or_len (same_row k) ls) = omega arith in
            rw (here, next, keeps m here, new-step ls none later) refl
      ]

  -- there is none where no item has the key
  pub no-members : (ys : List A) → list_any (same_row k) (map key ys) ≡ false → with_key key ys k ≡ []
  no-members [] absent = refl
  no-members (y ∷ ys) absent =
      elim (cases_Bool (same_row k (key y))) [
        | inl here ↦ let t : true ≡ false = rw here at absent in cc
        | inr here ↦
            let later : list_any (same_row k) (map key ys) ≡ false = rw here at absent in
            rw here (no-members ys later)
      ]

  -- the keys
  pub keys-push : distinct same_row (map key (items ++ x ∷ [])) ≡ insert_key same_row (distinct same_row (map key items)) k
  keys-push = ap (distinct same_row) (map-append key items (x ∷ [])) ∙ distinct-push (map key items) k

  -- and the groups
  pub groups-push : with_item_at (groups_by key items) (position_or_len (same_row k) (distinct same_row (map key items))) x ≡ groups_by key (items ++ x ∷ [])
  groups-push =
      let ls = distinct same_row (map key items) in
      elim (cases_Bool (list_any (same_row k) ls)) [
        | inl here ↦ known-step ls (apart-distinct same_row (map key items)) here ∙ ap (map H) (sym (rw here at keys-push))
        | inr here ↦ new-step ls (no-members items (sym (any-distinct same_row same_row-Decides k (map key items)) ∙ here)) here ∙ ap (map H) (sym (rw here at keys-push))
      ]

-- a place among some rows, or behind them
pub within : (p : Cells → Bool) (ls : List Cells) → position_or_len p ls ≤ length ls
within p [] = omega arith
within p (x ∷ ls) =
    elim (cases_Bool (p x)) [
      | inl here ↦ rw here (omega arith)
      | inr here ↦ let more = within p ls in rw here (omega arith)
    ]
