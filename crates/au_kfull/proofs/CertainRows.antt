-- Rows that are certain: two of them overlap where they have the same guesses.
use Rattle.std.specs.Prelude.{◌≡◌, ◌<◌, Bool, true, not, ◌&&◌, List, [], ◌∷◌, length, map, filter, cond, if◌then◌else◌}
use Rattle.std.specs.List.{AllByRecursion}
use Rattle.std.proofs.Common.{arith, refl, sym, ◌∙◌, ap, subst, inl, inr}
use Rattle.std.proofs.lemmas.Bool.{and_parts, and_from, cases_Bool, true≢false}
use Rattle.std.proofs.lemmas.List.{length-map}
use Rattle.au_value.specs.declared.value.Value.{Value}
use Rattle.au_value.specs.Order.{at_most}
use Rattle.au_value.specs.Ranges.{Span, range, certain, holds, is_certain, certainly_equal, all_hold, all_overlap, all_certain, all_certainly_equal, hull, hulls, guesses}
use Rattle.au_value.proofs.OrderLaws.{at_most_trans, at_most_refl, equal-at_most, equal_from, equal_symm, equal_is}
use Rattle.au_algebra.specs.Bounded.{RangeRow, Bounded, hull_of}
use Rattle.au_algebra.specs.Lists.{same_row}
use Rattle.au_algebra.proofs.Certain.{both_held, one_row, all_certain_overlap}
use Rattle.au_algebra.proofs.Copies.{same_row_is}
use Rattle.au_algebra.proofs.FirstSeen.{turned}
use Rattle.au_kfull.specs.declared.keys.Keys.{Keys}
use Rattle.au_kfull.specs.Groups.{grouped_with, unsure}
use Rattle.au_kfull.specs.Keys.{keys_of}
use Rattle.au_kfull.proofs.CertainTables.{certain_guesses}

-- ranges that hold their guesses
abbrev pub Held : List Span → Type 0
Held rs = all_hold rs (guesses rs) ≡ true

-- ranges that are certainly equal have the same guesses
pub equal_guesses : (rs ss : List Span) → Held rs → Held ss → all_certainly_equal rs ss ≡ true → same_row (guesses rs) (guesses ss) ≡ true
equal_guesses rs ss h g e = one_row rs ss (guesses rs) (guesses ss) e h g

-- ranges with the same guesses overlap
pub guesses_overlap : (rs ss : List Span) → Held rs → Held ss → same_row (guesses rs) (guesses ss) ≡ true → all_overlap rs ss ≡ true
guesses_overlap rs ss h g s =
    both_held rs ss (guesses ss) (subst (λ v. all_hold rs v ≡ true) (same_row_is (guesses rs) (guesses ss) s) h) g

-- certain ranges are certainly equal where they overlap
pub certain_meet : (rs ss : List Span) → Held rs → Held ss → all_certain rs ≡ true → all_certain ss ≡ true → all_certainly_equal rs ss ≡ all_overlap rs ss
certain_meet rs ss h g c d =
    elim (cases_Bool (all_overlap rs ss)) [
      | inl o ↦ all_certain_overlap rs ss c d o ∙ sym o
      | inr n ↦ elim (cases_Bool (all_certainly_equal rs ss)) [
        | inl e ↦ absurd (true≢false (sym (guesses_overlap rs ss h g (equal_guesses rs ss h g e)) ∙ n))
        | inr e ↦ e ∙ sym n
      ]
    ]

-- and overlap where they have the same guesses
pub certain_same : (rs ss : List Span) → Held rs → Held ss → all_certain rs ≡ true → all_certain ss ≡ true → all_overlap rs ss ≡ same_row (guesses rs) (guesses ss)
certain_same rs ss h g c d =
    elim (cases_Bool (same_row (guesses rs) (guesses ss))) [
      | inl s ↦ guesses_overlap rs ss h g s ∙ sym s
      | inr n ↦ elim (cases_Bool (all_overlap rs ss)) [
        | inl o ↦ absurd (true≢false (sym (equal_guesses rs ss h g (all_certain_overlap rs ss c d o)) ∙ n))
        | inr o ↦ o ∙ sym n
      ]
    ]

-- a row that is certainly equal to another leaves this one certain
pub certain_right : (rs ss : List Span) → all_certainly_equal rs ss ≡ true → all_certain ss ≡ true
certain_right [] [] h = refl
certain_right [] (b ∷ ss) h = absurd (true≢false (sym h))
certain_right (a ∷ rs) [] h = absurd (true≢false (sym h))
certain_right (a ∷ rs) (b ∷ ss) h =
    let k = and_parts (certainly_equal a b) (all_certainly_equal rs ss) h in
    let j = and_parts (is_certain a && is_certain b) _ k.0 in
    and_from _ _ (and_parts (is_certain a) (is_certain b) j.0).1 (certain_right rs ss k.1)

one_value : (r : Span) → is_certain r ≡ true → holds r r.sg ≡ true → r ≡ certain r.sg
one_value r c h =
    let q = and_parts (at_most r.lo r.sg) (at_most r.sg r.hi) h in
    let back = equal-at_most r.hi r.lo (equal_symm r.hi r.lo ∙ c) in
    let lo : r.lo ≡ r.sg = equal_is r.lo r.sg (equal_from r.lo r.sg q.0 (at_most_trans r.sg r.hi r.lo q.1 back)) in
    let hi : r.hi ≡ r.sg = sym (equal_is r.lo r.hi c) ∙ lo in
    (λ i. range (lo i) r.sg (hi i))

-- certain ranges are their guesses
one_values : (rs : List Span) → all_certain rs ≡ true → Held rs → rs ≡ map certain (guesses rs)
one_values [] c h = refl
one_values (r ∷ rs) c h =
    let p = and_parts (is_certain r) (all_certain rs) c in
    let q = and_parts (holds r r.sg) (all_hold rs (guesses rs)) h in
    (λ i. one_value r p.0 q.0 i ∷ one_values rs p.1 q.1 i)

values_certain : (vs : List Value) → all_certain (map certain vs) ≡ true
values_certain [] = refl
values_certain (v ∷ vs) = and_from _ _ (equal_from v v (at_most_refl v) (at_most_refl v)) (values_certain vs)

values_held : (vs : List Value) → all_hold (map certain vs) vs ≡ true
values_held [] = refl
values_held (v ∷ vs) = and_from _ _ (and_from _ _ (at_most_refl v) (at_most_refl v)) (values_held vs)

hulls_alone : (vs : List Value) → hulls (map certain vs) (map certain vs) ≡ map certain vs
hulls_alone [] = refl
hulls_alone (v ∷ vs) = λ i. hull_alone v i ∷ hulls_alone vs i
  where
    hull_alone : (v : Value) → hull (certain v) (certain v) ≡ certain v
    hull_alone v = ap (λ b. range (if b then v else v) v (if b then v else v)) (at_most_refl v)

-- the hull of rows of the same values
hull_same : (vs : List Value) (rows : List (List Span)) → 0 < length rows → AllByRecursion (λ rs. rs ≡ map certain vs) rows → hull_of rows ≡ map certain vs
hull_same vs [] some h = let never : ⊥ = omega (arith, some) in absurd never
hull_same vs (rs ∷ []) some h = h.0
hull_same vs (rs ∷ ss ∷ rows) some h = (λ i. hulls (h.0 i) (hull_same vs (ss ∷ rows) (omega arith) h.1 i)) ∙ hulls_alone vs

-- two tests that agree on each item leave the same items
pub filter_same : {A : Type 0} (p q : A → Bool) (xs : List A) → AllByRecursion (λ x. p x ≡ q x) xs → filter p xs ≡ filter q xs
filter_same p q [] h = refl
filter_same p q (x ∷ xs) h = λ i. cond (h.0 i) (x ∷ filter_same p q xs h.1 i) (filter_same p q xs h.1 i)

none_fails : {A : Type 0} (test : A → Bool) (xs : List A) → filter (λ x. not (test x)) xs ≡ [] → AllByRecursion (λ x. test x ≡ true) xs
none_fails test [] h = tt
none_fails test (x ∷ xs) h =
    elim (cases_Bool (test x)) [
      | inl t ↦ (t, none_fails test xs (rw t at h))
      | inr f ↦ let never : x ∷ filter (λ y. not (test y)) xs ≡ [] = rw f at h in cc
    ]

-- rows whose keys hold their guesses
abbrev pub KeysHeld : Keys → Bounded → Type 0
KeysHeld k rows = AllByRecursion (λ r. Held (keys_of k r.cells)) rows

module _ (k : Keys) (vs : List Value) where
  abbrev same_key : RangeRow → Bool
  same_key r = same_row vs (guesses (keys_of k r.cells))

  abbrev KeysCertain : Bounded → Type 0
  KeysCertain rows = AllByRecursion (λ r. all_certain (keys_of k r.cells) ≡ true) rows

  alike : (rows : Bounded) → KeysCertain rows → KeysHeld k rows → AllByRecursion (λ rs. rs ≡ map certain vs) (map (λ r. keys_of k r.cells) (filter same_key rows))
  alike [] c h = tt
  alike (r ∷ rows) c h =
      elim (cases_Bool (same_key r)) [
        | inl t ↦
            let here : keys_of k r.cells ≡ map certain vs = one_values (keys_of k r.cells) c.0 h.0 ∙ ap (map certain) (sym (same_row_is vs (guesses (keys_of k r.cells)) t)) in
            rw t (here, alike rows c.1 h.1)
        | inr f ↦ rw f (alike rows c.1 h.1)
      ]

  agree : (rows : Bounded) → KeysCertain rows → KeysHeld k rows → AllByRecursion (λ r. all_overlap (keys_of k r.cells) (map certain vs) ≡ same_key r) rows
  agree [] c h = tt
  agree (r ∷ rows) c h =
      let own = keys_of k r.cells in
      let held : Held (map certain vs) = ap (all_hold (map certain vs)) (certain_guesses vs) ∙ values_held vs in
      let here : all_overlap own (map certain vs) ≡ same_key r =
      certain_same own (map certain vs) h.0 held c.0 (values_certain vs) ∙ ap (same_row (guesses own)) (certain_guesses vs) ∙ turned (guesses own) vs in
      (here, agree rows c.1 h.1)

  -- where all keys are certain, the rows that overlap those of an output are those that belong to it
  pub members_belong : (rows : Bounded) → KeysHeld k rows → 0 < length (filter same_key rows) → unsure k rows ≡ [] → (grouped_with k rows (filter same_key rows)).members ≡ filter same_key rows
  members_belong rows h some none =
      let c = none_fails (λ (r : RangeRow). all_certain (keys_of k r.cells)) rows none in
      let own = map (λ (r : RangeRow). keys_of k r.cells) (filter same_key rows) in
      let some_own : 0 < length own = subst (λ n. 0 < n) (sym (length-map (filter same_key rows) (λ (r : RangeRow). keys_of k r.cells))) some in
      ap (λ box. filter (λ (r : RangeRow). all_overlap (keys_of k r.cells) box) rows) (hull_same vs own some_own (alike rows c h))
      ∙ filter_same (λ (r : RangeRow). all_overlap (keys_of k r.cells) (map certain vs)) same_key rows (agree rows c h)
