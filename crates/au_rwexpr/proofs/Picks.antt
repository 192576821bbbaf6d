-- Columns taken by their places, and the places of encoded rows.
use Rattle.std.specs.Prelude.{◌≡◌, ℕ, zero, suc, ◌+◌, ◌*◌, List, [], ◌∷◌, ◌++◌, length, Some, unwrap_or, pos, option_and_then}
use Rattle.std.specs.List.{AllZip}
use Rattle.std.proofs.Common.{arith, refl, sym, ◌∙◌, ap, subst, append_assoc}
use Rattle.std.proofs.lemmas.List.{length-append}
use Rattle.au_value.specs.declared.kinds.Kind.{Kind}
use Rattle.au_value.specs.declared.value.Value.{Value}
use Rattle.au_value.specs.declared.value.Value.TheVariants.{Int}
use Rattle.au_algebra.specs.Lists.{value_at}
use Rattle.au_plain.specs.Meaning.{kept}
use Rattle.au_plain.specs.PlanKinds.{kept_kinds}
use Rattle.au_rwexpr.specs.Cells.{three_places, cell_places}
use Rattle.au_rwexpr.proofs.Places.{At, at_more, at_past, Ends, EndsOfAll, ends, all_ends, all_ends_at, ends_more, all_ends_more}

-- the columns of these places
abbrev pub Picks : {A : Type 0} → List A → List ℕ → List A → Type 0
Picks row places vs = AllZip (At row) places vs

pub picks_more : {A : Type 0} (row : List A) (ps qs : List ℕ) (vs ws : List A) → Picks row ps vs → Picks row qs ws → Picks row (ps ++ qs) (vs ++ ws)
picks_more row [] qs [] ws z y = y
picks_more row [] qs (v ∷ vs) ws z y = elim z [ ]
picks_more row (p ∷ ps) qs [] ws z y = elim z [ ]
picks_more row (p ∷ ps) qs (v ∷ vs) ws z y = (z.0, picks_more row ps qs vs ws z.1 y)

pub kept_are : (row : List Value) (ps : List ℕ) (vs : List Value) → Picks row ps vs → kept ps row ≡ vs
kept_are row [] [] z = refl
kept_are row [] (v ∷ vs) z = elim z [ ]
kept_are row (p ∷ ps) [] z = elim z [ ]
kept_are row (p ∷ ps) (v ∷ vs) z =
    let first : value_at row p ≡ v = ap (λ o. unwrap_or o (Int (pos 0))) z.0 in λ i. first i ∷ kept_are row ps vs z.1 i

pub kinds_kept : (row : List Kind) (ps : List ℕ) (vs : List Kind) → Picks row ps vs → kept_kinds ps row ≡ Some vs
kinds_kept row [] [] z = refl
kinds_kept row [] (v ∷ vs) z = elim z [ ]
kinds_kept row (p ∷ ps) [] z = elim z [ ]
kinds_kept row (p ∷ ps) (v ∷ vs) z =
    λ i. option_and_then (λ k. option_and_then (λ ks. Some (k ∷ ks)) (kinds_kept row ps vs z.1 i)) (z.0 i)

module _ {A X : Type 0} (l s h : X → A) where
  pub pick_three : (row : List A) (i : ℕ) (x : X) → Ends l s h row i x → Picks row (three_places i) (ends l s h x)
  pick_three row i x e = (e.lo, (e.sg, (e.hi, tt)))

  pub pick_cells : (row : List A) (i c : ℕ) (xs : List X) → length xs ≡ c → EndsOfAll l s h row i xs → Picks row (cell_places i c) (all_ends l s h xs)
  pick_cells row i zero [] n e = tt
  pick_cells row i (suc c) [] n e = let never : ⊥ = omega (arith, n) in absurd never
  pick_cells row i zero (x ∷ xs) n e = let never : ⊥ = omega (arith, n) in absurd never
  pick_cells row i (suc c) (x ∷ xs) n e = (e.0.lo, (e.0.sg, (e.0.hi, pick_cells row (i + 3) c xs (omega (arith, n)) e.1)))

  pub all_ends_long : (xs : List X) → length (all_ends l s h xs) ≡ 3 * length xs
  all_ends_long [] = refl
  all_ends_long (x ∷ xs) = omega (arith, all_ends_long xs)

  pub all_ends-append : (xs ys : List X) → all_ends l s h (xs ++ ys) ≡ all_ends l s h xs ++ all_ends l s h ys
  all_ends-append [] ys = refl
  all_ends-append (x ∷ xs) ys = λ i. l x ∷ s x ∷ h x ∷ all_ends-append xs ys i

  -- three columns behind others, with more to come
  pub ends_past : (p more : List A) (m : ℕ) (x : X) → length p ≡ m → Ends l s h (p ++ (ends l s h x ++ more)) m x
  ends_past p more m x e = record {
    lo = at_past p (ends l s h x ++ more) 0 m (l x) (omega (arith, e)) refl;
    sg = at_past p (ends l s h x ++ more) 1 (m + 1) (s x) (omega (arith, e)) refl;
    hi = at_past p (ends l s h x ++ more) 2 (m + 2) (h x) (omega (arith, e)) refl;
  }

-- places stay while columns are added
pub picks_wider : {A : Type 0} (row more : List A) (ps : List ℕ) (vs : List A) → Picks row ps vs → Picks (row ++ more) ps vs
picks_wider row more [] [] z = tt
picks_wider row more [] (v ∷ vs) z = elim z [ ]
picks_wider row more (p ∷ ps) [] z = elim z [ ]
picks_wider row more (p ∷ ps) (v ∷ vs) z = (at_more row more p v z.0, picks_wider row more ps vs z.1)

-- an encoded row: three columns for each of several things, then three for another
module _ {A X T : Type 0} (l s h : X → A) (tl ts th : T → A) where
  abbrev pub coded : List X → T → List A
  coded xs t = all_ends l s h xs ++ ends tl ts th t

  module _ (c : ℕ) (xs : List X) (t : T) (long : length xs ≡ c) where
    pub cells_long : length (all_ends l s h xs) ≡ 3 * c
    cells_long = all_ends_long l s h xs ∙ ap (λ n. 3 * n) long

    pub coded_long : length (coded xs t) ≡ 3 * c + 3
    coded_long = length-append (all_ends l s h xs) (ends tl ts th t) ∙ ap (λ n. n + 3) cells_long

    pub coded_cells : EndsOfAll l s h (coded xs t) 0 xs
    coded_cells = all_ends_at l s h [] (ends tl ts th t) 0 xs refl

    pub coded_triple : Ends tl ts th (coded xs t) (3 * c) t
    coded_triple = ends_past tl ts th (all_ends l s h xs) [] (3 * c) t cells_long

    -- the cells, two new columns and the last one
    pub select_picks : (extra : List A) (x y : A) (m : ℕ) → length (coded xs t ++ extra) ≡ m → Picks ((coded xs t ++ extra) ++ (x ∷ y ∷ [])) (cell_places 0 c ++ (m ∷ (m + 1) ∷ (3 * c + 2) ∷ [])) (all_ends l s h xs ++ (x ∷ y ∷ th t ∷ []))
    select_picks extra x y m em =
        let one = coded xs t ++ extra in
        let row = one ++ (x ∷ y ∷ []) in
        let cells = all_ends_more l s h one (x ∷ y ∷ []) 0 xs (all_ends_more l s h (coded xs t) extra 0 xs coded_cells) in
        let triple = ends_more tl ts th one (x ∷ y ∷ []) (3 * c) t (ends_more tl ts th (coded xs t) extra (3 * c) t coded_triple) in
        picks_more row (cell_places 0 c) (m ∷ (m + 1) ∷ (3 * c + 2) ∷ []) (all_ends l s h xs) (x ∷ y ∷ th t ∷ []) (pick_cells l s h row 0 c xs long cells)
        (at_past one (x ∷ y ∷ []) 0 m x (omega (arith, em)) refl, (at_past one (x ∷ y ∷ []) 1 (m + 1) y (omega (arith, em)) refl, (triple.hi, tt)))

  -- two encoded rows, one after the other
  module _ (c d : ℕ) (xs ys : List X) (t u : T) (long : length xs ≡ c) (wide : length ys ≡ d) where
    abbrev pub pair : List A
    pair = coded xs t ++ coded ys u

    pair_is : (coded xs t ++ all_ends l s h ys) ++ ends tl ts th u ≡ pair
    pair_is = append_assoc (coded xs t) (all_ends l s h ys) (ends tl ts th u)

    pub pair_long : length pair ≡ 3 * c + 3 + 3 * d + 3
    pair_long = length-append (coded xs t) (coded ys u) ∙ (λ i. coded_long c xs t long i + coded_long d ys u wide i) ∙ (let e : 3 * c + 3 + (3 * d + 3) ≡ 3 * c + 3 + 3 * d + 3 = omega arith in e)

    pub left_cells : EndsOfAll l s h pair 0 xs
    left_cells = all_ends_more l s h (coded xs t) (coded ys u) 0 xs (coded_cells c xs t long)

    pub left_triple : Ends tl ts th pair (3 * c) t
    left_triple = ends_more tl ts th (coded xs t) (coded ys u) (3 * c) t (coded_triple c xs t long)

    pub right_cells : EndsOfAll l s h pair (3 * c + 3) ys
    right_cells = all_ends_at l s h (coded xs t) (ends tl ts th u) (3 * c + 3) ys (coded_long c xs t long)

    pub right_triple : Ends tl ts th pair (3 * c + 3 + 3 * d) u
    right_triple =
        subst (λ r. Ends tl ts th r (3 * c + 3 + 3 * d) u) pair_is
        (ends_past tl ts th (coded xs t ++ all_ends l s h ys) [] (3 * c + 3 + 3 * d) u
        (length-append (coded xs t) (all_ends l s h ys) ∙ (λ i. coded_long c xs t long i + cells_long d ys u wide i)))

    -- the cells of both, and three new columns
    pub pair_picks : (v : T) → Picks (pair ++ ends tl ts th v) (cell_places 0 c ++ (cell_places (3 * c + 3) d ++ three_places (3 * c + 3 + 3 * d + 3))) (coded (xs ++ ys) v)
    pair_picks v =
        let row = pair ++ ends tl ts th v in
        let n = 3 * c + 3 + 3 * d + 3 in
        let new = ends_past tl ts th pair [] n v pair_long in
        let first = pick_cells l s h row 0 c xs long (all_ends_more l s h pair (ends tl ts th v) 0 xs left_cells) in
        let second = pick_cells l s h row (3 * c + 3) d ys wide (all_ends_more l s h pair (ends tl ts th v) (3 * c + 3) ys right_cells) in
        subst (λ vs. Picks row (cell_places 0 c ++ (cell_places (3 * c + 3) d ++ three_places n)) vs)
        (sym (append_assoc (all_ends l s h xs) (all_ends l s h ys) (ends tl ts th v)) ∙ ap (λ q. q ++ ends tl ts th v) (sym (all_ends-append l s h xs ys)))
        (picks_more row (cell_places 0 c) (cell_places (3 * c + 3) d ++ three_places n) (all_ends l s h xs) (all_ends l s h ys ++ ends tl ts th v) first
        (picks_more row (cell_places (3 * c + 3) d) (three_places n) (all_ends l s h ys) (ends tl ts th v) second (pick_three tl ts th row n v new)))
