-- Some columns of rows, and their kinds: columns of columns, and columns of rows that are joined.
use Rattle.std.specs.Prelude.{◌≡◌, ◌<◌, ◌+◌, ◌++◌, ℕ, zero, suc, List, [], ◌∷◌, length, map, Option, Some, option_and_then, pos, slice_get, slice_index, unwrap_or}
use Rattle.std.specs.List.{AllByRecursion, AllZip, range_with_len}
use Rattle.std.proofs.Common.{arith, refl, sym, ap, ◌∙◌, append_assoc, length-append}
use Rattle.std.proofs.lemmas.List.{map-append}
use Rattle.std.proofs.lemmas.Option.{slice_get_within, slice_get-get_or}
use Rattle.au_value.specs.declared.kinds.Kind.{Kind}
use Rattle.au_value.specs.declared.kinds.Kind.TheVariants as kind
use Rattle.au_value.specs.declared.value.Value.{Value}
use Rattle.au_value.specs.declared.value.Value.TheVariants.{Int}
use Rattle.au_algebra.specs.Lists.{value_at}
use Rattle.au_algebra.specs.Typing.{all_kinds}
use Rattle.au_algebra.proofs.AggregateKinds.{kinds_parts}
use Rattle.au_plain.specs.Meaning.{kept}
use Rattle.au_plain.specs.PlanKinds.{kept_kinds}
use Rattle.au_plain.proofs.Widths.{kept_long}
use Rattle.au_passes.proofs.Renumbering.{Reaches, kept_at, kind_at}

pub map-map : {A B C : Type 0} (f : A → B) (g : B → C) (xs : List A) → map g (map f xs) ≡ map (λ x. g (f x)) xs
map-map f g [] = refl
map-map f g (x ∷ xs) = λ i. g (f x) ∷ map-map f g xs i

-- two maps that agree where a fact holds
pub map_valid : {A B : Type 0} (P : A → Type 0) (f g : A → B) (xs : List A) → AllByRecursion P xs → ((x : A) → P x → f x ≡ g x) → map f xs ≡ map g xs
map_valid P f g [] v same = refl
map_valid P f g (x ∷ xs) v same = λ i. same x v.0 i ∷ map_valid P f g xs v.1 same i

-- ---- items by their places

pub get_wider : {A : Type 0} (xs ys : List A) (i : ℕ) → i < length xs → slice_get (xs ++ ys) i ≡ slice_get xs i
get_wider [] ys i h = let never : ⊥ = omega (arith, h) in absurd never
get_wider (x ∷ xs) ys zero h = refl
get_wider (x ∷ xs) ys (suc i) h = get_wider xs ys i (omega (arith, h))

pub get_past : {A : Type 0} (xs ys : List A) (i j : ℕ) → j ≡ length xs + i → slice_get (xs ++ ys) j ≡ slice_get ys i
get_past [] ys i j h = let e : j ≡ i = omega (arith, h) in ap (slice_get ys) e
get_past (x ∷ xs) ys i zero h = let never : ⊥ = omega (arith, h) in absurd never
get_past (x ∷ xs) ys i (suc j) h = get_past xs ys i j (omega (arith, h))

gets_from : {A : Type 0} (done xs : List A) (n : ℕ) → n ≡ length done → map (slice_get (done ++ xs)) (range_with_len n (length xs)) ≡ map (λ x. Some x) xs
gets_from done [] n h = refl
gets_from done (x ∷ xs) n h =
    let first = get_past done (x ∷ xs) 0 n (omega (arith, h)) in
    let rest = gets_from (done ++ x ∷ []) xs (n + 1) (omega (arith, h, length-append done (x ∷ []))) in
    let same = ap (λ ys. map (slice_get ys) (range_with_len (n + 1) (length xs))) (append_assoc done (x ∷ []) xs) in
    λ i. first i ∷ (sym same ∙ rest) i

-- ---- rows

pub kept_gets : (places : List ℕ) (row : List Value) → kept places row ≡ map (λ o. unwrap_or o (Int (pos 0))) (map (slice_get row) places)
kept_gets places row = sym (map-map (slice_get row) (λ o. unwrap_or o (Int (pos 0))) places)

pub same_map : {A : Type 0} (xs : List A) → map (λ x. x) xs ≡ xs
same_map [] = refl
same_map (x ∷ xs) = λ i. x ∷ same_map xs i

-- all columns of a row
pub kept_itself : (w : ℕ) (row : List Value) → length row ≡ w → kept (range_with_len 0 w) row ≡ row
kept_itself w row h =
    ap (λ n. kept (range_with_len 0 n) row) (sym h) ∙ kept_gets (range_with_len 0 (length row)) row
    ∙ ap (map (λ o. unwrap_or o (Int (pos 0)))) (gets_from [] row 0 refl) ∙ map-map (λ v. Some v) (λ o. unwrap_or o (Int (pos 0))) row ∙ same_map row

-- the columns of a row with more behind it
pub kept_wider : (places : List ℕ) (row more : List Value) → AllByRecursion (λ i. i < length row) places → kept places (row ++ more) ≡ kept places row
kept_wider places row more h = map_valid (λ i. i < length row) (value_at (row ++ more)) (value_at row) places h (λ i l. ap (λ o. unwrap_or o (Int (pos 0))) (get_wider row more i l))

-- the columns of a row with others before it
pub kept_past : (places : List ℕ) (w : ℕ) (before row : List Value) → length before ≡ w → kept (map (λ i. w + i) places) (before ++ row) ≡ kept places row
kept_past [] w before row h = refl
kept_past (j ∷ places) w before row h =
    let first = ap (λ o. unwrap_or o (Int (pos 0))) (get_past before row j (w + j) (omega (arith, h))) in
    λ i. first i ∷ kept_past places w before row h i

-- ---- kinds

pub all_there : (o : Option Kind) (os : List (Option Kind)) (k : Kind) (ks : List Kind) → o ≡ Some k → all_kinds os ≡ Some ks → all_kinds (o ∷ os) ≡ Some (k ∷ ks)
all_there o os k ks h t = λ i. option_and_then (λ j. option_and_then (λ js. Some (j ∷ js)) (t i)) (h i)

pub all_kinds-append : (os qs : List (Option Kind)) (js hs : List Kind) → all_kinds os ≡ Some js → all_kinds qs ≡ Some hs → all_kinds (os ++ qs) ≡ Some (js ++ hs)
all_kinds-append [] qs js hs t u = u ∙ ap (λ ms. Some (ms ++ hs)) (let e : [] ≡ js = cc in e)
all_kinds-append (o ∷ os) qs js hs t u =
    let p = kinds_parts o os js t in
    all_there o (os ++ qs) p.first (p.others ++ hs) p.first_is (all_kinds-append os qs p.others hs p.others_are u) ∙ ap (λ ms. Some (ms ++ hs)) (sym p.whole)

pub all_some : (ks : List Kind) → all_kinds (map (λ k. Some k) ks) ≡ Some ks
all_some [] = refl
all_some (k ∷ ks) = all_there (Some k) (map (λ j. Some j) ks) k ks refl (all_some ks)

-- the kinds of all columns
pub kinds_itself : (w : ℕ) (ks : List Kind) → length ks ≡ w → kept_kinds (range_with_len 0 w) ks ≡ Some ks
kinds_itself w ks h = ap (λ n. kept_kinds (range_with_len 0 n) ks) (sym h) ∙ ap all_kinds (gets_from [] ks 0 refl) ∙ all_some ks

pub kinds_wider : (places : List ℕ) (ks more : List Kind) → AllByRecursion (λ i. i < length ks) places → kept_kinds places (ks ++ more) ≡ kept_kinds places ks
kinds_wider places ks more h = ap all_kinds (map_valid (λ i. i < length ks) (slice_get (ks ++ more)) (slice_get ks) places h (get_wider ks more))

gets_past : (places : List ℕ) (w : ℕ) (before ks : List Kind) → length before ≡ w → map (slice_get (before ++ ks)) (map (λ i. w + i) places) ≡ map (slice_get ks) places
gets_past [] w before ks h = refl
gets_past (j ∷ places) w before ks h = let first = get_past before ks j (w + j) (omega (arith, h)) in λ i. first i ∷ gets_past places w before ks h i

pub kinds_past : (places : List ℕ) (w : ℕ) (before ks : List Kind) → length before ≡ w → kept_kinds (map (λ i. w + i) places) (before ++ ks) ≡ kept_kinds places ks
kinds_past places w before ks h = ap all_kinds (gets_past places w before ks h)

pub kinds_both : (ps qs : List ℕ) (ks js hs : List Kind) → kept_kinds ps ks ≡ Some js → kept_kinds qs ks ≡ Some hs → kept_kinds (ps ++ qs) ks ≡ Some (js ++ hs)
kinds_both ps qs ks js hs t u = ap all_kinds (map-append (slice_get ks) ps qs) ∙ all_kinds-append (map (slice_get ks) ps) (map (slice_get ks) qs) js hs t u

-- places that have kinds are those of columns
pub places_there : (places : List ℕ) (ks js : List Kind) → kept_kinds places ks ≡ Some js → AllByRecursion (λ i. i < length ks) places
places_there [] ks js t = tt
places_there (p ∷ places) ks js t =
    let q = kinds_parts (slice_get ks p) (map (slice_get ks) places) js t in
    (slice_get_within ks p q.first q.first_is, places_there places ks q.others q.others_are)

-- ---- columns of columns

-- the places `js` of the columns of some places are the places `is`
abbrev pub Through : List ℕ → List ℕ → List ℕ → Type 0
Through places js is = AllZip (λ j i. slice_get places j ≡ Some i) js is

pub through : (places js is : List ℕ) → Through places js is → (row : List Value) → kept js (kept places row) ≡ kept is row
through places [] [] z row = refl
through places [] (i ∷ is) z row = elim z [ ]
through places (j ∷ js) [] z row = elim z [ ]
through places (j ∷ js) (i ∷ is) z row = λ d. kept_at places row j i z.0 d ∷ through places js is z.1 row d

kinds_each : (places js is : List ℕ) → Through places js is → (ks hs : List Kind) → kept_kinds places ks ≡ Some hs → map (slice_get hs) js ≡ map (slice_get ks) is
kinds_each places [] [] z ks hs t = refl
kinds_each places [] (i ∷ is) z ks hs t = elim z [ ]
kinds_each places (j ∷ js) [] z ks hs t = elim z [ ]
kinds_each places (j ∷ js) (i ∷ is) z ks hs t = λ d. kind_at places ks hs t j i z.0 d ∷ kinds_each places js is z.1 ks hs t d

pub kinds_through : (places js is : List ℕ) → Through places js is → (ks hs : List Kind) → kept_kinds places ks ≡ Some hs → kept_kinds js hs ≡ kept_kinds is ks
kinds_through places js is z ks hs t = ap all_kinds (kinds_each places js is z ks hs t)

-- where wanted columns are found
pub found_through : (places found wanted : List ℕ) → AllByRecursion (Reaches places found) wanted → Through places (map (slice_index found) wanted) wanted
found_through places found [] h = tt
found_through places found (i ∷ wanted) h = (h.0, found_through places found wanted h.1)

-- the places of places
pub listed_through : (ps places : List ℕ) → AllByRecursion (λ i. i < length ps) places → Through ps places (map (slice_index ps) places)
listed_through ps [] h = tt
listed_through ps (j ∷ places) h = (slice_get-get_or ps j 0 h.0, listed_through ps places h.1)

kind_there : (places js : List ℕ) (ks hs : List Kind) → kept_kinds places ks ≡ Some hs → (j i : ℕ) → slice_get places j ≡ Some i → (k : Kind) × (slice_get ks i ≡ Some k)
kind_there places js ks hs t j i h =
    let here = slice_get_within places j i h in
    (_, sym (kind_at places ks hs t j i h) ∙ slice_get-get_or hs j kind.Int (omega (arith, here, kept_long places ks hs t)))

-- wanted columns that are found have kinds
pub wanted_kinds : (places found : List ℕ) (ks hs : List Kind) → kept_kinds places ks ≡ Some hs → (wanted : List ℕ) → AllByRecursion (Reaches places found) wanted → (js : List Kind) × (kept_kinds wanted ks ≡ Some js)
wanted_kinds places found ks hs t [] h = ([], refl)
wanted_kinds places found ks hs t (i ∷ wanted) h =
    let first = kind_there places wanted ks hs t (slice_index found i) i h.0 in
    let rest = wanted_kinds places found ks hs t wanted h.1 in
    (first.0 ∷ rest.0, all_there (slice_get ks i) (map (slice_get ks) wanted) first.0 rest.0 first.1 rest.1)
