-- What the entries of a block amount to, one entry after another, and their first defect.
use Rattle.std.proofs.Common.{◌≡◌, ◌≢◌, ◌≤◌, ◌&&◌, inl, inr, eq-eqb, ℕ, zero, suc, ◌+◌, ◌<◌, Bool, true, false, cond, List, [], ◌∷◌, ◌++◌, length, map, Option, Some, None, refl, sym, ap, ◌∙◌, arith, subst, eqb, ltb}
use Rattle.std.specs.Prelude.{not, count_by, flat_map, position, ◌||◌}
use Rattle.std.specs.List.{list_any, list_all, position_or_len, enumerate_from, cons_option}
use Rattle.std.specs.Option.{option_or}
use Rattle.std.proofs.lemmas.List.{append-nil, length_push}
use Rattle.std.proofs.lemmas.List.Elements.{filter-append}
use Rattle.std.proofs.lemmas.List.Folds.{position_or_len_push, sum_by-zero}
use Rattle.std.proofs.lemmas.List.Sums.{sum_by_push, prefix_len-le-length}
use Rattle.std.proofs.lemmas.Bool.{cases_Bool, lt-ltb, le-ltb, ne_eqb, eqb-true}
use Rattle.au_blocks.specs.Entries.{BlockEntry, alternatives, block_entry_of, entries_of, is_marked, is_absent}
use Rattle.au_csv.specs.Texts.{Record}
use Rattle.au_blocks.specs.declared.format.Format.{Format}
use Rattle.au_blocks.specs.declared.tally.Tally.{Tally}
use Rattle.au_blocks.specs.Tallies.{seen_of, more, is_never, is_again, tally_of, tally_defect, tallies_defect, with_role, with_row, with_absence}
use Rattle.au_blocks.specs.Defects.{block_defects, blocks_defects, where_true}
use Rattle.au_blocks.specs.Read.{first}
use Rattle.au_blocks.specs.declared.faults.TableFault.{TableFault}
use Rattle.au_blocks.specs.declared.faults.TableFault.TheVariants as fault

-- once more
more-times : (n : ℕ) → seen_of (n + 1) ≡ more (seen_of n)
more-times zero = refl
more-times (suc zero) = refl
more-times (suc (suc n)) = let e : suc (suc (suc n)) ≡ suc (suc n) + 1 = omega arith in subst (λ k. seen_of k ≡ more (seen_of (suc (suc n)))) e refl

times-push : (p : BlockEntry → Bool) (entries : List BlockEntry) (e : BlockEntry) → seen_of (count_by p (entries ++ e ∷ [])) ≡ cond (p e) (more (seen_of (count_by p entries))) (seen_of (count_by p entries))
times-push p entries e =
    rw (sum_by_push (λ x. cond (p x) 1 0) entries e)
    (elim (p e) as (λ b. seen_of (count_by p entries + cond b 1 0) ≡ cond b (more (seen_of (count_by p entries))) (seen_of (count_by p entries))) [
      | true ↦ more-times (count_by p entries)
      | false ↦ let same : count_by p entries + 0 ≡ count_by p entries = omega arith in ap seen_of same
    ])

-- the first that passes, one item more
abbrev place : ℕ → ℕ → Option ℕ
place n l = cond (ltb n l) (Some n) None

at_end : (n l : ℕ) (b : Bool) → eqb n l ≡ true → place (cond (eqb n l) (l + cond b 0 1) n) (l + 1) ≡ option_or (place n l) (cond b (Some l) None)
at_end n l true same =
    let e : n ≡ l = eqb-true n l same in
    let z : l + 0 ≡ l = omega arith in
    rw (same, z, e, le-ltb l l (omega arith), lt-ltb l (l + 1) (omega arith)) refl
at_end n l false same =
    let e : n ≡ l = eqb-true n l same in
    rw (same, e, le-ltb l l (omega arith), le-ltb (l + 1) (l + 1) (omega arith)) refl

place-push : (n l : ℕ) (b : Bool) → n ≤ l → place (cond (eqb n l) (l + cond b 0 1) n) (l + 1) ≡ option_or (place n l) (cond b (Some l) None)
place-push n l b within =
    elim (cases_Bool (eqb n l)) [
      | inl same ↦ at_end n l b same
      | inr other ↦
          let ne : n ≢ l = λ e. let t : eqb n l ≡ true = eq-eqb n l e in cc (t, other) in
          let low : n < l = omega arith in
          rw (other, lt-ltb n (l + 1) (omega arith), lt-ltb n l low) refl
    ]

-- the first that passes, one item more
position-push : {X : Type 0} (p : X → Bool) (xs : List X) (y : X) → position p (xs ++ y ∷ []) ≡ option_or (position p xs) (cond (p y) (Some (length xs)) None)
position-push p xs y =
    rw (position_or_len_push p xs y, length_push xs y) (place-push (position_or_len p xs) (length xs) (p y) (prefix_len-le-length (λ x. not (p x)) xs))

same-tally : (a b : Tally) → a.count ≡ b.count → a.marked ≡ b.marked → a.absent ≡ b.absent → a.guess ≡ b.guess → a ≡ b
same-tally a b count marked absent guess = λ i. record { count = count i; marked = marked i; absent = absent i; guess = guess i }

-- the alternatives, one entry more
alternatives-push : (entries : List BlockEntry) (e : BlockEntry) → alternatives (entries ++ e ∷ []) ≡ alternatives entries ++ cond (not (is_absent e.role)) (e ∷ []) []
alternatives-push entries e = filter-append (λ x. not (is_absent x.role)) entries (e ∷ [])

-- one alternative more
tally-row : (entries : List BlockEntry) (e : BlockEntry) → is_absent e.role ≡ false → tally_of (entries ++ e ∷ []) ≡ with_row (tally_of entries) (is_marked e.role)
tally-row entries e here =
    let alts : alternatives (entries ++ e ∷ []) ≡ alternatives entries ++ e ∷ [] = rw here at (alternatives-push entries e) in
    let m = λ (x : BlockEntry). is_marked x.role in
    same-tally (tally_of (entries ++ e ∷ [])) (with_row (tally_of entries) (is_marked e.role))
    (ap length alts ∙ length_push (alternatives entries) e)
    (times-push m entries e)
    (rw here at (times-push (λ x. is_absent x.role) entries e))
    (ap (position m) alts ∙ position-push m (alternatives entries) e)

-- one absent record more
tally-absence : (entries : List BlockEntry) (e : BlockEntry) → is_absent e.role ≡ true → tally_of (entries ++ e ∷ []) ≡ with_absence (tally_of entries) (is_marked e.role)
tally-absence entries e here =
    let alts : alternatives (entries ++ e ∷ []) ≡ alternatives entries = rw here at (alternatives-push entries e) ∙ append-nil (alternatives entries) in
    let m = λ (x : BlockEntry). is_marked x.role in
    same-tally (tally_of (entries ++ e ∷ [])) (with_absence (tally_of entries) (is_marked e.role))
    (ap length alts)
    (times-push m entries e)
    (rw here at (times-push (λ x. is_absent x.role) entries e))
    (ap (position m) alts)

-- one entry more
pub tally-push : (entries : List BlockEntry) (e : BlockEntry) → tally_of (entries ++ e ∷ []) ≡ with_role (tally_of entries) e.role
tally-push entries e =
    elim (cases_Bool (is_absent e.role)) [
      | inl here ↦ rw here (tally-absence entries e here)
      | inr here ↦ rw here (tally-row entries e here)
    ]

-- what a count comes to
is_never-times : (n : ℕ) → is_never (seen_of n) ≡ eqb n 0
is_never-times zero = refl
is_never-times (suc zero) = refl
is_never-times (suc (suc n)) = sym (ne_eqb (suc (suc n)) 0 (λ e. absurd (omega arith)))

is_again-times : (n : ℕ) → is_again (seen_of n) ≡ ltb 1 n
is_again-times zero = refl
is_again-times (suc zero) = refl
is_again-times (suc (suc n)) = sym (lt-ltb 1 (suc (suc n)) (omega arith))

-- the first of four defects
first-of-four : (a b c d : Bool) (w x y z : TableFault) → first (where_true a w ++ where_true b x ++ where_true c y ++ where_true d z)
    ≡ cond a (Some w) (cond b (Some x) (cond c (Some y) (cond d (Some z) None)))
first-of-four true b c d w x y z = refl
first-of-four false true c d w x y z = refl
first-of-four false false true d w x y z = refl
first-of-four false false false true w x y z = refl
first-of-four false false false false w x y z = refl

tally_defect-first : (entries : List BlockEntry) (n : ℕ) → tally_defect n (tally_of entries) ≡ first (block_defects (n, entries))
tally_defect-first entries n =
    let marks = count_by (λ (x : BlockEntry). is_marked x.role) entries in
    let absents = count_by (λ (x : BlockEntry). is_absent x.role) entries in
    rw (is_again-times marks, is_never-times marks, is_again-times absents)
    (sym (first-of-four (ltb 1 marks) (eqb marks 0) (eqb (length (alternatives entries)) 0) (ltb 1 absents) (fault.TwoGuesses n) (fault.NoGuess n) (fault.OnlyAbsent n) (fault.TwoAbsent n)))

first-append : (xs ys : List TableFault) → option_or (first xs) (first ys) ≡ first (xs ++ ys)
first-append [] ys = refl
first-append (x ∷ xs) ys = refl

defect-from : (n : ℕ) (blocks : List (List BlockEntry)) → tallies_defect n (map tally_of blocks) ≡ first (flat_map block_defects (enumerate_from n blocks))
defect-from n [] = refl
defect-from n (es ∷ blocks) =
    rw (tally_defect-first es n, defect-from (n + 1) blocks) (first-append (block_defects (n, es)) (flat_map block_defects (enumerate_from (n + 1) blocks)))

-- the first defect of the blocks
pub first-defect : (blocks : List (List BlockEntry)) → tallies_defect 0 (map tally_of blocks) ≡ first (blocks_defects blocks)
first-defect blocks = defect-from 0 blocks

-- whether some entry passes, by how many do
any-none : {X : Type 0} (p : X → Bool) (xs : List X) → list_any p xs ≡ not (list_all (λ x. eqb (cond (p x) 1 0) 0) xs)
any-none p [] = refl
any-none p (x ∷ xs) =
    elim (p x) as (λ b. (b || list_any p xs) ≡ not (eqb (cond b 1 0) 0 && list_all (λ z. eqb (cond (p z) 1 0) 0) xs)) [ true ↦ refl | false ↦ any-none p xs ]

-- whether some entry passes
pub any-count : (p : BlockEntry → Bool) (entries : List BlockEntry) → list_any p entries ≡ not (eqb (count_by p entries) 0)
any-count p entries = any-none p entries ∙ ap not (sym (sum_by-zero (λ (x : BlockEntry). cond (p x) 1 0) entries))

pub any-times : (p : BlockEntry → Bool) (entries : List BlockEntry) → list_any p entries ≡ not (is_never (seen_of (count_by p entries)))
any-times p entries = any-count p entries ∙ ap not (sym (is_never-times (count_by p entries)))

-- a block has no more alternatives than records
few-cons : (o : Option BlockEntry) (entries : List BlockEntry) (n : ℕ) → length (alternatives entries) ≤ n → length (alternatives (cons_option o entries)) ≤ suc n
few-cons None entries n few = omega (arith, few)
few-cons (Some e) entries n few =
    elim (is_absent e.role) as (λ b. length (cond (not b) (e ∷ alternatives entries) (alternatives entries)) ≤ suc n) [
      | true ↦ omega (arith, few)
      | false ↦ omega (arith, few)
    ]

pub few-alternatives : (f : Format) (rows : List Record) → length (alternatives (entries_of f rows)) ≤ length rows
few-alternatives f [] = omega arith
few-alternatives f (r ∷ rows) = few-cons (block_entry_of f r) (entries_of f rows) (length rows) (few-alternatives f rows)
