-- A field that is cut at its first `..`.
use Rattle.std.proofs.Common.{◌≡◌, ◌∙◌, ℕ, zero, suc, ◌+◌, ◌<◌, ◌≤◌, Bool, true, false, ◌&&◌, List, [], ◌∷◌, ◌++◌, length, take, drop, Some, None, inl, inr, refl, sym, ap, arith}
use Rattle.std.specs.Prelude.{nat_eq, codes}
use Rattle.std.specs.List.{starts_with}
use Rattle.std.specs.Str.Pattern.{LacksTextAt, HasTextAt}
use Rattle.std.proofs.lemmas.Bool.{cases_Bool, and_parts, eqb-true}
use Rattle.au_blocks.specs.Spellings.{cut_dots}

abbrev pub dots_at : ℕ → List ℕ → Bool
dots_at i s = starts_with nat_eq (drop i s) (codes "..")

and_false : (b : Bool) → (b && false) ≡ false
and_false true = refl
and_false false = refl

-- two points are what they are
starts-true : (u : List ℕ) → starts_with nat_eq u (codes "..") ≡ true → u ≡ codes ".." ++ drop 2 u
starts-true [] h = cc
starts-true (x ∷ []) h = let no : false ≡ true = sym (and_false (nat_eq 46 x)) ∙ h in cc
starts-true (x ∷ y ∷ u) h =
    let first = and_parts _ _ h in
    let second = and_parts _ _ first.1 in
    λ k. sym (eqb-true 46 x first.0) k ∷ sym (eqb-true 46 y second.0) k ∷ u

lacks : (s : List ℕ) (i : ℕ) → LacksTextAt (codes "..") s i → dots_at i s ≡ false
lacks s i none =
    elim (cases_Bool (dots_at i s)) [
      | inl here ↦ absurd (none (drop 2 (drop i s)) (starts-true (drop i s) here))
      | inr other ↦ other
    ]

has : (s : List ℕ) (i j : ℕ) → HasTextAt (codes "..") s i j → dots_at i s ≡ true
has s i j here = rw here.split refl

within : (s : List ℕ) (i : ℕ) → dots_at i s ≡ true → i < length s
within [] zero h = cc
within [] (suc i) h = cc
within (x ∷ xs) zero h = omega arith
within (x ∷ xs) (suc i) h = let rest = within xs i h in omega (arith, rest)

-- the first `..` stands here
cut-here : (s : List ℕ) (i : ℕ) → i < length s → ((k : ℕ) → k < i → dots_at k s ≡ false) → dots_at i s ≡ true → cut_dots s ≡ Some (take i s, drop (i + 2) s)
cut-here [] i within before here = absurd (omega arith)
cut-here (x ∷ xs) zero within before here = rw here refl
cut-here (x ∷ xs) (suc i) within before here =
    let no : starts_with nat_eq (x ∷ xs) (codes "..") ≡ false = before 0 (omega arith) in
    let rest = cut-here xs i (omega arith) (λ k low. before (suc k) (omega arith)) here in
    let next : suc i + 2 ≡ suc (i + 2) = omega arith in
    rw (no, rest, next) refl

-- and none stands in the text
cut-nowhere : (s : List ℕ) → ((k : ℕ) → k < length s → dots_at k s ≡ false) → cut_dots s ≡ None
cut-nowhere [] none = refl
cut-nowhere (x ∷ xs) none =
    let no : starts_with nat_eq (x ∷ xs) (codes "..") ≡ false = none 0 (omega arith) in
    let rest = cut-nowhere xs (λ k low. none (suc k) (omega arith)) in
    rw (no, rest) refl

-- what std finds is the cut
pub cut-found : (s : List ℕ) (i j : ℕ) → ((k : ℕ) → k < i → LacksTextAt (codes "..") s k) → HasTextAt (codes "..") s i j → cut_dots s ≡ Some (take i s, drop j s)
cut-found s i j before here =
    let dots = has s i j here in
    let next : i + 2 ≡ j = sym here.ends in
    cut-here s i (within s i dots) (λ k low. lacks s k (before k low)) dots ∙ ap (λ n. Some (take i s, drop n s)) next

pub cut-missing : (s : List ℕ) → ((k : ℕ) → k ≤ length s → LacksTextAt (codes "..") s k) → cut_dots s ≡ None
cut-missing s none = cut-nowhere s (λ k low. lacks s k (none k (omega arith)))
