-- Records that are taken in one after the other.
use Rattle.std.proofs.Common.{◌≡◌, ◌⊎◌, ℕ, suc, ◌+◌, ◌-◌, ◌≤◌, Bool, true, false, cond, ◌||◌, List, [], ◌∷◌, ◌++◌, length, Some, inl, inr, refl, ap, arith, eqb}
use Rattle.std.specs.Prelude.{filter, nat_le, nat_lt, not}
use Rattle.std.specs.List.{list_all, list_any}
use Rattle.std.proofs.lemmas.Bool.{and_parts, and_from, eqb-true}
use Rattle.std.proofs.lemmas.List.{length-drop}
use Rattle.std.proofs.lemmas.List.Folds.{list_all-append}
use Rattle.std.proofs.lemmas.List.Elements.{filter-append}
use Rattle.au_value.specs.declared.kinds.Kind.{Kind}
use Rattle.au_csv.specs.Texts.{Record}
use Rattle.au_blocks.specs.declared.format.Format.{Format}
use Rattle.au_blocks.specs.declared.role.Role.{Role}
use Rattle.au_blocks.specs.Columns.{is_wide}
use Rattle.au_blocks.specs.Entries.{is_absent, role_of}
use Rattle.au_blocks.specs.Headers.{cells_of, lead}
use Rattle.au_blocks.specs.Inferring.{is_alternative}
use Rattle.au_blocks.specs.OnePass.{Filled, are_values, fits_role, is_bare, is_fitting, with_row}

-- one record more that passes a test
pub all-more : (p : Record → Bool) (rows : List Record) (r : Record) → list_all p rows ≡ true → p r ≡ true → list_all p (rows ++ r ∷ []) ≡ true
all-more p rows r all here = rw (list_all-append p rows (r ∷ []), all, here) refl

-- one record more, taken or left out
pub taken-more : (p : Record → Bool) (rows : List Record) (r : Record) → p r ≡ true → filter p (rows ++ r ∷ []) ≡ filter p rows ++ r ∷ []
taken-more p rows r here = rw (filter-append p rows (r ∷ []), here) refl

pub taken-same : (p : Record → Bool) (rows : List Record) (r : Record) → p r ≡ false → filter p (rows ++ r ∷ []) ≡ filter p rows
taken-same p [] r here = rw here refl
taken-same p (x ∷ rows) r here = by-first (p x) (taken-same p rows r here) where
  by-first : (b : Bool) → filter p (rows ++ r ∷ []) ≡ filter p rows → cond b (x ∷ filter p (rows ++ r ∷ [])) (filter p (rows ++ r ∷ [])) ≡ cond b (x ∷ filter p rows) (filter p rows)
  by-first true rest = ap (λ (rs : List Record). x ∷ rs) rest
  by-first false rest = rest

-- a row more leaves as many columns
pub length-with_row : (f : Format) (r : Record) (i : ℕ) (columns : List Filled) → length (with_row f r i columns) ≡ length columns
length-with_row f r i [] = refl
length-with_row f r i (c ∷ columns) = ap suc (length-with_row f r (i + 1) columns)

same-width : (m n : ℕ) → m ≡ n → eqb m n ≡ true
same-width m n same = grind (arith, same)

-- a record of this role is an alternative where the role isn't absent
pub by-role : (f : Format) (r : Record) (x : Role) → role_of f r ≡ Some x → is_alternative f r ≡ not (is_absent x)
by-role f r x named = rw named refl

-- a record that is absent fits, and one with values of the kinds
pub absent-fits : (f : Format) (width : ℕ) (kinds : List Kind) (r : Record) (x : Role) → length r ≡ width → role_of f r ≡ Some x → is_absent x ≡ true → is_bare r ≡ true
    → is_fitting f width kinds r ≡ true
absent-fits f width kinds r x wide named absent bare =
    let fits : fits_role f kinds r (role_of f r) ≡ true = rw (named, absent) bare in
    and_from (eqb (length r) width) (fits_role f kinds r (role_of f r)) (same-width (length r) width wide) fits

pub row-fits : (f : Format) (width : ℕ) (kinds : List Kind) (r : Record) (x : Role) → length r ≡ width → role_of f r ≡ Some x → is_absent x ≡ false → are_values f r 0 kinds ≡ true
    → is_fitting f width kinds r ≡ true
row-fits f width kinds r x wide named there values =
    let fits : fits_role f kinds r (role_of f r) ≡ true = rw (named, there) values in
    and_from (eqb (length r) width) (fits_role f kinds r (role_of f r)) (same-width (length r) width wide) fits

wide-enough : (m n : ℕ) → m ≤ n → nat_le m n ≡ true
wide-enough m n h = grind (arith, h)

-- the alternatives have a cell for each kind
pub wide-taken : (f : Format) (width : ℕ) (kinds : List Kind) (rows : List Record) → length kinds ≡ width - lead f → list_all (is_fitting f width kinds) rows ≡ true
    → list_all (is_wide f (length kinds)) (filter (is_alternative f) rows) ≡ true
wide-taken f width kinds [] long fits = refl
wide-taken f width kinds (r ∷ rows) long fits =
    let parts = and_parts (is_fitting f width kinds r) (list_all (is_fitting f width kinds) rows) fits in
    let same = eqb-true (length r) width (and_parts (eqb (length r) width) (fits_role f kinds r (role_of f r)) parts.0).0 in
    let cells : length (cells_of f r) ≡ length r - lead f = length-drop (lead f) r in
    by-first (is_alternative f r) (wide-enough (length kinds) (length (cells_of f r)) (omega (arith, long, same, cells))) (wide-taken f width kinds rows long parts.1) where
      by-first : (b : Bool) → is_wide f (length kinds) r ≡ true → list_all (is_wide f (length kinds)) (filter (is_alternative f) rows) ≡ true
          → list_all (is_wide f (length kinds)) (cond b (r ∷ filter (is_alternative f) rows) (filter (is_alternative f) rows)) ≡ true
      by-first true here rest = and_from (is_wide f (length kinds) r) (list_all (is_wide f (length kinds)) (filter (is_alternative f) rows)) here rest
      by-first false here rest = rest

-- whether there is an alternative, by how many there are
any-taken : (p : Record → Bool) (rows : List Record) → nat_lt 0 (length (filter p rows)) ≡ list_any p rows
any-taken p [] = refl
any-taken p (r ∷ rows) = by-first (p r) (any-taken p rows) where
  by-first : (b : Bool) → nat_lt 0 (length (filter p rows)) ≡ list_any p rows → nat_lt 0 (length (cond b (r ∷ filter p rows) (filter p rows))) ≡ (b || list_any p rows)
  by-first true rest = grind arith
  by-first false rest = rest

either : (a b : Bool) → (a || b) ≡ true → (a ≡ true) ⊎ (b ≡ true)
either true b some = inl refl
either false b some = inr some

pub kinds-known : (p : Record → Bool) (rows : List Record) (n : ℕ) (b : Bool) → n ≡ length (filter p rows) → (nat_lt 0 n || b) ≡ true → (list_any p rows ≡ true) ⊎ (b ≡ true)
kinds-known p rows n b is known =
    let all : (list_any p rows || b) ≡ true = rw (is, any-taken p rows) at known in
    either (list_any p rows) b all
