-- FROM items as they are held.
use Rattle.std.proofs.Common.{◌≡◌, ℕ, suc, ◌+◌, ◌<◌, ◌≤◌, Bool, true, false, List, [], ◌∷◌, ◌++◌, length, map, get_or, take, drop, Some, None, refl, sym, ap, ◌∙◌, arith, drop-cons, inr}
use Rattle.std.specs.Prelude.{Contains, Option, flat_map}
use Rattle.std.specs.List.{list_any}
use Rattle.std.specs.Str.{str_eq_ignore_ascii_case}
use Rattle.std.proofs.lemmas.List.{take_more, map_push}
use Rattle.std.proofs.Math.Seq.{drop-length}
use Rattle.au_algebra.specs.Trees.{Tree as Query}
use Rattle.au_typing.specs.Results.{from_view}
use Rattle.au_typing.specs.Selects.{FromItem, alias_faults, from_faults, is_join, from_joined, from_product}
use Rattle.au_typing.specs.Scopes.{fault_if, then_faults}
use Rattle.au_typing.specs.declared.fault.TypingFault.{TypingFault}
use Rattle.au_typing.specs.declared.fault.TypingFault.TheVariants as fault
use Rattle.au_typing.specs.declared.from_items.FromPart.{FromPart}
use Rattle.au_typing.proofs.Names.{then_contains}
use Rattle.au_typing.specs.Queries.{Refuses}

-- one FROM item at most joins where it joins itself
pub is_join-few : (from : List FromPart) → length from ≤ 1 → list_any (λ (item : FromPart). item.part.joins) from ≡ is_join (map from_view from)
is_join-few [] few = refl
is_join-few (item ∷ []) few = refl
is_join-few (item ∷ other ∷ others) few = absurd (omega arith)

-- a test of what a function gives
any-map : {X Y : Type 0} (p : Y → Bool) (f : X → Y) (xs : List X) → list_any p (map f xs) ≡ list_any (λ x. p (f x)) xs
any-map p f [] = refl
any-map p f (x ∷ xs) = rw (any-map p f xs) refl

-- the names of FROM items
abbrev pub names : List FromPart → List (List ℕ)
names from = map (λ (item : FromPart). item.name) from

-- whether an item is visible under one of these names
abbrev pub is_taken : List FromPart → FromPart → Bool
is_taken before item = list_any (λ (other : FromPart). str_eq_ignore_ascii_case other.name item.name) before

-- those that are visible under the name of an earlier one, from this place on
abbrev pub aliases_from : ℕ → List FromPart → List TypingFault
aliases_from k from = alias_faults (names (take k from)) (map from_view (drop k from))

-- one item more
alias_step : (from : List FromPart) (k : ℕ) (item : FromPart) → k < length from → item ≡ get_or from k item → aliases_from k from ≡ fault_if (is_taken (take k from) item) (fault.SameAlias item.at) ++ aliases_from (k + 1) from
alias_step from k item within is =
    let next : suc k ≡ k + 1 = omega arith in
    let cut : drop k from ≡ item ∷ drop (k + 1) from = drop-cons from k item within ∙ ap (λ i. i ∷ drop (suc k) from) (sym is) ∙ ap (λ n. item ∷ drop n from) next in
    let more : names (take (k + 1) from) ≡ names (take k from) ++ item.name ∷ [] =
    ap names (take_more from k item within ∙ ap (λ i. take k from ++ i ∷ []) (sym is)) ∙ map_push (λ (i : FromPart). i.name) (take k from) item in
    rw (cut, more, any-map (λ name. str_eq_ignore_ascii_case name item.name) (λ (i : FromPart). i.name) (take k from)) refl

-- an item under a new name
pub alias_new : (from : List FromPart) (k : ℕ) (item : FromPart) → k < length from → item ≡ get_or from k item → is_taken (take k from) item ≡ false → aliases_from k from ≡ aliases_from (k + 1) from
alias_new from k item within is new = alias_step from k item within is ∙ ap (λ t. fault_if t (fault.SameAlias item.at) ++ aliases_from (k + 1) from) new

-- an item under the name of an earlier one
pub alias_same : (from : List FromPart) (k : ℕ) (item : FromPart) → k < length from → item ≡ get_or from k item → is_taken (take k from) item ≡ true → Contains (aliases_from k from) (fault.SameAlias item.at)
alias_same from k item within is same =
    let e : aliases_from k from ≡ fault.SameAlias item.at ∷ aliases_from (k + 1) from = alias_step from k item within is ∙ ap (λ t. fault_if t (fault.SameAlias item.at) ++ aliases_from (k + 1) from) same in
    rw e (0, omega arith, refl)

-- no item is left
pub aliases_end : (from : List FromPart) → aliases_from (length from) from ≡ []
aliases_end from = rw (drop-length from) refl

-- FROM items joined with those before them
abbrev pub joined_all : Option Query → List FromItem → Query
joined_all None from = from_product from
joined_all (Some q) from = from_joined q from

-- nothing is wrong with well-typed FROM items but their names
parts_sound : (from : List FromPart) → flat_map (λ (item : FromItem). item.typing.faults) (map from_view from) ≡ []
parts_sound [] = refl
parts_sound (item ∷ from) = parts_sound from

pub from_sound : (from : List FromPart) → alias_faults [] (map from_view from) ≡ [] → from_faults (map from_view from) ≡ []
from_sound from new = rw (parts_sound from, new) refl

-- a name that is used twice
pub alias_refuses : (from : List FromPart) (more : List TypingFault) (f : TypingFault) → Contains (alias_faults [] (map from_view from)) f → Refuses (then_faults (from_faults (map from_view from)) more) f
alias_refuses from more f there = inr (then_contains (from_faults (map from_view from)) more f (rw (parts_sound from) there))
