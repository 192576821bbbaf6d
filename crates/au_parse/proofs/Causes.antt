-- What `parse` answers has its cause.
use Rattle.std.proofs.Common.{◌≡◌, ℕ, suc, Bool, true, false, List, [], ◌∷◌, ◌++◌, length, Some, None, refl, sym, ap, ◌∙◌, subst, arith, ◌≤◌}
use Rattle.std.specs.Prelude.{Option, option_map, IfSome, Any, ⊤, if◌then◌else◌, nat_lt}
use Rattle.au_lex.specs.declared.Token.{Token}
use Rattle.au_parse.specs.declared.limits.Limit.{Limit}
use Rattle.au_parse.specs.declared.limits.Limit.TheVariants as over
use Rattle.au_parse.specs.declared.ParseFault.{ParseFault}
use Rattle.au_parse.specs.declared.ParseFault.TheVariants as fault
use Rattle.au_parse.specs.Words.{is_semicolon}
use Rattle.au_parse.specs.Limits.{earlier, limit_fault, passes_limit, is_from, placed, too_deep}
use Rattle.au_parse.specs.Words.{is_select}
use Rattle.au_parse.specs.Parsing.{HasCause}
use Rattle.au_parse.specs.Queries.{parsed_tree, without_semicolon, query_within}
use Rattle.au_parse.specs.Tree.{QueryTree}
use Rattle.au_parse.specs.Statements.{set_step}
use Rattle.au_parse.proofs.Sets.{query_is}

-- a fault of a limit is no other
abbrev IsLimit : ParseFault → Type 0
IsLimit (fault.Syntax at) = ⊥
IsLimit fault.NoMemory = ⊥
IsLimit _ = ⊤

placed_is : (limit : Limit) (found : Option ℕ) → IfSome (placed limit found) (λ f. IsLimit f.1)
placed_is limit None = tt
placed_is over.Depth (Some at) = tt
placed_is over.Sources (Some at) = tt
placed_is over.Items (Some at) = tt

earlier_is : (a b : Option (ℕ × ParseFault)) → IfSome a (λ f. IsLimit f.1) → IfSome b (λ f. IsLimit f.1) → IfSome (earlier a b) (λ f. IsLimit f.1)
earlier_is None b is also = also
earlier_is (Some x) None is also = is
earlier_is (Some x) (Some y) is also = by_test (nat_lt y.0 x.0)
  where
    by_test : (v : Bool) → IfSome (if v then Some y else Some x) (λ f. IsLimit f.1)
    by_test true = also
    by_test false = is

second_is : (found : Option (ℕ × ParseFault)) → IfSome found (λ f. IsLimit f.1) → IfSome (option_map (λ f. f.1) found) IsLimit
second_is None is = tt
second_is (Some f) is = is

limit_is : (end : ℕ) (ts : List Token) → IfSome (limit_fault end ts) IsLimit
limit_is end ts =
    let deep = too_deep 32 0 ts in
    let from = passes_limit is_from 8 end [] [] ts in
    let items = passes_limit is_select 64 end [] [] ts in
    second_is (earlier (placed over.Depth deep) (earlier (placed over.Sources from) (placed over.Items items)))
    (earlier_is (placed over.Depth deep) (earlier (placed over.Sources from) (placed over.Items items)) (placed_is over.Depth deep)
    (earlier_is (placed over.Sources from) (placed over.Items items) (placed_is over.Sources from) (placed_is over.Items items)))

pub limit_cause : (end : ℕ) (ts : List Token) (f : ParseFault) → Some f ≡ limit_fault end ts → HasCause end ts f
limit_cause end ts f is = by_fault f (subst (λ o. IfSome o IsLimit) (sym is) (limit_is end ts)) (sym is)
  where
    by_fault : (f : ParseFault) → IsLimit f → limit_fault end ts ≡ Some f → HasCause end ts f
    by_fault (fault.Syntax at) kind here = absurd kind
    by_fault fault.NoMemory kind here = tt
    by_fault (fault.TooDeep at) kind here = here
    by_fault (fault.TooManyFrom at) kind here = here
    by_fault (fault.TooManyItems at) kind here = here

-- a last `;`
semicolon-last : (ts : List Token) (t : Token) → without_semicolon (ts ++ t ∷ []) ≡ (if is_semicolon t.what then ts else ts ++ t ∷ [])
semicolon-last [] t = refl
semicolon-last (a ∷ ts) t = step ts (semicolon-last ts t) (is_semicolon t.what) refl
  where
    rest : (v : Bool) (ts : List Token) → a ∷ (if v then ts else ts ++ t ∷ []) ≡ (if v then a ∷ ts else a ∷ ts ++ t ∷ [])
    rest true ts = refl
    rest false ts = refl

    step : (ts : List Token) → without_semicolon (ts ++ t ∷ []) ≡ (if is_semicolon t.what then ts else ts ++ t ∷ []) → (v : Bool) → is_semicolon t.what ≡ v
        → without_semicolon (a ∷ ts ++ t ∷ []) ≡ (if is_semicolon t.what then a ∷ ts else a ∷ ts ++ t ∷ [])
    step [] more v is = ap (λ xs. a ∷ xs) more ∙ rest (is_semicolon t.what) []
    step (b ∷ ts) more v is = ap (λ xs. a ∷ xs) more ∙ rest (is_semicolon t.what) (b ∷ ts)

pub semicolon_is : (ts front : List Token) (t : Token) (v : Bool) → ts ≡ front ++ t ∷ [] → is_semicolon t.what ≡ v → (if v then front else ts) ≡ without_semicolon ts
semicolon_is ts front t v is also = sym (ap without_semicolon is ∙ semicolon-last front t ∙ rw (also, is))

pub semicolon_none : (ts : List Token) → length ts ≡ 0 → ts ≡ without_semicolon ts
semicolon_none [] none = refl
semicolon_none (t ∷ ts) none = absurd (omega arith)

-- a token of a list's rest is a token of the list
pub any_behind : (ts others : List Token) (t : Token) (at : ℕ) → ts ≡ t ∷ others → Any (λ x. x.from ≡ at) others → Any (λ x. x.from ≡ at) ts
any_behind ts others t at is (k, x, less, here, from) = subst (Any (λ y. y.from ≡ at)) (sym is) (suc k, x, omega (arith, less), here, from)

-- the tree of the list without its last `;`
pub tree_is : (ts query : List Token) (found : Option QueryTree) → query ≡ without_semicolon ts → ((n : ℕ) → length query ≤ suc n → set_step (query_within n) query ≡ found) → parsed_tree ts ≡ found
tree_is ts query found is reads = ap (λ xs. query_within (length xs) xs) (sym is) ∙ query_is query found reads
