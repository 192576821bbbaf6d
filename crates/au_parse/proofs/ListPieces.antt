-- Lists cut at their commas, aliases, and the forms of an item.
use Rattle.std.proofs.Common.{◌≡◌, ℕ, suc, ◌≤◌, ◌<◌, ◌&&◌, Bool, true, false, List, [], ◌∷◌, ◌++◌, length, map, take, drop, Some, None, refl, sym, ap, ◌∙◌, arith, append_assoc}
use Rattle.std.proofs.Common.{append-nil}
use Rattle.std.specs.Prelude.{Option, option_map, is_some, if◌then◌else◌}
use Rattle.au_lex.specs.declared.Lexeme.{Lexeme}
use Rattle.au_lex.specs.declared.Lexeme.TheVariants as lex
use Rattle.au_lex.specs.declared.Symbol.TheVariants as sym'
use Rattle.au_lex.specs.declared.Token.{Token}
use Rattle.au_parse.specs.declared.pieces.Mark.TheVariants as at
use Rattle.au_parse.specs.Tree.{ItemTree}
use Rattle.au_parse.specs.Words.{comma, ends_operand, depth_after, is_as, is_star, is_dot, name_word}
use Rattle.au_parse.specs.Cuts.{cut, anywhere}
use Rattle.au_parse.specs.Levels.{front_length, is_mark, rest_parts, part_before, BeginsAtMark}
use Rattle.au_parse.specs.Queries.{Aliased, alias_of_two, aliased, all_some, between_commas, part_tokens, item_tree, value_item}
use Rattle.au_parse.specs.Statements.{aliased_by, behind_comma, whole_star, star_owner}
use Rattle.au_parse.proofs.Cutting.{IsMark, cut_by, begins_at_mark}

comma_mark : IsMark (anywhere comma) (is_mark at.Comma)
comma_mark = record { same = λ after what. refl; always = λ what m is. is; no_end = λ after what m is. ends what m is; flat = λ after what m is. flat what m is }
  where
    ends : (what : Lexeme) (m : Unit {0}) → comma what ≡ Some m → ends_operand what ≡ false
    ends (lex.Symbol sym'.Comma) m is = refl
    ends _ m is = cc

    flat : (what : Lexeme) (m : Unit {0}) → comma what ≡ Some m → depth_after 0 what ≡ 0
    flat (lex.Symbol sym'.Comma) m is = refl
    flat _ m is = cc

-- the lists behind a comma
behind_by : (o : Token) (others : List Token) (found : Option (Unit {0})) → is_some found ≡ true → map part_tokens (part_before o found (cut comma others)) ≡ between_commas others
behind_by o others None some = cc
behind_by o others (Some u) some = refl

pieces_behind : (ts rest : List Token) (k : ℕ) → k ≡ front_length (is_mark at.Comma) false 0 ts → rest ≡ drop k ts → BeginsAtMark (is_mark at.Comma) rest
pieces_behind ts rest k k_is rest_is = rw (rest_is, k_is) (begins_at_mark (anywhere comma) (is_mark at.Comma) comma_mark false 0 ts)

pieces_are : (ts first rest : List Token) (k : ℕ) → k ≡ front_length (is_mark at.Comma) false 0 ts → first ≡ take k ts → rest ≡ drop k ts
    → between_commas ts ≡ first ∷ map part_tokens (rest_parts (anywhere comma) rest)
pieces_are ts first rest k k_is first_is rest_is =
    ap (λ parts. parts.first ∷ map part_tokens parts.others) (cut_by (anywhere comma) (is_mark at.Comma) comma_mark false 0 ts) ∙ rw (first_is, rest_is, k_is)

pub pieces_none : (ts first rest : List Token) (k : ℕ) → k ≡ front_length (is_mark at.Comma) false 0 ts → first ≡ take k ts → rest ≡ drop k ts → length rest ≡ 0
    → between_commas ts ≡ first ∷ []
pieces_none ts first rest k k_is first_is rest_is none = pieces_are ts first rest k k_is first_is rest_is ∙ ap (λ xs. first ∷ xs) (ended rest none)
  where
    ended : (xs : List Token) → length xs ≡ 0 → map part_tokens (rest_parts (anywhere comma) xs) ≡ []
    ended [] none = refl
    ended (x ∷ xs) none = absurd (omega arith)

pub pieces_some : (ts first rest others : List Token) (o : Token) (k : ℕ) → k ≡ front_length (is_mark at.Comma) false 0 ts → first ≡ take k ts → rest ≡ drop k ts → rest ≡ o ∷ others
    → between_commas ts ≡ first ∷ between_commas others
pieces_some ts first rest others o k k_is first_is rest_is is =
    pieces_are ts first rest k k_is first_is rest_is ∙ ap (λ xs. first ∷ map part_tokens (rest_parts (anywhere comma) xs)) is
    ∙ ap (λ xs. first ∷ xs) (behind_by o others (comma o.what) (begins (o ∷ others) is))
  where
    begins : (xs : List Token) → rest ≡ xs → BeginsAtMark (is_mark at.Comma) xs
    begins xs xs_is = rw (sym xs_is) (pieces_behind ts rest k k_is rest_is)

-- an alias is told by the last two tokens
abbrev pub with_front : List Token → Aliased → Aliased
with_front ts parts = record { tokens = ts ++ parts.tokens; alias = parts.alias }

pub aliased-last : (ts : List Token) (t u : Token) → aliased (ts ++ t ∷ u ∷ []) ≡ with_front ts (alias_of_two t u)
unfolding aliased
aliased-last [] t u = refl
aliased-last (a ∷ []) t u = refl
aliased-last (a ∷ b ∷ ts) t u = step a b ts t u (aliased-last (b ∷ ts) t u)
  where
    step : (a b : Token) (ts : List Token) (t u : Token) → aliased (b ∷ ts ++ t ∷ u ∷ []) ≡ with_front (b ∷ ts) (alias_of_two t u) → aliased (a ∷ b ∷ ts ++ t ∷ u ∷ []) ≡ with_front (a ∷ b ∷ ts) (alias_of_two t u)
    step a b [] t u more = ap (with_front (a ∷ [])) more
    step a b (c ∷ ts) t u more = ap (with_front (a ∷ [])) more

module _ (ts front rest : List Token) (t u : Token) (ts_is : ts ≡ front ++ u ∷ []) (front_is : front ≡ rest ++ t ∷ []) where
  all_is : ts ≡ rest ++ t ∷ u ∷ []
  all_is = ts_is ∙ ap (λ xs. xs ++ u ∷ []) front_is ∙ append_assoc rest (t ∷ []) (u ∷ [])

  alias_is : aliased ts ≡ with_front rest (alias_of_two t u)
  alias_is = ap aliased all_is ∙ aliased-last rest t u

  by_tests : (n a e : Bool) → is_some (name_word u.what) ≡ n → is_as t.what ≡ a → ends_operand t.what ≡ e
      → aliased ts ≡ with_front rest (if a && n then record { tokens = []; alias = name_word u.what } else if e && n then record { tokens = t ∷ []; alias = name_word u.what } else record { tokens = t ∷ u ∷ []; alias = None })
  by_tests n a e n_is a_is e_is = alias_is ∙ rw (n_is, a_is, e_is)

  pub no_name : is_some (name_word u.what) ≡ false → aliased_by ts None ≡ aliased ts
  no_name none = sym (choose _ _ refl refl)
    where
      choose : (a e : Bool) → is_as t.what ≡ a → ends_operand t.what ≡ e → aliased ts ≡ aliased_by ts None
      choose true true a_is e_is = by_tests false true true none a_is e_is ∙ ap (λ xs. aliased_by xs None) (sym all_is)
      choose true false a_is e_is = by_tests false true false none a_is e_is ∙ ap (λ xs. aliased_by xs None) (sym all_is)
      choose false true a_is e_is = by_tests false false true none a_is e_is ∙ ap (λ xs. aliased_by xs None) (sym all_is)
      choose false false a_is e_is = by_tests false false false none a_is e_is ∙ ap (λ xs. aliased_by xs None) (sym all_is)

  pub behind_as : is_some (name_word u.what) ≡ true → is_as t.what ≡ true → aliased_by rest (Some u) ≡ aliased ts
  behind_as some is = sym (by_tests true true _ some is refl ∙ ap (λ xs. aliased_by xs (Some u)) (append-nil rest))

  pub behind_operand : is_some (name_word u.what) ≡ true → is_as t.what ≡ false → ends_operand t.what ≡ true → aliased_by front (Some u) ≡ aliased ts
  behind_operand some not is = sym (by_tests true false true some not is ∙ ap (λ xs. aliased_by xs (Some u)) (sym front_is))

  pub no_alias : is_as t.what ≡ false → ends_operand t.what ≡ false → aliased_by ts None ≡ aliased ts
  no_alias not nor = sym (choose _ refl)
    where
      choose : (n : Bool) → is_some (name_word u.what) ≡ n → aliased ts ≡ aliased_by ts None
      choose true n_is = by_tests true false false n_is not nor ∙ ap (λ xs. aliased_by xs None) (sym all_is)
      choose false n_is = by_tests false false false n_is not nor ∙ ap (λ xs. aliased_by xs None) (sym all_is)

pub short_list : (ts : List Token) → length ts ≤ 1 → aliased_by ts None ≡ aliased ts
unfolding aliased
short_list [] short = refl
short_list (t ∷ []) short = refl
short_list (t ∷ u ∷ ts) short = absurd (omega arith)

-- an item's forms
pub item_forms : (ts : List Token) → item_tree ts
    ≡ (elim (whole_star ts) [ Some at ↦ Some (ItemTree.star at) | None ↦ elim (star_owner ts) [ Some t ↦ option_map (ItemTree.star_of t.from) (name_word t.what) | None ↦ value_item ts ] ])
item_forms [] = refl
item_forms (s ∷ []) = by_test (is_star s.what)
  where
    by_test : (v : Bool) → (if v then Some (ItemTree.star s.from) else value_item (s ∷ []))
        ≡ (elim (if v then Some s.from else None) [ Some at ↦ Some (ItemTree.star at) | None ↦ value_item (s ∷ []) ])
    by_test true = refl
    by_test false = refl
item_forms (t ∷ d ∷ []) = refl
item_forms (t ∷ d ∷ s ∷ []) = by_test (is_dot d.what && is_star s.what)
  where
    by_test : (v : Bool) → (if v then option_map (ItemTree.star_of t.from) (name_word t.what) else value_item (t ∷ d ∷ s ∷ []))
        ≡ (elim (if v then Some t else None) [ Some x ↦ option_map (ItemTree.star_of x.from) (name_word x.what) | None ↦ value_item (t ∷ d ∷ s ∷ []) ])
    by_test true = refl
    by_test false = refl
item_forms (t ∷ d ∷ s ∷ x ∷ ts) = refl

pub longer_list : (ts others behind rest : List Token) (t d s : Token) → ts ≡ t ∷ others → others ≡ d ∷ behind → behind ≡ s ∷ rest → 0 < length rest → None ≡ star_owner ts
longer_list ts others behind [] t d s is also too more = absurd (omega arith)
longer_list ts others behind (x ∷ xs) t d s is also too more = rw (is, also, too)

-- a list read piece by piece: what has been read, and what is left behind the comma
abbrev pub with_read : {A : Type 0} → List A → Option (List A) → Option (List A)
with_read done rest = option_map (λ xs. done ++ xs) rest

abbrev pub ReadSoFar : {A : Type 0} → (List Token → Option A) → List Token → List A → Option (List Token) → Type 0
ReadSoFar reads ts done left = all_some (map reads (between_commas ts)) ≡ with_read done (all_some (map reads (behind_comma left)))

abbrev pub left_length : Option (List Token) → ℕ
left_length None = 0
left_length (Some ts) = suc (length ts)

pub nothing_read : {A : Type 0} (rest : Option (List A)) → rest ≡ with_read [] rest
nothing_read None = refl
nothing_read (Some xs) = refl

one_read : {A : Type 0} (done : List A) (v : A) (rest : Option (List A)) → with_read done (option_map (λ xs. v ∷ xs) rest) ≡ with_read (done ++ v ∷ []) rest
one_read done v None = refl
one_read done v (Some xs) = ap (λ ys. Some ys) (sym (append_assoc done (v ∷ []) xs))

module _ {A : Type 0} (reads : List Token → Option A) (ts : List Token) (done : List A) where
  module _ (rest piece : List Token) (left : Option (List Token)) (so_far : ReadSoFar reads ts done (Some rest)) (is : between_commas rest ≡ piece ∷ behind_comma left) where
    here : (found : Option A) → reads piece ≡ found → all_some (map reads (between_commas ts)) ≡ with_read done (all_some (found ∷ map reads (behind_comma left)))
    here found found_is = so_far ∙ ap (λ xs. with_read done (all_some (map reads xs))) is ∙ ap (λ x. with_read done (all_some (x ∷ map reads (behind_comma left)))) found_is

    pub read_more : (v : A) (all : List A) → reads piece ≡ Some v → all ≡ done ++ v ∷ [] → ReadSoFar reads ts all left
    unfolding all_some
    read_more v all found all_is = here (Some v) found ∙ one_read done v (all_some (map reads (behind_comma left))) ∙ ap (λ xs. with_read xs (all_some (map reads (behind_comma left)))) (sym all_is)

    pub read_none : reads piece ≡ None → None ≡ all_some (map reads (between_commas ts))
    unfolding all_some
    read_none none = sym (here None none)

  pub read_end : ReadSoFar reads ts done None → Some done ≡ all_some (map reads (between_commas ts))
  unfolding all_some
  read_end so_far = sym (so_far ∙ ap (λ xs. Some xs) (append-nil done))
