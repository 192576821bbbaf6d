-- A list as its pieces: before a mark, and between brackets.
use Rattle.std.proofs.Common.{◌≡◌, ℕ, zero, suc, ◌<◌, ◌&&◌, Bool, true, false, List, [], ◌∷◌, length, take, drop, Some, None, refl, sym, ap, ◌∙◌, arith}
use Rattle.std.proofs.lemmas.Bool.Decides.{nat_tests}
use Rattle.std.specs.Prelude.{◌==◌, Option, option_map, is_some, if◌then◌else◌}
use Rattle.au_lex.specs.declared.Lexeme.{Lexeme}
use Rattle.au_lex.specs.declared.Lexeme.TheVariants as lex
use Rattle.au_lex.specs.declared.Symbol.TheVariants as sym'
use Rattle.au_lex.specs.declared.Keyword.TheVariants as key
use Rattle.au_lex.specs.declared.Token.{Token}
use Rattle.au_parse.specs.declared.pieces.Mark.TheVariants as at
use Rattle.au_parse.specs.declared.pieces.Bracket.{Bracket}
use Rattle.au_parse.specs.declared.pieces.Bracket.TheVariants as bracket
use Rattle.au_parse.specs.Tree.{Operator}
use Rattle.au_parse.specs.Words.{depth_after, ends_operand, is_close, or_operator, and_operator, product_operator, comparison_operator, CasePart, case_word}
use Rattle.au_parse.specs.Expressions.{sum_mark}
use Rattle.au_parse.specs.declared.operators.Level.TheVariants as level
use Rattle.au_parse.specs.Cuts.{Part, Parts, cut_from, cut_step, mark_at, inside, anywhere}
use Rattle.au_parse.specs.Levels.{front_length, rest_parts, close_length, closes, is_mark, mark_of, BeginsAtMark}

-- brackets
closes_is_close : (b : Bracket) (what : Lexeme) → closes b what ≡ true → is_close what ≡ true
closes_is_close bracket.Group (lex.Symbol sym'.Close) is = refl
closes_is_close bracket.Case (lex.Key key.End) is = refl
closes_is_close bracket.Group _ is = cc
closes_is_close bracket.Case _ is = cc

abbrev by_behind : Bracket → List Token → List Token → Option (List Token)
by_behind b middle [] = None
by_behind b middle (c ∷ []) = if closes b c.what then Some middle else None
by_behind b middle (c ∷ d ∷ ds) = None

behind_cons : (b : Bracket) (t : Token) (middle behind : List Token) → option_map (λ xs. t ∷ xs) (by_behind b middle behind) ≡ by_behind b (t ∷ middle) behind
behind_cons b t middle [] = refl
behind_cons b t middle (c ∷ []) = choice (closes b c.what)
  where
    choice : (v : Bool) → option_map (λ xs. t ∷ xs) (if v then Some middle else None) ≡ (if v then Some (t ∷ middle) else None)
    choice true = refl
    choice false = refl
behind_cons b t middle (c ∷ d ∷ ds) = refl

abbrev front_then : Bracket → List Token → ℕ → Option (List Token)
front_then b ts k = by_behind b (take k ts) (drop k ts)

last_step : (b : Bracket) (t : Token) (z c : Bool) → is_close t.what ≡ c
    → (if z && closes b t.what then Some [] else None) ≡ front_then b (t ∷ []) (elim (z && c) [ true ↦ 0 | false ↦ 1 ])
last_step b t true true is = refl
last_step b t true false is = opened (closes b t.what) (closes_is_close b t.what)
  where
    opened : (v : Bool) → (v ≡ true → is_close t.what ≡ true) → ◌≡◌ {A = Option (List Token)} (if v then Some [] else None) None
    opened true closed = let e : is_close t.what ≡ true = closed refl in cc
    opened false closed = refl
last_step b t false c is = refl

more_step : (b : Bracket) (t u : Token) (ts : List Token) (test : Bool) (more : Option (List Token)) (k : ℕ) → more ≡ front_then b (u ∷ ts) k
    → (if test then None else option_map (λ middle. t ∷ middle) more) ≡ front_then b (t ∷ u ∷ ts) (elim test [ true ↦ 0 | false ↦ suc k ])
more_step b t u ts true more k is = refl
more_step b t u ts false more k is = ap (option_map (λ middle. t ∷ middle)) is ∙ behind_cons b t (take k (u ∷ ts)) (drop k (u ∷ ts))

inside-is : (b : Bracket) (depth : ℕ) (ts : List Token) → inside (closes b) depth ts ≡ front_then b ts (close_length depth ts)
unfolding inside close_length
inside-is b depth [] = refl
inside-is b depth (t ∷ []) = last_step b t (depth == 0) (is_close t.what) refl
inside-is b depth (t ∷ u ∷ ts) = more_step b t u ts ((depth == 0) && is_close t.what) _ _ (inside-is b (depth_after depth t.what) (u ∷ ts))

at_cut : (b : Bracket) (ts middle behind : List Token) (k : ℕ) → k ≡ close_length 0 ts → middle ≡ take k ts → behind ≡ drop k ts → inside (closes b) 0 ts ≡ by_behind b middle behind
at_cut b ts middle behind k k_is middle_is behind_is = inside-is b 0 ts ∙ rw (middle_is, behind_is, k_is)

module _ (b : Bracket) (ts middle behind : List Token) (k : ℕ) (k_is : k ≡ close_length 0 ts) (middle_is : middle ≡ take k ts) (behind_is : behind ≡ drop k ts) where
  pub closed_none : length behind ≡ 0 → None ≡ inside (closes b) 0 ts
  closed_none none = sym (at_cut b ts middle behind k k_is middle_is behind_is ∙ empty behind none)
    where
      empty : (xs : List Token) → length xs ≡ 0 → by_behind b middle xs ≡ None
      empty [] none = refl
      empty (x ∷ xs) none = absurd (omega arith)

  pub closed_more : (c : Token) (others : List Token) → behind ≡ c ∷ others → 0 < length others → None ≡ inside (closes b) 0 ts
  closed_more c others is more = sym (at_cut b ts middle behind k k_is middle_is behind_is ∙ ap (by_behind b middle) is ∙ two others more)
    where
      two : (xs : List Token) → 0 < length xs → by_behind b middle (c ∷ xs) ≡ None
      two [] more = absurd (omega arith)
      two (x ∷ xs) more = refl

  pub closed_by : (c : Token) (others : List Token) (v : Bool) → behind ≡ c ∷ others → length others ≡ 0 → v ≡ closes b c.what
      → (if v then Some middle else None) ≡ inside (closes b) 0 ts
  closed_by c others v is none v_is = sym (at_cut b ts middle behind k k_is middle_is behind_is ∙ ap (by_behind b middle) is ∙ one others none)
    where
      one : (xs : List Token) → length xs ≡ 0 → by_behind b middle (c ∷ xs) ≡ (if v then Some middle else None)
      one [] none = rw v_is
      one (x ∷ xs) none = absurd (omega arith)

-- marks

-- a mark is told by a test, follows an operand or not, and is neither an operand's end nor a bracket
pub record IsMark {A : Type 0} (mark : Bool → Lexeme → Option A) (test : Bool → Lexeme → Bool) : Type 0 where
  pub same : (after : Bool) (what : Lexeme) → is_some (mark after what) ≡ test after what
  pub always : (what : Lexeme) (m : A) → mark false what ≡ Some m → mark true what ≡ Some m
  pub no_end : (after : Bool) (what : Lexeme) (m : A) → mark after what ≡ Some m → ends_operand what ≡ false
  pub flat : (after : Bool) (what : Lexeme) (m : A) → mark after what ≡ Some m → depth_after 0 what ≡ 0

abbrev pub pieces_at : {A : Type 0} → (Bool → Lexeme → Option A) → List Token → ℕ → Parts A
pieces_at mark ts k = record { first = take k ts; others = rest_parts mark (drop k ts) }

module _ {A : Type 0} (mark : Bool → Lexeme → Option A) (test : Bool → Lexeme → Bool) (is : IsMark mark test) where
  test_is : (after : Bool) (depth : ℕ) (what : Lexeme) → is_some (mark_at mark after depth what) ≡ ((depth == 0) && test after what)
  test_is after zero what = is.same after what
  test_is after (suc depth) what = let e : (suc depth == 0) ≡ false = grind (arith, nat_tests) in rw e

  always : (after : Bool) (what : Lexeme) (m : A) → mark after what ≡ Some m → mark true what ≡ Some m
  always true what m here = here
  always false what m here = is.always what m here

  marked_rest : (after : Bool) (depth : ℕ) (t : Token) (ts : List Token) (m : A) → mark_at mark after depth t.what ≡ Some m
      → let more = cut_from mark (ends_operand t.what) (depth_after depth t.what) ts in rest_parts mark (t ∷ ts) ≡ Part.part m t.from more.first ∷ more.others
  marked_rest after zero t ts m here = rw (always after t.what m here, is.no_end after t.what m here, is.flat after t.what m here)
  marked_rest after (suc depth) t ts m here = cc

  cut_one : (t : Token) (ts : List Token) (found : Option A) (v : Bool) (more : Parts A) (k : ℕ) → is_some found ≡ v → more ≡ pieces_at mark ts k
      → ((m : A) → found ≡ Some m → rest_parts mark (t ∷ ts) ≡ Part.part m t.from more.first ∷ more.others)
      → cut_step t more found ≡ pieces_at mark (t ∷ ts) (elim v [ true ↦ 0 | false ↦ suc k ])
  cut_one t ts None true more k v_is same here = cc
  cut_one t ts None false more k v_is same here = rw same
  cut_one t ts (Some m) true more k v_is same here = rw (here m refl)
  cut_one t ts (Some m) false more k v_is same here = cc

  -- a list is cut before its first mark, and behind it goes on as a list that begins with the mark
  pub cut_by : (after : Bool) (depth : ℕ) (ts : List Token) → cut_from mark after depth ts ≡ pieces_at mark ts (front_length test after depth ts)
  unfolding cut_from front_length
  cut_by after depth [] = refl
  cut_by after depth (t ∷ ts) =
      cut_one t ts (mark_at mark after depth t.what) ((depth == 0) && test after t.what) _ (front_length test (ends_operand t.what) (depth_after depth t.what) ts)
      (test_is after depth t.what) (cut_by (ends_operand t.what) (depth_after depth t.what) ts) (marked_rest after depth t ts)

-- where a list is cut, a mark stands
begins_here : {A : Type 0} (mark : Bool → Lexeme → Option A) (test : Bool → Lexeme → Bool) → IsMark mark test → (after : Bool) (what : Lexeme) (found : Option A) → found ≡ mark after what → is_some found ≡ true → is_some (mark true what) ≡ true
begins_here mark test is after what None found some = cc
begins_here mark test is true what (Some m) found some = rw (sym found)
begins_here mark test is false what (Some m) found some = rw (is.always what m (sym found))

begins_one : {A : Type 0} (mark : Bool → Lexeme → Option A) (test : Bool → Lexeme → Bool) → IsMark mark test → (after z : Bool) (t : Token) (ts : List Token) (k : ℕ) (v : Bool) → (z && test after t.what) ≡ v
    → BeginsAtMark test (drop k ts) → BeginsAtMark test (drop (elim v [ true ↦ 0 | false ↦ suc k ]) (t ∷ ts))
begins_one mark test is after true t ts k true v_is more =
    sym (is.same true t.what) ∙ begins_here mark test is after t.what (mark after t.what) refl (is.same after t.what ∙ v_is)
begins_one mark test is after false t ts k true v_is more = cc
begins_one mark test is after z t ts k false v_is more = more

pub begins_at_mark : {A : Type 0} (mark : Bool → Lexeme → Option A) (test : Bool → Lexeme → Bool) → IsMark mark test → (after : Bool) (depth : ℕ) (ts : List Token) → BeginsAtMark test (drop (front_length test after depth ts) ts)
unfolding front_length
begins_at_mark mark test is after depth [] = tt
begins_at_mark mark test is after depth (t ∷ ts) =
    begins_one mark test is after (depth == 0) t ts _ ((depth == 0) && test after t.what) refl (begins_at_mark mark test is (ends_operand t.what) (depth_after depth t.what) ts)

-- each mark
pub or_mark : IsMark (mark_of level.Or) (is_mark at.Or)
or_mark = record { same = λ after what. refl; always = λ what m is. is; no_end = λ after what m is. ends what m is; flat = λ after what m is. flat what m is }
  where
    ends : (what : Lexeme) (m : Operator) → or_operator what ≡ Some m → ends_operand what ≡ false
    ends (lex.Key key.Or) m is = refl
    ends _ m is = cc

    flat : (what : Lexeme) (m : Operator) → or_operator what ≡ Some m → depth_after 0 what ≡ 0
    flat (lex.Key key.Or) m is = refl
    flat _ m is = cc

pub and_mark : IsMark (mark_of level.And) (is_mark at.And)
and_mark = record { same = λ after what. refl; always = λ what m is. is; no_end = λ after what m is. ends what m is; flat = λ after what m is. flat what m is }
  where
    ends : (what : Lexeme) (m : Operator) → and_operator what ≡ Some m → ends_operand what ≡ false
    ends (lex.Key key.And) m is = refl
    ends _ m is = cc

    flat : (what : Lexeme) (m : Operator) → and_operator what ≡ Some m → depth_after 0 what ≡ 0
    flat (lex.Key key.And) m is = refl
    flat _ m is = cc

pub product_mark : IsMark (mark_of level.Product) (is_mark at.Product)
product_mark = record { same = λ after what. refl; always = λ what m is. is; no_end = λ after what m is. ends what m is; flat = λ after what m is. flat what m is }
  where
    ends : (what : Lexeme) (m : Operator) → product_operator what ≡ Some m → ends_operand what ≡ false
    ends (lex.Symbol sym'.Star) m is = refl
    ends _ m is = cc

    flat : (what : Lexeme) (m : Operator) → product_operator what ≡ Some m → depth_after 0 what ≡ 0
    flat (lex.Symbol sym'.Star) m is = refl
    flat _ m is = cc

pub sum_is_mark : IsMark (mark_of level.Sum) (is_mark at.Sum)
sum_is_mark = record { same = λ after what. refl; always = λ what m is. always what m is; no_end = λ after what m is. ends after what m is; flat = λ after what m is. flat after what m is }
  where
    always : (what : Lexeme) (m : Operator) → sum_mark false what ≡ Some m → sum_mark true what ≡ Some m
    always (lex.Symbol sym'.Plus) m is = is
    always _ m is = cc

    ends : (after : Bool) (what : Lexeme) (m : Operator) → sum_mark after what ≡ Some m → ends_operand what ≡ false
    ends after (lex.Symbol sym'.Plus) m is = refl
    ends after (lex.Symbol sym'.Minus) m is = refl
    ends after _ m is = cc

    flat : (after : Bool) (what : Lexeme) (m : Operator) → sum_mark after what ≡ Some m → depth_after 0 what ≡ 0
    flat after (lex.Symbol sym'.Plus) m is = refl
    flat after (lex.Symbol sym'.Minus) m is = refl
    flat after _ m is = cc

pub comparison_mark : IsMark (anywhere comparison_operator) (is_mark at.Compare)
comparison_mark = record { same = λ after what. refl; always = λ what m is. is; no_end = λ after what m is. ends what m is; flat = λ after what m is. flat what m is }
  where
    ends : (what : Lexeme) (m : Operator) → comparison_operator what ≡ Some m → ends_operand what ≡ false
    ends (lex.Symbol sym'.Equal) m is = refl
    ends (lex.Symbol sym'.Differs) m is = refl
    ends (lex.Symbol sym'.Less) m is = refl
    ends (lex.Symbol sym'.AtMost) m is = refl
    ends (lex.Symbol sym'.Greater) m is = refl
    ends (lex.Symbol sym'.AtLeast) m is = refl
    ends _ m is = cc

    flat : (what : Lexeme) (m : Operator) → comparison_operator what ≡ Some m → depth_after 0 what ≡ 0
    flat (lex.Symbol sym'.Equal) m is = refl
    flat (lex.Symbol sym'.Differs) m is = refl
    flat (lex.Symbol sym'.Less) m is = refl
    flat (lex.Symbol sym'.AtMost) m is = refl
    flat (lex.Symbol sym'.Greater) m is = refl
    flat (lex.Symbol sym'.AtLeast) m is = refl
    flat _ m is = cc

pub case_mark : IsMark (anywhere case_word) (is_mark at.Case)
case_mark = record { same = λ after what. refl; always = λ what m is. is; no_end = λ after what m is. ends what m is; flat = λ after what m is. flat what m is }
  where
    ends : (what : Lexeme) (m : CasePart) → case_word what ≡ Some m → ends_operand what ≡ false
    ends (lex.Key key.When) m is = refl
    ends (lex.Key key.Then) m is = refl
    ends (lex.Key key.Else) m is = refl
    ends _ m is = cc

    flat : (what : Lexeme) (m : CasePart) → case_word what ≡ Some m → depth_after 0 what ≡ 0
    flat (lex.Key key.When) m is = refl
    flat (lex.Key key.Then) m is = refl
    flat (lex.Key key.Else) m is = refl
    flat _ m is = cc
