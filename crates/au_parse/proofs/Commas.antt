-- The commas of each word, counted from the left with a stack, are those that go back to it.
use Rattle.std.proofs.Common.{◌≡◌, ℕ, zero, suc, ◌+◌, ◌-◌, ◌≤◌, ◌<◌, ◌&&◌, Bool, true, false, cond, List, [], ◌∷◌, length, map, drop, Some, None, refl, sym, ap, ◌∙◌, arith}
use Rattle.std.proofs.Common.{add-one}
use Rattle.std.proofs.lemmas.Bool.Decides.{nat_tests}
use Rattle.std.specs.Prelude.{◌==◌, Option, option_map, IfSome, if◌then◌else◌}
use Rattle.std.specs.List.{filter}
use Rattle.au_lex.specs.declared.Lexeme.{Lexeme}
use Rattle.au_lex.specs.declared.Lexeme.TheVariants as lex
use Rattle.au_lex.specs.declared.Symbol.TheVariants as sym'
use Rattle.au_lex.specs.declared.Token.{Token}
use Rattle.au_parse.specs.Words.{is_comma, is_group_open, is_group_close}
use Rattle.au_parse.specs.Limits.{back_to_match, begins_part, unless_none, stop, wanted, counts_for, commas_of, passes_limit, token_place}
use Rattle.au_parse.specs.Statements.{Commas, commas_after, is_last}

-- a lexeme is one of these at most
comma_only : (what : Lexeme) → is_comma what ≡ true → (is_group_open what ≡ false) × (begins_part what ≡ false) × (is_group_close what ≡ false)
comma_only (lex.Symbol sym'.Comma) is = (refl, refl, refl)
comma_only _ is = cc

close_only : (what : Lexeme) → is_group_close what ≡ true → (is_group_open what ≡ false) × (begins_part what ≡ false)
close_only (lex.Symbol sym'.Close) is = (refl, refl)
close_only _ is = cc

-- for each bracket that is open behind these tokens (the nearest first), the tokens before it, the innermost bracket first
abbrev without_first : List (List Token) → List (List Token)
without_first [] = []
without_first (b ∷ more) = more

abbrev opened : List Token → Lexeme → List (List Token) → List (List Token)
opened before what around = elim (is_group_open what) [ true ↦ before ∷ around | false ↦ elim (is_group_close what) [ true ↦ without_first around | false ↦ around ] ]

pub outer_of : List Token → List (List Token)
outer_of [] = []
outer_of (t ∷ before) = opened before t.what (outer_of before)

nth : ℕ → List (List Token) → Option (List Token)
nth n [] = None
nth zero (b ∷ more) = Some b
nth (suc n) (b ∷ more) = nth n more

nth-without : (n : ℕ) (around : List (List Token)) → nth n (without_first around) ≡ nth (suc n) around
unfolding nth
nth-without n [] = refl
nth-without n (b ∷ more) = refl

-- the brackets that are open are those that one comes to going back
abbrev dropped : List Token → Option ℕ → Option (List Token)
dropped before found = option_map (λ n. drop n before) found

one_back : (t : Token) (before : List Token) (found : Option ℕ) → dropped (t ∷ before) (option_map (λ n. n + 1) found) ≡ dropped before found
one_back t before None = refl
one_back t before (Some n) = rw add-one

match_step : (t : Token) (before : List Token) (pending : ℕ) (v w : Bool) → is_group_open t.what ≡ v → is_group_close t.what ≡ w → (v ≡ true → w ≡ false)
    → ((n : ℕ) → dropped before (back_to_match n before) ≡ nth n (outer_of before))
    → dropped (t ∷ before) (back_to_match pending (t ∷ before)) ≡ nth pending (outer_of (t ∷ before))
unfolding nth outer_of back_to_match
match_step t before zero true w is also alone more = rw (is, back_to_match, opened)
match_step t before (suc n) true w is also alone more =
    let e : (suc n == 0) ≡ false = grind (arith, nat_tests) in
    let f : suc n - 1 ≡ n = omega arith in
    let g : is_group_close t.what ≡ false = also ∙ alone refl in
    rw (is, e, g, back_to_match, opened, one_back t before, is, f) (more n)
match_step t before n false true is also alone more =
    rw (is, also, back_to_match, opened, one_back t before, nth-without, add-one) (more (suc n))
match_step t before n false false is also alone more =
    rw (is, also, back_to_match, opened, one_back t before, is) (more n)

open_alone : (what : Lexeme) → is_group_open what ≡ true → is_group_close what ≡ false
open_alone (lex.Symbol sym'.Open) is = refl
open_alone _ is = cc

match_is : (before : List Token) (n : ℕ) → dropped before (back_to_match n before) ≡ nth n (outer_of before)
unfolding nth outer_of back_to_match
match_is [] n = refl
match_is (t ∷ before) n = match_step t before n (is_group_open t.what) (is_group_close t.what) refl refl (open_alone t.what) (match_is before)

-- to stop behind some tokens
stop_skips : (n : ℕ) (before : List Token) → stop n before ≡ stop 0 (drop n before)
unfolding stop
stop_skips zero before = refl
stop_skips (suc n) [] = refl
stop_skips (suc n) (t ∷ before) = stop_skips n before

stop_length : (k : ℕ) (before : List Token) → length (stop k before) ≤ length before
unfolding stop
stop_length k [] = omega arith
stop_length (suc k) (t ∷ before) = omega (arith, stop_length k before)
stop_length zero (t ∷ before) = by_tests (is_group_open t.what) (begins_part t.what) _ (stop_length _ before)
  where
    by_tests : (v w : Bool) (xs : List Token) → length xs ≤ length before → length {A = Token} (elim v [ true ↦ [] | false ↦ elim w [ true ↦ t ∷ before | false ↦ xs ] ]) ≤ suc (length before)
    by_tests true w xs less = omega arith
    by_tests false true xs less = omega arith
    by_tests false false xs less = omega arith

-- the word of a place, after each kind of token
stop_open : (t : Token) (before : List Token) → is_group_open t.what ≡ true → stop 0 (t ∷ before) ≡ []
unfolding stop
stop_open t before is = rw (is, stop)

stop_part : (t : Token) (before : List Token) → is_group_open t.what ≡ false → begins_part t.what ≡ true → stop 0 (t ∷ before) ≡ t ∷ before
unfolding stop
stop_part t before not is = rw (not, is, stop)

stop_other : (t : Token) (before : List Token) → is_group_open t.what ≡ false → begins_part t.what ≡ false → is_group_close t.what ≡ false → stop 0 (t ∷ before) ≡ stop 0 before
unfolding stop
stop_other t before not nor neither = rw (not, nor, neither, stop)

stop_close : (t : Token) (before : List Token) → is_group_close t.what ≡ true → stop 0 (t ∷ before) ≡ stop (unless_none (back_to_match 0 before)) before
unfolding stop
stop_close t before is = let only = close_only t.what is in rw (only.0, only.1, is, stop)

-- no bracket's section is that of another: each word stands behind the bracket that is open around it
abbrev Under : ℕ → List (List Token) → Type 0
Under n [] = Unit {0}
Under n (b ∷ more) = (length b < n) × Under n more

under_more : (m n : ℕ) (around : List (List Token)) → m ≤ n → Under m around → Under n around
under_more m n [] less is = tt
under_more m n (b ∷ more) less is = (omega (arith, is.0), under_more m n more less is.1)

abbrev Behind : List Token → List (List Token) → Type 0
Behind [] around = Unit {0}
Behind (t ∷ before) around = Under (length before) around

abbrev InOrder : List (List Token) → Type 0
InOrder [] = Unit {0}
InOrder (b ∷ more) = Under (length b) more × Behind (stop 0 b) more × InOrder more

record IsOrdered (before : List Token) : Type 0 where
  pub under : Under (length before) (outer_of before)
  pub behind : Behind (stop 0 before) (outer_of before)
  pub order : InOrder (outer_of before)

nothing_behind : (xs : List Token) → Behind xs []
nothing_behind [] = tt
nothing_behind (t ∷ before) = tt

-- a bracket that closes leads back to the word around it
found_back : (before b : List Token) (found : Option ℕ) → dropped before found ≡ Some b → stop (unless_none found) before ≡ stop 0 b
found_back before b None is = cc
found_back before b (Some n) is = let e : drop n before ≡ b = cc in stop_skips n before ∙ ap (stop 0) e

none_back : (before : List Token) (found : Option ℕ) → dropped before found ≡ None → stop (unless_none found) before ≡ stop 0 before
none_back before None is = refl
none_back before (Some n) is = cc

close_some : (t : Token) (before b : List Token) (more : List (List Token)) → is_group_close t.what ≡ true → outer_of before ≡ b ∷ more → stop 0 (t ∷ before) ≡ stop 0 b
unfolding nth
close_some t before b more is around = stop_close t before is ∙ found_back before b (back_to_match 0 before) (match_is before 0 ∙ ap (nth 0) around)

close_none : (t : Token) (before : List Token) → is_group_close t.what ≡ true → outer_of before ≡ [] → stop 0 (t ∷ before) ≡ stop 0 before
unfolding nth
close_none t before is around = stop_close t before is ∙ none_back before (back_to_match 0 before) (match_is before 0 ∙ ap (nth 0) around)

-- the brackets after each kind of token
outer_open : (t : Token) (before : List Token) → is_group_open t.what ≡ true → outer_of (t ∷ before) ≡ before ∷ outer_of before
unfolding outer_of
outer_open t before is = rw (is, opened)

outer_close : (t : Token) (before : List Token) → is_group_close t.what ≡ true → outer_of (t ∷ before) ≡ without_first (outer_of before)
unfolding outer_of
outer_close t before is = let only = close_only t.what is in rw (only.0, is, opened)

outer_other : (t : Token) (before : List Token) → is_group_open t.what ≡ false → is_group_close t.what ≡ false → outer_of (t ∷ before) ≡ outer_of before
unfolding outer_of
outer_other t before not nor = rw (not, nor, opened)

module _ (t : Token) (before : List Token) (so_far : IsOrdered before) where
  ordered_open : is_group_open t.what ≡ true → IsOrdered (t ∷ before)
  ordered_open is =
      let e = outer_open t before is in
      record {
        under = rw e (omega arith, under_more (length before) (suc (length before)) (outer_of before) (omega arith) so_far.under);
        behind = rw (stop_open t before is) tt;
        order = rw e (so_far.under, so_far.behind, so_far.order);
      }

  ordered_close_by : is_group_close t.what ≡ true → (around : List (List Token)) → outer_of before ≡ around → Under (length before) around → InOrder around → IsOrdered (t ∷ before)
  ordered_close_by is [] around_is under order =
      let e : outer_of (t ∷ before) ≡ [] = outer_close t before is ∙ ap without_first around_is in
      record { under = rw e tt; behind = rw e (nothing_behind (stop 0 (t ∷ before))); order = rw e tt }
  ordered_close_by is (b ∷ more) around_is under order =
      let e : outer_of (t ∷ before) ≡ more = outer_close t before is ∙ ap without_first around_is in
      record {
        under = rw e (under_more (length before) (suc (length before)) more (omega arith) under.1);
        behind = rw (e, close_some t before b more is around_is) order.1;
        order = rw e order.2;
      }

  ordered_close : is_group_close t.what ≡ true → IsOrdered (t ∷ before)
  ordered_close is = ordered_close_by is (outer_of before) refl so_far.under so_far.order

  ordered_part : is_group_open t.what ≡ false → is_group_close t.what ≡ false → begins_part t.what ≡ true → IsOrdered (t ∷ before)
  ordered_part not nor is =
      let e = outer_other t before not nor in
      record {
        under = rw e (under_more (length before) (suc (length before)) (outer_of before) (omega arith) so_far.under);
        behind = rw (e, stop_part t before not is) so_far.under;
        order = rw e so_far.order;
      }

  ordered_other : is_group_open t.what ≡ false → is_group_close t.what ≡ false → begins_part t.what ≡ false → IsOrdered (t ∷ before)
  ordered_other not nor neither =
      let e = outer_other t before not nor in
      record {
        under = rw e (under_more (length before) (suc (length before)) (outer_of before) (omega arith) so_far.under);
        behind = rw (e, stop_other t before not neither nor) so_far.behind;
        order = rw e so_far.order;
      }

  ordered_by : (v w x : Bool) → is_group_open t.what ≡ v → is_group_close t.what ≡ w → begins_part t.what ≡ x → IsOrdered (t ∷ before)
  ordered_by true w x is also too = ordered_open is
  ordered_by false true x is also too = ordered_close also
  ordered_by false false true is also too = ordered_part is also too
  ordered_by false false false is also too = ordered_other is also too

ordered : (before : List Token) → IsOrdered before
unfolding outer_of stop
ordered [] = record { under = tt; behind = tt; order = tt }
ordered (t ∷ before) = ordered_by t before (ordered before) _ _ _ refl refl refl

-- the commas so far of the word at which one stops
abbrev pub section : (Lexeme → Bool) → List ℕ → List Token → Option ℕ
section word seen xs = option_map (λ at. commas_of at seen) (wanted word xs)

abbrev pub sections : (Lexeme → Bool) → List ℕ → List (List Token) → List (Option ℕ)
sections word seen around = map (λ b. section word seen (stop 0 b)) around

-- no comma has counted for a word that is still to come
abbrev pub Earlier : ℕ → List ℕ → Type 0
Earlier n [] = Unit {0}
Earlier n (at ∷ seen) = (at < n) × Earlier n seen

earlier_more : (m n : ℕ) (seen : List ℕ) → m ≤ n → Earlier m seen → Earlier n seen
earlier_more m n [] less is = tt
earlier_more m n (at ∷ seen) less is = (omega (arith, is.0), earlier_more m n seen less is.1)

none_yet : (n : ℕ) (seen : List ℕ) → Earlier n seen → commas_of n seen ≡ 0
none_yet n [] is = refl
none_yet n (at ∷ seen) is = let differs : (at == n) ≡ false = grind (arith, nat_tests, is.0) in rw differs (none_yet n seen is.1)

wanted_before : (word : Lexeme → Bool) (at n : ℕ) (xs : List Token) → wanted word xs ≡ Some at → length xs ≤ n → at < n
wanted_before word at n [] is less = cc
wanted_before word at n (t ∷ xs) is less = by_test (word t.what) is
  where
    by_test : (v : Bool) → ◌≡◌ {A = Option ℕ} (if v then Some (length xs) else None) (Some at) → at < n
    by_test true here = let e : length xs ≡ at = cc in omega arith
    by_test false here = cc

pub record Holds (word : Lexeme → Bool) (seen : List ℕ) (before : List Token) (commas : Commas) : Type 0 where
  pub inner : commas.inner ≡ section word seen (stop 0 before)
  pub outer : commas.outer ≡ sections word seen (outer_of before)
  pub earlier : Earlier (length before) seen

-- a comma more of a word is none of a word before it
section_by : (word : Lexeme → Bool) (seen : List ℕ) (at : ℕ) (xs : List Token) → length xs ≤ at → section word (at ∷ seen) xs ≡ section word seen xs
section_by word seen at [] less = refl
section_by word seen at (t ∷ xs) less = by_test (word t.what)
  where
    differs : (at == length xs) ≡ false
    differs = grind (arith, nat_tests)

    by_test : (v : Bool) → option_map (λ n. commas_of n (at ∷ seen)) (if v then Some (length xs) else None) ≡ option_map (λ n. commas_of n seen) (if v then Some (length xs) else None)
    by_test true = rw differs
    by_test false = refl

sections_by : (word : Lexeme → Bool) (seen : List ℕ) (at : ℕ) (around : List (List Token)) → Under at around → sections word (at ∷ seen) around ≡ sections word seen around
sections_by word seen at [] under = refl
sections_by word seen at (b ∷ more) under =
    rw (section_by word seen at (stop 0 b) (omega (arith, stop_length 0 b, under.0)), sections_by word seen at more under.1)

is_wanted : (word : Lexeme → Bool) (at : ℕ) (xs : List Token) (around : List (List Token)) → wanted word xs ≡ Some at → Behind xs around → Under at around
is_wanted word at [] around is behind = cc
is_wanted word at (t ∷ xs) around is behind = by_test (word t.what) is
  where
    by_test : (v : Bool) → ◌≡◌ {A = Option ℕ} (if v then Some (length xs) else None) (Some at) → Under at around
    by_test true here = let e : length xs ≡ at = cc in rw (sym e) behind
    by_test false here = cc

module _ (word : Lexeme → Bool) (seen : List ℕ) (t : Token) (before : List Token) (commas : Commas) (holds : Holds word seen before commas) where
  earlier_here : Earlier (suc (length before)) seen
  earlier_here = earlier_more (length before) (suc (length before)) seen (omega arith) holds.earlier

  holds_open : is_comma t.what ≡ false → is_group_open t.what ≡ true → Holds word seen (t ∷ before) (commas_after word t.what commas)
  holds_open flat is =
      record { inner = rw (flat, commas_after, is, stop_open t before is); outer = rw (flat, commas_after, is, outer_open t before is, holds.inner, holds.outer); earlier = earlier_here }

  close_by : is_comma t.what ≡ false → is_group_close t.what ≡ true → (around : List (List Token)) → outer_of before ≡ around → commas.outer ≡ sections word seen around
      → Holds word seen (t ∷ before) (commas_after word t.what commas)
  close_by flat is [] around_is outer =
      let only = close_only t.what is in
      record {
        inner = rw (flat, commas_after, only.0, is, outer, close_none t before is around_is) holds.inner;
        outer = rw (flat, commas_after, only.0, is, outer, outer_close t before is, around_is);
        earlier = earlier_here;
      }
  close_by flat is (b ∷ more) around_is outer =
      let only = close_only t.what is in
      record {
        inner = rw (flat, commas_after, only.0, is, outer, close_some t before b more is around_is);
        outer = rw (flat, commas_after, only.0, is, outer, outer_close t before is, around_is);
        earlier = earlier_here;
      }

  holds_part : is_comma t.what ≡ false → is_group_open t.what ≡ false → is_group_close t.what ≡ false → begins_part t.what ≡ true → Holds word seen (t ∷ before) (commas_after word t.what commas)
  holds_part flat not nor is =
      record {
        inner = rw (flat, commas_after, not, nor, is, stop_part t before not is) (by_test (word t.what));
        outer = rw (flat, commas_after, not, nor, is, outer_other t before not nor) holds.outer;
        earlier = earlier_here;
      }
    where
      by_test : (v : Bool) → ◌≡◌ {A = Option ℕ} (if v then Some 0 else None) (option_map (λ at. commas_of at seen) (if v then Some (length before) else None))
      by_test true = rw (none_yet (length before) seen holds.earlier)
      by_test false = refl

  holds_other : is_comma t.what ≡ false → is_group_open t.what ≡ false → is_group_close t.what ≡ false → begins_part t.what ≡ false → Holds word seen (t ∷ before) (commas_after word t.what commas)
  holds_other flat not nor neither =
      record {
        inner = rw (flat, commas_after, not, nor, neither, stop_other t before not neither nor) holds.inner;
        outer = rw (flat, commas_after, not, nor, neither, outer_other t before not nor) holds.outer;
        earlier = earlier_here;
      }

  holds_none : is_comma t.what ≡ true → wanted word (stop 0 before) ≡ None → Holds word seen (t ∷ before) (commas_after word t.what commas)
  holds_none is none =
      let only = comma_only t.what is in
      record {
        inner = rw (is, commas_after, holds.inner, stop_other t before only.0 only.1 only.2, none);
        outer = rw (is, commas_after, outer_other t before only.0 only.2) holds.outer;
        earlier = earlier_here;
      }

  holds_counted : (at : ℕ) → is_comma t.what ≡ true → wanted word (stop 0 before) ≡ Some at → Holds word (at ∷ seen) (t ∷ before) (commas_after word t.what commas)
  holds_counted at is some =
      let only = comma_only t.what is in
      let order : IsOrdered before = ordered before in
      let same : (at == at) ≡ true = grind (arith, nat_tests) in
      record {
        inner = rw (is, commas_after, holds.inner, stop_other t before only.0 only.1 only.2, some, same, add-one);
        outer = rw (is, commas_after, outer_other t before only.0 only.2) (holds.outer ∙ sym (sections_by word seen at (outer_of before) (is_wanted word at (stop 0 before) (outer_of before) some order.behind)));
        earlier = (omega (arith, wanted_before word at (length before) (stop 0 before) some (stop_length 0 before)), earlier_here);
      }

  holds_by : (v w x y : Bool) → is_comma t.what ≡ v → is_group_open t.what ≡ w → is_group_close t.what ≡ x → begins_part t.what ≡ y → counts_for word t before ≡ None
      → Holds word seen (t ∷ before) (commas_after word t.what commas)
  holds_by true w x y a b c d none = holds_none a (rw a at none)
  holds_by false true x y a b c d none = holds_open a b
  holds_by false false true y a b c d none = close_by a c (outer_of before) refl holds.outer
  holds_by false false false true a b c d none = holds_part a b c d
  holds_by false false false false a b c d none = holds_other a b c d

  holds_on : counts_for word t before ≡ None → Holds word seen (t ∷ before) (commas_after word t.what commas)
  holds_on none = holds_by _ _ _ _ refl refl refl refl none

-- the commas so far are no more than the tokens
commas_step : (x n : ℕ) (xs : List ℕ) (v : Bool) → length xs ≤ n → length (cond v (x ∷ xs) xs) ≤ suc n
commas_step x n xs true less = omega arith
commas_step x n xs false less = omega arith

commas-le : (at : ℕ) (seen : List ℕ) → commas_of at seen ≤ length seen
commas-le at [] = omega arith
commas-le at (x ∷ seen) = commas_step x (length seen) (filter (λ other. other == at) seen) (x == at) (commas-le at seen)

-- one step of the definition
passes_none : (word : Lexeme → Bool) (limit end : ℕ) (seen : List ℕ) (before : List Token) (t : Token) (ts : List Token) → counts_for word t before ≡ None
    → passes_limit word limit end seen before (t ∷ ts) ≡ passes_limit word limit end seen (t ∷ before) ts
unfolding passes_limit
passes_none word limit end seen before t ts none = rw (none, passes_limit)

passes_last : (word : Lexeme → Bool) (limit end : ℕ) (seen : List ℕ) (before : List Token) (t : Token) (ts : List Token) (at : ℕ) → counts_for word t before ≡ Some at → (commas_of at seen + 1 == limit) ≡ true
    → passes_limit word limit end seen before (t ∷ ts) ≡ Some (token_place end ts)
unfolding passes_limit
passes_last word limit end seen before t ts at some last = rw (some, last, passes_limit)

passes_more : (word : Lexeme → Bool) (limit end : ℕ) (seen : List ℕ) (before : List Token) (t : Token) (ts : List Token) (at : ℕ) → counts_for word t before ≡ Some at → (commas_of at seen + 1 == limit) ≡ false
    → passes_limit word limit end seen before (t ∷ ts) ≡ passes_limit word limit end (at ∷ seen) (t ∷ before) ts
unfolding passes_limit
passes_more word limit end seen before t ts at some more = rw (some, more, passes_limit)

-- what is left after some tokens decides, with the commas so far
pub record IsReached (word : Lexeme → Bool) (limit end : ℕ) (tokens rest : List Token) (commas : Commas) : Type 0 where
  pub before : List Token
  pub seen : List ℕ
  pub holds : Holds word seen before commas
  pub goes : passes_limit word limit end seen before rest ≡ passes_limit word limit end [] [] tokens
  pub few : length seen ≤ length before
  pub all : length before + length rest ≡ length tokens

pub reached_first : (word : Lexeme → Bool) (limit end : ℕ) (tokens : List Token) (commas : Commas) → commas ≡ record { inner = None; outer = [] } → IsReached word limit end tokens tokens commas
unfolding outer_of stop
reached_first word limit end tokens commas is =
    rw is (record { before = []; seen = []; holds = record { inner = refl; outer = refl; earlier = tt }; goes = refl; few = omega arith; all = omega arith })

module _ (word : Lexeme → Bool) (limit end : ℕ) (tokens rest others : List Token) (t : Token) (commas : Commas) (rest_is : rest ≡ t ∷ others) (so_far : IsReached word limit end tokens rest commas) where
  here : passes_limit word limit end so_far.seen so_far.before (t ∷ others) ≡ passes_limit word limit end [] [] tokens
  here = ap (passes_limit word limit end so_far.seen so_far.before) (sym rest_is) ∙ so_far.goes

  last_by : (found inner : Option ℕ) (v : Bool) → is_comma t.what ≡ v → wanted word (stop 0 so_far.before) ≡ found → inner ≡ option_map (λ at. commas_of at so_far.seen) found
      → (elim inner as (λ o. Bool) [ None ↦ false | Some n ↦ v && (n + 1 == limit) ]) ≡ true → passes_limit word limit end [] [] tokens ≡ Some (token_place end others)
  last_by None inner v is found inner_is last = cc
  last_by (Some at) inner true is found inner_is last = sym here ∙ passes_last word limit end so_far.seen so_far.before t others at (rw is found) (rw inner_is at last)
  last_by (Some at) inner false is found inner_is last = cc

  pub reached_last : is_last limit t.what commas ≡ true → Some (token_place end others) ≡ passes_limit word limit end [] [] tokens
  reached_last last = sym (last_by _ commas.inner _ refl refl so_far.holds.inner last)

  next_none : counts_for word t so_far.before ≡ None → IsReached word limit end tokens others (commas_after word t.what commas)
  next_none none = record {
    before = t ∷ so_far.before;
    seen = so_far.seen;
    holds = holds_on word so_far.seen t so_far.before commas so_far.holds none;
    goes = sym (passes_none word limit end so_far.seen so_far.before t others none) ∙ here;
    few = omega (arith, so_far.few);
    all = omega (arith, so_far.all, ap length rest_is);
  }

  next_some : (at : ℕ) → is_comma t.what ≡ true → wanted word (stop 0 so_far.before) ≡ Some at → (commas_of at so_far.seen + 1 == limit) ≡ false → IsReached word limit end tokens others (commas_after word t.what commas)
  next_some at is some more = record {
    before = t ∷ so_far.before;
    seen = at ∷ so_far.seen;
    holds = holds_counted word so_far.seen t so_far.before commas so_far.holds at is some;
    goes = sym (passes_more word limit end so_far.seen so_far.before t others at (rw is some) more) ∙ here;
    few = omega (arith, so_far.few);
    all = omega (arith, so_far.all, ap length rest_is);
  }

  next_by : (found inner : Option ℕ) (v : Bool) → is_comma t.what ≡ v → wanted word (stop 0 so_far.before) ≡ found → inner ≡ option_map (λ at. commas_of at so_far.seen) found
      → (elim inner as (λ o. Bool) [ None ↦ false | Some n ↦ v && (n + 1 == limit) ]) ≡ false → IsReached word limit end tokens others (commas_after word t.what commas)
  next_by found inner false is found_is inner_is more = next_none (rw is)
  next_by None inner true is found_is inner_is more = next_none (rw is found_is)
  next_by (Some at) inner true is found_is inner_is more = next_some at is found_is (rw inner_is at more)

  pub reached_next : is_last limit t.what commas ≡ false → IsReached word limit end tokens others (commas_after word t.what commas)
  reached_next more = next_by _ commas.inner _ refl refl so_far.holds.inner more

pub reached_end : (word : Lexeme → Bool) (limit end : ℕ) (tokens rest : List Token) (commas : Commas) → length rest ≡ 0 → IsReached word limit end tokens rest commas → None ≡ passes_limit word limit end [] [] tokens
unfolding passes_limit
reached_end word limit end tokens [] commas none so_far = so_far.goes
reached_end word limit end tokens (t ∷ rest) commas none so_far = absurd (omega arith)

-- one comma more than so far is no more than the tokens
room_by : (n : ℕ) (found inner : Option ℕ) (seen : List ℕ) → inner ≡ option_map (λ at. commas_of at seen) found → length seen < n → IfSome inner (λ k. k + 1 ≤ n)
room_by n None inner seen is less = rw is tt
room_by n (Some at) inner seen is less = rw is (omega (arith, commas-le at seen))

pub reached_room : (word : Lexeme → Bool) (limit end n : ℕ) (tokens rest others : List Token) (t : Token) (commas : Commas) → rest ≡ t ∷ others → IsReached word limit end tokens rest commas
    → length tokens < n → IfSome commas.inner (λ k. k + 1 < n)
reached_room word limit end n tokens rest others t commas rest_is so_far less =
    more commas.inner (room_by (length tokens) _ commas.inner so_far.seen so_far.holds.inner (omega (arith, so_far.few, so_far.all, ap length rest_is)))
  where
    more : (inner : Option ℕ) → IfSome inner (λ k. k + 1 ≤ length tokens) → IfSome inner (λ k. k + 1 < n)
    more None is = tt
    more (Some k) is = omega (arith, is)
