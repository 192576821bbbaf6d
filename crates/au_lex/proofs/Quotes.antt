-- Texts and quoted names: where they end, and what they stand for.
use Rattle.std.proofs.Common.{◌≡◌, ◌⊎◌, ℕ, zero, suc, ◌+◌, ◌-◌, ◌≤◌, ◌<◌, ◌&&◌, Bool, true, false, not, List, [], ◌∷◌, ◌++◌, length, take, Some, None, Err, refl, sym, ap, ◌∙◌, subst, arith, get_or, inl, inr, append_assoc}
use Rattle.std.proofs.Common.{add_assoc, add-one, zero-add, append-nil}
use Rattle.std.specs.Prelude.{◌==◌, Option, option_map, is_some, slice_index, IfSome, if◌then◌else◌}
use Rattle.std.proofs.lemmas.Bool.{eqb-true, cases_lt}
use Rattle.std.proofs.lemmas.Bool.Decides.{nat_tests}
use Rattle.std.proofs.lemmas.Str.{IsUtf8-from_ascii, IsUtf8-nil, IsUtf8-append, IsUtf8-encode, IsUtf8-drop, IsCharBoundary-after_ascii, encode_ascii, length-encode, inside_one}
use Rattle.std.proofs.lemmas.Str.Ascii.{IsAscii-nil, IsAscii-cons}
use Rattle.std.specs.Str.{IsUtf8}
use lib.Utf8.{encode, encodes, scalar, scalars}
use Rattle.au_lex.specs.declared.Lexeme.{Lexeme}
use Rattle.au_lex.specs.declared.Lexeme.TheVariants as lex
use Rattle.au_lex.specs.declared.LexFault.TheVariants.{OpenText}
use Rattle.au_lex.specs.Lexemes.{spelled, unquoted}
use Rattle.au_lex.specs.Tokens.{token_at, is_unclosed, is_bad_number, has_end, Finds, IsQuote}
use Rattle.au_lex.specs.Fronts.{quoted_front, behind_units, behind_unit, behind_quote}
use Rattle.au_lex.proofs.Longest.{longest_is}
use Rattle.au_lex.proofs.Fronts.{token_ok, token_open}

-- a front is found where the text has an end
some_behind : (n : ℕ) (xs : List ℕ) (found : Option (ℕ × List ℕ)) → is_some (behind_units n xs found) ≡ is_some found
some_behind n xs None = refl
some_behind n xs (Some f) = refl

end_true : (q : ℕ) (rest : List ℕ) (t : Bool) → has_end q false rest ≡ is_some (quoted_front q false rest)
    → (elim t [ true ↦ has_end q false rest | false ↦ true ]) ≡ is_some {T = ℕ × List ℕ} (elim t [ true ↦ behind_units 1 (q ∷ []) (quoted_front q false rest) | false ↦ Some (0, []) ])
end_true q rest true more = more ∙ sym (some_behind 1 (q ∷ []) (quoted_front q false rest))
end_true q rest false more = refl

end_false : (q b : ℕ) (rest : List ℕ) (t : Bool) → ((after : Bool) → has_end q after rest ≡ is_some (quoted_front q after rest))
    → has_end q t rest ≡ is_some (elim t [ true ↦ behind_units 1 [] (quoted_front q true rest) | false ↦ behind_units 1 (b ∷ []) (quoted_front q false rest) ])
end_false q b rest true more = more true ∙ sym (some_behind 1 [] (quoted_front q true rest))
end_false q b rest false more = more false ∙ sym (some_behind 1 (b ∷ []) (quoted_front q false rest))

pub has_end-is : (q : ℕ) (after : Bool) (rest : List ℕ) → has_end q after rest ≡ is_some (quoted_front q after rest)
unfolding has_end quoted_front
has_end-is q true [] = refl
has_end-is q false [] = refl
has_end-is q true (b ∷ rest) = end_true q rest (b == q) (has_end-is q false rest)
has_end-is q false (b ∷ rest) = end_false q b rest (b == q) (λ after. has_end-is q after rest)

-- the front is a whole text, and no longer one is
record IsFront (q : ℕ) (after : Bool) (rest : List ℕ) (f : ℕ × List ℕ) : Type 0 where
  pub fits : f.0 ≤ length rest
  pub whole : unquoted q after (take f.0 rest) ≡ Some f.1
  pub longer : (m : ℕ) → f.0 < m → m ≤ length rest → unquoted q after (take m rest) ≡ None
  pub last : ((f.0 ≡ 0) × (after ≡ true)) ⊎ ((0 < f.0) × (slice_index rest (f.0 - 1) ≡ q))

behind_some : (n : ℕ) (xs : List ℕ) (P Q : ℕ × List ℕ → Type 0) (found : Option (ℕ × List ℕ)) → ((f : ℕ × List ℕ) → P f → Q (n + f.0, xs ++ f.1)) → IfSome found P → IfSome (behind_units n xs found) Q
behind_some n xs P Q None step is = tt
behind_some n xs P Q (Some f) step is = step f is

last_step : (q b n : ℕ) (after : Bool) (rest : List ℕ) → (after ≡ true → b ≡ q) → ((n ≡ 0) × (after ≡ true)) ⊎ ((0 < n) × (slice_index rest (n - 1) ≡ q))
    → (0 < suc n) × (slice_index (b ∷ rest) (suc n - 1) ≡ q)
last_step q b zero after rest first (inl here) = (omega arith, first here.1)
last_step q b (suc n) after rest first (inl here) = absurd (omega (arith, here.0))
last_step q b zero after rest first (inr here) = absurd (omega (arith, here.0))
last_step q b (suc n) after rest first (inr here) =
    let e : suc n - 1 ≡ n = omega arith in
    let g : suc (suc n) - 1 ≡ suc n = omega arith in
    (omega arith, rw g (rw e at here.1))

-- one byte more in front
front_step : (q b : ℕ) (after now : Bool) (rest xs : List ℕ) → ((text : List ℕ) → unquoted q after (b ∷ text) ≡ option_map (λ ys. xs ++ ys) (unquoted q now text))
    → (now ≡ true → b ≡ q) → (f : ℕ × List ℕ) → IsFront q now rest f → IsFront q after (b ∷ rest) (1 + f.0, xs ++ f.1)
front_step q b after now rest xs reads first f is =
    let e : 1 + f.0 ≡ suc f.0 = omega arith in
    subst (λ n. IsFront q after (b ∷ rest) (n, xs ++ f.1)) (sym e) (record {
      fits = omega (arith, is.fits);
      whole = reads (take f.0 rest) ∙ ap (option_map (λ ys. xs ++ ys)) is.whole;
      longer = longer;
      last = inr (last_step q b f.0 now rest first is.last);
    })
  where
    longer : (m : ℕ) → suc f.0 < m → m ≤ suc (length rest) → unquoted q after (take m (b ∷ rest)) ≡ None
    longer zero above fits = absurd (omega arith)
    longer (suc m) above fits = reads (take m rest) ∙ ap (option_map (λ ys. xs ++ ys)) (is.longer m (omega arith) (omega arith))

no_map : (found : Option (List ℕ)) → found ≡ option_map (λ ys. [] ++ ys) found
no_map None = refl
no_map (Some x) = refl

reads_true : (q b : ℕ) → (b == q) ≡ true → (text : List ℕ) → unquoted q true (b ∷ text) ≡ option_map (λ ys. (q ∷ []) ++ ys) (unquoted q false text)
unfolding unquoted
reads_true q b is text = rw is

reads_quote : (q b : ℕ) → (b == q) ≡ true → (text : List ℕ) → unquoted q false (b ∷ text) ≡ option_map (λ ys. [] ++ ys) (unquoted q true text)
unfolding unquoted
reads_quote q b is text = rw (is, unquoted) (no_map (unquoted q true text))

reads_other : (q b : ℕ) → (b == q) ≡ false → (text : List ℕ) → unquoted q false (b ∷ text) ≡ option_map (λ ys. (b ∷ []) ++ ys) (unquoted q false text)
unfolding unquoted
reads_other q b is text = rw (is, unquoted)

stops : (q b : ℕ) (rest : List ℕ) → (b == q) ≡ false → IsFront q true (b ∷ rest) (0, [])
unfolding unquoted
stops q b rest is = record { fits = omega arith; whole = refl; longer = longer; last = inl (refl, refl) }
  where
    longer : (m : ℕ) → 0 < m → m ≤ suc (length rest) → unquoted q true (take m (b ∷ rest)) ≡ None
    longer zero above fits = absurd (omega arith)
    longer (suc m) above fits = rw is

front_true : (q b : ℕ) (rest : List ℕ) (t : Bool) → (b == q) ≡ t → IfSome (quoted_front q false rest) (IsFront q false rest)
    → IfSome (elim t [ true ↦ behind_units 1 (q ∷ []) (quoted_front q false rest) | false ↦ Some (0, []) ]) (IsFront q true (b ∷ rest))
front_true q b rest true is more = behind_some 1 (q ∷ []) (IsFront q false rest) (IsFront q true (b ∷ rest)) (quoted_front q false rest) (front_step q b true false rest (q ∷ []) (reads_true q b is) (λ h. cc)) more
front_true q b rest false is more = stops q b rest is

front_false : (q b : ℕ) (rest : List ℕ) (t : Bool) → (b == q) ≡ t → ((after : Bool) → IfSome (quoted_front q after rest) (IsFront q after rest))
    → IfSome (elim t [ true ↦ behind_units 1 [] (quoted_front q true rest) | false ↦ behind_units 1 (b ∷ []) (quoted_front q false rest) ]) (IsFront q false (b ∷ rest))
front_false q b rest true is more = behind_some 1 [] (IsFront q true rest) (IsFront q false (b ∷ rest)) (quoted_front q true rest) (front_step q b false true rest [] (reads_quote q b is) (λ h. eqb-true b q is)) (more true)
front_false q b rest false is more = behind_some 1 (b ∷ []) (IsFront q false rest) (IsFront q false (b ∷ rest)) (quoted_front q false rest) (front_step q b false false rest (b ∷ []) (reads_other q b is) (λ h. cc)) (more false)

front_is : (q : ℕ) (after : Bool) (rest : List ℕ) → IfSome (quoted_front q after rest) (IsFront q after rest)
unfolding quoted_front unquoted
front_is q true [] = record { fits = omega arith; whole = refl; longer = λ m above fits. absurd (omega arith); last = inl (refl, refl) }
front_is q false [] = tt
front_is q true (b ∷ rest) = front_true q b rest (b == q) refl (front_is q false rest)
front_is q false (b ∷ rest) = front_false q b rest (b == q) refl (λ after. front_is q after rest)

found_front : (q : ℕ) (rest : List ℕ) (f : ℕ × List ℕ) → quoted_front q false rest ≡ Some f → IsFront q false rest f
found_front q rest f is = subst (λ o. IfSome o (IsFront q false rest)) is (front_is q false rest)

-- the two kinds of quotation
pub record IsKind (q : ℕ) (kind : List ℕ → Lexeme) : Type 0 where
  pub reads : (text : List ℕ) → spelled (q ∷ text) ≡ option_map kind (unquoted q false text)
  pub opens : (text : List ℕ) → is_unclosed (q ∷ text) ≡ not (has_end q false text)
  pub low : q < 128
  pub no_number : (text : List ℕ) → is_bad_number (q ∷ text) ≡ false

pub single_kind : IsKind 39 lex.Text
single_kind = record { reads = λ text. refl; opens = λ text. refl; low = omega arith; no_number = λ text. refl }

pub double_kind : IsKind 34 lex.Quoted
double_kind = record { reads = λ text. refl; opens = λ text. refl; low = omega arith; no_number = λ text. refl }

quote_last : (q : ℕ) (rest : List ℕ) (n : ℕ) → q < 128 → ((n ≡ 0) × (false ≡ true)) ⊎ ((0 < n) × (slice_index rest (n - 1) ≡ q)) → slice_index (q ∷ rest) (suc n - 1) < 128
quote_last q rest zero low last = low
quote_last q rest (suc n) low (inl last) = cc
quote_last q rest (suc n) low (inr last) =
    let e : suc n - 1 ≡ n = omega arith in
    let g : suc (suc n) - 1 ≡ suc n = omega arith in
    rw g (rw (rw e at last.1) low)

pub quote_found : (at q : ℕ) (kind : List ℕ → Lexeme) (rest : List ℕ) (n : ℕ) (bytes : List ℕ) → IsKind q kind → quoted_front q false rest ≡ Some (n, bytes) → Finds at (q ∷ rest) (suc n) (kind bytes)
quote_found at q kind rest n bytes is found =
    let front : IsFront q false rest (n, bytes) = found_front q rest (n, bytes) found in
    let fits : n ≤ length rest = front.fits in
    record {
      is = token_ok at (q ∷ rest) (suc n, kind bytes)
          (is.opens rest ∙ ap not (has_end-is q false rest ∙ ap is_some found)) (is.no_number rest)
          (longest_is q n rest (kind bytes) (is.reads (take n rest) ∙ ap (option_map kind) front.whole)
          (λ m above within. is.reads (take m rest) ∙ ap (option_map kind) (front.longer m above within)) (length rest - n) (length rest) (omega arith) (omega arith));
      some = omega arith;
      within = omega arith;
      ascii = quote_last q rest n is.low front.last;
    }

pub quote_open : (at q : ℕ) (kind : List ℕ → Lexeme) (rest : List ℕ) → IsKind q kind → quoted_front q false rest ≡ None → token_at at (q ∷ rest) ≡ Err (OpenText at)
quote_open at q kind rest is none = token_open at (q ∷ rest) (is.opens rest ∙ ap not (has_end-is q false rest ∙ ap is_some none))

pub quote_at : (at q : ℕ) (kind : List ℕ → Lexeme) (text rest : List ℕ) (n : ℕ) (bytes : List ℕ) → IsKind q kind → text ≡ q ∷ rest → Some (n, bytes) ≡ quoted_front q false rest → Finds at text (n + 1) (kind bytes)
quote_at at q kind text rest n bytes is text_is found = rw (text_is, add-one) (quote_found at q kind rest n bytes is (sym found))

pub quote_fits : (q : ℕ) (rest : List ℕ) (n : ℕ) (bytes : List ℕ) → Some (n, bytes) ≡ quoted_front q false rest → n ≤ length rest
quote_fits q rest n bytes found = let front : IsFront q false rest (n, bytes) = found_front q rest (n, bytes) (sym found) in front.fits

pub open_at : (at q : ℕ) (text rest : List ℕ) → IsQuote q → text ≡ q ∷ rest → None ≡ quoted_front q false rest → token_at at text ≡ Err (OpenText at)
open_at at q text rest (inl is) text_is none = let e : text ≡ 39 ∷ rest = cc in rw e (quote_open at 39 lex.Text rest single_kind (rw is at (sym none)))
open_at at q text rest (inr is) text_is none = let e : text ≡ 34 ∷ rest = cc in rw e (quote_open at 34 lex.Quoted rest double_kind (rw is at (sym none)))

-- a byte and what is behind it
quote_ends : (q b : ℕ) (others : List ℕ) → behind_unit q b others ≡ None → quoted_front q false (b ∷ others) ≡ Some (1, [])
unfolding quoted_front
quote_ends q b others none = by_test (b == q) others none
  where
    second : (c : ℕ) (more : List ℕ) (t : Bool) → ◌≡◌ {A = Option (List ℕ)} (if t then Some more else None) None
        → ◌≡◌ {A = Option (ℕ × List ℕ)} (behind_units 1 [] (elim t [ true ↦ behind_units 1 (q ∷ []) (quoted_front q false more) | false ↦ Some (0, []) ])) (Some (1, []))
    second c more true none = cc
    second c more false none = refl

    by_test : (t : Bool) (others : List ℕ) → ◌≡◌ {A = Option (List ℕ)} (if t then behind_quote q others else Some others) None
        → ◌≡◌ {A = Option (ℕ × List ℕ)} (elim t [ true ↦ behind_units 1 [] (quoted_front q true others) | false ↦ behind_units 1 (b ∷ []) (quoted_front q false others) ]) (Some (1, []))
    by_test true [] none = refl
    by_test true (c ∷ more) none = second c more (c == q) none
    by_test false others none = cc

behind_twice : (m n : ℕ) (xs ys : List ℕ) (found : Option (ℕ × List ℕ)) → behind_units m xs (behind_units n ys found) ≡ behind_units (m + n) (xs ++ ys) found
behind_twice m n xs ys None = refl
behind_twice m n xs ys (Some f) = rw (add_assoc, append_assoc)

-- a unit of a text: so many bytes, and the text goes on
record IsUnit (q b : ℕ) (others next : List ℕ) : Type 0 where
  pub shorter : length next < length (b ∷ others)
  pub goes : quoted_front q false (b ∷ others) ≡ behind_units (length (b ∷ others) - length next) (b ∷ []) (quoted_front q false next)

quote_unit : (q b : ℕ) (others next : List ℕ) → behind_unit q b others ≡ Some next → IsUnit q b others next
unfolding quoted_front
quote_unit q b others next some = by_test (b == q) refl others some
  where
    one : (n : ℕ) → suc n - n ≡ 1
    one n = omega arith

    two : (n : ℕ) → suc (suc n) - n ≡ 2
    two n = omega arith

    other : (t : Bool) (others : List ℕ) → (b == q) ≡ false → others ≡ next → IsUnit q b others next
    other t others is same = rw same (record { shorter = omega arith; goes = rw (is, quoted_front) (rw one) })

    second : (c : ℕ) (more : List ℕ) (t : Bool) → (b == q) ≡ true → (c == q) ≡ t → ◌≡◌ {A = Option (List ℕ)} (if t then Some more else None) (Some next) → IsUnit q b (c ∷ more) next
    second c more true is again some =
        let same : more ≡ next = cc in
        let e : b ≡ q = eqb-true b q is in
        rw same (record { shorter = omega arith; goes = rw (is, quoted_front) (rw (again, quoted_front) (rw (two, e) (behind_twice 1 1 [] (q ∷ []) (quoted_front q false next)))) })
    second c more false is again some = cc

    by_test : (t : Bool) → (b == q) ≡ t → (others : List ℕ) → ◌≡◌ {A = Option (List ℕ)} (if t then behind_quote q others else Some others) (Some next) → IsUnit q b others next
    by_test true is [] some = cc
    by_test true is (c ∷ more) some = second c more (c == q) is refl some
    by_test false is others some = other false others is (cc)

-- the loop that reads a text
pub quote_done : (q b count : ℕ) (bytes text left others : List ℕ) → left ≡ b ∷ others → None ≡ behind_unit q b others
    → behind_units count bytes (quoted_front q false left) ≡ quoted_front q false text → Some (count + 1, bytes) ≡ quoted_front q false text
quote_done q b count bytes text left others is none so_far =
    sym (ap (behind_units count bytes) (ap (quoted_front q false) is ∙ quote_ends q b others (sym none)) ∙ rw append-nil) ∙ so_far

pub quote_more : (q b count : ℕ) (bytes more text left others next : List ℕ) → left ≡ b ∷ others → Some next ≡ behind_unit q b others → more ≡ bytes ++ b ∷ []
    → behind_units count bytes (quoted_front q false left) ≡ quoted_front q false text → behind_units (count + (length left - length next)) more (quoted_front q false next) ≡ quoted_front q false text
quote_more q b count bytes more text left others next is some more_is so_far =
    let unit : IsUnit q b others next = quote_unit q b others next (sym some) in
    rw (more_is, is) (sym (behind_twice count (length (b ∷ others) - length next) bytes (b ∷ []) (quoted_front q false next))
    ∙ ap (behind_units count bytes) (sym unit.goes ∙ ap (quoted_front q false) (sym is)) ∙ so_far)

pub quote_shorter : (q b : ℕ) (left others next : List ℕ) → left ≡ b ∷ others → Some next ≡ behind_unit q b others → length next < length left
quote_shorter q b left others next is some = let unit : IsUnit q b others next = quote_unit q b others next (sym some) in rw is unit.shorter

pub quote_none : (q count : ℕ) (bytes text left : List ℕ) → length left ≡ 0
    → behind_units count bytes (quoted_front q false left) ≡ quoted_front q false text → None ≡ quoted_front q false text
unfolding quoted_front
quote_none q count bytes text [] is so_far = so_far
quote_none q count bytes text (b ∷ left) is so_far = absurd (omega arith)

pub quote_start : (q : ℕ) (text : List ℕ) → behind_units 0 [] (quoted_front q false text) ≡ quoted_front q false text
quote_start q text = start (quoted_front q false text)
  where
    start : (found : Option (ℕ × List ℕ)) → behind_units 0 [] found ≡ found
    start None = refl
    start (Some f) = rw zero-add

-- what a text stands for is text
high_pass : (q : ℕ) → q < 128 → (xs ys : List ℕ) → ((k : ℕ) → k < length xs → 128 ≤ get_or xs k 0) → quoted_front q false (xs ++ ys) ≡ behind_units (length xs) xs (quoted_front q false ys)
unfolding quoted_front
high_pass q low [] ys high = sym (quote_start q ys)
high_pass q low (x ∷ xs) ys high =
    let first : 128 ≤ x = high 0 (omega arith) in
    let test : (x == q) ≡ false = grind (arith, nat_tests) in
    let e : 1 + length xs ≡ suc (length xs) = omega arith in
    rw (test, quoted_front) (ap (behind_units 1 (x ∷ [])) (high_pass q low xs ys (λ k below. high (suc k) (omega arith))) ∙ behind_twice 1 (length xs) (x ∷ []) xs (quoted_front q false ys) ∙ rw e)

all_high : (c : ℕ) → 128 ≤ c → (k : ℕ) → k < length (encode c) → 128 ≤ get_or (encode c) k 0
all_high c above k below =
    elim (cases_lt (get_or (encode c) k 0) 128) [
      | inl low ↦ let e : c ≡ get_or (encode c) k 0 = inside_one c [] (encode c) k (sym (append-nil (encode c))) below low in absurd (omega arith)
      | inr high ↦ high
    ]

utf8_behind : (n : ℕ) (xs : List ℕ) (found : Option (ℕ × List ℕ)) → IsUtf8 xs → IfSome found (λ f. IsUtf8 f.1) → IfSome (behind_units n xs found) (λ f. IsUtf8 f.1)
utf8_behind n xs found here more = behind_some n xs (λ f. IsUtf8 f.1) (λ f. IsUtf8 f.1) found (λ f is. IsUtf8-append xs f.1 here is) more

one_utf8 : (b : ℕ) → b < 128 → IsUtf8 (b ∷ [])
one_utf8 b low = IsUtf8-from_ascii (b ∷ []) (IsAscii-cons b [] low IsAscii-nil)

low_true : (q b : ℕ) (rest : List ℕ) (t : Bool) → q < 128 → IfSome (quoted_front q false rest) (λ f. IsUtf8 f.1)
    → IfSome {T = ℕ × List ℕ} (elim t [ true ↦ behind_units 1 (q ∷ []) (quoted_front q false rest) | false ↦ Some (0, []) ]) (λ f. IsUtf8 f.1)
low_true q b rest true low more = utf8_behind 1 (q ∷ []) (quoted_front q false rest) (one_utf8 q low) more
low_true q b rest false low more = IsUtf8-nil

low_false : (q b : ℕ) (rest : List ℕ) (t : Bool) → b < 128 → ((after : Bool) → IfSome (quoted_front q after rest) (λ f. IsUtf8 f.1))
    → IfSome {T = ℕ × List ℕ} (elim t [ true ↦ behind_units 1 [] (quoted_front q true rest) | false ↦ behind_units 1 (b ∷ []) (quoted_front q false rest) ]) (λ f. IsUtf8 f.1)
low_false q b rest true low more = utf8_behind 1 [] (quoted_front q true rest) IsUtf8-nil (more true)
low_false q b rest false low more = utf8_behind 1 (b ∷ []) (quoted_front q false rest) (one_utf8 b low) (more false)

low_step : (q b : ℕ) (after : Bool) (rest : List ℕ) → q < 128 → b < 128 → ((after : Bool) → IfSome (quoted_front q after rest) (λ f. IsUtf8 f.1)) → IfSome (quoted_front q after (b ∷ rest)) (λ f. IsUtf8 f.1)
unfolding quoted_front
low_step q b true rest low here more = low_true q b rest (b == q) low (more false)
low_step q b false rest low here more = low_false q b rest (b == q) here more

-- at a character that is not ASCII
high_true : (q : ℕ) (xs ys : List ℕ) → q < 128 → 0 < length xs → 128 ≤ get_or xs 0 0 → IfSome (quoted_front q true (xs ++ ys)) (λ f. IsUtf8 f.1)
unfolding quoted_front
high_true q [] ys low some high = absurd (omega arith)
high_true q (x ∷ xs) ys low some high = let test : (x == q) ≡ false = grind (arith, nat_tests) in rw (test, quoted_front) IsUtf8-nil

high_step : (q c : ℕ) (after : Bool) (rest : List ℕ) → q < 128 → 128 ≤ c → IsUtf8 (encode c) → 0 < length (encode c) → ((after : Bool) → IfSome (quoted_front q after rest) (λ f. IsUtf8 f.1))
    → IfSome (quoted_front q after (encode c ++ rest)) (λ f. IsUtf8 f.1)
high_step q c true rest low above here some more = high_true q (encode c) rest low some (all_high c above 0 some)
high_step q c false rest low above here some more =
    rw (high_pass q low (encode c) rest (all_high c above)) (utf8_behind (length (encode c)) (encode c) (quoted_front q false rest) here (more false))

and_parts : (x y : Bool) → (x && y) ≡ true → (x ≡ true) × (y ≡ true)
and_parts true y is = (refl, is)
and_parts false y is = cc

encode_some : (c : ℕ) → 0 < length (encode c)
encode_some c = rw length-encode (grind (arith, nat_tests))

utf8_chars : (q : ℕ) → q < 128 → (cs : List ℕ) → scalars cs ≡ true → (after : Bool) → IfSome (quoted_front q after (encodes cs)) (λ f. IsUtf8 f.1)
unfolding quoted_front
utf8_chars q low [] all true = IsUtf8-nil
utf8_chars q low [] all false = tt
utf8_chars q low (c ∷ cs) all after =
    let first = and_parts (scalar c) (scalars cs) all in
    let more = utf8_chars q low cs first.1 in
    elim (cases_lt c 128) [
      | inl here ↦ subst (λ xs. IfSome (quoted_front q after (xs ++ encodes cs)) (λ f. IsUtf8 f.1)) (sym (encode_ascii c here)) (low_step q c after (encodes cs) low here more)
      | inr above ↦ high_step q c after (encodes cs) low above (IsUtf8-encode c first.0) (encode_some c) more
    ]

-- the bytes of a text that ends are text
pub quote_utf8 : (q : ℕ) (rest : List ℕ) (n : ℕ) (bytes : List ℕ) → q < 128 → IsUtf8 rest → Some (n, bytes) ≡ quoted_front q false rest → IsUtf8 bytes
quote_utf8 q rest n bytes low utf8 found =
    let all : IfSome (quoted_front q false (encodes utf8.0)) (λ f. IsUtf8 f.1) = utf8_chars q low utf8.0 utf8.1.0 false in
    subst (λ o. IfSome o (λ f. IsUtf8 f.1)) (ap (quoted_front q false) utf8.1.1 ∙ sym found) all

-- the byte that begins a quotation
pub quote_byte : (b : ℕ) (text rest : List ℕ) → text ≡ b ∷ rest → IsQuote (slice_index text 0) → IsQuote b
quote_byte b text rest is quote = rw is at quote

pub quote_low : (b : ℕ) → IsQuote b → b < 128
quote_low b (inl is) = omega arith
quote_low b (inr is) = omega arith

pub rest_utf8 : (b : ℕ) (text rest : List ℕ) → text ≡ b ∷ rest → IsQuote (slice_index text 0) → IsUtf8 text → IsUtf8 rest
rest_utf8 b text rest is quote utf8 =
    let low : b < 128 = quote_low b (quote_byte b text rest is quote) in
    let here : IsUtf8 (b ∷ rest) = subst IsUtf8 is utf8 in
    IsUtf8-drop (b ∷ rest) 1 here (IsCharBoundary-after_ascii (b ∷ rest) 0 here (omega arith) low)

pub other_quote : (b : ℕ) → IsQuote b → (b ≡ 34 → ⊥) → b ≡ 39
other_quote b (inl is) other = is
other_quote b (inr is) other = absurd (other is)
