-- Gathered texts are those of the values.
use Rattle.std.specs.Prelude.{◌≡◌, ℕ, Bool, true, false, cond, ◌&&◌, ◌||◌, List, [], ◌∷◌, ◌++◌, flat_map}
use Rattle.std.specs.Str.{IsUtf8, is_utf8}
use Rattle.std.proofs.Common.{refl, sym, ap, ◌∙◌}
use Rattle.std.proofs.lemmas.Str.{is_utf8-from_IsUtf8}
use Rattle.au_value.specs.declared.value.Value.{Value}
use Rattle.au_value.specs.declared.value.Value.TheVariants.{Int, Text, Flag}
use Rattle.au_algebra.specs.Ordinary.{Rows}
use Rattle.au_plain.specs.PTerms.{PTerm, PTerms, nil, cons}
use Rattle.au_plain.specs.PTerms as term
use Rattle.au_physical.specs.Physicals.{PhysicalTree}
use Rattle.au_physical.specs.Physicals as physical
use Rattle.au_codes.specs.Codes.{Knows, KnowsRow, KnowsRows, KnowsTables}
use Rattle.au_codes.specs.CodedPlans.{literals, all_literals, written, KnowsPlan}
use Rattle.au_codes.specs.Books.{Book, has, IsBookOf}
use Rattle.au_codes.specs.TextCodes.{is_short, knows_text, text_code}
use Rattle.au_codes.specs.Gathering.{with_text, with_value, with_row, with_rows, with_tables, with_term, with_terms, with_plan}
use Rattle.au_codes.proofs.BookPlaces.{has_first, has-append, has_here}

-- the book has each text that the texts have
abbrev Has : Book → Book → Type 0
Has texts book = (w : List ℕ) → has texts w ≡ true → has book w ≡ true

text_stays : (b : Bool) (texts : Book) (t w : List ℕ) → has texts w ≡ true → has (cond b texts (texts ++ t ∷ [])) w ≡ true
text_stays true texts t w h = h
text_stays false texts t w h = has_first texts (t ∷ []) w h

-- a text that is not known before stands behind the others
text_there : (b t : Bool) (texts book : Book) (w : List ℕ) → has texts w ≡ t → Has (cond (b || t) texts (texts ++ w ∷ [])) book → (b || has book w) ≡ true
text_there true t texts book w h f = refl
text_there false true texts book w h f = f w h
text_there false false texts book w h f = f w (has-append texts (w ∷ []) w (has_here w w [] refl))

value_stays : (texts : Book) (v : Value) (w : List ℕ) → has texts w ≡ true → has (with_value texts v) w ≡ true
value_stays texts (Int n) w h = h
value_stays texts (Text t) w h = text_stays (knows_text texts t) texts t w h
value_stays texts (Flag b) w h = h

row_stays : (texts : Book) (row : List Value) (w : List ℕ) → has texts w ≡ true → has (with_row texts row) w ≡ true
row_stays texts [] w h = h
row_stays texts (v ∷ row) w h = row_stays (with_value texts v) row w (value_stays texts v w h)

rows_stay : (texts : Book) (rows : Rows) (w : List ℕ) → has texts w ≡ true → has (with_rows texts rows) w ≡ true
rows_stay texts [] w h = h
rows_stay texts (row ∷ rows) w h = rows_stay (with_row texts row) rows w (row_stays texts row w h)

value_known : (texts book : Book) (v : Value) → Has (with_value texts v) book → Knows (text_code book) v
value_known texts book (Int n) f = tt
value_known texts book (Text w) f = text_there (is_utf8 w && is_short w) (has texts w) texts book w refl f
value_known texts book (Flag b) f = tt

row_known : (texts book : Book) (row : List Value) → Has (with_row texts row) book → KnowsRow (text_code book) row
row_known texts book [] f = tt
row_known texts book (v ∷ row) f = (value_known texts book v (λ w h. f w (row_stays (with_value texts v) row w h)), row_known (with_value texts v) book row f)

rows_known : (texts book : Book) (rows : Rows) → Has (with_rows texts rows) book → KnowsRows (text_code book) rows
rows_known texts book [] f = tt
rows_known texts book (row ∷ rows) f = (row_known texts book row (λ w h. f w (rows_stay (with_row texts row) rows w h)), rows_known (with_row texts row) book rows f)

-- ---- tables and plans

tables_stay : (texts : Book) (ts : List Rows) (w : List ℕ) → has texts w ≡ true → has (with_tables texts ts) w ≡ true
tables_stay texts [] w h = h
tables_stay texts (rows ∷ ts) w h = tables_stay (with_rows texts rows) ts w (rows_stay texts rows w h)

tables_known : (texts book : Book) (ts : List Rows) → Has (with_tables texts ts) book → KnowsTables (text_code book) ts
tables_known texts book [] f = tt
tables_known texts book (rows ∷ ts) f = (rows_known texts book rows (λ w h. f w (tables_stay (with_rows texts rows) ts w h)), tables_known (with_rows texts rows) book ts f)

-- a row of two parts
row_append : (texts : Book) (xs ys : List Value) → with_row texts (xs ++ ys) ≡ with_row (with_row texts xs) ys
row_append texts [] ys = refl
row_append texts (x ∷ xs) ys = row_append (with_value texts x) xs ys

two_parts : (texts : Book) (xs ys : List Value) (first second : Book) → first ≡ with_row texts xs → second ≡ with_row first ys → second ≡ with_row texts (xs ++ ys)
two_parts texts xs ys first second e g = g ∙ ap (λ b. with_row b ys) e ∙ sym (row_append texts xs ys)

-- the texts of an expression are those of its literals
mutual
  term_is : (texts : Book) (e : PTerm) → with_term texts e ≡ with_row texts (literals e)
  term_is texts (term.Column i) = refl
  term_is texts (term.Literal v) = refl
  term_is texts (term.Add a b) = two_parts texts (literals a) (literals b) (with_term texts a) (with_term (with_term texts a) b) (term_is texts a) (term_is (with_term texts a) b)
  term_is texts (term.Subtract a b) = two_parts texts (literals a) (literals b) (with_term texts a) (with_term (with_term texts a) b) (term_is texts a) (term_is (with_term texts a) b)
  term_is texts (term.Multiply a b) = two_parts texts (literals a) (literals b) (with_term texts a) (with_term (with_term texts a) b) (term_is texts a) (term_is (with_term texts a) b)
  term_is texts (term.Negate a) = term_is texts a
  term_is texts (term.Compare how a b) = two_parts texts (literals a) (literals b) (with_term texts a) (with_term (with_term texts a) b) (term_is texts a) (term_is (with_term texts a) b)
  term_is texts (term.And a b) = two_parts texts (literals a) (literals b) (with_term texts a) (with_term (with_term texts a) b) (term_is texts a) (term_is (with_term texts a) b)
  term_is texts (term.Or a b) = two_parts texts (literals a) (literals b) (with_term texts a) (with_term (with_term texts a) b) (term_is texts a) (term_is (with_term texts a) b)
  term_is texts (term.Not a) = term_is texts a
  term_is texts (term.Case c a b) =
      two_parts texts (literals c) (literals a ++ literals b) (with_term texts c) (with_term (with_term (with_term texts c) a) b) (term_is texts c)
      (two_parts (with_term texts c) (literals a) (literals b) (with_term (with_term texts c) a) (with_term (with_term (with_term texts c) a) b) (term_is (with_term texts c) a) (term_is (with_term (with_term texts c) a) b))
  term_is texts (term.Least es) = terms_are texts es
  term_is texts (term.Greatest es) = terms_are texts es

  terms_are : (texts : Book) (es : PTerms) → with_terms texts es ≡ with_row texts (all_literals es)
  terms_are texts nil = refl
  terms_are texts (cons e es) = two_parts texts (literals e) (all_literals es) (with_term texts e) (with_terms (with_term texts e) es) (term_is texts e) (terms_are (with_term texts e) es)

rows_are : (texts : Book) (rows : Rows) → with_rows texts rows ≡ with_row texts (flat_map (λ row. row) rows)
rows_are texts [] = refl
rows_are texts (row ∷ rows) = two_parts texts row (flat_map (λ r. r) rows) (with_row texts row) (with_rows (with_row texts row) rows) refl (rows_are (with_row texts row) rows)

-- those of a plan are those that it has written out
plan_is : (texts : Book) (p : PhysicalTree) → with_plan texts p ≡ with_row texts (written p)
plan_is texts (physical.Scan t w) = refl
plan_is texts (physical.Rows w rows) = rows_are texts rows
plan_is texts (physical.Extend e p) = two_parts texts (literals e) (written p) (with_term texts e) (with_plan (with_term texts e) p) (term_is texts e) (plan_is (with_term texts e) p)
plan_is texts (physical.Keep places p) = plan_is texts p
plan_is texts (physical.Filter e p) = two_parts texts (literals e) (written p) (with_term texts e) (with_plan (with_term texts e) p) (term_is texts e) (plan_is (with_term texts e) p)
plan_is texts (physical.Nested e p q) =
    two_parts texts (literals e) (written p ++ written q) (with_term texts e) (with_plan (with_plan (with_term texts e) p) q) (term_is texts e)
    (two_parts (with_term texts e) (written p) (written q) (with_plan (with_term texts e) p) (with_plan (with_plan (with_term texts e) p) q) (plan_is (with_term texts e) p) (plan_is (with_plan (with_term texts e) p) q))
plan_is texts (physical.Hash places e p q) =
    two_parts texts (literals e) (written p ++ written q) (with_term texts e) (with_plan (with_plan (with_term texts e) p) q) (term_is texts e)
    (two_parts (with_term texts e) (written p) (written q) (with_plan (with_term texts e) p) (with_plan (with_plan (with_term texts e) p) q) (plan_is (with_term texts e) p) (plan_is (with_plan (with_term texts e) p) q))
plan_is texts (physical.Overlap at e p q) =
    two_parts texts (literals e) (written p ++ written q) (with_term texts e) (with_plan (with_plan (with_term texts e) p) q) (term_is texts e)
    (two_parts (with_term texts e) (written p) (written q) (with_plan (with_term texts e) p) (with_plan (with_plan (with_term texts e) p) q) (plan_is (with_term texts e) p) (plan_is (with_plan (with_term texts e) p) q))
plan_is texts (physical.Union p q) = two_parts texts (written p) (written q) (with_plan texts p) (with_plan (with_plan texts p) q) (plan_is texts p) (plan_is (with_plan texts p) q)
plan_is texts (physical.Group keys aggs p) = plan_is texts p

pub book_of_all : (p : PhysicalTree) (ts : List Rows) (book : Book) → IsBookOf (with_plan (with_tables [] ts) p) book → KnowsTables (text_code book) ts × KnowsPlan (text_code book) p
book_of_all p ts book is =
    let whole : Has (with_row (with_tables [] ts) (written p)) book = λ w h. is.same w ∙ ap (λ b. has b w) (plan_is (with_tables [] ts) p) ∙ h in
    (tables_known [] book ts (λ w h. whole w (row_stays (with_tables [] ts) (written p) w h)), row_known (with_tables [] ts) book (written p) whole)

-- ---- one text more

-- a text that is short, and one that is there already
pub short_stays : (texts : Book) (w : List ℕ) → IsUtf8 w → is_short w ≡ true → texts ≡ with_text texts w
short_stays texts w u h = λ i. cond ((sym (is_utf8-from_IsUtf8 w u) i && sym h i) || has texts w) texts (texts ++ w ∷ [])

held_by : (b : Bool) (texts more : Book) → texts ≡ cond (b || true) texts more
held_by true texts more = refl
held_by false texts more = refl

pub held_stays : (texts : Book) (w : List ℕ) → has texts w ≡ true → texts ≡ with_text texts w
held_stays texts w h =
    held_by (is_utf8 w && is_short w) texts (texts ++ w ∷ []) ∙ ap (λ b. cond ((is_utf8 w && is_short w) || b) texts (texts ++ w ∷ [])) (sym h)
