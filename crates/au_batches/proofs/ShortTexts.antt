-- Short texts are never added.
use Rattle.std.specs.Prelude.{nat_le, take, drop, ◌≡◌, ◌/◌, ◌%◌, ℕ, zero, suc, Bool, true, false, not, ◌&&◌, ◌||◌, IsTrue, List, [], ◌∷◌, ◌++◌, map, if◌then◌else◌, unwrap_or, pos}
use Rattle.std.specs.List.{AllByRecursion}
use Rattle.std.specs.Str.{IsUtf8, is_utf8}
use Rattle.std.proofs.Common.{Option, refl, sym, ap, subst, ◌∙◌, length}
use Rattle.std.proofs.lemmas.Bool.{true≢false}
use Rattle.std.proofs.lemmas.Str.{is_utf8-from_IsUtf8}
use Rattle.au_value.specs.declared.value.Value.{Value}
use Rattle.au_value.specs.declared.value.Value.TheVariants.{Int, Text}
use Rattle.au_value.specs.Order.{at_most}
use Rattle.au_blocks.specs.declared.extent.Extent.{Extent}
use Rattle.au_blocks.specs.Blocks.{Candidate, Choices, IsBlock}
use Rattle.au_blocks.specs.Singles.{HaveValues}
use Rattle.au_annot.specs.Triples.{is_none}
use Rattle.au_algebra.specs.Lists.{greatest, least, value_at}
use Rattle.au_encode.specs.Encode.{encode_row}
use Rattle.au_codes.specs.Books.{Book, has}
use Rattle.au_codes.specs.Gathering.{with_row, with_value}
use Rattle.au_codes.specs.TextCodes.{is_short, knows_text}
use Rattle.au_translate.specs.ColumnParts.{part_of, span_over}
use Rattle.au_translate.specs.Translate.{block_row, triple_of}
use Rattle.au_translate.proofs.ColumnParts.{in_column}
use Rattle.au_batches.specs.BlockRows.{in_place}
use Rattle.au_batches.specs.Listed.{HasShort, own}
use Rattle.au_batches.proofs.ListedPlaces.{own_values}

-- the value is added to no texts
AddsNone : Value → Type 0
AddsNone v = (texts : Book) → with_value texts v ≡ texts

known : (b c : Bool) → (b || false) ≡ true → (b || c) ≡ true
known true c h = refl
known false c h = absurd (true≢false (sym h))

short_text : (w : List ℕ) → knows_text [] w ≡ true → AddsNone (Text w)
unfolding AddsNone
short_text w h = λ texts. ap (λ b. if b then texts else texts ++ w ∷ []) (known (is_utf8 w && is_short w) (has texts w) h)

-- what holds of all values of a list holds of the least, of the greatest, and of that at a place
module _ (P : Value → Type 0) (nothing : P (Int (pos 0))) where
  either_of : (b : Bool) (v w : Value) → P v → P w → P (if b then v else w)
  either_of true v w x y = x
  either_of false v w x y = y

  at_least : (vs : List Value) → AllByRecursion P vs → P (least vs)
  at_least [] all = nothing
  at_least (v ∷ []) all = all.0
  at_least (v ∷ w ∷ ws) all = either_of (at_most v (least (w ∷ ws))) v (least (w ∷ ws)) all.0 (at_least (w ∷ ws) all.1)

  at_greatest : (vs : List Value) → AllByRecursion P vs → P (greatest vs)
  at_greatest [] all = nothing
  at_greatest (v ∷ []) all = all.0
  at_greatest (v ∷ w ∷ ws) all = either_of (at_most v (greatest (w ∷ ws))) (greatest (w ∷ ws)) v (at_greatest (w ∷ ws) all.1) all.0

  at_place : (vs : List Value) (i : ℕ) → AllByRecursion P vs → P (value_at vs i)
  at_place [] i all = nothing
  at_place (v ∷ vs) zero all = all.0
  at_place (v ∷ vs) (suc i) all = at_place vs i all.1

  at_part : (vs : List Value) (guess : Option ℕ) (k : ℕ) → AllByRecursion P vs → P (part_of k (span_over vs guess))
  at_part vs guess zero all = at_least vs all
  at_part vs guess (suc zero) all = at_place vs (unwrap_or guess 0) all
  at_part vs guess (suc (suc k)) all = at_greatest vs all

short_texts : (ws : List (List ℕ)) → AllByRecursion (λ w. IsTrue (knows_text [] w)) ws → AllByRecursion AddsNone (map Text ws)
short_texts [] all = tt
short_texts (w ∷ ws) all = (short_text w all.0, short_texts ws all.1)

number_none : AddsNone (Int (pos 0))
unfolding AddsNone
number_none = λ texts. refl

one_row : (v : Value) → AddsNone v → (texts : Book) → texts ≡ with_row texts (v ∷ [])
unfolding AddsNone
one_row v h texts = sym (h texts)

pub short_added : (b : Choices) → IsBlock b → (p : ℕ) → HasShort b.alternatives (p / 3) → (texts : Book) → texts ≡ with_row texts (in_place p (b ∷ []))
short_added b ok p s texts =
    let v = value_at (encode_row (block_row b)) p in
    let is = in_column b (p / 3) (map Text s.texts) s.have ok p refl in
    let none : AddsNone v = subst AddsNone (sym is) (at_part AddsNone number_none (map Text s.texts) b.guess (p % 3) (short_texts s.texts s.short)) in
    by_row (not (is_none (triple_of b))) none
  where
    by_row : (some : Bool) → AddsNone (value_at (encode_row (block_row b)) p) → texts ≡ with_row texts (map (λ row. value_at row p) (map encode_row (if some then block_row b ∷ [] else [])))
    by_row true none = one_row (value_at (encode_row (block_row b)) p) none texts
    by_row false none = refl

pub short_at : (b a : Choices) → b ≡ a → IsBlock a → (p : ℕ) → HasShort a.alternatives (p / 3) → (texts : Book) → texts ≡ with_row texts (in_place p (b ∷ []))
short_at b a same ok p s texts = short_added a ok p s texts ∙ ap (λ x. with_row texts (in_place p (x ∷ []))) (sym same)

-- a text of few bytes
pub short_known : (w bytes : List ℕ) → bytes ≡ w → IsUtf8 w → nat_le (length bytes) 12 ≡ true → knows_text [] w ≡ true
short_known w bytes same u few =
    let short : is_short w ≡ true = ap (λ x. nat_le (length x) 12) (sym same) ∙ few in
    λ i. (is_utf8-from_IsUtf8 w u i && short i) || false

pub short_here : (rows : List Candidate) (e : Extent) (j : ℕ) (texts : List (List ℕ)) → HaveValues rows j (map Text texts) → AllByRecursion (λ w. IsTrue (knows_text [] w)) (own texts e) → HasShort (take e.count (drop e.first rows)) j
short_here rows e j texts have short = record { texts = own texts e; have = own_values rows Text texts j have e; short = short }
