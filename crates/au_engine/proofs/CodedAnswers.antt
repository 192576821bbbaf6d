-- Rows that encode a relation have as many columns as it has.
use Rattle.std.specs.Prelude.{◌≡◌, ℕ, zero, suc, List, [], ◌∷◌, length}
use Rattle.std.proofs.Common.{refl, sym, ◌∙◌, ap, subst}
use Rattle.au_value.specs.declared.kinds.Kind.{Kind}
use Rattle.au_value.specs.declared.value.Value.{Value}
use Rattle.au_algebra.specs.Bounded.{Bounded}
use Rattle.au_algebra.specs.Laws.{IsRelation}
use Rattle.au_algebra.specs.Ordinary.{Rows}
use Rattle.au_encode.specs.Encode.{IsEncoded, decode, decode_cells}
use Rattle.au_program.proofs.RelationColumns.{have_columns}
use Rattle.au_engine.specs.CodedAnswers.{Encodes}

decoded_long : (c : ℕ) (row : List Value) → IsEncoded c row → length (decode_cells c row) ≡ c
decoded_long zero row ok = refl
decoded_long (suc c) [] ok = elim ok [ ]
decoded_long (suc c) (l ∷ []) ok = elim ok [ ]
decoded_long (suc c) (l ∷ s ∷ []) ok = elim ok [ ]
decoded_long (suc c) (l ∷ s ∷ h ∷ vs) ok = ap suc (decoded_long c vs ok.1)

pub encodes_wide : (ks : List Kind) (columns : ℕ) (rows : Rows) (rel : Bounded) → Encodes columns rows rel → IsRelation ks rel → Encodes (length ks) rows rel
encodes_wide ks columns [] rel e r = (tt, e.1)
encodes_wide ks columns (row ∷ rows) rel e r =
    let held : IsRelation ks (decode columns (row ∷ rows)) = subst (IsRelation ks) (sym e.1) r in
    let wide : length (decode_cells columns row) ≡ length ks = (have_columns ks (length ks) (decode columns (row ∷ rows)) refl held).0 in
    subst (λ n. Encodes n (row ∷ rows) rel) (sym (decoded_long columns row e.0.0) ∙ wide) e
