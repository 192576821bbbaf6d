-- What is known of sources that were put behind others, from what is known of those behind which they stand.
use Rattle.std.specs.Prelude.{◌≡◌, List, map, ℤ}
use Rattle.std.proofs.Common.{⊎_elim, inl, inr}
use Rattle.au_value.specs.declared.kinds.Kind.{Kind}
use Rattle.au_expr.specs.Figures.{Fit}
use Rattle.au_algebra.specs.Ordinary.{Rows}
use Rattle.au_blocks.specs.Tables.{BlockTable, column_kinds}
use Rattle.au_program.specs.Programs.{HoldsBehind, Puts}
use Rattle.au_program.specs.Sources.{Stops}
use Rattle.au_program.specs.declared.sources.Sources.{Sources}

module _ (kinds : List (List Kind)) where
  -- more is known of the same sources
  pub one_puts :
      (A B : List BlockTable → List Rows → List Rows → Type 0) (M N : List BlockTable → List ℤ) (old new : Sources) →
      ((ts : List BlockTable) → map column_kinds ts ≡ kinds → (front rows : List Rows) → A ts front rows → B ts front rows) →
      ((ts : List BlockTable) → Fit (N ts) → Fit (M ts)) → Puts kinds A M old new → Puts kinds B N old new
  one_puts A B M N old new step less a = record {
    holds = λ ts is rows h. (let k : HoldsBehind ts old (A ts) rows = a.holds ts is rows h in record { front = k.front; before = k.before; knows = step ts is k.front rows k.knows });
    runs = a.runs;
    stops = λ ts is s. ⊎_elim (λ (o : Stops ts old). inl o) (λ n. inr (λ f. n (less ts f))) (a.stops ts is s);
  }

  -- of sources behind others that were put behind a third part
  pub two_puts :
      (A B C : List BlockTable → List Rows → List Rows → Type 0) (L R N : List BlockTable → List ℤ) (old mid new : Sources) →
      ((ts : List BlockTable) → map column_kinds ts ≡ kinds → (xs ys zs : List Rows) → A ts xs ys → B ts ys zs → C ts xs zs) →
      ((ts : List BlockTable) → Fit (N ts) → Fit (L ts)) → ((ts : List BlockTable) → Fit (N ts) → Fit (R ts)) →
      Puts kinds A L old mid → Puts kinds B R mid new → Puts kinds C N old new
  two_puts A B C L R N old mid new step left right a b = record {
    holds = λ ts is rows h.
        (let k : HoldsBehind ts mid (B ts) rows = b.holds ts is rows h in
        let j : HoldsBehind ts old (A ts) k.front = a.holds ts is k.front k.before in
        record { front = j.front; before = j.before; knows = step ts is j.front k.front rows j.knows k.knows });
    runs = λ ts is r. b.runs ts is (a.runs ts is r);
    stops = λ ts is s.
        ⊎_elim
        (λ m. ⊎_elim (λ (o : Stops ts old). inl o) (λ n. inr (λ f. n (left ts f))) (a.stops ts is m))
        (λ n. inr (λ f. n (right ts f)))
        (b.stops ts is s);
  }
