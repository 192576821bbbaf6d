-- The kinds are those that were supposed, each column has a cell for each alternative, and the records that were taken in are
-- all that stand below the header.
use Rattle.std.proofs.Common.{◌≡◌, ◌∙◌, ◌||◌, filter, length, true, subst, sym}
use Rattle.std.specs.Prelude.{is_some, nat_lt}
use Rattle.std.specs.List.{list_all}
use Rattle.au_blocks.specs.Entries.{entries_of}
use Rattle.au_blocks.specs.Headers.{format_of}
use Rattle.au_blocks.specs.Inferring.{inferred_kinds, is_alternative}
use Rattle.au_blocks.specs.Intakes.{LaysAll, TakesAll, TakesIn}
use Rattle.au_blocks.specs.OnePass.{AreSupposed}
use Rattle.au_blocks.proofs.OnePassColumns.{long-over}
use Rattle.au_blocks.proofs.OnePassRecords.{fitting-sound}
use Rattle.au_blocks.proofs.OnePassTables.{kinds-long, supposed-found}
use Rattle.au_blocks.proofs.one_pass.laid_out.Goals as goal

pub finish-requires : goal.finish-requires
finish-requires c =
    let all = rw c.in-Some.is at c.in_ok-intake.ensures in
    let f = format_of c.args.header.now in
    rw (all.taken.columns, all.taken.count) (long-over f (filter (is_alternative f) all.rows) 0 c.as_slice.result.now)

pub returns : goal.returns
returns c =
    let bytes = c.args.bytes.now in
    let header = c.args.header.now in
    let f = format_of header in
    let written = c.args.written.now in
    let kinds = c.in_ok-kinds.kinds.items in
    let intake = c.in-Some.intake in
    let alternatives = c.in-Some-2.alternatives in
    let extents = c.in-Some-2.extents.items in
    let all : TakesAll bytes header c.as_slice.result.now intake = rw c.in-Some.is at c.in_ok-intake.ensures in
    let taken : TakesIn f (length header) kinds all.rows intake = subst (λ ks. TakesIn f (length header) ks all.rows intake) c.as_slice.ensures.value all.taken in
    let supposed : AreSupposed f all.rows 0 written kinds = rw c.of.ensures at (c.in_ok-kinds.ensures header all.rows all.read) in
    let known : (nat_lt 0 intake.count || list_all is_some written) ≡ true = sym c.are_known.ensures ∙ c.if-not-are_known.false in
    let found : inferred_kinds (entries_of f all.rows) written ≡ kinds = supposed-found f (length header) written kinds all.rows intake supposed taken known in
    let lies : LaysAll f kinds all.rows alternatives extents =
    rw c.in-Some-2.is at (c.in_ok-alternatives.ensures f (length header) kinds all.rows c.requires.once (kinds-long header written kinds (entries_of f all.rows) c.requires.written found) taken) in
    record {
      rows = all.rows;
      read = all.read;
      sound = fitting-sound f (length header) written kinds all.rows supposed c.requires.once taken.fitting;
      found = found;
      lies = lies;
    }
