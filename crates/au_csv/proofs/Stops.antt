-- Why a read of a record of text, of any length, may fail.
use Rattle.std.proofs.Common.{◌≡◌, ℕ, List, Option, ◌||◌, true, false, refl}
use Rattle.csv.specs.Records.{AllText}
use Rattle.csv.specs.Reading.{ExplainsRead, TookRecord, is_flexible, stops_reader}
use Rattle.csv.specs.declared.reader.Reader.{Reader}
use Rattle.csv.specs.declared.error.ErrorKind.{ErrorKind}
use Rattle.csv.specs.declared.error.ErrorKind.TheVariants as kind
use Rattle.au_csv.specs.Faults.{is_not_text}

-- by the reader underneath, by memory or by the record
pub explained-stops : {R : Type 0} (rem : R → Option (List ℕ)) (old new : Reader R) (k : ErrorKind) → is_flexible old ≡ true → ExplainsRead rem old new true k
    → (stops_reader k || is_not_text k) ≡ true
explained-stops rem old new (kind.Io e) flexible why = refl
explained-stops rem old new kind.OutOfMemory flexible why = refl
explained-stops rem old new (kind.UnequalLengths pos expected len) flexible why = let fixed : is_flexible old ≡ false = why.0 in cc (fixed, flexible)
explained-stops rem old new (kind.Utf8 pos err) flexible why = refl
explained-stops rem old new (kind.Serialize what) flexible why = absurd why
explained-stops rem old new (kind.Deserialize pos err) flexible why = absurd why

-- and by the record where it isn't text
pub explained-not_text : {R : Type 0} (rem : R → Option (List ℕ)) (old new : Reader R) (k : ErrorKind) → is_not_text k ≡ true → ExplainsRead rem old new true k
    → (fields : List (List ℕ)) × TookRecord rem old new fields × (AllText fields → ⊥)
explained-not_text rem old new (kind.Io e) is why = cc
explained-not_text rem old new kind.OutOfMemory is why = cc
explained-not_text rem old new (kind.UnequalLengths pos expected len) is why = cc
explained-not_text rem old new (kind.Utf8 pos err) is why = (why.1, why.2, why.3)
explained-not_text rem old new (kind.Serialize what) is why = cc
explained-not_text rem old new (kind.Deserialize pos err) is why = cc
