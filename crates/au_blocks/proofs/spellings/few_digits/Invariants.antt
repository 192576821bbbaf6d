use Rattle.std.proofs.Common.{◌≡◌, ◌<◌, ◌^◌, drop}
use Rattle.std.specs.Char.{is_ascii_digit}
use Rattle.std.specs.List.{list_all}
use Rattle.std.specs.Str.Parse.{digits_value, digits_value_after}
use Rattle.au_blocks.proofs.spellings.few_digits.Given as goal

-- the number so far is that of the digits so far, and all are digits if those that are left are
abbrev pub invariant-loop-byte : goal.invariant-loop-byte
invariant-loop-byte l = record {
  value : digits_value_after 10 l.number (drop l.byte-index l.text) ≡ digits_value 10 l.text;
  digits : list_all is_ascii_digit (drop l.byte-index l.text) ≡ list_all is_ascii_digit l.text;
  low : l.number < 10 ^ l.byte-index;
}
