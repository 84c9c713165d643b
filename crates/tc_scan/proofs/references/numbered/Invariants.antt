use Rattle.std.proofs.Common.{◌≡◌, ◌≤◌, drop}
use Rattle.std.specs.Str.Parse.{digits_value, digits_value_after, AllDigits}
use Rattle.tc_scan.proofs.references.numbered.Given as goal

-- the number so far, and the digits that are left
abbrev pub invariant-loop-byte : goal.invariant-loop-byte
invariant-loop-byte l = record {
  value : digits_value_after l.base l.number (drop l.byte-index l.digits) ≡ digits_value l.base l.digits;
  small : l.number ≤ 0x10FFFF;
  all : AllDigits l.base (drop l.byte-index l.digits);
}
