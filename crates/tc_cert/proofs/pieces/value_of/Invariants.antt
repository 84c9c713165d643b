use Rattle.std.proofs.Common.{◌≡◌, ◌≤◌, drop}
use Rattle.std.specs.Str.Parse.{AllDigits, digits_value, digits_value_after}
use Rattle.tc_cert.proofs.pieces.value_of.Given as goal

abbrev pub invariant-loop-digit : goal.invariant-loop-digit
invariant-loop-digit l = record {
  value : digits_value_after 10 l.value (drop l.digit-index l.digits) ≡ digits_value 10 l.digits;
  digits : AllDigits 10 (drop l.digit-index l.digits);
  small : l.value ≤ 4294967295;
}
