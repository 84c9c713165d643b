use Rattle.std.proofs.Common.{◌≡◌, ◌≤◌, true, drop, take}
use Rattle.std.specs.Char.{is_ascii_digit}
use Rattle.std.specs.List.{list_all}
use Rattle.tc_answer.specs.Words.{value_from}
use Rattle.tc_answer.proofs.command.read_number.Given as goal

abbrev pub invariant-loop-digit : goal.invariant-loop-digit
invariant-loop-digit l = record {
  value : value_from l.value (drop l.digit-index l.digits) ≡ value_from 0 l.digits;
  digits : list_all is_ascii_digit (take l.digit-index l.digits) ≡ true;
  small : l.value ≤ l.most;
}
