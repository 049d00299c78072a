use Rattle.std.proofs.Common.{◌≡◌, ◌≤◌, drop}
use Rattle.std.specs.List.{list_all}
use Rattle.node_text.specs.Numbers.{digits_from, is_digit}
use Rattle.node_text.proofs.numbers.number.Given as goal

abbrev pub invariant-loop-byte : goal.invariant-loop-byte
invariant-loop-byte l = record {
  number : digits_from l.value (drop l.byte-index l.word) ≡ digits_from 0 l.word;
  digits : list_all is_digit (drop l.byte-index l.word) ≡ list_all is_digit l.word;
  within : l.value ≤ l.most;
}
