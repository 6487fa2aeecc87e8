use Rattle.std.proofs.Common.{◌≡◌, ◌≤◌, ◌^◌, drop, min}
use Rattle.pg_num.specs.Decimal.{digits_after}
use Rattle.pg_num.proofs.decimal.capped.Given as goal

abbrev pub invariant-loop-digit : goal.invariant-loop-digit
invariant-loop-digit l = record {
  small : l.number ≤ 2 ^ 64;
  whole : min (digits_after l.number (drop l.digit-index l.digits)) (2 ^ 64) ≡ min (digits_after 0 l.digits) (2 ^ 64);
}
