-- The invariant of `numbers::scan_digits`: the digits read so far, one a turn, make v, which is below 10 to their number, i stands after them,
-- and what is scanned from the beginning is what is scanned from here on after them.
-- Assumes nothing.
use Rattle.std.proofs.Common.{◌≡◌, ◌+◌, ◌^◌, ◌<◌, drop}
use Rattle.scanning.specs.Scan.{digits_from, digits_at}
use Rattle.numbers.proofs.scan_digits.Given as goal

abbrev pub invariant-loop : goal.invariant-loop
invariant-loop l =
    (l.v < 10 ^ l.counter) × (l.i ≡ l.initial.from + l.counter)
    × (digits_at l.initial.negative l.initial.s l.initial.from
    ≡ digits_from l.initial.negative l.v l.counter l.i (drop l.i l.initial.s))
