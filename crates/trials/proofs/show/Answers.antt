-- `trials::show` is safe: what was written lies within the buffer.
use Rattle.std.proofs.Common.{sym, length-take-le}
use Rattle.printing.specs.PrintedLaws.{written_within}
use Rattle.trials.proofs.show.Goals as goal

pub slice_bounds-out-end : goal.slice_bounds-out-end
slice_bounds-out-end c = let e = c.write_report-n.ensures in written_within _ _ _ _ e.value e.out_after

pub slice_bounds-write-end : goal.slice_bounds-write-end
slice_bounds-write-end c = let e = c.write_report-n.ensures in sym (length-take-le _ _ (written_within _ _ _ _ e.value e.out_after))
