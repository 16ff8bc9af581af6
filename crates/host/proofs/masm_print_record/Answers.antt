-- `host::masm_print_record` meets its contract: the length fits its half.
-- Assumes nothing.
use native.Mathlib.Omega.{arith}
use Rattle.host.specs.Packed.{asked}
use Rattle.host.proofs.Fitting.{record_fits}
use Rattle.host.proofs.masm_print_record.Goals as goal

pub pack-requires : goal.pack-requires
pack-requires c = omega (arith, c.print_record-answer.ensures.length, record_fits (asked c.args.version c.args.mode) c.args.body.now c.args.text.now)
