use Rattle.std.proofs.Common.{◌∙◌, ap, arith}
use Rattle.pg_run_memory.specs.Bytes.{byte_of}
use Rattle.pg_run_memory.proofs.Deltas.{add_is, sub_is, byte_of-with_part}
use Rattle.pg_run_memory.proofs.Parts.{part_number}
use Rattle.pg_run_memory.proofs.field.field_delta.Goals as goal

pub returns-then-from-to-clause-part : goal.returns-then-from-to-clause-part
returns-then-from-to-clause-part c = λ word small e.
    rw c.first-shift.ensures.value (add_is word _ c.args.at.bytes c.args.from c.args.to small (rw (← c.first-shift.ensures.value) c.first-shift.ensures.in_granule) c.requires.to e c.if-from-to.true)

pub returns-then-from-to-clause-bytes : goal.returns-then-from-to-clause-bytes
returns-then-from-to-clause-bytes c = λ word small e k h.
    rw c.first-shift.ensures.value (ap (λ w. byte_of w k)
    (add_is word _ c.args.at.bytes c.args.from c.args.to small (rw (← c.first-shift.ensures.value) c.first-shift.ensures.in_granule) c.requires.to
    (part_number word _ c.args.at.bytes ∙ e) c.if-from-to.true)
    ∙ byte_of-with_part word _ c.args.at.bytes c.args.to k c.requires.to)

pub returns-else-from-to-clause-part : goal.returns-else-from-to-clause-part
returns-else-from-to-clause-part c = λ word small e.
    rw c.first-shift.ensures.value (sub_is word _ c.args.at.bytes c.args.from c.args.to small e (omega (arith, c.if-from-to.false)))

pub returns-else-from-to-clause-bytes : goal.returns-else-from-to-clause-bytes
returns-else-from-to-clause-bytes c = λ word small e k h.
    rw c.first-shift.ensures.value (ap (λ w. byte_of w k) (sub_is word _ c.args.at.bytes c.args.from c.args.to small (part_number word _ c.args.at.bytes ∙ e) (omega (arith, c.if-from-to.false)))
    ∙ byte_of-with_part word _ c.args.at.bytes c.args.to k c.requires.to)
