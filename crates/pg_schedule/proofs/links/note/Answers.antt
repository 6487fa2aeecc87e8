use Rattle.std.proofs.Common.{◌≡◌, arith, subst}
use Rattle.pg_run_trace.specs.Races.{is_in}
use Rattle.pg_run_trace.specs.Steps.{range_of}
use Rattle.pg_schedule.specs.Links.{AreListed, with_step}
use Rattle.pg_schedule.proofs.ByteLinks.{noted_none, noted_byte}
use Rattle.pg_schedule.proofs.links.note.Goals as goal

pub loop-k-init : goal.loop-k-init
loop-k-init c = λ n steps lt a. noted_none n c.args.i c.args.links.now steps (range_of c.args.access).start a

pub loop-k-preserved : goal.loop-k-preserved
loop-k-preserved c = λ n steps lt a.
    noted_byte n c.args.i (range_of c.args.access).start c.loop-k.k c.byte_of.result c.loop-k.links c.push.new.self steps lt (c.loop-k.invariant n steps lt a) c.byte_of.ensures
    c.in_ok-push.ensures.heads c.in_ok-push.ensures.links

pub returns : goal.returns
returns c = λ n steps lt a.
    let all : c.loop-k.k ≡ c.args.access.bytes = omega arith in
    subst (λ m. AreListed n c.loop-k.links (λ b. with_step c.args.i steps b (is_in (record { start = (range_of c.args.access).start; bytes = m }) b))) all (c.loop-k.invariant n steps lt a)
