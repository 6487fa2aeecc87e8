use Rattle.std.proofs.Common.{◌+◌, ◌-◌, ℕ, List, [], length, ap, sym, ◌∙◌, subst}
use Rattle.std.specs.Prelude.{slice_index_or}
use Rattle.pg_run_trace.specs.declared.step.Step.{Step}
use Rattle.pg_slice_back.specs.declared.counts.Calls.{Calls}
use Rattle.pg_slice_back.specs.Stacks.{IsStack}
use Rattle.pg_slice_back.proofs.ThreadRegisterCounts.{pass_is}
use Rattle.pg_slice_back.proofs.counts.Calls.pass.Goals as goal

pub returns : goal.returns
returns c = λ R n m s program instr did begun stacks.
    let tops = c.set_top.new.tops.items in
    let e = c.made.ensures in
    let new : Calls = record { held = c.push_made.new.held; tops = c.push_made.new.tops } in
    pass_is R n m s c.args.instr.now instr begun c.args.program.now program c.args.step.now.kind (ap (λ (z : Step). z.kind) did) c.args.self.now new c.top_after.new.held.items tops c.args.step.now.thread.0
    c.top_at-before.result c.in_ok-top.top (ap (λ (z : Step). z.thread.0) (sym did)) (c.top_at-before.ensures
    ∙ ap (λ (xs : List ℕ). slice_index_or xs c.args.step.now.thread.0 0) c.as_slice.ensures.value)
    c.in_ok-top.ensures.kept c.in_ok-top.ensures.stack c.set_top.ensures c.in_ok-push_made.ensures.kept
    (c.in_ok-push_made.ensures.many ∙ ap (λ (ls : List (List ℕ)). length tops + length ls) (sym e))
    (λ u l. subst (λ (ls : List (List ℕ)). IsStack c.push_made.new.held.items (slice_index_or c.push_made.new.tops.items u 0)
    (slice_index_or ls (u - length tops) [])) (sym e) (c.in_ok-push_made.ensures.made u l))
    c.in_ok-push_made.ensures.others stacks
