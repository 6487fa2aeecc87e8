use Rattle.std.proofs.Common.{◌≡◌, [], ◌<◌, length, slice_index_or, refl, ap, sym, ◌∙◌, subst, arith}
use Rattle.pg_slice_rules.specs.Known.{on_thread, with_top}
use Rattle.pg_slice_rules.specs.Known as along
use Rattle.pg_slice_values.proofs.GrowingNodes.{grew_none}
use Rattle.pg_slice_registers.specs.SymbolicRegisterNodes.{AreCalls, CallList, calls_by}
use Rattle.pg_slice_passes.proofs.ThreadLists.{at_any, calls_at, one_changes, set_threads}
use Rattle.pg_slice_passes.proofs.threads.after_access.Goals as goal

pub returns-then-t-len-clause-is : goal.returns-then-t-len-clause-is
returns-then-t-len-clause-is c n a h =
    let calls = c.args.threads.now.items in
    let t = c.args.t in
    let lt : t < length calls = omega (arith, c.if-t-len.true, c.len.ensures) in
    let found : c.index_mut-thread.result.now ≡ slice_index_or calls t [] = c.index_mut-thread.ensures.value ∙ at_any calls t _ [] lt in
    set_threads n calls t c.after_access.new.self a (c.after_access.ensures.is n (subst (λ (cs : CallList). AreCalls n cs) (sym found) (calls_at n calls t a)) h)

pub returns-then-t-len-clause-value : goal.returns-then-t-len-clause-value
returns-then-t-len-clause-value c ns p exact n a bytes pinned opens ks load are k =
    let calls = c.args.threads.now.items in
    let t = c.args.t in
    let x = c.args.x.now in
    let lt : t < length calls = omega (arith, c.if-t-len.true, c.len.ensures) in
    let found : c.index_mut-thread.result.now ≡ slice_index_or calls t [] = c.index_mut-thread.ensures.value ∙ at_any calls t _ [] lt in
    one_changes ns ns pinned (with_top (along.after_access p exact n a bytes x x.op)) t calls c.after_access.new.self opens ks (grew_none ns ns refl) are lt
    (c.after_access.ensures.value ns p exact n a bytes load ∙ ap (λ (cs : CallList). with_top (along.after_access p exact n a bytes x x.op) (calls_by ns cs)) found) k
