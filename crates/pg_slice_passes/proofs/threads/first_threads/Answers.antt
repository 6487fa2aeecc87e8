use Rattle.std.proofs.Common.{◌∷◌, [], ◌++◌, List, length, ap, sym, ◌∙◌, subst}
use Rattle.pg_slice_rules.specs.Known.{fresh_registers, fresh_thread}
use Rattle.pg_slice_registers.specs.SymbolicRegisterNodes.{CallList}
use Rattle.pg_slice_registers.specs.Threads.{AreThreads}
use Rattle.pg_slice_passes.specs.State.{KnowsThreads}
use Rattle.pg_slice_passes.proofs.ThreadLists.{first_known}
use Rattle.pg_slice_passes.proofs.threads.first_threads.Goals as goal

pub returns-clause-is : goal.returns-clause-is
returns-clause-is c =
    let items = c.in_ok-push.ensures.items ∙ ap (λ (l : List CallList). l ++ c.in_ok-main.main ∷ []) c.new-threads.ensures.items in
    subst (λ (l : List CallList). AreThreads (length c.new.new.nodes) l) (sym items) (c.in_ok-main.ensures.is, tt)

pub returns-clause-knows : goal.returns-clause-knows
returns-clause-knows c pinned opens h =
    let p = c.args.p.now in
    let new = c.new.new.nodes in
    let items = c.in_ok-push.ensures.items ∙ ap (λ (l : List CallList). l ++ c.in_ok-main.main ∷ []) c.new-threads.ensures.items in
    subst (λ (l : List CallList). KnowsThreads new pinned l opens (fresh_thread p p.main ∷ [])) (sym items)
    (first_known new pinned p c.in_ok-main.main opens (c.in_ok-main.ensures.value ∙ ap (λ f. fresh_registers p f ∷ []) c.main.ensures.number) h)
