use Rattle.std.proofs.Common.{◌∷◌, [], ◌++◌, List, length, ap, ◌∙◌, subst, sym}
use Rattle.pg_slice_rules.specs.SymbolicValues.{Symbolic}
use Rattle.pg_slice_rules.specs.Known.{SymbolicThread}
use Rattle.pg_slice_registers.specs.SymbolicRegisterNodes.{CallList}
use Rattle.pg_slice_registers.specs.Threads.{AreThreads, thread_by, threads_by}
use Rattle.pg_slice_registers.proofs.ThreadsMade.{one_thread, threads_kept, threads_push, threads_stay}
use Rattle.pg_slice_registers.proofs.threads.push_thread.Goals as goal

pub returns-clause-is : goal.returns-clause-is
returns-clause-is c =
    let new = c.new.new.nodes in
    let items = c.args.threads.now.items in
    subst (λ (ts : List CallList). AreThreads (length new) ts) (sym c.in_ok-push.ensures.items)
    (threads_push (length new) items c.in_ok-thread.thread (threads_stay c.args.nodes.now new items c.new.ensures.grew c.requires.symbolic_nodes) c.in_ok-thread.ensures.is)

pub returns-clause-value : goal.returns-clause-value
returns-clause-value c extents h =
    let old = c.args.nodes.now in
    let new = c.new.new.nodes in
    let items = c.args.threads.now.items in
    ap (λ (ts : List CallList). threads_by new ts (extents ++ [] ∷ [])) c.in_ok-push.ensures.items
    ∙ one_thread new items c.in_ok-thread.thread extents h
    ∙ ap (λ (xs : List SymbolicThread). xs ++ thread_by new c.in_ok-thread.thread [] ∷ []) (threads_kept old new items extents c.new.ensures.grew c.requires.symbolic_nodes)
    ∙ ap (λ (cs : List (List Symbolic)). let s : SymbolicThread = record { calls = cs; extents = [] } in threads_by old items extents ++ s ∷ []) c.in_ok-thread.ensures.value
