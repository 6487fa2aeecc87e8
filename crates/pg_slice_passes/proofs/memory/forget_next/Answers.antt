use Rattle.std.proofs.Common.{◌≡◌, ℕ, ◌+◌, drop, Some, None, option_map, slice_get, ap, sym, ◌∙◌}
use Rattle.std.proofs.lemmas.Result.{on_ok_weaker}
use Rattle.pg_slice_rules.specs.Known.{forgotten_bytes}
use Rattle.pg_slice_rules.specs.SymbolicValues.{Symbolic}
use Rattle.pg_slice_rules.specs.declared.decision.Decision.TheVariants.{Pinned}
use Rattle.pg_slice_replay.specs.Given.{access_as}
use Rattle.pg_slice_replay.specs.Kept.{landmark_at}
use Rattle.pg_slice_checks.specs.pg_slice_memory.Changes.{symbolics_of}
use Rattle.pg_slice_passes.proofs.StoredBytes.{none_forgotten, one_forgotten}
use Rattle.pg_slice_passes.proofs.KeptKnowledge.{if_some_from}
use Rattle.pg_slice_passes.proofs.memory.forget_next.Goals as goal

pub returns-in-Some-clause-value : goal.returns-in-Some-clause-value
returns-in-Some-clause-value c p ns =
    let n = c.args.n in
    let k = c.args.k in
    let before = symbolics_of p ns c.args.memory.now in
    if_some_from (landmark_at c.args.r.now n) _ (λ l e. if_some_from l.region _ (λ f q.
    let at : slice_get f.accesses k ≡ Some (access_as c.in-Some.access) = sym (rw q at (rw e at c.access.ensures.access)) ∙ ap (option_map access_as) c.in-Some.is in
    on_ok_weaker c.forget_access.result (λ h.
    ap (λ (g : ℕ → Symbolic). forgotten_bytes (drop (k + 1) f.accesses) (Pinned n) g) h
    ∙ one_forgotten f.accesses k (access_as c.in-Some.access) (Pinned n) before at) (c.forget_access.ensures.value p ns)))

pub returns-in-None-clause-value : goal.returns-in-None-clause-value
returns-in-None-clause-value c p ns =
    let n = c.args.n in
    let k = c.args.k in
    if_some_from (landmark_at c.args.r.now n) _ (λ l e. if_some_from l.region _ (λ f q.
    let at : slice_get f.accesses k ≡ None = sym (rw q at (rw e at c.access.ensures.access)) ∙ ap (option_map access_as) c.in-None.is in
    none_forgotten f.accesses k (Pinned n) (symbolics_of p ns c.args.memory.now) at))
