use Rattle.std.proofs.Common.{Bool, ap, sym, ◌∙◌, if◌then◌else◌}
use Rattle.std.proofs.lemmas.Result.{on_ok_weaker}
use Rattle.pg_slice_rules.specs.Freeable.{bounds_of}
use Rattle.pg_slice_rules.specs.SymbolicValues.{spoiled}
use Rattle.pg_slice_rules.specs.declared.decision.Decision.TheVariants.{Pinned}
use Rattle.pg_slice_checks.specs.pg_slice_memory.Changes.{symbolics_of}
use Rattle.pg_slice_passes.proofs.StoredBytes.{bounds_spoiled}
use Rattle.pg_slice_passes.proofs.memory.forget_access.Goals as goal

pub returns-then-access-clause-value : goal.returns-then-access-clause-value
returns-then-access-clause-value c p ns =
    let a = c.args.access in
    let before = symbolics_of p ns c.args.memory.now in
    on_ok_weaker c.spoil.result (λ f.
    bounds_spoiled p ns c.args.memory.now c.spoil.new.self c.bounds-f.result.start c.bounds-f.result.bytes a.last (Pinned c.args.n) (f p ns) c.bounds-f.ensures.start c.bounds-f.ensures.bytes
    ∙ sym (ap (λ (b : Bool). if b then spoiled (bounds_of a.last) (Pinned c.args.n) before else before) c.if-access.true)) c.spoil.ensures.symbolic
