use Rattle.std.proofs.Common.{◌≡◌, ℕ, Bool, true, false, length, refl, ap, sym, ◌∙◌}
use Rattle.std.specs.Prelude.{◌%◌, not}
use Rattle.std.proofs.lemmas.Bool.{true≢false}
use Rattle.std.proofs.lemmas.Result.{IfOk-weaker}
use Rattle.pg_num.specs.Numbers.{modulus}
use Rattle.pg_slice_rules.specs.Known.{load_of}
use Rattle.pg_slice_rules.specs.SymbolicValues as symbolics
use Rattle.pg_slice_checks.specs.pg_slice_memory.Changes as bytes
use Rattle.pg_slice_passes.proofs.memory.load.Goals as goal

is_so : (b : Bool) → not b ≡ false → b ≡ true
is_so true q = refl
is_so false q = absurd (true≢false q)

pub within-requires : goal.within-requires
within-requires c = c.loaded.ensures.is (length c.load.new.nodes) c.in_ok-number.ensures.is

pub returns-clause-value : goal.returns-clause-value
returns-clause-value c =
    let w = c.args.width in
    let a = c.args.at.access in
    let memory = bytes.symbolics_of c.args.p.now c.args.nodes.now c.args.memory.now in
    IfOk-weaker c.within.result _ _ (λ r e.
    e
    ∙ ap (λ (x : symbolics.Symbolic). symbolics.cut (λ k. k % modulus w) x)
    (c.loaded.ensures.value c.load.new.nodes ∙ c.in_ok-number.ensures.value ∙ ap (λ (s : ℕ). symbolics.loaded memory s a.bytes) c.place_of.ensures.place)
    ∙ sym (ap (λ (b : Bool). load_of b c.args.at.number w a memory) (is_so c.args.at.exact c.if-not-at.false))) c.within.ensures.value
