use Rattle.std.proofs.Common.{◌≡◌, ℕ, suc, ◌+◌, ◌++◌, ◌∷◌, [], arith, subst}
use Rattle.pg_slice_rules.specs.Known.{after_step, start_of}
use Rattle.pg_law_demands.specs.Along.{known_at}
use Rattle.pg_slice_passes.specs.Along.{first_steps, step_from}
use Rattle.pg_slice_passes.proofs.RunSteps.{known_more, steps_more}
use Rattle.pg_slice_passes.proofs.laws.one_step_more.Goals as goal

pub returns-clause-known : goal.returns-clause-known
returns-clause-known c R d n m e =
    let z : 0 + n ≡ n = omega arith in
    subst (λ (k : ℕ). known_at R d (suc n) ≡ after_step R d k m (known_at R d n)) z (known_more R d 0 n (start_of R.program) R.moments m e)

pub returns-clause-steps : goal.returns-clause-steps
returns-clause-steps c R d n m e =
    let z : 0 + n ≡ n = omega arith in
    subst (λ (k : ℕ). first_steps R d (suc n) ≡ first_steps R d n ++ step_from R d k (known_at R d n) m ∷ []) z (steps_more R d 0 n (start_of R.program) R.moments m e)
