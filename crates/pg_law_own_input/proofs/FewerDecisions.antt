-- What all decisions admit fewer of them admit too.
use Rattle.std.proofs.Common.{◌≡◌, true, refl}
use Rattle.pg_slice_rules.specs.declared.decision.Decision.TheVariants.{Pinned, Exact}
use Rattle.pg_slice_rules.specs.Closed.{AreWithin, admits}
use Rattle.pg_slice_rules.specs.Known.{Taken}
use Rattle.pg_law_instances.specs.pg_law_least.Keeps.{ExtentsKeep, every}
use Rattle.pg_law_instances.proofs.of_pg_law_least.SmallerAdmitsMore.{admits_more}
use Rattle.pg_law_plan.specs.Units.{ReferenceRun, reference_of}
use Rattle.pg_law_own_input.specs.OwnInput.{IsMachineRun}
use Rattle.pg_law_own_input.proofs.KnownAlongRun.{all_admit}

pub within_every : (d : Taken) → AreWithin d every
within_every d (Pinned n) h = refl
within_every d (Exact n) h = refl

pub any_admit : (r : ReferenceRun) → IsMachineRun r → ExtentsKeep (reference_of r) → (d : Taken) → admits (reference_of r) d r.input ≡ true
any_admit r o keeps d = admits_more (reference_of r) keeps d every (within_every d) r.input (all_admit r o)
