use Rattle.pg_law_order.proofs.Conflicts.{at_a_byte, in_conflict}
use Rattle.pg_law_order.proofs.steps_conflict_at_a_byte.Goals as goal

pub returns : goal.returns
returns c is_event x y = ((λ h. at_a_byte is_event x y h), (λ h. in_conflict is_event x y h))
