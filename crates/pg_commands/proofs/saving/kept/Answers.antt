use Rattle.pg_commands.proofs.SavingsEnd.{saving_by, saving_telling}
use Rattle.pg_commands.proofs.saving.kept.Goals as goal

pub returns-in-Rotating-clause-ends : goal.returns-in-Rotating-clause-ends
returns-in-Rotating-clause-ends g c = saving_by _ _ _ _ _ _ _ c.in-Rotating.is (saving_telling _ _ _ _ _ _ _ (λ n h. h) c.kept_in_rotation.ensures)

pub returns-in-Free-clause-ends : goal.returns-in-Free-clause-ends
returns-in-Free-clause-ends g c = saving_by _ _ _ _ _ _ _ c.in-Free.is (saving_telling _ _ _ _ _ _ _ (λ n h. h) c.kept_freely.ensures)

pub returns-in-Seeded-clause-ends : goal.returns-in-Seeded-clause-ends
returns-in-Seeded-clause-ends g c = saving_by _ _ _ _ _ _ _ c.in-Seeded.is (saving_telling _ _ _ _ _ _ _ (λ n h. tt) c.kept_freely-in-Seeded.ensures)
