use Rattle.std.proofs.Common.{false, refl, subst, true}
use Rattle.pg_commands_words.specs.Commands.{IsWay}
use Rattle.pg_session_book.specs.Runs.{freely, rotating, tested}
use Rattle.pg_commands.proofs.SessionsEnd.{ends_telling, session_by}
use Rattle.pg_commands.proofs.serve.session.Goals as goal

-- nothing is recorded

pub serve_tested-requires-clause-stands : goal.serve_tested-requires-clause-stands
serve_tested-requires-clause-stands g c = λ _ _. c.requires.stands tested

pub returns-then-only-clause-ends : goal.returns-then-only-clause-ends
returns-then-only-clause-ends g c =
    session_by _ _ _ true _ _ _ _ _ _ _ refl c.if-only.true (ends_telling _ _ _ _ _ _ _ _ _ (λ n h. h) c.serve_tested.ensures)

-- in rotation

pub serve_in_rotation-requires-clause-least : goal.serve_in_rotation-requires-clause-least
serve_in_rotation-requires-clause-least g c = λ _ _. (subst IsWay c.in-Rotating.is c.requires.way).0

pub serve_in_rotation-requires-clause-most : goal.serve_in_rotation-requires-clause-most
serve_in_rotation-requires-clause-most g c = λ _ _. (subst IsWay c.in-Rotating.is c.requires.way).1

pub serve_in_rotation-requires-clause-stands : goal.serve_in_rotation-requires-clause-stands
serve_in_rotation-requires-clause-stands g c = λ _ _. c.requires.stands (rotating _)

pub returns-in-Rotating-clause-ends : goal.returns-in-Rotating-clause-ends
returns-in-Rotating-clause-ends g c =
    session_by _ _ _ false _ _ _ _ _ _ _ c.in-Rotating.is c.if-only.false (ends_telling _ _ _ _ _ _ _ _ _ (λ n h. h) c.serve_in_rotation.ensures)

-- by a crew

pub serve_freely-requires-clause-stands : goal.serve_freely-requires-clause-stands
serve_freely-requires-clause-stands g c = λ _ _. c.requires.stands freely

pub returns-in-Free-clause-ends : goal.returns-in-Free-clause-ends
returns-in-Free-clause-ends g c =
    session_by _ _ _ false _ _ _ _ _ _ _ c.in-Free.is c.if-only.false (ends_telling _ _ _ _ _ _ _ _ _ (λ n h. h) c.serve_freely.ensures)

-- by a seed

pub serve_freely-requires-in-Seeded-clause-stands : goal.serve_freely-requires-in-Seeded-clause-stands
serve_freely-requires-in-Seeded-clause-stands g c = λ _ _. c.requires.stands freely

pub returns-in-Seeded-clause-ends : goal.returns-in-Seeded-clause-ends
returns-in-Seeded-clause-ends g c =
    session_by _ _ _ false _ _ _ _ _ _ _ c.in-Seeded.is c.if-only.false (ends_telling _ _ _ _ _ _ _ _ _ (λ n h. tt) c.serve_freely-in-Seeded.ensures)
