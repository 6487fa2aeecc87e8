use Rattle.std.proofs.Common.{ℕ, ◌<◌, ◌≤◌, ◌∙◌, List, ap, subst, sym}
use Rattle.std.specs.Prelude.{slice_get, slice_index}
use Rattle.pg_law_course.specs.pg_num.declared.limits.TheConstants.{GUIDED_STEP_LIMIT}
use Rattle.pg_law_course.specs.pg_run_trace.declared.turn.Turn.{Turn}
use Rattle.pg_law_course.specs.pg_run.declared.guided_end.GuidedEnd.{GuidedEnd}
use Rattle.pg_law_course.specs.pg_run.declared.guided_end.GuidedEnd.TheVariants as ends
use Rattle.pg_locked.specs.Standing.{EndsAsGuided, GoesOn, Standing}
use Rattle.pg_locked.proofs.LockedEnds.{exits, goes_on, spends, stops}
use Rattle.pg_locked.proofs.locked.Locked.end.Goals as goal

pub returns-in_default-clause-ends : goal.returns-in_default-clause-ends
returns-in_default-clause-ends g c =
    let l = c.self.inside in
    subst (λ (v : Standing). EndsAsGuided g.J.Named.run v c.exit_of.result) c.self.view_is
    (subst (λ (e : GuidedEnd). EndsAsGuided g.J.Named.run (record { state = l.machine.state; taken = l.taken.items; done = l.done }) e) (sym c.exit_of.ensures)
    (exits g.J.Named.run l.program.now l.schedule.now l.machine l.taken.items l.done c.self.invariant
    (ap (λ (us : List Turn). slice_get us l.done) (sym c.as_slice.ensures.items) ∙ sym c.turn_at.ensures ∙ c.in_default.is)))

pub returns-then-count_of-ge-GUIDED_STEP_LIMIT-clause-ends : goal.returns-then-count_of-ge-GUIDED_STEP_LIMIT-clause-ends
returns-then-count_of-ge-GUIDED_STEP_LIMIT-clause-ends g c =
    let l = c.self.inside in
    let u = c.in-Some.turn in
    subst (λ (v : Standing). EndsAsGuided g.J.Named.run v (ends.Budget u.thread)) c.self.view_is
    (spends g.J.Named.run l.program.now l.schedule.now l.machine l.taken.items l.done c.self.invariant u
    (ap (λ (us : List Turn). slice_get us l.done) (sym c.as_slice.ensures.items) ∙ sym c.turn_at.ensures ∙ c.in-Some.is)
    (subst (λ (n : ℕ). GUIDED_STEP_LIMIT ≤ n) (c.count_of.ensures ∙ ap (λ (xs : List ℕ). slice_index xs u.thread.0) c.as_slice-2.ensures.value) c.if-count_of-ge-GUIDED_STEP_LIMIT.true))

pub returns-in-Trap-clause-ends : goal.returns-in-Trap-clause-ends
returns-in-Trap-clause-ends g c =
    let l = c.self.inside in
    let u = c.in-Some.turn in
    subst (λ (v : Standing). EndsAsGuided g.J.Named.run v (ends.Trap c.in-Trap.name c.in-Trap.id)) c.self.view_is
    (stops g.J.Named.run l.program.now l.schedule.now l.machine l.taken.items l.done c.self.invariant u
    (ap (λ (us : List Turn). slice_get us l.done) (sym c.as_slice.ensures.items) ∙ sym c.turn_at.ensures ∙ c.in-Some.is) c.in-Trap.name c.in-Trap.id
    (subst (λ (n : ℕ). n < GUIDED_STEP_LIMIT) (c.count_of.ensures ∙ ap (λ (xs : List ℕ). slice_index xs u.thread.0) c.as_slice-2.ensures.value) c.if-count_of-ge-GUIDED_STEP_LIMIT.false)
    (sym c.next.ensures.next ∙ c.in-Trap.is))

pub returns-in_default-next-clause-goes : goal.returns-in_default-next-clause-goes
returns-in_default-next-clause-goes g c =
    let l = c.self.inside in
    let u = c.in-Some.turn in
    subst (λ (v : Standing). GoesOn g.J.Named.run v) c.self.view_is
    (goes_on g.J.Named.run l.program.now l.schedule.now l.machine l.taken.items l.done c.self.invariant u
    (ap (λ (us : List Turn). slice_get us l.done) (sym c.as_slice.ensures.items) ∙ sym c.turn_at.ensures ∙ c.in-Some.is)
    (subst (λ (n : ℕ). n < GUIDED_STEP_LIMIT) (c.count_of.ensures ∙ ap (λ (xs : List ℕ). slice_index xs u.thread.0) c.as_slice-2.ensures.value) c.if-count_of-ge-GUIDED_STEP_LIMIT.false)
    (λ name id is. c.in_default-next.not-Trap name id (c.next.ensures.next ∙ is)))
