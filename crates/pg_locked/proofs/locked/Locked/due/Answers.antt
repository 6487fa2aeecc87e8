use Rattle.std.proofs.Common.{◌≡◌, ℕ, ◌≤◌, ◌∙◌, Bool, List, None, Option, Some, ap, length, refl, subst, sym}
use Rattle.std.specs.Prelude.{IfErr, IfOk, drop, slice_index}
use Rattle.pg_law_course.specs.pg_run_trace.declared.turn.Turn.{Turn}
use Rattle.pg_locked.specs.declared.tried.Tried.{Tried}
use Rattle.pg_locked.proofs.LockedSteps.{refused, told, within_turns}
use Rattle.pg_locked.proofs.locked.Locked.due.Goals as goal

pub left_of-left-requires : goal.left_of-left-requires
left_of-left-requires g c =
    let l = c.self.inside in
    subst (λ (us : List Turn). l.done ≤ length us) (sym c.as_slice.ensures.items)
    (within_turns g.J.Named.run l.program.now l.schedule.now l.machine l.taken.items l.done c.self.invariant)

pub returns : goal.returns
returns g c =
    let l = c.self.inside in
    let same = refused g.J.Named.run l.program.now l.schedule.now l.machine l.taken.items l.done c.self.invariant c.args.self.now c.args.t.0 c.left_of-left.result.now c.count_of-taken.result
    c.self.view_is (c.left_of-left.ensures ∙ ap (drop l.done) c.as_slice.ensures.items) (c.count_of-taken.ensures ∙ ap (λ (xs : List ℕ). slice_index xs c.args.t.0) c.as_slice-2.ensures.value) refl in
    record {
      refused = subst (λ (o : Option Tried). IfErr c.due.result (λ (why : Tried). o ≡ Some why)) (sym same) c.due.ensures.refused;
      may = subst (λ (o : Option Tried). IfOk c.due.result (λ (e : Bool). o ≡ None)) (sym same) c.due.ensures.may;
      event = subst (λ (b : Bool). IfOk c.due.result (λ (e : Bool). b ≡ e))
          (sym (told g.J.Named.run l.program.now l.schedule.now l.machine l.taken.items l.done c.self.invariant c.args.self.now c.args.t.0 c.self.view_is refl)) c.due.ensures.event;
    }
