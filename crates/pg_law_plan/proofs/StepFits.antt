-- A step of a run on an admitted input fits the unit that its thread is to do.
use Rattle.std.proofs.Common.{◌≡◌, ℕ, ℤ, ◌⊎◌, ◌<◌, ◌^◌, true, false, List, length, Option, Some, sym, ap, ◌∙◌, subst, inl, inr}
use Rattle.std.specs.Prelude.{is_some, nat_lt, slice_get, ◌∷◌, []}
use Rattle.pg_num.specs.declared.layout.TheConstants.{MEMORY_BYTES}
use Rattle.pg_law_threads.specs.Effects.{IsSame, or_old}
use Rattle.pg_law_threads.specs.Plans.{Fits}
use Rattle.pg_run_trace.specs.declared.turn.Turn.{Turn}
use Rattle.pg_run_trace.specs.declared.step.Step.{Step}
use Rattle.pg_law_effects.specs.Views.{cell_at, local_at, objects_of}
use Rattle.pg_slice_rules.specs.Closed.{IsClosed, admits}
use Rattle.pg_slice_rules.specs.Known.{Taken, fresh_registers, thread_of}
use Rattle.pg_slice_rules.specs.Moments.{thread_in}
use Rattle.pg_law_plan.specs.Fits.{IsAlikeFor, StartsAreFresh}
use Rattle.pg_law_plan.specs.Likes.{IsCellLike, IsThreadLike, MovedThread, PlanThread, StandLike, like}
use Rattle.pg_law_plan.specs.Lists.{Has}
use Rattle.pg_law_plan.specs.Moves.{IsMove, RunDeed, RunState, deed_moved}
use Rattle.pg_law_plan.specs.Order.{IsOrderedRun}
use Rattle.pg_law_plan.specs.Units.{ExtentsArePlain, PlanDeed, PlanUnit, ReferenceRun, cell_known, deed_of, is_event_at, is_instance, is_placed_access, reads_cell, reference_of, standing_of}
use Rattle.pg_law_plan.specs.Units.{units_of, writes_cell}
use Rattle.pg_law_plan.proofs.EachUnit.{IsUnit, all_units}
use Rattle.pg_law_plan.proofs.InstructionFits.{both_fits}
use Rattle.pg_law_plan.proofs.StepChecks.{IsGood, all_good}
use Rattle.pg_law_plan.proofs.ListMembers.{all_has}
use Rattle.pg_law_plan.proofs.AlikeThreads.{Beginning, Both, opened}
use Rattle.pg_law_plan.proofs.UnitsArePlan.{at_units}
use Rattle.pg_law_plan.proofs.ThreadStartFits.{start_fits}
use Rattle.pg_law_plan.proofs.WordsBeforeUnits.{all_words}
use Rattle.pg_law_plan.proofs.UnitWrites.{placed_writes, start_writes}

-- what fits is seen place by place
pub fits_same : (input : List ℤ) (p : PlanDeed) (d e : RunDeed) → IsSame d e → Fits (like input) p e → Fits (like input) p d
fits_same input p d e s f = record {
  thread = s.thread ∙ f.thread;
  to = subst (λ (l : MovedThread). IsThreadLike input p.to l) (sym s.to) f.to;
  told = subst (λ (x : Step). Rattle.pg_law_plan.specs.Likes.IsToldLike p.told x) (sym s.told) f.told;
  objects = s.objects ∙ f.objects;
  cells = λ b v w h. subst (λ (o : Option ℕ). IsCellLike input (or_old (p.writes b) v) (or_old o w)) (sym (s.writes b)) (f.cells b v w h);
  reads = λ b h. f.reads b (sym (s.reads b) ∙ h);
  writes = λ b h. f.writes b (ap is_some (sym (s.writes b)) ∙ h);
}

module _ (r : ReferenceRun) (d : Taken) (input : List ℤ) (o : IsOrderedRun r) (plain : ExtentsArePlain r d) (small : length input < 2 ^ 64) where
  module _ (u : PlanUnit) (unit : IsUnit r d u) (single : is_instance d u.seen ≡ false) (good : IsGood (reference_of r) d input u.seen) (words : length u.seen.before.words ≡ length u.state.locals)
      (turns : List Turn) (a : RunState) (g : ℕ) (e : RunDeed) (m : IsMove r.gated r.program input turns a g e) (alike : IsAlikeFor input d u a) (mine : e.thread ≡ thread_in u.seen.moment) where
    pub own : m.told.thread.0 ≡ thread_in u.seen.moment
    own = sym m.is_deed.thread ∙ mine

    pub thread_is : a.locals (thread_in u.seen.moment) ≡ record { local = local_at m.state (thread_in u.seen.moment); moves = m.moves (thread_in u.seen.moment) }
    thread_is = m.looks.locals (thread_in u.seen.moment) (sym own)

    pub stands_alike : StandLike input (standing_of (local_at u.state (thread_in u.seen.moment)) (thread_of u.seen.before (thread_in u.seen.moment)).calls) (local_at m.state (thread_in u.seen.moment))
    stands_alike = subst (λ (l : MovedThread). StandLike input (standing_of (local_at u.state (thread_in u.seen.moment)) (thread_of u.seen.before (thread_in u.seen.moment)).calls) l.local)
        thread_is alike.thread.stands

    pub cells_alike : (c : ℕ) → reads_cell d u.seen c ≡ true → IsCellLike input (cell_known u.seen.before c) (cell_at m.state c)
    cells_alike c h = subst (λ (n : ℕ). IsCellLike input (cell_known u.seen.before c) n) (m.looks.cells c) (alike.cells c h)

    pub objects_alike : is_event_at u.seen ≡ true → objects_of u.state ≡ objects_of m.state
    objects_alike h = alike.objects h ∙ m.looks.objects

    pub units_alike : m.moves (thread_in u.seen.moment) ≡ u.units
    units_alike = ap (λ (l : MovedThread). l.moves) (sym thread_is) ∙ alike.thread.moves

    pub one_fits : (Beginning r.program (thread_in u.seen.moment) u.state m.state → Fits (like input) (deed_of d u) (deed_moved r.program input m.state m.moves m.told))
        → Fits (like input) (deed_of d u) e
    one_fits begins = fits_same input (deed_of d u) e (deed_moved r.program input m.state m.moves m.told) m.is_deed
        (go (opened r.gated r.program r.input input u.state m.state u.seen.moment.did.did
        (thread_of u.seen.before (thread_in u.seen.moment)).calls unit.met.reached unit.met.takes m.reached stands_alike))
      where
        go : Both r.program input (thread_in u.seen.moment) u.state m.state (thread_of u.seen.before (thread_in u.seen.moment)).calls
            ⊎ Beginning r.program (thread_in u.seen.moment) u.state m.state → Fits (like input) (deed_of d u) (deed_moved r.program input m.state m.moves m.told)
        go (inl b) = both_fits r d input o.can.program small u m.state m.moves m.told
            (record { unit = unit; plain = single; reached = m.reached; takes = m.may.takes; own = own; both = b; units = units_alike }) good objects_alike words cells_alike
        go (inr b) = begins b

    -- it writes all that the unit may write, where that is at its recorded place
    pub one_writes : is_placed_access d u.seen ≡ true → (c : ℕ) → nat_lt c MEMORY_BYTES ≡ true → writes_cell d u.seen c ≡ true → is_some (e.writes c) ≡ true
    one_writes p c lt h = ap is_some (m.is_deed.writes c)
        ∙ go (opened r.gated r.program r.input input u.state m.state u.seen.moment.did.did
        (thread_of u.seen.before (thread_in u.seen.moment)).calls unit.met.reached unit.met.takes m.reached stands_alike)
      where
        go : Both r.program input (thread_in u.seen.moment) u.state m.state (thread_of u.seen.before (thread_in u.seen.moment)).calls
            ⊎ Beginning r.program (thread_in u.seen.moment) u.state m.state → is_some ((deed_moved r.program input m.state m.moves m.told).writes c) ≡ true
        go (inl b) = placed_writes r d input o.can.program u m.state m.moves m.told
            (record { unit = unit; plain = single; reached = m.reached; takes = m.may.takes; own = own; both = b; units = units_alike }) good objects_alike words cells_alike p c lt h
        go (inr b) = start_writes r d u unit single m.state b c lt h (is_some ((deed_moved r.program input m.state m.moves m.told).writes c) ≡ true)

  -- the facts of a unit
  module _ (closed : IsClosed (reference_of r) d) (admitted : admits (reference_of r) d input ≡ true) (u : PlanUnit) (has : Has (units_of r d) u) where
    pub unit_at : IsUnit r d u
    unit_at = all_has (IsUnit r d) (units_of r d) u (all_units r d o) has

    pub good_at : IsGood (reference_of r) d input u.seen
    good_at = (all_has (λ (v : PlanUnit). (v.seen.live ≡ true) × IsGood (reference_of r) d input v.seen) (units_of r d) u
        (at_units r d (IsGood (reference_of r) d input) (all_good input (reference_of r) d closed admitted)) has).1

    pub words_at : length u.seen.before.words ≡ length u.state.locals
    words_at = all_has (λ (v : PlanUnit). length v.seen.before.words ≡ length v.state.locals) (units_of r d) u (all_words r d o plain) has

    module _ (fresh : StartsAreFresh r d) (single : is_instance d u.seen ≡ false) (turns : List Turn) (a : RunState) (g : ℕ) (e : RunDeed) (m : IsMove r.gated r.program input turns a g e)
        (alike : IsAlikeFor input d u a) (mine : e.thread ≡ thread_in u.seen.moment) where
      pub unit_fits : Fits (like input) (deed_of d u) e
      unit_fits = one_fits u unit_at single good_at words_at turns a g e m alike mine (λ b.
          start_fits r d input u unit_at single m.state m.moves m.told m.reached m.may.takes (own u unit_at single good_at words_at turns a g e m alike mine)
          (units_alike u unit_at single good_at words_at turns a g e m alike mine)
          (objects_alike u unit_at single good_at words_at turns a g e m alike mine) words_at (cells_alike u unit_at single good_at words_at turns a g e m alike mine) b
          (all_has (λ (v : PlanUnit). (f : ℕ) → slice_get v.state.locals (thread_in v.seen.moment) ≡ Some (Rattle.pg_run_thread.specs.LocalState.fresh r.program (thread_in v.seen.moment) f)
          → (thread_of v.seen.before (thread_in v.seen.moment)).calls ≡ fresh_registers r.program f ∷ []) (units_of r d) u fresh has b.function b.first))

      pub unit_writes : is_placed_access d u.seen ≡ true → (c : ℕ) → nat_lt c MEMORY_BYTES ≡ true → writes_cell d u.seen c ≡ true → is_some (e.writes c) ≡ true
      unit_writes = one_writes u unit_at single good_at words_at turns a g e m alike mine
