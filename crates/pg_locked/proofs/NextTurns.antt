-- What a thread's next step tells: which turn it is, and how it traps.
use Rattle.std.proofs.Common.{◌≡◌, ℕ, List, [], ◌∷◌, Bool, true, false, Option, Some, None, refl, sym, ◌∙◌, ap, subst, length}
use Rattle.std.specs.Prelude.{nat_lt, is_some, if◌then◌else◌}
use Rattle.pg_law_course.specs.pg_ir.Program.{NumberedProgram}
use Rattle.pg_law_course.specs.pg_ir.declared.ids.InstrId.{InstrId}
use Rattle.pg_law_course.specs.pg_run_thread.declared.action.Action.{Action}
use Rattle.pg_law_course.specs.pg_run_thread.declared.action.Action.TheVariants as actions
use Rattle.pg_law_course.specs.pg_run_trace.declared.turn.Turn.{Turn}
use Rattle.pg_law_course.specs.pg_run.declared.machine.Next.{Next}
use Rattle.pg_law_course.specs.pg_run.declared.machine.Next.TheVariants as nexts
use Rattle.pg_law_course.specs.pg_run.Bound.{BoundState, event_or, next_by, next_step}
use Rattle.pg_law_course.specs.pg_run.Guided.{is_turn}
use Rattle.pg_law_course.specs.pg_run.MachineStep.{happening_of, trap_of, turn_of, turn_with}
use Rattle.pg_law_course.specs.pg_run.State.{State, instr_of, next_of}
use Rattle.pg_law_course.specs.pg_law_effects.PermittedSteps.{IsDue}
use Rattle.pg_law_course.proofs.of_pg_run.GuidedRuns.{one_turn}
use Rattle.pg_locked.specs.declared.tried.Tried.{Tried}
use Rattle.pg_locked.specs.declared.tried.Tried.TheVariants as tried
use Rattle.pg_locked.specs.Tries.{refusal_by, unless_first}

-- ---- the turn

-- what a next step tells of its turn
abbrev pub Tells : Next → Option Turn → Type 0
Tells (nexts.Event u) o = o ≡ Some u
Tells (nexts.Other id) o = o ≡ None
Tells n o = Unit {0}

event_tells : (s : State) (t : ℕ) (o : Option Turn) → Tells (event_or s t o) o
event_tells s t None = refl
event_tells s t (Some u) = refl

action_tells : (gated : List InstrId) (s : State) (t : ℕ) (a : Action) → Tells (next_by gated s t a) (turn_with s t (happening_of gated s t a))
action_tells gated s t actions.Ended = tt
action_tells gated s t (actions.Trap name) = tt
action_tells gated s t actions.Local = event_tells s t (turn_with s t (happening_of gated s t actions.Local))
action_tells gated s t (actions.In i) = event_tells s t (turn_with s t (happening_of gated s t (actions.In i)))
action_tells gated s t actions.InLen = event_tells s t (turn_with s t (happening_of gated s t actions.InLen))
action_tells gated s t (actions.Load r) = event_tells s t (turn_with s t (happening_of gated s t (actions.Load r)))
action_tells gated s t (actions.Store r n) = event_tells s t (turn_with s t (happening_of gated s t (actions.Store r n)))
action_tells gated s t (actions.Event r) = event_tells s t (turn_with s t (happening_of gated s t (actions.Event r)))

pub next_tells : (p : NumberedProgram) (m : BoundState) (t : ℕ) → Tells (next_step p m t) (turn_of m.gated p m.state t)
unfolding turn_of
next_tells p m t = go (nat_lt t (length m.state.locals)) (action_tells m.gated m.state t (next_of p m.state t))
  where
    go : (b : Bool) → Tells (next_by m.gated m.state t (next_of p m.state t)) (turn_with m.state t (happening_of m.gated m.state t (next_of p m.state t)))
        → Tells (if b then next_by m.gated m.state t (next_of p m.state t) else nexts.NotMade) (turn_with m.state t (happening_of m.gated m.state t (next_of p m.state t)))
    go true h = h
    go false h = tt

-- ---- the trap

-- a next step that traps by the thread's own state
abbrev pub TellsTrap : State → ℕ → Action → Next → Type 0
TellsTrap s t a (nexts.Trap name id) = (trap_of s t a ≡ Some name) × (id ≡ record { 0 = instr_of s t })
TellsTrap s t a n = Unit {0}

event_traps : (s : State) (t : ℕ) (a : Action) (o : Option Turn) → TellsTrap s t a (event_or s t o)
event_traps s t a None = tt
event_traps s t a (Some u) = tt

action_traps : (gated : List InstrId) (s : State) (t : ℕ) (a : Action) → TellsTrap s t a (next_by gated s t a)
action_traps gated s t actions.Ended = tt
action_traps gated s t (actions.Trap name) = (refl, refl)
action_traps gated s t actions.Local = event_traps s t actions.Local (turn_with s t (happening_of gated s t actions.Local))
action_traps gated s t (actions.In i) = event_traps s t (actions.In i) (turn_with s t (happening_of gated s t (actions.In i)))
action_traps gated s t actions.InLen = event_traps s t actions.InLen (turn_with s t (happening_of gated s t actions.InLen))
action_traps gated s t (actions.Load r) = event_traps s t (actions.Load r) (turn_with s t (happening_of gated s t (actions.Load r)))
action_traps gated s t (actions.Store r n) = event_traps s t (actions.Store r n) (turn_with s t (happening_of gated s t (actions.Store r n)))
action_traps gated s t (actions.Event r) = event_traps s t (actions.Event r) (turn_with s t (happening_of gated s t (actions.Event r)))

pub next_traps : (p : NumberedProgram) (m : BoundState) (t : ℕ) → TellsTrap m.state t (next_of p m.state t) (next_step p m t)
next_traps p m t = go (nat_lt t (length m.state.locals)) (action_traps m.gated m.state t (next_of p m.state t))
  where
    go : (b : Bool) → TellsTrap m.state t (next_of p m.state t) (next_by m.gated m.state t (next_of p m.state t))
        → TellsTrap m.state t (next_of p m.state t) (if b then next_by m.gated m.state t (next_of p m.state t) else nexts.NotMade)
    go true h = h
    go false h = tt

-- ---- a step that isn't refused

-- a next step that may be taken where these turns are left
abbrev pub IsDueStep : Next → List Turn → Type 0
IsDueStep (nexts.Event v) us = IsDue (Some v) us
IsDueStep (nexts.Other id) us = Unit {0}
IsDueStep n us = ⊥

pub record Opens (n : Next) (has spent : Bool) (us : List Turn) : Type 0 where
  pub owner : has ≡ true
  pub steps : spent ≡ false
  pub due : IsDueStep n us

first_due : (v : Turn) (us : List Turn) → unless_first v us ≡ None → IsDue (Some v) us
first_due v [] e = absurd cc
first_due v (u ∷ us) e = go (is_turn v u) refl e
  where
    go : (b : Bool) → is_turn v u ≡ b → Path (Option Tried) (if b then None else Some tried.Waiting) None → v ≡ u
    go true q h = one_turn v u q
    go false q h = absurd cc

pub opens : (n : Next) (has spent : Bool) (us : List Turn) → refusal_by n has spent us ≡ None → Opens n has spent us
opens nexts.NotMade has spent us e = absurd cc
opens nexts.Ended has spent us e = absurd cc
opens (nexts.Trap name id) false spent us e = absurd cc
opens (nexts.Trap name id) true spent us e = absurd cc
opens (nexts.Event v) false spent us e = absurd cc
opens (nexts.Event v) true true us e = absurd cc
opens (nexts.Event v) true false us e = record { owner = refl; steps = refl; due = first_due v us e }
opens (nexts.Other id) false spent us e = absurd cc
opens (nexts.Other id) true true us e = absurd cc
opens (nexts.Other id) true false us e = record { owner = refl; steps = refl; due = tt }

pub due_turn : (n : Next) (o : Option Turn) (us : List Turn) → Tells n o → IsDueStep n us → IsDue o us
due_turn (nexts.Event v) o us e d = subst (λ (w : Option Turn). IsDue w us) (sym e) d
due_turn (nexts.Other id) o us e d = subst (λ (w : Option Turn). IsDue w us) (sym e) tt
due_turn nexts.NotMade o us e d = absurd d
due_turn nexts.Ended o us e d = absurd d
due_turn (nexts.Trap name id) o us e d = absurd d

-- ---- what is tested before a step

pub may_event : {u : Turn} (n : Next) (has spent : Bool) (us : List Turn) → nexts.Event u ≡ n → has ≡ true → spent ≡ false → unless_first u us ≡ None → refusal_by n has spent us ≡ None
may_event {u} n has spent us e h s f =
    subst (λ (k : Next). refusal_by k has spent us ≡ None) e
    (ap (λ (b : Bool). refusal_by (nexts.Event u) b spent us) h ∙ ap (λ (b : Bool). refusal_by (nexts.Event u) true b us) s ∙ f)

pub may_other : {id : InstrId} (n : Next) (has spent : Bool) (us : List Turn) → nexts.Other id ≡ n → has ≡ true → spent ≡ false → refusal_by n has spent us ≡ None
may_other {id} n has spent us e h s =
    subst (λ (k : Next). refusal_by k has spent us ≡ None) e
    (ap (λ (b : Bool). refusal_by (nexts.Other id) b spent us) h ∙ ap (λ (b : Bool). refusal_by (nexts.Other id) true b us) s)

pub tells_event : {u : Turn} (p : NumberedProgram) (m : BoundState) (t : ℕ) → nexts.Event u ≡ next_step p m t → is_some (turn_of m.gated p m.state t) ≡ true
tells_event {u} p m t e = ap (λ (o : Option Turn). is_some o) (subst (λ (n : Next). Tells n (turn_of m.gated p m.state t)) (sym e) (next_tells p m t))

pub tells_other : {id : InstrId} (p : NumberedProgram) (m : BoundState) (t : ℕ) → nexts.Other id ≡ next_step p m t → is_some (turn_of m.gated p m.state t) ≡ false
tells_other {id} p m t e = ap (λ (o : Option Turn). is_some o) (subst (λ (n : Next). Tells n (turn_of m.gated p m.state t)) (sym e) (next_tells p m t))
