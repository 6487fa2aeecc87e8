-- A step of the machine by a thread that is inside.
use Rattle.std.proofs.Common.{◌≡◌, ℕ, ℤ, ◌<◌, Bool, true, false, List, length, Option, Some, None, refl, sym, ap, ◌∙◌, subst, arith, inl, inr}
use Rattle.std.specs.Prelude.{◌-◌, slice_get, slice_set, slice_index, if◌then◌else◌}
use Rattle.std.proofs.lemmas.Bool.Decides.{nat_tests}
use Rattle.std.proofs.lemmas.Option.{slice_get_within}
use Rattle.pg_num.specs.Places.{ByteRange, meet}
use Rattle.pg_run_memory.specs.Bytes.{byte_of}
use Rattle.pg_run_memory.specs.Memory.{Words, byte_at, read, written}
use Rattle.pg_run_memory.proofs.ReadsAndWrites.{byte_at-written_law, read-small, read-written_apart}
use Rattle.pg_ir.specs.declared.ids.InstrId.{InstrId}
use Rattle.pg_ir.specs.declared.instr.Instr.{Instr}
use Rattle.pg_ir.specs.Program.{NumberedProgram}
use Rattle.pg_run_thread.specs.declared.action.Action.{Action}
use Rattle.pg_run_thread.specs.declared.action.Action.TheVariants as actions
use Rattle.pg_run_thread.specs.LocalState.{LocalState}
use Rattle.pg_run_thread.specs.Step.{after}
use Rattle.pg_run_thread.specs.Told.{id_of, operand_values}
use Rattle.pg_run_trace.specs.Races.{share}
use Rattle.pg_run_trace.specs.declared.step.Step.{Step}
use Rattle.pg_run_trace.specs.declared.step.StepKind.{StepKind}
use Rattle.pg_run_trace.specs.declared.step.StepKind.TheVariants as told
use Rattle.pg_run.specs.State.{State, instr_of, next_of, id_in}
use Rattle.pg_run.specs.MachineStep.{Did, answered, instr_told, is_gated, kind_told, local_after, may_act, number_in, op_told, operands_in, ready, settled, step, step_told, taken}
use Rattle.pg_num.specs.Inputs.{input_at}
use Rattle.pg_run.proofs.StepsBegin.{next_is, ready_acts}
use Rattle.pg_run.proofs.Threads.{set_own, set_other}
use Rattle.pg_slice_replay.specs.pg_slice_rules.Freeable.{bounds_of}
use Rattle.pg_slice_replay.specs.pg_slice_rules.SymbolicValues.{is_within}
use Rattle.pg_num.specs.declared.layout.TheConstants.{MEMORY_BYTES}
use Rattle.pg_law_instances.specs.Leads.{IsWithin, KeepsCells}
use Rattle.pg_law_instances.specs.Inside.{Instance, AreApart}
use Rattle.pg_law_instances.specs.Stays.{AccessesWithin, IsOutside, TellsWithin, IsWithinExtent, StaysInside, CanStepInside}
use Rattle.pg_law_instances.proofs.NextActions.{Accesses}
use Rattle.pg_law_instances.proofs.StepsInside.{IsCalmKind, GoesOn, GoesFrom, Proceeds, inside_proceeds, branch_proceeds}

-- ---- memory

apart_ranges : (a b q r : ByteRange) → share a b ≡ false → IsWithin q a → IsWithin r b → 0 < q.bytes → 0 < r.bytes → meet q r ≡ false
apart_ranges a b q r e h k x y = let hf = h.from in let he = h.end in let kf = k.from in let ke = k.end in grind (arith, nat_tests, e, hf, he, kf, ke, x, y)

pub stored_keeps : (I : Instance) (m : Words) (place word n : ℕ) (q : ByteRange) → AreApart I.recorded → Accesses I place true word q → KeepsCells I.recorded I.memory (read m)
    → KeepsCells I.recorded I.memory (read (written m q n))
stored_keeps I m place word n q apart a k = record {
  kept = λ bounds r l w some lt. read-written_apart m q r n lt (apart_ranges (bounds_of word) bounds q r (apart (bounds_of word) bounds a.reached l) a.within w a.some some)
      ∙ k.kept bounds r l w some lt;
}

outside_range : (bounds q : ByteRange) (b : ℕ) → IsWithin q bounds → is_within bounds b ≡ false → is_within q b ≡ false
outside_range bounds q b h e = let f = h.from in let g = h.end in grind (arith, nat_tests, e, f, g)

-- a store leaves each byte outside of the bounds of stores
pub stored_bytes : (I : Instance) (m : Words) (place word n : ℕ) (q : ByteRange) → Accesses I place true word q → (b : ℕ) → b < MEMORY_BYTES → IsOutside I.recorded b
    → byte_at (written m q n) b ≡ byte_at m b
stored_bytes I m place word n q a b lt h =
    let e : is_within q b ≡ false = outside_range (bounds_of word) q b a.within (h (bounds_of word) a.reached) in
    byte_at-written_law m q n b lt ∙ ap (λ (c : Bool). if c then byte_of n (b - q.start) else byte_at m b) e

-- ---- what is told

calm_within : (I : Instance) (k : StepKind) → IsCalmKind k → TellsWithin I k
calm_within I told.Other h = tt
calm_within I (told.Branch c) h = tt
calm_within I (told.Access a) h = absurd h
calm_within I (told.Allocation n r) h = absurd h
calm_within I (told.Event e) h = absurd h

local_within : (I : Instance) (ns : List ℕ) (n : ℕ) (o : Option Instr) → ((x : Instr) → o ≡ Some x → (ns : List ℕ) (n : ℕ) → IsCalmKind (op_told ns n x.op))
    → TellsWithin I (instr_told ns n o)
local_within I ns n None h = tt
local_within I ns n (Some x) h = calm_within I (op_told ns n x.op) (h x refl ns n)

did : (x y : Step) (s z : State) → Did x s ≡ Did y z → (x ≡ y) × (s ≡ z)
did x y s z e = (cc, cc)

module _ (I : Instance) (gated : List InstrId) (input : List ℤ) (s z : State) (t : ℕ) (l : LocalState) (x : Step) (c : CanStepInside I gated s t l) where
  abbrev p : NumberedProgram
  p = I.program

  here : t < length s.locals
  here = slice_get_within s.locals t l c.is_local

  instr_here : instr_of s t ≡ id_of l
  unfolding instr_of
  instr_here = ap id_in c.is_local

  operands_here : operands_in p (slice_get s.locals t) ≡ operand_values p l
  operands_here = ap (operands_in p) c.is_local

  -- the state behind a step that leaves this memory
  abbrev behind : Words → ℕ → State
  behind m n = record s { memory = m; locals = local_after p s.locals t n (slice_get s.locals t) }

  stays : (m : Words) (n : ℕ) → ((b : ℕ) → b < MEMORY_BYTES → IsOutside I.recorded b → byte_at m b ≡ byte_at s.memory b) → KeepsCells I.recorded I.memory (read m)
      → GoesOn I l (after p l n) → TellsWithin I (step_told gated p s t n).kind → Did (step_told gated p s t n) (behind m n) ≡ Did x z → StaysInside I t l x s z
  stays m n o k g w e =
      let d = did (step_told gated p s t n) x (behind m n) z e in
      let locals : local_after p s.locals t n (slice_get s.locals t) ≡ slice_set s.locals t (after p l n) = ap (local_after p s.locals t n) c.is_local in
      subst (λ (y : Step). StaysInside I t l y s z) d.0 (subst (λ (y : State). StaysInside I t l (step_told gated p s t n) s y) d.1 (record {
        tells = w;
        local = after p l n;
        is_local = ap (λ (ls : List LocalState). slice_get ls t) locals ∙ set_own s.locals t (after p l n) here;
        goes_on = g;
        others = λ u ne. ap (λ (ls : List LocalState). slice_get ls u) locals ∙ set_other s.locals t u (after p l n) ne;
        rest = record { sync = refl; words = refl; printed = refl; value = refl };
        cells = k;
        bytes = o;
      }))

  tells_local : (n : ℕ) (a : Action) → next_of p s t ≡ a → Proceeds I (read s.memory) l → ((ns : List ℕ) (m k : ℕ) → TellsWithin I (kind_told gated p s t ns m k a))
      → TellsWithin I (step_told gated p s t n).kind
  tells_local n a e pr h = subst (λ (b : Action). TellsWithin I (kind_told gated p s t (operands_in p (slice_get s.locals t)) n (number_in p (slice_get s.locals t) n) b)) (sym e)
      (h (operands_in p (slice_get s.locals t)) n (number_in p (slice_get s.locals t) n))

  instr_calm : Proceeds I (read s.memory) l → (ns : List ℕ) (k : ℕ) → TellsWithin I (instr_told ns k (slice_get p.instrs (instr_of s t)))
  instr_calm pr ns k = local_within I ns k (slice_get p.instrs (instr_of s t)) (λ y e. pr.calm y (subst (λ (i : ℕ). slice_get p.instrs i ≡ Some y) instr_here e))

  event_none : (i : ℕ) → i ≡ id_of l → I.gated (id_of l) ≡ false → is_gated gated i ≡ false
  event_none i e g = c.gates i ∙ ap I.gated e ∙ g

  access_within : (w : ℕ) (r : ByteRange) (writes : Bool) (number : ℕ) (place : ℕ) → place ≡ id_of l → Accesses I place writes w r →
      AccessesWithin I (record { pointer = w; number = number; bytes = r.bytes; writes = writes; event = is_gated gated (instr_of s t) })
  access_within w r writes number place e a = record {
    plain = event_none (instr_of s t) instr_here (subst (λ (i : ℕ). I.gated i ≡ false) e a.plain);
    bounds = a.reached;
    within = record { from = (let f = a.within.from in omega (arith, f, a.start)); end = (let f = a.within.end in omega (arith, f, a.start)) };
  }

  by_action : (a : Action) → next_of p s t ≡ a → Proceeds I (read s.memory) l → GoesFrom I (read s.memory) l a → may_act s t a ≡ true
      → settled gated p s t (taken p s t (answered p input s t a)) ≡ Did x z → StaysInside I t l x s z
  unfolding answered
  by_action actions.Local e pr g m d = stays s.memory 0 (λ b lt o. refl) c.cells g (tells_local 0 actions.Local e pr (λ ns i k. instr_calm pr ns k)) d
  by_action (actions.In i) e pr g m d = stays s.memory (input_at input i) (λ b lt o. refl) c.cells (g (input_at input i)) (tells_local (input_at input i) (actions.In i) e pr (λ ns j k. tt)) d
  by_action actions.InLen e pr g m d = stays s.memory (length input) (λ b lt o. refl) c.cells (g (length input)) (tells_local (length input) actions.InLen e pr (λ ns j k. tt)) d
  by_action (actions.Load r) e pr g m d =
      stays s.memory (read s.memory r) (λ b lt o. refl) c.cells g.1
      (subst (λ (b : Action). TellsWithin I (kind_told gated p s t (operands_in p (slice_get s.locals t)) (read s.memory r) (number_in p (slice_get s.locals t) (read s.memory r)) b)) (sym e)
      (access_within (slice_index (operands_in p (slice_get s.locals t)) 0) r false (read s.memory r) (id_of l) refl
      (subst (λ (ns : List ℕ). Accesses I (id_of l) false (slice_index ns 0) r) (sym operands_here) g.0))) d
  by_action (actions.Store r n) e pr g m d =
      stays (written s.memory r n) 0 (stored_bytes I s.memory (id_of l) (slice_index (operand_values p l) 1) n r g.0)
      (stored_keeps I s.memory (id_of l) (slice_index (operand_values p l) 1) n r c.branch.apart g.0 c.cells) g.1
      (subst (λ (b : Action). TellsWithin I (kind_told gated p s t (operands_in p (slice_get s.locals t)) 0 (number_in p (slice_get s.locals t) 0) b)) (sym e)
      (access_within (slice_index (operands_in p (slice_get s.locals t)) 1) r true n (id_of l) refl
      (subst (λ (ns : List ℕ). Accesses I (id_of l) true (slice_index ns 1) r) (sym operands_here) g.0))) d
  by_action (actions.Event r) e pr g m d = absurd g
  by_action (actions.Trap name) e pr g m d = absurd cc
  by_action actions.Ended e pr g m d = absurd cc

  proceeds : Proceeds I (read s.memory) l
  proceeds = go c.within
    where
      go : IsWithinExtent I l → Proceeds I (read s.memory) l
      go (inl e) = subst (Proceeds I (read s.memory)) (sym e) (branch_proceeds I (read s.memory) c.branch)
      go (inr i) = inside_proceeds I (read s.memory) l c.branch c.cells (λ r. read-small s.memory r) i

  pub step_stays : ready p s t ≡ true → step gated p input s t ≡ Did x z → StaysInside I t l x s z
  unfolding step
  step_stays r d =
      let e = next_is p s t l c.is_local in
      by_action (next_of p s t) refl proceeds (subst (GoesFrom I (read s.memory) l) (sym e) proceeds.goes) (ready_acts p s t r) d
