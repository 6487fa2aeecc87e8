-- A step of the rotation run that only its thread decides and sees.
use Rattle.std.proofs.Common.{◌≡◌, ℕ, ℤ, suc, ◌+◌, ◌-◌, ◌<◌, ◌≤◌, List, [], ◌∷◌, length, true, None, refl, sym, ap, ◌∙◌, arith, length-append}
use Rattle.pg_run_trace.specs.pg_ir.Program.{NumberedProgram}
use Rattle.pg_run_trace.specs.declared.step.Step.{Step}
use Rattle.pg_run_trace.specs.Recording.{Recording}
use Rattle.pg_run.specs.declared.share.Share.{Share}
use Rattle.pg_run.specs.State.{State, instr_of}
use Rattle.pg_run.specs.MachineStep.{Stepped, Did, step}
use Rattle.pg_run.specs.Rotation.{onto, on_step, run}
use Rattle.pg_run.specs.Went.{WentRecorded, kind_of}
use Rattle.pg_run.proofs.Rotations.{chosen_stays, step_goes, turn_steps}

module _ (p : NumberedProgram) (s z : State) where
  pub own_turn : (input : List ℤ) (q n : ℕ) (u : Share) (r r' : Recording) → WentRecorded p s z u.thread.0 true r r' None → 0 < u.left
      → onto r.steps (run (suc n) p input q s u) ≡ onto r'.steps (run n p input q z (record { thread = u.thread; left = u.left - 1 }))
  own_turn input q n u r r' w l =
      let x : Step = record { thread = record { 0 = u.thread.0 }; instr = record { 0 = instr_of s u.thread.0 }; kind = kind_of w.0 } in
      turn_steps p input q n s u u r.steps _ (chosen_stays p q s u w.1.ready_is l)
      (ap (λ (o : Stepped). onto r.steps (on_step s u o (run n p input q))) (w.1.step_is [] input)
      ∙ step_goes s u (Did x z) r.steps (run n p input q) refl
      ∙ ap (λ (y : Recording). onto y.steps (run n p input q z (record { thread = u.thread; left = u.left - 1 }))) (sym w.2))

  pub own_room : (t : ℕ) (r r' : Recording) → WentRecorded p s z t true r r' None → r'.room ≡ r.room
  own_room t r r' w = ap (λ (x : Recording). x.room) w.2

  pub own_more : (t : ℕ) (r r' : Recording) → WentRecorded p s z t true r r' None → length r'.steps ≤ length r.steps + 1
  own_more t r r' w = let k = ap (λ (x : Recording). length x.steps) w.2 in let m =
      length-append r.steps (record { thread = record { 0 = t }; instr = record { 0 = instr_of s t }; kind = kind_of w.0 } ∷ []) in omega (arith, k, m)
