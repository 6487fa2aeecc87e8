-- What turns print rests on the numbers of their own threads alone.
use Rattle.std.proofs.Common.{◌≡◌, ℕ, suc, List, [], ◌∷◌, ◌++◌, Bool, true, false, Some, refl, ◌∙◌, ap}
use Rattle.std.specs.Prelude.{◌==◌, drop, slice_get, slice_index, if◌then◌else◌}
use Rattle.pg_room.specs.pg_ir.Program.{NumberedProgram}
use Rattle.pg_room.specs.pg_run_trace.declared.turn.Turn.{Turn}
use Rattle.pg_room.specs.pg_law_runs.Deeds.{owners_of}
use Rattle.pg_room.specs.pg_law_course.Prints.{is_print, output_along, text_of, without_first}

-- the lists are alike for each owner
abbrev pub AreAlike : List ℕ → (ℕ → List ℕ) → (ℕ → List ℕ) → Type 0
AreAlike owners f h = (g t : ℕ) → slice_get owners g ≡ Some t → f t ≡ h t

alike_rest : (o : ℕ) (T : List ℕ) (f h : ℕ → List ℕ) → AreAlike (o ∷ T) f h → AreAlike T (without_first o f) (without_first o h)
alike_rest o T f h e g t q = by (t == o) (e (suc g) t q)
  where
    by : (b : Bool) → f t ≡ h t → (if b then drop 1 (f t) else f t) ≡ (if b then drop 1 (h t) else h t)
    by true k = ap (drop 1) k
    by false k = k

pub same_output : (p : NumberedProgram) (us : List Turn) (f h : ℕ → List ℕ) → AreAlike (owners_of us) f h → output_along p us f ≡ output_along p us h
same_output p [] f h e = refl
same_output p (u ∷ us) f h e = go (is_print u.kind) (same_output p us (without_first u.thread.0 f) (without_first u.thread.0 h) (alike_rest u.thread.0 (owners_of us) f h e))
    (same_output p us f h (λ g t q. e (suc g) t q))
  where
    go : (b : Bool) → output_along p us (without_first u.thread.0 f) ≡ output_along p us (without_first u.thread.0 h) → output_along p us f ≡ output_along p us h
        → (if b then text_of (slice_get p.instrs u.instr.0) u.kind (slice_index (f u.thread.0) 0) ++ output_along p us (without_first u.thread.0 f) else output_along p us f)
        ≡ (if b then text_of (slice_get p.instrs u.instr.0) u.kind (slice_index (h u.thread.0) 0) ++ output_along p us (without_first u.thread.0 h) else output_along p us h)
    go true first rest = ap (λ (xs : List ℕ). text_of (slice_get p.instrs u.instr.0) u.kind (slice_index xs 0) ++ output_along p us (without_first u.thread.0 f)) (e 0 u.thread.0 refl)
        ∙ ap (λ (xs : List ℕ). text_of (slice_get p.instrs u.instr.0) u.kind (slice_index (h u.thread.0) 0) ++ xs) first
    go false first rest = rest
