-- Instructions that are loads or stores of a program are instructions of it.
use Rattle.std.proofs.Common.{◌≡◌, ℕ, zero, suc, ◌<◌, ◌&&◌, Bool, true, false, List, [], ◌∷◌, length, All, refl, arith}
use Rattle.std.specs.Prelude.{slice_get}
use Rattle.std.proofs.lemmas.List.Elements.{All-cons, All-nil}
use Rattle.pg_go.specs.pg_ir.declared.ids.InstrId.{InstrId}
use Rattle.pg_go.specs.pg_ir.declared.instr.Instr.{Instr}
use Rattle.pg_go.specs.pg_ir.Program.{NumberedProgram}
use Rattle.pg_session_runner.specs.Loading.{are_accesses, is_access_at, names_access}

inside : (xs : List Instr) (k : ℕ) → is_access_at (slice_get xs k) ≡ true → k < length xs
inside [] zero e = absurd cc
inside [] (suc k) e = absurd cc
inside (x ∷ xs) zero e = omega arith
inside (x ∷ xs) (suc k) e = let h = inside xs k e in omega (arith, h)

left : (a b : Bool) → (a && b) ≡ true → a ≡ true
left true b e = refl
left false b e = e

right : (a b : Bool) → (a && b) ≡ true → b ≡ true
right true b e = e
right false b e = absurd cc

pub are_inside : (p : NumberedProgram) (ids : List InstrId) → are_accesses p ids ≡ true → All (λ (g : InstrId). g.0 < length p.instrs) ids
are_inside p [] e = All-nil (λ (g : InstrId). g.0 < length p.instrs)
are_inside p (id ∷ ids) e =
    All-cons (λ (g : InstrId). g.0 < length p.instrs) id ids (inside p.instrs id.0 (left (names_access p id) (are_accesses p ids) e))
    (are_inside p ids (right (names_access p id) (are_accesses p ids) e))
