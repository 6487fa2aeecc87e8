-- Functions that a program doesn't have.
use Rattle.std.proofs.Common.{◌≡◌, ℕ, zero, suc, ◌<◌, List, [], ◌∷◌, length, None, slice_get, arith, refl, ap, sym}
use Rattle.pg_ir.specs.declared.function.Function.{Function}
use Rattle.pg_ir.specs.Program.{NumberedProgram, parameter_count, parameter_count_in, types_in, types_of}

past : (fs : List Function) (f : ℕ) → (f < length fs → ⊥) → slice_get fs f ≡ None
past [] zero h = refl
past [] (suc f) h = refl
past (x ∷ fs) zero h = absurd (h (omega arith))
past (x ∷ fs) (suc f) h = past fs f (λ l. h (omega (arith, l)))

pub no_types : (p : NumberedProgram) (f : ℕ) → (f < length p.functions → ⊥) → 0 ≡ length (types_of p f)
unfolding types_of
no_types p f h = let e = past p.functions f h in ap (λ o. length (types_in o)) (sym e)

pub no_parameters : (p : NumberedProgram) (f : ℕ) → (f < length p.functions → ⊥) → 0 ≡ parameter_count p f
unfolding parameter_count
no_parameters p f h = let e = past p.functions f h in ap parameter_count_in (sym e)
