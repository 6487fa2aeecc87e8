-- What the loops over the steps and over the instructions keep.
use Rattle.std.proofs.Common.{◌≡◌, ℕ, ◌+◌, ◌-◌, ◌<◌, List, [], ◌∷◌, ◌++◌, length, drop, Some, refl, sym, ap, ◌∙◌, arith, zero, suc}
use Rattle.std.specs.Prelude.{slice_get, max}
use Rattle.std.specs.Option.{option_to_list}
use Rattle.pg_law_threads.specs.Intervals.{Timed}
use Rattle.pg_run_trace.specs.declared.step.Step.{Step}
use Rattle.pg_run_trace.specs.Races.{races_below, race_in, instrs_in}

pub below_none : (ys : List (Timed Step)) → races_below ys 0 ≡ []
unfolding races_below
below_none ys = refl

pub below_more : (ys : List (Timed Step)) (n : ℕ) → races_below ys (n + 1) ≡ races_below ys n ++ option_to_list (race_in ys n)
unfolding races_below
below_more ys n = let e : n + 1 ≡ suc n = omega arith in rw e refl

drop_get : {A : Type 0} (xs : List A) (i : ℕ) (x : A) → slice_get xs i ≡ Some x → drop i xs ≡ x ∷ drop (i + 1) xs
drop_get [] i x h = absurd (cc)
drop_get (y ∷ xs) zero x h = let q : y ≡ x = cc in ap (λ z. z ∷ xs) q
drop_get (y ∷ xs) (suc i) x h = let ih = drop_get xs i x h in let e : suc i + 1 ≡ suc (i + 1) = omega arith in rw e ih

drop_all : {A : Type 0} (zs : List A) → drop (length zs) zs ≡ []
drop_all [] = refl
drop_all (z ∷ zs) = drop_all zs

pub instrs_none : (xs : List Step) → instrs_in (drop (length xs) xs) ≡ 0
instrs_none xs = ap instrs_in (drop_all xs)

-- one step more, from the end on
pub instrs_more : (xs : List Step) (k : ℕ) (x : Step) (bound : ℕ) → k < length xs → slice_get xs (length xs - 1 - k) ≡ Some x → bound ≡ instrs_in (drop (length xs - k) xs)
    → max bound (x.instr.0 + 1) ≡ instrs_in (drop (length xs - (k + 1)) xs)
instrs_more xs k x bound lt h e =
    let i : length xs - 1 - k ≡ length xs - (k + 1) = omega arith in
    let n : (length xs - (k + 1)) + 1 ≡ length xs - k = omega arith in
    let d = drop_get xs (length xs - (k + 1)) x (ap (slice_get xs) (sym i) ∙ h) in
    max_turn bound (x.instr.0 + 1) ∙ ap (max (x.instr.0 + 1)) (e ∙ ap (λ j. instrs_in (drop j xs)) (sym n)) ∙ sym (ap instrs_in d)
  where
    max_turn : (a b : ℕ) → max a b ≡ max b a
    max_turn a b = omega arith
