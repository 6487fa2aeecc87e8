-- Marks of the gated instructions, as far as these are gone through.
use Rattle.std.proofs.Common.{◌≡◌, ℕ, zero, suc, ◌+◌, ◌<◌, ◌≤◌, List, [], ◌∷◌, length, get_or, take, replicate, Bool, true, false, Some, arith, add-one, take-suc}
use Rattle.std.proofs.Common.{take_all, refl, sym, ◌∙◌, ap, subst}
use Rattle.std.specs.Prelude.{slice_get, slice_set, ◌||◌, ◌==◌}
use Rattle.std.proofs.lemmas.Bool.Decides.{nat_tests}
use Rattle.std.proofs.lemmas.List.Folds.{list_any-append}
use Rattle.pg_run_trace.specs.pg_ir.declared.ids.InstrId.{InstrId}
use Rattle.pg_run.specs.MachineStep.{is_gated}
use Rattle.pg_run.proofs.Threads.{set_own, set_other, set_length}

pub set_past : {X : Type 0} (xs : List X) (i : ℕ) (x : X) → length xs ≤ i → slice_set xs i x ≡ xs
set_past [] i x h = refl
set_past (y ∷ ys) zero x h = absurd (omega arith)
set_past (y ∷ ys) (suc i) x h = ap (λ zs. y ∷ zs) (set_past ys i x (omega arith))

-- the first k of the instructions are marked
abbrev pub AreMarked : List InstrId → ℕ → List Bool → Type 0
AreMarked ids k marks = (i : ℕ) → i < length marks → slice_get marks i ≡ Some (is_gated (take k ids) i)

zero_mark : (n i : ℕ) → i < n → slice_get (replicate n false) i ≡ Some false
zero_mark zero i h = absurd (omega arith)
zero_mark (suc n) zero h = refl
zero_mark (suc n) (suc i) h = zero_mark n i (omega arith)

pub no_marks : (ids : List InstrId) (n i : ℕ) → i < n → slice_get (replicate n false) i ≡ Some (is_gated (take 0 ids) i)
no_marks ids n i h = zero_mark n i h

pub all_marks : (ids : List InstrId) (k : ℕ) (marks : List Bool) → AreMarked ids k marks → length ids ≤ k → (i : ℕ) → i < length marks → slice_get marks i ≡ Some (is_gated ids i)
all_marks ids k marks h l i b = subst (λ (xs : List InstrId). slice_get marks i ≡ Some (is_gated xs i)) (take_all k ids l) (h i b)

or_false : (b : Bool) → (b || false) ≡ b
or_false true = refl
or_false false = refl

or_true : (b : Bool) → (b || true) ≡ true
or_true true = refl
or_true false = refl

-- one instruction more
gated_more : (ids : List InstrId) (k i : ℕ) (d g : InstrId) → k < length ids → g ≡ get_or ids k d → is_gated (take (k + 1) ids) i ≡ (is_gated (take k ids) i || (g.0 == i))
gated_more ids k i d g h e =
    ap (λ (xs : List InstrId). is_gated xs i) (rw add-one (take-suc ids k d h))
    ∙ list_any-append (λ (x : InstrId). x.0 == i) (take k ids) (get_or ids k d ∷ [])
    ∙ ap (λ (b : Bool). is_gated (take k ids) i || b) (or_false (((get_or ids k d).0) == i) ∙ ap (λ (x : InstrId). x.0 == i) (sym e))

pub marks_more : (ids : List InstrId) (k : ℕ) (d g : InstrId) (marks : List Bool) → AreMarked ids k marks → k < length ids → g ≡ get_or ids k d
    → AreMarked ids (k + 1) (slice_set marks g.0 true)
marks_more ids k d g marks m h e i b = go (g.0 == i) refl
  where
    within : i < length marks
    within = let l = set_length marks g.0 true in omega (arith, b, l)

    go : (same : Bool) → (g.0 == i) ≡ same → slice_get (slice_set marks g.0 true) i ≡ Some (is_gated (take (k + 1) ids) i)
    go true q =
        let n : g.0 ≡ i = grind (arith, nat_tests) in
        let o : slice_get (slice_set marks g.0 true) i ≡ Some true = subst (λ (j : ℕ). slice_get (slice_set marks j true) i ≡ Some true) (sym n) (set_own marks i true within) in
        o ∙ ap Some (sym (gated_more ids k i d g h e ∙ rw q (or_true (is_gated (take k ids) i))))
    go false q =
        let n : i ≡ g.0 → ⊥ = λ c. grind (arith, nat_tests) in
        set_other marks g.0 i true n ∙ m i within ∙ ap Some (sym (gated_more ids k i d g h e ∙ rw q (or_false (is_gated (take k ids) i))))
