-- What is asked of a branch and of an access, by cases.
use Rattle.std.proofs.Common.{◌≡◌, ℕ, ◌<◌, Bool, true, false, ◌||◌, ◌⊎◌, inl, inr, List, [], ◌∷◌, map, Option, Some, None, refl, sym}
use Rattle.std.specs.Option.{option_map}
use Rattle.std.proofs.lemmas.Bool.{true≢false}
use Rattle.std.specs.Prelude.{IfSome}
use Rattle.pg_ir.specs.declared.edge.Case.{Case}
use Rattle.pg_ir.specs.declared.ids.BlockNo.{BlockNo}
use Rattle.pg_ir.specs.declared.value.Value.{Value}
use Rattle.pg_ir.specs.declared.instr.Op.{Op}
use Rattle.pg_ir.specs.declared.instr.Op.TheVariants as op
use Rattle.pg_num.specs.declared.width.Width.{Width}
use Rattle.pg_precondition.specs.declared.check.Test.TheVariants as test
use Rattle.pg_run_trace.specs.declared.step.Access.{Access}
use Rattle.pg_run_trace.specs.declared.step.StepKind.{StepKind}
use Rattle.pg_run_trace.specs.declared.step.StepKind.TheVariants as kinds
use Rattle.pg_run_trace.specs.declared.step.Write.{Write}
use Rattle.pg_run_trace.specs.Steps.{access_by, access_in}
use Rattle.pg_slice_memory.specs.pg_slice_rules.SymbolicValues.{Symbolic}
use Rattle.pg_slice_memory.specs.pg_slice_rules.Rules.{Bounds, edge_tests, is_case, same_bounds, write_index}
use Rattle.pg_slice_checks.specs.Steps.{AreEnough, access_index, bounds_by}

pub case_tests : (w : Width) (on : Value) (other : BlockNo) (cases : List Case) (n : ℕ) → is_case n cases ≡ true → edge_tests (op.Switch w on other cases) n ≡ test.Eq n ∷ []
case_tests w on other cases n e = rw e refl

pub default_tests : (w : Width) (on : Value) (other : BlockNo) (cases : List Case) (n : ℕ) → is_case n cases ≡ false
    → edge_tests (op.Switch w on other cases) n ≡ map (λ (c : Case). test.Ne c.value) cases
default_tests w on other cases n e = rw e refl

-- the test of a condition that isn't a switch's
pub other_tests : (o : Op) (n : ℕ) → ((w : Width) (on : Value) (other : BlockNo) (cases : List Case) → o ≡ op.Switch w on other cases → ⊥) → edge_tests o n ≡ test.Eq n ∷ []
other_tests (op.Switch w on other cases) n h = absurd (h w on other cases refl)
other_tests _ n h = refl

pub bounds_of_access : (s : Symbolic) (a : Option Access) (pointer : ℕ) → Some pointer ≡ option_map (λ (x : Access). x.pointer) a → bounds_by s a ≡ Bounds s (same_bounds pointer) ∷ []
bounds_of_access s None pointer e = absurd cc
bounds_of_access s (Some a) pointer e = let q : a.pointer ≡ pointer = cc in rw q refl

pub bounds_of_none : (s : Symbolic) (a : Option Access) → None ≡ option_map (λ (x : Access). x.pointer) a → bounds_by s a ≡ []
bounds_of_none s None e = refl
bounds_of_none s (Some a) e = absurd cc

pub index_of_access : (o : Op) (kind : StepKind) (n pointer : ℕ) → AreEnough o kind n → Some pointer ≡ option_map (λ (x : Access). x.pointer) (access_in kind) → access_index o kind < n
index_of_access o kinds.Other n pointer h e = absurd cc
index_of_access o (kinds.Branch c) n pointer h e = absurd cc
index_of_access o (kinds.Allocation m r) n pointer h e = absurd cc
index_of_access o (kinds.Access a) n pointer h e = h
index_of_access o (kinds.Event e') n pointer h e = go e'.write e h.1
  where
    go : (w : Option Write) → Some pointer ≡ option_map (λ (x : Access). x.pointer) (access_by w) → IfSome w (λ (x : Write). write_index o < n) → write_index o < n
    go None q k = absurd cc
    go (Some w) q k = k

pub or_either : (a b : Bool) → (a ≡ true) ⊎ ((a ≡ false) × (b ≡ true)) → (a || b) ≡ true
or_either true b e = refl
or_either false b (inl e) = absurd (true≢false (sym e))
or_either false b (inr e) = e.1
