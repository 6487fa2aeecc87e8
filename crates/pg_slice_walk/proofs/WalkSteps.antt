-- A step of a walk.
use Rattle.std.proofs.Common.{◌≡◌, ℕ, suc, Bool, true, false, List, Option, Some, None, sym, ap, ◌∙◌, subst}
use Rattle.std.specs.Prelude.{IfSome, IfNone, slice_get, slice_index_or}
use Rattle.std.proofs.lemmas.Bool.{false≢true}
use Rattle.pg_ir.specs.declared.instr.Instr.{Instr}
use Rattle.pg_ir.specs.Program.{NumberedProgram}
use Rattle.pg_run_trace.specs.declared.step.Step.{Step}
use Rattle.pg_slice_rules.specs.Closed.{AreWithin, IsClosed}
use Rattle.pg_slice_rules.specs.Extents.{is_live}
use Rattle.pg_slice_rules.specs.Moments.{Moment, instr_in, thread_in}
use Rattle.pg_slice_rules.specs.Known.{Reference, Taken, thread_of}
use Rattle.pg_slice_back.specs.pg_law_least.Keeps.{every}
use Rattle.pg_slice_back.proofs.of_pg_law_least.OldestFreeExtent.{live_more}
use Rattle.pg_slice_back.specs.pg_law_demands.Along.{known_at}
use Rattle.pg_slice_demands.specs.declared.demanded.Demanded.{Demanded}
use Rattle.pg_slice_demands.specs.Asked.{asked_of, asks_byte}
use Rattle.pg_slice_back.specs.declared.registers.Counts.{Counts}
use Rattle.pg_slice_back.specs.Counted.{IsCounted}
use Rattle.pg_slice_back.specs.Met.{AreMet}
use Rattle.pg_slice_back.specs.Steps.{IsLiveStep}
use Rattle.pg_slice_back.specs.pg_slice_replay.declared.run.ReferenceRun.{ReferenceRun}
use Rattle.pg_slice_walk.specs.Words.{AreWordsMet}
use Rattle.pg_slice_walk.specs.Settled.{ArePinned}
use Rattle.pg_slice_walk.specs.Walks.{IsTold, Walks}

some_is : {A : Type 0} (x y : A) → Some x ≡ Some y → x ≡ y
some_is x y q = cc

-- what a live step makes of what has to be known
abbrev pub GoesBack : NumberedProgram → ReferenceRun → ℕ → Step → Instr → Counts → Demanded → Demanded → List (Option Bool) → List (Option Bool) → Taken → Taken → Type 0
GoesBack p r n step x counts w v words left d new =
    (R : Reference) (e : Taken) (m : Moment) → IsLiveStep R e p r x step counts n m → AreWithin d e → AreWordsMet (known_at R e (suc n)) words → AreMet (known_at R e (suc n)) w
    → AreMet (known_at R e n) v × AreWordsMet (known_at R e n) left × AreWithin new e

pub live_walks : (R : Reference) (p : NumberedProgram) (r : ReferenceRun) (hs : List ℕ) (all : List Counts) (told : IsTold R r hs all)
    → R.program ≡ p → (n : ℕ) (m : Moment) → slice_get R.moments n ≡ Some m →
    (step : Step) → m.did.did ≡ step → (x : Instr) → slice_get p.instrs step.instr.0 ≡ Some x → (counts : Counts) → ((c : Counts) → slice_get all n ≡ Some c → counts ≡ c) →
    (w v : Demanded) (words left : List (Option Bool)) (d new e : Taken) → IsClosed R e → GoesBack p r n step x counts w v words left d new → ArePinned hs d (slice_index_or hs n 0)
    → AreWordsMet (known_at R e (suc n)) words → Walks R e (suc n) w d → Walks R e n v new × AreWordsMet (known_at R e n) left
live_walks R p r hs all told program n m q step did x at counts these w v words left d new e closed back pinned met a =
    let k = told.counted.by n m q in
    let c : IsCounted R n m counts = subst (λ (z : Counts). IsCounted R n m z) (sym (these k.0 k.1)) k.2 in
    let i : instr_in R.program m ≡ Some x = ap (λ (z : NumberedProgram). instr_in z m) program ∙ ap (λ (z : Step). slice_get p.instrs z.instr.0) did ∙ at in
    let l : is_live e.pinned (thread_of (known_at R every n) (thread_in m)).extents ≡ true = live_more d e _ a.within (pinned.by _ (told.holds.by n m q).chain) in
    let b = back R e m (record { program = program; landmarks = told.landmarks; keeps = told.keeps; closed = closed; stands = q; did = did; instr = i; live = l; counted = c }) a.within met a.met in
    (record { met = b.0; within = b.2 }, b.1)

pub same_step : (xs : List Step) (n : ℕ) (x y : Step) → slice_get xs n ≡ Some x → slice_get xs n ≡ Some y → y ≡ x
same_step xs n x y h g = some_is y x (sym g ∙ h)

pub if_some : {A : Type 0} (o : Option A) (x : A) (P : A → Type 0) → o ≡ Some x → IfSome o P → P x
if_some o x P e h = subst (λ (z : Option _). IfSome z P) e h

pub if_none : {A : Type 0} (o : Option A) (P : Type 0) → o ≡ None → IfNone o P → P
if_none o P e h = subst (λ (z : Option _). IfNone z P) e h

-- nothing has to be known
pub none_met : (R : Reference) (e : Taken) (n : ℕ) (w : Demanded) → ((t k i : ℕ) → asked_of w t k i ≡ None) → ((b : ℕ) → asks_byte w b ≡ false) → AreMet (known_at R e n) w
none_met R e n w f g = record {
  registers = λ t k i v a. let z : None ≡ Some v = sym (f t k i) ∙ a in absurd (cc);
  bytes = λ b a. absurd (false≢true (sym (g b) ∙ a));
}
