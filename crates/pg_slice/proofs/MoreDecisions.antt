-- What is live stays so with more decisions, and decisions that are owed stay within each closed set.
use Rattle.std.proofs.Common.{◌≡◌, ℕ, Bool, true, false, List, Option, Some, None, sym, subst, inl, inr, ◌⊎◌, replicate}
use Rattle.std.specs.Prelude.{IfSome, slice_get, slice_index_or}
use Rattle.pg_slice_rules.specs.Closed.{AreWithin}
use Rattle.pg_slice_rules.specs.Known.{Reference, Taken}
use Rattle.pg_slice_rules.specs.Moments.{Moment}
use Rattle.pg_slice_walk.proofs.of_pg_law_least.OldestFreeExtent.{live_more}
use Rattle.pg_slice_walk.specs.pg_slice_replay.declared.run.ReferenceRun.{ReferenceRun}
use Rattle.pg_run_trace.specs.declared.step.Step.{Step}
use Rattle.pg_slice_walk.specs.Chains.{Holds}
use Rattle.pg_slice_walk.specs.Settled.{ArePinned}
use Rattle.pg_slice_walk.proofs.SettledWithMore.{none_marked, pinned_more}
use Rattle.pg_slice.specs.Rivals.{IsLiveAt}
use Rattle.pg_slice.specs.Settled.{AreLive, Widens}

pub live_stays : (hs : List ℕ) (d e : Taken) (live : List Bool) → AreWithin d e → AreLive hs d live → AreLive hs e live
live_stays hs d e live w a = record { by = λ n q. pinned_more hs d e (slice_index_or hs n 0) w (a.by n q) }

pub live_set : (hs : List ℕ) (d : Taken) (old new : List Bool) (n : ℕ) → ArePinned hs d (slice_index_or hs n 0) →
    ((i : ℕ) → slice_index_or new i false ≡ true → (slice_index_or old i false ≡ true) ⊎ (i ≡ n)) → AreLive hs d old → AreLive hs d new
live_set hs d old new n here f a = record { by = λ i q. go i (f i q) }
  where
    go : (i : ℕ) → (slice_index_or old i false ≡ true) ⊎ (i ≡ n) → ArePinned hs d (slice_index_or hs i 0)
    go i (inl q) = a.by i q
    go i (inr e) = subst (λ (j : ℕ). ArePinned hs d (slice_index_or hs j 0)) (sym e) here

pub none_live : (hs : List ℕ) (d : Taken) (live : List Bool) (n : ℕ) → live ≡ replicate n false → AreLive hs d live
none_live hs d live n e = record { by = λ i q. absurd (none_marked live n i e q) }

-- where it is shown that a step is live
pub is_live_at : (R : Reference) (r : ReferenceRun) (hs : List ℕ) (d e : Taken) (n : ℕ) (m : Moment) → Holds R r hs → slice_get R.moments n ≡ Some m → AreWithin d e →
    ArePinned hs d (slice_index_or hs n 0) → IsLiveAt R e n m
is_live_at R r hs d e n m holds q w a = live_more d e _ w (a.by _ (holds.by n m q).chain)

pub widens_none : (r : ReferenceRun) (hs : List ℕ) (xs : List Step) (d : Taken) → Widens r hs xs d d
widens_none r hs xs d = record { by = λ p regions gated input marks keeps holds e closed w. w }

pub widens_then : (r : ReferenceRun) (hs : List ℕ) (xs : List Step) (a b c : Taken) → Widens r hs xs a b → Widens r hs xs b c → Widens r hs xs a c
widens_then r hs xs a b c f g = record {
  by = λ p regions gated input marks keeps holds e closed w.
      g.by p regions gated input marks keeps holds e closed (f.by p regions gated input marks keeps holds e closed w);
}

pub both_some : {A B : Type 0} (o : Option A) (q : Option B) (b : Bool) (P : A → B → Type 0) → b ≡ true
    → IfSome o (λ (x : A). IfSome q (λ (y : B). b ≡ true → P x y)) → IfSome o (λ (x : A). IfSome q (λ (y : B). P x y))
both_some None q b P e h = tt
both_some (Some x) None b P e h = tt
both_some (Some x) (Some y) b P e h = h e

pub some_of : {A : Type 0} (o : Option A) (x : A) (P : A → Type 0) → IfSome o P → o ≡ Some x → P x
some_of {A} o x P h q = subst (λ (p : Option A). IfSome p P) q h
