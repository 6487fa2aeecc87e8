-- What the region of a branch step may set of what has to be known, by what is told of it.
use Rattle.std.proofs.Common.{◌≡◌, ℕ, ◌<◌, Bool, true, false, Option, Some, None, refl, sym, subst, inl, inr}
use Rattle.std.specs.Prelude.{IfSome}
use Rattle.pg_slice_rules.specs.Freeable.{FreeRegion}
use Rattle.pg_slice_back.specs.pg_law_least.Keeps.{may_write}
use Rattle.pg_slice_demands.specs.declared.demanded.Demanded.{Demanded}
use Rattle.pg_slice_demands.specs.Asked.{asked_of}
use Rattle.pg_slice_back.specs.Leaves.{IsLess}
use Rattle.pg_slice_back.specs.Sets.{AsksRegion}
use Rattle.pg_slice_back.specs.pg_slice_replay.declared.run.ReferenceRun.{ReferenceRun}
use Rattle.pg_slice_back.specs.pg_slice_replay.Kept.{landmark_at}
use Rattle.pg_slice_back.specs.pg_slice_replay.Landmarks.{Landmark}
use Rattle.pg_slice_walk.specs.Sets.{Passes, PassesAt, SetsAt, SetsNone}

-- ---- what is told of a step's landmark

pub asks_some : (r : ReferenceRun) (b t depth count : ℕ) (w : Demanded) (result : Bool) → result ≡ true → IfSome (landmark_at r b) (λ (l : Landmark). depth ≡ l.depth)
    → IfSome (landmark_at r b) (λ (l : Landmark). result ≡ true → AsksRegion l.region t depth count w) → SetsAt r b t count w
asks_some r b t depth count w result e d a = record { by = go (landmark_at r b) d a }
  where
    go : (o : Option Landmark) → IfSome o (λ (l : Landmark). depth ≡ l.depth) → IfSome o (λ (l : Landmark). result ≡ true → AsksRegion l.region t depth count w) →
        IfSome o (λ (l : Landmark). IfSome l.region (λ (q : FreeRegion). AsksRegion (Some q) t l.depth count w))
    go None d a = tt
    go (Some l) d a = on l.region (subst (λ (k : ℕ). AsksRegion l.region t k count w) d (a e))
      where
        on : (p : Option FreeRegion) → AsksRegion p t l.depth count w → IfSome p (λ (q : FreeRegion). AsksRegion (Some q) t l.depth count w)
        on None a = tt
        on (Some q) a = a

pub asks_none : (r : ReferenceRun) (b t depth count : ℕ) (w : Demanded) (result : Bool) → result ≡ false → IfSome (landmark_at r b) (λ (l : Landmark). depth ≡ l.depth)
    → ((i : ℕ) (v : Bool) → asked_of w t depth i ≡ Some v → i < count) → IfSome (landmark_at r b) (λ (l : Landmark). result ≡ false → AsksRegion l.region t depth count w → ⊥)
    → IfSome (landmark_at r b) (λ (l : Landmark). IfSome l.region (λ (q : FreeRegion). SetsNone q t l.depth w))
asks_none r b t depth count w result e d there none = go (landmark_at r b) d none
  where
    unset : (x : Bool) → (x ≡ true → ⊥) → x ≡ false
    unset true f = absurd (f refl)
    unset false f = refl

    go : (o : Option Landmark) → IfSome o (λ (l : Landmark). depth ≡ l.depth) → IfSome o (λ (l : Landmark). result ≡ false → AsksRegion l.region t depth count w → ⊥) →
        IfSome o (λ (l : Landmark). IfSome l.region (λ (q : FreeRegion). SetsNone q t l.depth w))
    go None d none = tt
    go (Some l) d none = on l.region (none e)
      where
        on : (p : Option FreeRegion) → (AsksRegion p t depth count w → ⊥) → IfSome p (λ (q : FreeRegion). SetsNone q t l.depth w)
        on None none = tt
        on (Some q) none = record {
          registers = λ i v a. let own = subst (λ (k : ℕ). asked_of w t k i ≡ Some v) (sym d) a in unset (q.sets i) (λ s. none (inl (i, v, there i v own, s, own)));
          bytes = λ i a. unset (may_write q.accesses i) (λ s. none (inr (i, s, a)));
        }

-- ---- where less is asked

pub less_itself : (w : Demanded) → IsLess w w
less_itself w = record { registers = λ i j k v a. a; bytes = λ b a. a }

pub sets_less : (r : ReferenceRun) (b t count : ℕ) (old new : Demanded) → IsLess old new → SetsAt r b t count new → SetsAt r b t count old
sets_less r b t count old new f s = record { by = go (landmark_at r b) s.by }
  where
    some_less : (q : FreeRegion) (depth : ℕ) → AsksRegion (Some q) t depth count new → AsksRegion (Some q) t depth count old
    some_less q depth (inl x) = inl (x.0, x.1, x.2, x.3, f.registers t depth x.0 x.1 x.4)
    some_less q depth (inr x) = inr (x.0, x.1, f.bytes x.0 x.2)

    go : (o : Option Landmark) → IfSome o (λ (l : Landmark). IfSome l.region (λ (q : FreeRegion). AsksRegion (Some q) t l.depth count new)) →
        IfSome o (λ (l : Landmark). IfSome l.region (λ (q : FreeRegion). AsksRegion (Some q) t l.depth count old))
    go None h = tt
    go (Some l) h = on l.region h
      where
        on : (p : Option FreeRegion) → IfSome p (λ (q : FreeRegion). AsksRegion (Some q) t l.depth count new) → IfSome p (λ (q : FreeRegion). AsksRegion (Some q) t l.depth count old)
        on None h = tt
        on (Some q) h = some_less q l.depth h

-- where nothing is asked any more of later calls
pub passes_by : (r : ReferenceRun) (b t depth : ℕ) (old new : Demanded) → IfSome (landmark_at r b) (λ (l : Landmark). depth ≡ l.depth) → IsLess old new →
    ((j i : ℕ) (v : Bool) → asked_of new t j i ≡ Some v → depth < j → ⊥)
    → IfSome (landmark_at r b) (λ (l : Landmark). IfSome l.region (λ (q : FreeRegion). SetsNone q t l.depth old)) → PassesAt r b t new
passes_by r b t depth old new d f above s = record { by = go (landmark_at r b) d s }
  where
    go : (o : Option Landmark) → IfSome o (λ (l : Landmark). depth ≡ l.depth) → IfSome o (λ (l : Landmark). IfSome l.region (λ (q : FreeRegion). SetsNone q t l.depth old)) →
        IfSome o (λ (l : Landmark). IfSome l.region (λ (q : FreeRegion). Passes q t l.depth new))
    go None d s = tt
    go (Some l) d s = on l.region s
      where
        on : (p : Option FreeRegion) → IfSome p (λ (q : FreeRegion). SetsNone q t l.depth old) → IfSome p (λ (q : FreeRegion). Passes q t l.depth new)
        on None s = tt
        on (Some q) s = record {
          none = record { registers = λ i v a. s.registers i v (f.registers t l.depth i v a); bytes = λ i a. s.bytes i (f.bytes i a) };
          above = λ j i v a g. above j i v a (subst (λ (k : ℕ). k < j) (sym d) g);
        }
