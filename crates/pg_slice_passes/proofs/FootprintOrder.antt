-- Footprints that are added step by step are in order.
use Rattle.std.proofs.Common.{◌≡◌, ◌≢◌, ℕ, zero, suc, ◌+◌, ◌<◌, ◌≤◌, List, [], ◌∷◌, ◌++◌, Some, slice_get, sym, ap}
use Rattle.std.proofs.Common.{◌∙◌, subst, arith, append-nil, append_assoc}
use Rattle.std.specs.Prelude.{slice_index_or}
use Rattle.std.specs.List.{AllByRecursion}
use Rattle.pg_slice_conflicts.specs.declared.footprint.Footprint.{Footprint}
use Rattle.pg_slice_conflicts.specs.Meets.{InOrder}
use Rattle.pg_schedule.specs.declared.interval.Interval.{Interval}
use Rattle.pg_schedule.specs.declared.interval.Turns.TheVariants.{Recorded}
use Rattle.pg_schedule.specs.Intervals.{intervals_of}
use Rattle.pg_schedule.proofs.StepPositions.{timed_get}
use Rattle.pg_law_threads.specs.Intervals.{Timed, owners}
use Rattle.pg_law_threads.specs.Steps.{EachPair}
use Rattle.pg_law_threads.proofs.OwnTurns.{own_turns}
use Rattle.pg_law_threads.proofs.TimedSteps.{low_high}
use Rattle.pg_run_trace.specs.declared.step.Step.{Step}
use Rattle.pg_run_trace.specs.Races.{recorded, timed_by}
use Rattle.pg_slice_passes.specs.declared.footprints.Owner.{Owner}
use Rattle.pg_slice_passes.specs.declared.footprints.Footprints.{Footprints}
use Rattle.pg_slice_passes.specs.Rows.{AddsOne, AreRows}
use Rattle.pg_slice_passes.specs.Timed.{AddsOf, AreEarlier, IsEarlier, IsOf}
use Rattle.pg_slice_passes.proofs.RowsOfFootprints.{no_rows}
use Rattle.pg_law_demands.proofs.of_pg_law_least.FootprintsInOrder.{all_append, all_weaker}

-- ---- footprints of one step

pub adds_nothing : (x : Step) (i : Interval) (ps : Footprints) → AreRows ps → AddsOf x i ps ps
adds_nothing x i ps r = record { more = []; kept = sym (append-nil ps.kept.items); each = tt; rows = r }

pub adds_one : (x : Step) (i : Interval) (old new : Footprints) (f : Footprint) (o : Owner) → AddsOne f o old new → f.thread.0 ≡ x.thread.0 → f.low ≡ i.low → f.high ≡ i.high → AddsOf x i old new
adds_one x i old new f o a t l h = record {
  more = a.more;
  kept = a.kept;
  each = all_weaker (λ (g : Footprint). g ≡ f) (IsOf x i) a.more
      (λ g e. record { thread = ap (λ (y : Footprint). y.thread.0) e ∙ t; low = ap (λ (y : Footprint). y.low) e ∙ l; high = ap (λ (y : Footprint). y.high) e ∙ h }) a.each;
  rows = a.rows;
}

pub adds_both : (x : Step) (i : Interval) (old between new : Footprints) → AddsOf x i old between → AddsOf x i between new → AddsOf x i old new
adds_both x i old between new a b = record {
  more = a.more ++ b.more;
  kept = b.kept ∙ ap (λ l. l ++ b.more) a.kept ∙ append_assoc old.kept.items a.more b.more;
  each = all_append (IsOf x i) a.more b.more a.each b.each;
  rows = b.rows;
}

-- ---- one step more

abbrev stand : Footprint → Footprint → Type 0
stand p q = p.thread.0 ≢ q.thread.0 → p.low ≤ q.high

own_order : (x : Step) (i : Interval) (ps : List Footprint) → AllByRecursion (IsOf x i) ps → EachPair stand ps
own_order x i [] a = tt
own_order x i (p ∷ ps) a = (all_weaker (IsOf x i) (stand p) ps (λ q h n. absurd (n (a.0.thread ∙ sym h.thread))) a.1, own_order x i ps a.1)

pairs_append : (ps qs : List Footprint) → EachPair stand ps → EachPair stand qs → AllByRecursion (λ p. AllByRecursion (stand p) qs) ps → EachPair stand (ps ++ qs)
pairs_append [] qs a b c = b
pairs_append (p ∷ ps) qs a b c = (all_append (stand p) ps qs a.0 c.0, pairs_append ps qs a.1 b c.1)

in_all : {A : Type 0} (P : A → Type 0) (xs : List A) (j : ℕ) (b : A) → AllByRecursion P xs → slice_get xs j ≡ Some b → P b
in_all P [] j b a h = absurd cc
in_all P (x ∷ xs) zero b a h = let e : x ≡ b = cc in subst P e a.0
in_all P (x ∷ xs) (suc j) b a h = in_all P xs j b a.1 h

pair_at : {A : Type 0} (P : A → A → Type 0) (xs : List A) (n j : ℕ) (a b : A) → EachPair P xs → slice_get xs n ≡ Some a → slice_get xs j ≡ Some b → n < j → P a b
pair_at P [] n j a b e h k l = absurd cc
pair_at P (x ∷ xs) n zero a b e h k l = absurd (omega (arith, l))
pair_at P (x ∷ xs) zero (suc j) a b e h k l = let q : x ≡ a = cc in subst (λ z. P z b) q (in_all (P x) xs j b e.0 k)
pair_at P (x ∷ xs) (suc n) (suc j) a b e h k l = pair_at P xs n j a b e.1 h k (omega (arith, l))

lows_first : (xs : List Step) → EachPair (λ (x y : Timed Step). x.low ≤ y.high) (timed_by recorded xs)
lows_first xs = low_high recorded (owners recorded xs) 0 xs (omega arith) (own_turns recorded xs)

pub earlier_none : (xs : List Step) (ps : Footprints) → ps.kept.items ≡ [] → ps.rows.items ≡ [] → AreEarlier xs 0 ps
earlier_none xs ps e q = record {
  order = subst (λ (l : List Footprint). InOrder l) (sym e) tt;
  each = subst (λ (l : List Footprint). AllByRecursion (IsEarlier xs 0) l) (sym e) tt;
  rows = no_rows ps e q;
}

pub earlier_more : (xs : List Step) (intervals : List Interval) (n : ℕ) (x : Step) (i : Interval) (old new : Footprints) → intervals ≡ intervals_of Recorded xs → slice_get xs n ≡ Some x
    → i ≡ slice_index_or intervals n i →
    AddsOf x i old new → AreEarlier xs n old → AreEarlier xs (n + 1) new
earlier_more xs intervals n x i old new e at is a b = record {
  order = subst (λ (l : List Footprint). InOrder l) (sym a.kept) (pairs_append old.kept.items a.more b.order (own_order x i a.more a.each)
      (all_weaker (IsEarlier xs n) (λ p. AllByRecursion (stand p) a.more) old.kept.items
      (λ p h. all_weaker (IsOf x i) (stand p) a.more (λ q k d. subst (λ m. p.low ≤ m) (sym k.high) (up p h)) a.each) b.each));
  each = subst (λ (l : List Footprint). AllByRecursion (IsEarlier xs (n + 1)) l) (sym a.kept) (all_append (IsEarlier xs (n + 1)) old.kept.items a.more
      (all_weaker (IsEarlier xs n) (IsEarlier xs (n + 1)) old.kept.items (λ p h j t l. h j t (omega (arith, l))) b.each)
      (all_weaker (IsOf x i) (IsEarlier xs (n + 1)) a.more (λ p h j t l k. subst (λ m. m ≤ t.high) (sym h.low) (below j t l k)) a.each));
  rows = a.rows;
}
  where
    here : Timed Step
    here = record { did = x; low = (slice_index_or intervals n i).low; high = (slice_index_or intervals n i).high }

    got : slice_get (timed_by recorded xs) n ≡ Some here
    got = timed_get recorded xs intervals n x i e at

    up : (p : Footprint) → IsEarlier xs n p → p.low ≤ i.high
    up p h = subst (λ (k : Interval). p.low ≤ k.high) (sym is) (h n here (omega arith) got)

    below : (j : ℕ) (t : Timed Step) → n + 1 ≤ j → slice_get (timed_by recorded xs) j ≡ Some t → i.low ≤ t.high
    below j t l k = subst (λ (y : Interval). y.low ≤ t.high) (sym is) (pair_at (λ (a b : Timed Step). a.low ≤ b.high) (timed_by recorded xs) n j here t (lows_first xs) got k (omega (arith, l)))
