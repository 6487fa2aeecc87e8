-- What is decided of an open extent, by what is kept of a run.
use Rattle.std.proofs.Common.{◌≡◌, ℕ, zero, suc, ◌-◌, ◌≤◌, true, List, [], ◌∷◌, ◌++◌, length, Option, Some, refl, sym, ap, ◌∙◌, subst, arith, Bool}
use Rattle.std.specs.Prelude.{Contains, IfSome, option_map, slice_get, slice_index_or}
use Rattle.std.proofs.lemmas.List.Elements.{Contains-append_right}
use Rattle.pg_slice_rules.specs.Closed.{AreWithin}
use Rattle.pg_slice_rules.specs.Moments.{Moment, thread_in}
use Rattle.pg_slice_rules.specs.Extents.{Extent}
use Rattle.pg_slice_rules.specs.Freeable.{FreeRegion}
use Rattle.pg_slice_rules.specs.Known.{Reference, Taken, registers_of, thread_of}
use Rattle.pg_slice_back.specs.pg_law_least.Along.{region_in}
use Rattle.pg_slice_back.specs.pg_law_least.Keeps.{every}
use Rattle.pg_slice_back.proofs.of_pg_law_least.OldestFreeExtent.{live_more}
use Rattle.pg_region_paths.proofs.Elements.{here}
use Rattle.pg_slice_back.specs.pg_law_demands.Along.{known_at}
use Rattle.pg_slice_back.specs.pg_law_demands.Passed.{region_at_step, region_then}
use Rattle.pg_slice_demands.specs.declared.demanded.Demanded.{Demanded}
use Rattle.pg_slice_back.specs.Sets.{AsksRegion}
use Rattle.pg_slice_back.specs.declared.registers.Counts.{Counts}
use Rattle.pg_slice_back.specs.Leaves.{IsLess}
use Rattle.pg_slice_back.proofs.NeedsBackOverSteps.{less_met}
use Rattle.pg_slice_back.specs.Met.{AreMet}
use Rattle.pg_slice_back.specs.pg_slice_replay.declared.run.ReferenceRun.{ReferenceRun}
use Rattle.pg_slice_back.specs.pg_slice_replay.Kept.{landmark_at}
use Rattle.pg_slice_back.specs.pg_slice_replay.Landmarks.{Landmark, landmark_of}
use Rattle.pg_slice_walk.specs.Chains.{AreOlder, IsChain}
use Rattle.pg_slice_walk.specs.Sets.{Passes, PassesAt, SetsAt}
use Rattle.pg_slice_walk.specs.Settled.{ArePinned, Leads}
use Rattle.pg_slice_walk.specs.Walks.{IsTold, Walks}
use Rattle.pg_slice_walk.proofs.OpenExtents.{get_is}
use Rattle.pg_slice_walk.proofs.StepsInExtents.{Inside, inside}
use Rattle.pg_slice_walk.proofs.StepMoments.{get_below}
use Rattle.pg_slice_walk.proofs.PinnedBranches.{pinned_open}
use Rattle.pg_slice_walk.specs.Words.{AreWordsMet}
use Rattle.pg_slice_walk.proofs.PassedExtents.{skipped, word_skipped}

some_is : {A : Type 0} (x y : A) → Some x ≡ Some y → x ≡ y
some_is x y q = cc

-- ---- the branch steps that an extent leads to

pub leads_more : (hs : List ℕ) (h : ℕ) (bs : List ℕ) (b : ℕ) → Leads hs h bs (suc b) → Leads hs h (bs ++ b ∷ []) (slice_index_or hs b 0)
leads_more hs h [] b l = (l, refl)
leads_more hs h (y ∷ bs) b l = (l.0, leads_more hs (slice_index_or hs y 0) bs b l.1)

pub leads_push : (hs : List ℕ) (h : ℕ) (bs new : List ℕ) (holder next : ℕ) → (holder ≡ 0 → ⊥) → Leads hs h bs holder
    → new ≡ bs ++ (holder - 1) ∷ [] → next ≡ slice_index_or hs (holder - 1) 0 → Leads hs h new next
leads_push hs h bs new zero next o l p q = absurd (o refl)
leads_push hs h bs new (suc b) next o l p q =
    let z : suc b - 1 ≡ b = omega arith in
    let a : new ≡ bs ++ b ∷ [] = p ∙ ap (λ (i : ℕ). bs ++ i ∷ []) z in
    let c : next ≡ slice_index_or hs b 0 = q ∙ ap (λ (i : ℕ). slice_index_or hs i 0) z in
    subst (λ (xs : List ℕ). Leads hs h xs next) (sym a) (subst (λ (i : ℕ). Leads hs h (bs ++ b ∷ []) i) (sym c) (leads_more hs h bs b l))

pub leads_last : (hs : List ℕ) (h : ℕ) (bs : List ℕ) (b rest : ℕ) → Leads hs h (bs ++ b ∷ []) rest → Leads hs h bs (suc b) × (slice_index_or hs b 0 ≡ rest)
leads_last hs h [] b rest l = l
leads_last hs h (y ∷ bs) b rest l = let a = leads_last hs (slice_index_or hs y 0) bs b rest l.1 in ((l.0, a.0), a.1)

pub leads_down : (hs : List ℕ) (h : ℕ) (bs : List ℕ) (rest : ℕ) → AreOlder hs → Leads hs h bs rest → rest ≤ h
leads_down hs h [] rest o l = omega (arith, l)
leads_down hs h (y ∷ bs) rest o l =
    let a = leads_down hs (slice_index_or hs y 0) bs rest o l.1 in
    let b = o.by y in
    let c = l.0 in
    omega (arith, a, b, c)

-- an extent among others
pub record Split (hs : List ℕ) (es : List Extent) (b : ℕ) : Type 0 where
  pub younger : List Extent
  pub this : Extent
  pub older : List Extent
  pub whole : es ≡ younger ++ this ∷ older
  pub step : this.step ≡ b
  pub chain : IsChain hs (slice_index_or hs b 0) older

older_chain : (hs : List ℕ) (x : Extent) (older : List Extent) (b u : ℕ) → x.step ≡ b → slice_get hs x.step ≡ Some u → IsChain hs u older → IsChain hs (slice_index_or hs b 0) older
older_chain hs x older b u s g c =
    let z : slice_index_or hs b 0 ≡ u = get_is hs b u (subst (λ (i : ℕ). slice_get hs i ≡ Some u) s g) in
    subst (λ (i : ℕ). IsChain hs i older) (sym z) c

pub split : (hs : List ℕ) (h b : ℕ) (bs : List ℕ) (es : List Extent) → Leads hs h bs (suc b) → IsChain hs h es → Split hs es b
split hs h b [] [] l c = absurd (omega (arith, l, c))
split hs h b [] (x ∷ older) l c =
    let d = c.1 in
    let s : x.step ≡ b = omega (arith, l, d) in
    record { younger = []; this = x; older = older; whole = refl; step = s; chain = older_chain hs x older b c.0 s c.2 c.3 }
split hs h b (y ∷ bs) [] l c = let d = l.0 in absurd (omega (arith, d, c))
split hs h b (y ∷ bs) (x ∷ older) l c =
    let d = c.1 in
    let f = l.0 in
    let s : x.step ≡ y = omega (arith, f, d) in
    let p = split hs (slice_index_or hs y 0) b bs older l.1 (older_chain hs x older y c.0 s c.2 c.3) in
    record { younger = x ∷ p.younger; this = p.this; older = p.older; whole = ap (λ (es : List Extent). x ∷ es) p.whole; step = p.step; chain = p.chain }

-- ---- at an open extent

module _ (R : Reference) (r : ReferenceRun) (hs : List ℕ) (counts : List Counts) (told : IsTold R r hs counts) (n : ℕ) (m : Moment) (q : slice_get R.moments n ≡ Some m)
    (bs : List ℕ) (b : ℕ) (leads : Leads hs (slice_index_or hs n 0) bs (suc b)) where
  abbrev t : ℕ
  t = thread_in m

  abbrev es : List Extent
  es = (thread_of (known_at R every n) (thread_in m)).extents

  below : n ≤ length R.moments
  below = let l = get_below R.moments n m q in omega (arith, l)

  parts : Split hs es b
  parts = split hs (slice_index_or hs n 0) b bs es leads (told.holds.by n m q).chain

  inside_it : Contains es parts.this
  inside_it = subst (λ (zs : List Extent). Contains zs parts.this) (sym parts.whole) (Contains-append_right parts.younger (parts.this ∷ parts.older) parts.this (here parts.this parts.older))

  i : Inside R n t parts.this
  i = inside R told.keeps n below t parts.this inside_it

  begun_at : slice_get R.moments b ≡ Some i.begun
  begun_at = subst (λ (k : ℕ). slice_get R.moments k ≡ Some i.begun) parts.step i.stands

  region_is : region_at_step R parts.this.step ≡ Some i.region
  region_is = ap (region_then R) i.stands ∙ i.is

  landmark_is : landmark_at r b ≡ Some (landmark_of R.program R.regions i.begun)
  landmark_is = told.landmarks b ∙ ap (option_map (landmark_of R.program R.regions)) begun_at

  -- what is told of the branch step's region and depth
  at_region : (P : FreeRegion → ℕ → Type 0) → IfSome (landmark_at r b) (λ (l : Landmark). IfSome l.region (λ (q : FreeRegion). P q l.depth)) → P i.region parts.this.depth
  at_region P h =
      let a : IfSome (region_in R i.begun) (λ (q : FreeRegion). P q (length i.begun.calls)) =
      subst (λ (o : Option Landmark). IfSome o (λ (l : Landmark). IfSome l.region (λ (q : FreeRegion). P q l.depth))) landmark_is h in
      let c : P i.region (length i.begun.calls) = subst (λ (o : Option FreeRegion). IfSome o (λ (q : FreeRegion). P q (length i.begun.calls))) i.is a in
      subst (λ (k : ℕ). P i.region k) (sym i.depth) c

  pub counts_there : (c : Counts) × (slice_get counts b ≡ Some c)
  counts_there = let a = told.counted.by b i.begun begun_at in (a.0, a.1)

  pub owed_open : (d e : Taken) → ArePinned hs d (slice_index_or hs b 0) → AreWithin d e → (w : Demanded) → AreMet (known_at R e (suc n)) w →
      (c : Counts) → slice_get counts b ≡ Some c → SetsAt r b t c.present w → e.pinned b ≡ true
  owed_open d e pinned within w met c f s =
      let a = told.counted.by b i.begun begun_at in
      let z : a.0 ≡ c = some_is a.0 c (sym a.1 ∙ f) in
      let g : a.0.present ≡ length (registers_of (known_at R every parts.this.step) t) =
      subst (λ (k : ℕ). a.0.present ≡ length (registers_of (known_at R every k) t)) (sym parts.step)
      (subst (λ (u : ℕ). a.0.present ≡ length (registers_of (known_at R every b) u)) i.thread a.2.present) in
      subst (λ (k : ℕ). e.pinned k ≡ true) parts.step
      (pinned_open R told.keeps e n m q below parts.younger parts.older parts.this parts.whole (live_more d e parts.older within (pinned.by parts.older parts.chain)) i.region region_is
      c.present (ap (λ (k : Counts). k.present) (sym z) ∙ g) w met (at_region (λ q k. AsksRegion (Some q) t k c.present w) s.by))

  pub skip_open : (e : Taken) (w : Demanded) → PassesAt r b t w → AreMet (known_at R e (suc n)) w → AreMet (known_at R e (suc b)) w
  skip_open e w p met =
      subst (λ (k : ℕ). AreMet (known_at R e (suc k)) w) parts.step
      (skipped R told.keeps e n m q below parts.this inside_it i.region region_is w (at_region (λ q k. Passes q t k w) p.by) met)

  pub skip_words : (e : Taken) (words : List (Option Bool)) → AreWordsMet (known_at R e (suc n)) words → AreWordsMet (known_at R e (suc b)) words
  skip_words e words a =
      subst (λ (k : ℕ). AreWordsMet (known_at R e (suc k)) words) parts.step
      (record { by = λ u f g. word_skipped R told.keeps e n m q below parts.this inside_it i.region region_is u f (a.by u f g) })

-- ---- a decision

abbrev pub Owes : ReferenceRun → ℕ → ℕ → List Counts → Demanded → Taken → Taken → Type 0
Owes r b t counts w old new =
    (e : Taken) → ((c : Counts) → slice_get counts b ≡ Some c → SetsAt r b t c.present w → e.pinned b ≡ true)
    → ((c : Counts) × (slice_get counts b ≡ Some c)) → AreWithin old e → AreWithin new e

module _ (R : Reference) (r : ReferenceRun) (hs : List ℕ) (counts : List Counts) (told : IsTold R r hs counts) (n : ℕ)
    (m : Moment) (q : slice_get R.moments n ≡ Some m) (t : ℕ) (own : thread_in m ≡ t)
    (bs : List ℕ) (b : ℕ) (leads : Leads hs (slice_index_or hs n 0) bs (suc b)) (w v : Demanded) (d new e : Taken) (less : IsLess w v) where
  pub decided : Owes r b t counts w d new → ArePinned hs d (slice_index_or hs b 0) → Walks R e (suc n) w d → Walks R e (suc n) v new
  decided owes pinned a = record {
    met = less_met (known_at R e (suc n)) w v less a.met;
    within = owes e (λ c f s. owed_open R r hs counts told n m q bs b leads d e pinned a.within w a.met c f (subst (λ (u : ℕ). SetsAt r b u c.present w) (sym own) s))
        (counts_there R r hs counts told n m q bs b leads) a.within;
  }

  pub passed_over : Owes r b t counts w d new → ArePinned hs d (slice_index_or hs b 0) → PassesAt r b t v → Walks R e (suc n) w d → Walks R e (suc b) v new
  passed_over owes pinned p a =
      let z = decided owes pinned a in
      record { met = skip_open R r hs counts told n m q bs b leads e v (subst (λ (u : ℕ). PassesAt r b u v) (sym own) p) z.met; within = z.within }
