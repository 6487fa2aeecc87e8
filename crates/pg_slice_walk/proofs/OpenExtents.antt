-- The extents that a step leaves open, as they are kept.
use Rattle.std.proofs.Common.{◌≡◌, ℕ, zero, suc, ◌+◌, ◌-◌, ◌<◌, ◌≤◌, ◌==◌, Bool, true, false, List, [], ◌∷◌, ◌++◌, length, filter, Option, Some, None}
use Rattle.std.proofs.Common.{refl, sym, ap, ◌∙◌, subst, inl, inr, ◌⊎◌, arith, eqb-true, eq-eqb, replicate}
use Rattle.std.specs.Prelude.{Contains, not, slice_get, slice_index_or, slice_set, option_map, is_some, IfSome}
use Rattle.std.specs.List.{AllByRecursion}
use Rattle.std.proofs.lemmas.Bool.{true≢false, cases_lt}
use Rattle.pg_slice_rules.specs.Extents.{Extent, begun, ends, open_after}
use Rattle.pg_slice_rules.specs.Freeable.{FreeRegion}
use Rattle.pg_slice_rules.specs.Known.{Reference, SymbolicState, Taken, SymbolicThread, after_step, edge_of, no_thread, region_of, start_of, thread_of}
use Rattle.pg_slice_rules.specs.Moments.{Moment, instr_in, thread_in}
use Rattle.pg_slice_back.specs.pg_law_least.Along.{region_in}
use Rattle.pg_slice_back.specs.pg_law_least.Keeps.{AreStacked, ExtentsKeep, every, steps_of}
use Rattle.pg_region_paths.proofs.Elements.{here, there}
use Rattle.pg_slice_back.proofs.of_pg_law_least.ThreadsAfterSteps.{thread_made, thread_other, thread_own, made_by, made_in, own_made}
use Rattle.pg_slice_back.specs.pg_slice_replay.declared.run.ReferenceRun.{ReferenceRun}
use Rattle.pg_slice_back.specs.pg_slice_replay.Kept.{landmark_at}
use Rattle.pg_slice_back.specs.pg_slice_replay.Landmarks.{Landmark, landmark_of}
use Rattle.pg_slice_back.specs.pg_slice_passes.Given.{HasLandmarks}
use Rattle.pg_slice_walk.specs.Chains.{AreHeld, AreOlder, Holds, IsChain, IsHeld, IsLeft, IsNoted, begun_by}
use Rattle.pg_slice_back.proofs.of_pg_law_demands.StepBack.{of_every}
use Rattle.pg_slice_back.proofs.KnownBefore.{at_step, next_step}
use Rattle.pg_slice_back.specs.pg_law_demands.Along.{known_at, known_from}
use Rattle.pg_ir.specs.declared.instr.Instr.{Instr}
use Rattle.pg_ir.specs.Program.{NumberedProgram}
use Rattle.pg_run_trace.specs.declared.step.Event.{Event}
use Rattle.pg_run_trace.specs.declared.step.StepKind.{StepKind}
use Rattle.pg_run_trace.specs.declared.step.StepKind.TheVariants as kinds
use Rattle.pg_run_trace.specs.declared.turn.TurnKind.{TurnKind}
use Rattle.pg_run_trace.specs.declared.turn.TurnKind.TheVariants as turns

some_is : {A : Type 0} (x y : A) → Some x ≡ Some y → x ≡ y
some_is x y q = cc

pub get_is : (xs : List ℕ) (i u : ℕ) → slice_get xs i ≡ Some u → slice_index_or xs i 0 ≡ u
get_is [] i u h = absurd cc
get_is (x ∷ xs) zero u h = some_is x u h
get_is (x ∷ xs) (suc i) u h = get_is xs i u h

-- where the innermost extent ends, those that stay open are among the others
pub next_open : (r : ReferenceRun) (holders : List ℕ) (b : ℕ) (es : List Extent) (depth : ℕ) (edge : Option ℕ) → IsHeld r holders (suc b) es → AreStacked depth edge es →
    ((x : Extent) → x.step ≡ b → IsNoted r x → ends depth edge x ≡ true) →
    (older : List Extent) × IsHeld r holders (slice_index_or holders b 0) older × AreStacked depth edge older
    × (filter (λ (e : Extent). not (ends depth edge e)) es ≡ filter (λ (e : Extent). not (ends depth edge e)) older)
next_open r holders b [] depth edge h s f = let z : suc b ≡ 0 = h.chain in absurd (omega (arith, z))
next_open r holders b (x ∷ older) depth edge h s f =
    let c = h.chain in
    let z : suc b ≡ suc x.step = c.1 in
    let y : x.step ≡ b = omega (arith, z) in
    let g : slice_get holders b ≡ Some c.0 = subst (λ (i : ℕ). slice_get holders i ≡ Some c.0) y c.2 in
    let q : ends depth edge x ≡ true = f x y h.noted.0 in
    (older, record { chain = subst (λ (u : ℕ). IsChain holders u older) (sym (get_is holders b c.0 g)) c.3; noted = h.noted.1 }, s.1, rw q refl)

-- where it doesn't end, none does
pub none_ends : (depth : ℕ) (edge : Option ℕ) (x : Extent) (older : List Extent) → AreStacked depth edge (x ∷ older) → ends depth edge x ≡ false →
    filter (λ (e : Extent). not (ends depth edge e)) (x ∷ older) ≡ x ∷ older
none_ends depth edge x older s q = rw q (ap (λ (es : List Extent). x ∷ es) (all_stay older (λ o c. s.0 o c)))
  where
    stays : (o : Extent) → (ends depth edge o ≡ true → ends depth edge x ≡ true) → ends depth edge o ≡ false
    stays o f = go (ends depth edge o) refl
      where
        go : (b : Bool) → ends depth edge o ≡ b → ends depth edge o ≡ false
        go false g = g
        go true g = absurd (true≢false (sym (f g) ∙ q))

    all_stay : (es : List Extent) → ((o : Extent) → Contains es o → ends depth edge o ≡ true → ends depth edge x ≡ true) → filter (λ (e : Extent). not (ends depth edge e)) es ≡ es
    all_stay [] f = refl
    all_stay (o ∷ es) f = rw (stays o (f o (here o es))) (ap (λ (zs : List Extent). o ∷ zs) (all_stay es (λ z c. f z (there o es z c))))

pub stays_open : (r : ReferenceRun) (holders : List ℕ) (b : ℕ) (es : List Extent) (depth : ℕ) (edge : Option ℕ) → IsHeld r holders (suc b) es → AreStacked depth edge es →
    ((x : Extent) → x.step ≡ b → IsNoted r x → ends depth edge x ≡ false) → filter (λ (e : Extent). not (ends depth edge e)) es ≡ es
stays_open r holders b [] depth edge h s f = refl
stays_open r holders b (x ∷ older) depth edge h s f =
    let c = h.chain in
    let z : suc b ≡ suc x.step = c.1 in
    none_ends depth edge x older s (f x (omega (arith, z)) h.noted.0)

pub none_open : (r : ReferenceRun) (holders : List ℕ) (es : List Extent) → IsHeld r holders 0 es → es ≡ []
none_open r holders [] h = refl
none_open r holders (x ∷ older) h = let z : 0 ≡ suc x.step = h.chain.1 in absurd (omega (arith, z))

pub no_edge : (depth : ℕ) (es : List Extent) → filter (λ (e : Extent). not (ends depth None e)) es ≡ es
no_edge depth [] = refl
no_edge depth (x ∷ es) = ap (λ (zs : List Extent). x ∷ zs) (no_edge depth es)

-- one step more leaves what is kept of those before
get_more : {A : Type 0} (xs ys : List A) (i : ℕ) (x : A) → slice_get xs i ≡ Some x → slice_get (xs ++ ys) i ≡ Some x
get_more [] ys i x h = absurd cc
get_more (z ∷ xs) ys zero x h = h
get_more (z ∷ xs) ys (suc i) x h = get_more xs ys i x h

chain_more : (holders more : List ℕ) (h : ℕ) (es : List Extent) → IsChain holders h es → IsChain (holders ++ more) h es
chain_more holders more h [] c = c
chain_more holders more h (x ∷ older) c = (c.0, c.1, get_more holders more x.step c.0 c.2, chain_more holders more c.0 older c.3)

pub held_more : (r : ReferenceRun) (holders more : List ℕ) (h : ℕ) (es : List Extent) → IsHeld r holders h es → IsHeld r (holders ++ more) h es
held_more r holders more h es k = record { chain = chain_more holders more h es k.chain; noted = k.noted }

get_last : {A : Type 0} (xs : List A) (x : A) → slice_get (xs ++ x ∷ []) (length xs) ≡ Some x
get_last [] x = refl
get_last (y ∷ xs) x = get_last xs x

-- with the extent of a freeable step
pub held_begun : (r : ReferenceRun) (holders : List ℕ) (n before depth : ℕ) (l : Landmark) (region : Option FreeRegion) (es : List Extent)
    → length holders ≡ n → landmark_at r n ≡ Some l → l.depth ≡ depth →
    l.region ≡ region → IsHeld r holders before es → IsHeld r (holders ++ before ∷ []) (begun_by region n before) (begun n depth region es)
held_begun r holders n before depth l None es c a d g k = held_more r holders (before ∷ []) before es k
held_begun r holders n before depth l (Some q) es c a d g k = record {
  chain = (before, refl, subst (λ (i : ℕ). slice_get (holders ++ before ∷ []) i ≡ Some before) c (get_last holders before), (held_more r holders (before ∷ []) before es k).chain);
  noted = (record { landmark = l; stands = a; depth = d; join = ap (λ (o : Option FreeRegion). option_map (λ (f : FreeRegion). f.join) o) g }, k.noted);
}

-- ---- from a step to the next

no_extents_by : (p : NumberedProgram) (v : Event) (kind : TurnKind) (i : ℕ) → (slice_index_or (made_by p v kind) i no_thread).extents ≡ []
no_extents_by p v turns.Create zero = refl
no_extents_by p v turns.Create (suc i) = refl
no_extents_by p v _ i = refl

no_extents : (p : NumberedProgram) (kind : StepKind) (i : ℕ) → (slice_index_or (made_in p kind) i no_thread).extents ≡ []
no_extents p (kinds.Event v) i = no_extents_by p v v.kind i
no_extents p _ i = refl

made_extents : (p : NumberedProgram) (d : Taken) (n : ℕ) (m : Moment) (region : Option FreeRegion) (s : SymbolicState) (b : Bool) (o : Option Instr) (i : ℕ) →
    (slice_index_or (own_made p d n m region s b o) i no_thread).extents ≡ []
made_extents p d n m region s false o i = refl
made_extents p d n m region s true None i = refl
made_extents p d n m region s true (Some x) i = no_extents p m.did.did.kind i

past_threads : (xs : List SymbolicThread) (i : ℕ) → length xs ≤ i → slice_index_or xs i no_thread ≡ no_thread
past_threads [] i l = refl
past_threads (x ∷ xs) zero l = absurd (omega (arith, l))
past_threads (x ∷ xs) (suc i) l = past_threads xs i (omega (arith, l))

get_at : (xs : List ℕ) (x : ℕ) (j : ℕ) → j < length xs → slice_index_or (xs ++ x ∷ []) j 0 ≡ slice_index_or xs j 0
get_at [] x j l = absurd (omega (arith, l))
get_at (y ∷ xs) x zero l = refl
get_at (y ∷ xs) x (suc j) l = get_at xs x j (omega (arith, l))

module _ (R : Reference) (keeps : ExtentsKeep R) (n : ℕ) (m : Moment) (q : slice_get R.moments n ≡ Some m) where
  abbrev symbolic : SymbolicState
  symbolic = known_at R every n

  abbrev thread : ℕ
  thread = thread_in m

  pub in_run : Contains (steps_of R) (of_every R n m symbolic)
  in_run = (at_step R keeps every n m q).in_run

  pub begun_before : thread < length symbolic.threads
  begun_before = keeps.known (of_every R n m symbolic) in_run

  pub own_next : (thread_of (after_step R every n m symbolic) thread).extents ≡ open_after n (length m.calls) (region_in R m) (edge_of R.program m m.did.did.kind) (thread_of symbolic thread).extents
  own_next = ap (λ (h : SymbolicThread). h.extents) (thread_own R every n m symbolic begun_before)

  pub other_next : (u : ℕ) → (u ≡ thread → ⊥) → (thread_of (after_step R every n m symbolic) u).extents ≡ (thread_of symbolic u).extents
  other_next u o = go (cases_lt u (length symbolic.threads))
    where
      go : (u < length symbolic.threads) ⊎ (length symbolic.threads ≤ u) → (thread_of (after_step R every n m symbolic) u).extents ≡ (thread_of symbolic u).extents
      go (inl l) = ap (λ (h : SymbolicThread). h.extents) (thread_other R every n m symbolic u o l)
      go (inr l) =
          ap (λ (h : SymbolicThread). h.extents) (thread_made R every n m symbolic u o l)
          ∙ made_extents R.program every n m (region_of R.program R.regions m (instr_in R.program m)) symbolic _ (instr_in R.program m) (u - length symbolic.threads)
          ∙ sym (ap (λ (h : SymbolicThread). h.extents) (past_threads symbolic.threads u l))

  pub next_is : known_at R every (suc n) ≡ after_step R every n m symbolic
  next_is = let z : 0 + n ≡ n = omega arith in subst (λ (i : ℕ). known_at R every (suc n) ≡ after_step R every i m symbolic) z (next_step R every 0 n (start_of R.program) R.moments m q)

module _ (R : Reference) (keeps : ExtentsKeep R) (r : ReferenceRun) (n : ℕ) (m : Moment) (q : slice_get R.moments n ≡ Some m) where
  abbrev s : SymbolicState
  s = known_at R every n

  abbrev t : ℕ
  t = thread_in m

  pub held_next : (holders old new : List ℕ) (inner left depth : ℕ) (edge : Option ℕ) (l : Landmark) → landmark_at r n ≡ Some l
      → l.depth ≡ length m.calls → l.edge ≡ edge_of R.program m m.did.did.kind → l.region ≡ region_in R m →
      length holders ≡ n → depth ≡ l.depth → edge ≡ l.edge → inner ≡ begun_by l.region n (slice_index_or old t 0) →
      ((es : List Extent) → AreStacked depth edge es → IsHeld r (holders ++ slice_index_or old t 0 ∷ []) inner es →
      IsHeld r (holders ++ slice_index_or old t 0 ∷ []) left (filter (λ (e : Extent). not (ends depth edge e)) es)) →
      slice_index_or new t 0 ≡ left → ((u : ℕ) → (u ≡ t → ⊥) → slice_index_or new u 0 ≡ slice_index_or old u 0) → AreHeld R r n holders old →
      AreHeld R r (suc n) (holders ++ slice_index_or old t 0 ∷ []) new
  held_next holders old new inner left depth edge l at deep on free long d g i f own others a = record {
    before = λ j k lt h. earlier j k h (cases_lt j n) lt;
    now = λ u. later u (u == t) refl;
  }
    where
      more : List ℕ
      more = holders ++ slice_index_or old t 0 ∷ []

      earlier : (j : ℕ) (k : Moment) → slice_get R.moments j ≡ Some k → (j < n) ⊎ (n ≤ j) → j < suc n
          → IsHeld r more (slice_index_or more j 0) (thread_of (known_at R every j) (thread_in k)).extents
      earlier j k h (inl lt) w =
          let z : j < length holders = omega (arith, lt, long) in
          subst (λ (i : ℕ). IsHeld r more i (thread_of (known_at R every j) (thread_in k)).extents) (sym (get_at holders (slice_index_or old t 0) j z))
          (held_more r holders (slice_index_or old t 0 ∷ []) (slice_index_or holders j 0) _ (a.before j k lt h))
      earlier j k h (inr lt) w = same (omega (arith, lt, w)) h
        where
          same : j ≡ n → slice_get R.moments j ≡ Some k → IsHeld r more (slice_index_or more j 0) (thread_of (known_at R every j) (thread_in k)).extents
          same e h =
              let c : slice_get R.moments n ≡ Some k = subst (λ (i : ℕ). slice_get R.moments i ≡ Some k) e h in
              let v : m ≡ k = some_is m k (sym q ∙ c) in
              let w : slice_index_or more n 0 ≡ slice_index_or old t 0 =
              get_is more n (slice_index_or old t 0) (subst (λ (i : ℕ). slice_get more i ≡ Some (slice_index_or old t 0)) long (get_last holders (slice_index_or old t 0))) in
              subst (λ (i : ℕ). IsHeld r more (slice_index_or more i 0) (thread_of (known_at R every i) (thread_in k)).extents) (sym e)
              (subst (λ (i : ℕ). IsHeld r more i (thread_of (known_at R every n) (thread_in k)).extents) (sym w)
              (subst (λ (y : Moment). IsHeld r more (slice_index_or old t 0) (thread_of (known_at R every n) (thread_in y)).extents) v
              (held_more r holders (slice_index_or old t 0 ∷ []) (slice_index_or old t 0) _ (a.now t))))

      left_held : IsHeld r more left (open_after n (length m.calls) (region_in R m) (edge_of R.program m m.did.did.kind) (thread_of s t).extents)
      left_held =
          let h : IsHeld r more inner (begun n (length m.calls) (region_in R m) (thread_of s t).extents) =
          subst (λ (i : ℕ). IsHeld r more i (begun n (length m.calls) (region_in R m) (thread_of s t).extents)) (sym (i
          ∙ ap (λ (o : Option FreeRegion). begun_by o n (slice_index_or old t 0)) free))
          (held_begun r holders n (slice_index_or old t 0) (length m.calls) l (region_in R m) (thread_of s t).extents long at deep free (a.now t)) in
          let k : AreStacked depth edge (begun n (length m.calls) (region_in R m) (thread_of s t).extents) =
          subst (λ (o : Option ℕ). AreStacked depth o (begun n (length m.calls) (region_in R m) (thread_of s t).extents)) (sym (g ∙ on))
          (subst (λ (i : ℕ). AreStacked i (edge_of R.program m m.did.did.kind) (begun n (length m.calls) (region_in R m) (thread_of s t).extents)) (sym (d
          ∙ deep)) (keeps.nested (of_every R n m s) (in_run R keeps n m q))) in
          subst (λ (i : ℕ). IsHeld r more left (filter (λ (e : Extent). not (ends i (edge_of R.program m m.did.did.kind) e))
          (begun n (length m.calls) (region_in R m) (thread_of s t).extents))) (d ∙ deep)
          (subst (λ (o : Option ℕ). IsHeld r more left (filter (λ (e : Extent). not (ends depth o e)) (begun n (length m.calls) (region_in R m) (thread_of s t).extents))) (g ∙ on) (f _ k h))

      later : (u : ℕ) (b : Bool) → (u == t) ≡ b → IsHeld r more (slice_index_or new u 0) (thread_of (known_at R every (suc n)) u).extents
      later u true e =
          let z : u ≡ t = eqb-true u t e in
          subst (λ (y : SymbolicState). IsHeld r more (slice_index_or new u 0) (thread_of y u).extents) (sym (next_is R keeps n m q))
          (subst (λ (i : ℕ). IsHeld r more (slice_index_or new i 0) (thread_of (after_step R every n m s) i).extents) (sym z)
          (subst (λ (i : ℕ). IsHeld r more i (thread_of (after_step R every n m s) t).extents) (sym own)
          (subst (λ (es : List Extent). IsHeld r more left es) (sym (own_next R keeps n m q)) left_held)))
      later u false e =
          let o : u ≡ t → ⊥ = λ z. true≢false (sym (eq-eqb u t z) ∙ e) in
          subst (λ (y : SymbolicState). IsHeld r more (slice_index_or new u 0) (thread_of y u).extents) (sym (next_is R keeps n m q))
          (subst (λ (i : ℕ). IsHeld r more i (thread_of (after_step R every n m s) u).extents) (sym (others u o))
          (subst (λ (es : List Extent). IsHeld r more (slice_index_or old u 0) es) (sym (other_next R keeps n m q u o))
          (held_more r holders (slice_index_or old t 0 ∷ []) (slice_index_or old u 0) _ (a.now u))))

pub held_first : (R : Reference) (r : ReferenceRun) (tops : List ℕ) → ((u : ℕ) → slice_index_or tops u 0 ≡ 0) → AreHeld R r 0 [] tops
unfolding known_from
held_first R r tops z = record {
  before = λ j m l h. absurd (omega (arith, l));
  now = λ u. record { chain = first u; noted = none u };
}
  where
    first : (u : ℕ) → IsChain [] (slice_index_or tops u 0) (thread_of (known_at R every 0) u).extents
    first zero = z zero
    first (suc u) = z (suc u)

    none : (u : ℕ) → AllByRecursion (IsNoted r) (thread_of (known_at R every 0) u).extents
    none zero = tt
    none (suc u) = tt

pub begun_is : (o : Option Landmark) (n before : ℕ) (b : Bool) → b ≡ true → IfSome o (λ (l : Landmark). b ≡ is_some l.region)
    → IfSome o (λ (l : Landmark). n + 1 ≡ begun_by l.region n before)
begun_is None n before b q h = tt
begun_is (Some l) n before b q h = go l.region (sym q ∙ h)
  where
    go : (o : Option FreeRegion) → true ≡ is_some o → n + 1 ≡ begun_by o n before
    go None f = absurd (true≢false f)
    go (Some r) f = omega arith

pub begun_not : (o : Option Landmark) (n before : ℕ) (b : Bool) → b ≡ false → IfSome o (λ (l : Landmark). b ≡ is_some l.region)
    → IfSome o (λ (l : Landmark). before ≡ begun_by l.region n before)
begun_not None n before b q h = tt
begun_not (Some l) n before b q h = go l.region (sym q ∙ h)
  where
    go : (o : Option FreeRegion) → false ≡ is_some o → before ≡ begun_by o n before
    go None f = refl
    go (Some r) f = absurd (true≢false (sym f))

suc_back : (h : ℕ) → (h ≡ 0 → ⊥) → suc (h - 1) ≡ h
suc_back zero o = absurd (o refl)
suc_back (suc b) o = omega arith

pub left_ends : (r : ReferenceRun) (holders : List ℕ) (first h depth : ℕ) (edge : Option ℕ) (next : ℕ) → (h ≡ 0 → ⊥) → next ≡ slice_index_or holders (h - 1) 0 →
    ((x : Extent) → x.step ≡ h - 1 → IsNoted r x → ends depth edge x ≡ true) → IsLeft r holders depth edge first h → IsLeft r holders depth edge first next
left_ends r holders first h depth edge next o q f left = λ es s k.
    let a = left es s k in
    let b = next_open r holders (h - 1) a.0 depth edge (subst (λ (i : ℕ). IsHeld r holders i a.0) (sym (suc_back h o)) a.1) a.2 f in
    (b.0, subst (λ (i : ℕ). IsHeld r holders i b.0) (sym q) b.1, b.2, a.3 ∙ b.3)

pub left_stays : (r : ReferenceRun) (holders : List ℕ) (first h depth : ℕ) (edge : Option ℕ) → (h ≡ 0 → ⊥)
    → ((x : Extent) → x.step ≡ h - 1 → IsNoted r x → ends depth edge x ≡ false) →
    IsLeft r holders depth edge first h → (es : List Extent) → AreStacked depth edge es → IsHeld r holders first es → IsHeld r holders h (filter (λ (e : Extent). not (ends depth edge e)) es)
left_stays r holders first h depth edge o f left es s k =
    let a = left es s k in
    let b = stays_open r holders (h - 1) a.0 depth edge (subst (λ (i : ℕ). IsHeld r holders i a.0) (sym (suc_back h o)) a.1) a.2 f in
    subst (λ (zs : List Extent). IsHeld r holders h zs) (sym (a.3 ∙ b)) a.1

pub left_none : (r : ReferenceRun) (holders : List ℕ) (first h depth : ℕ) (edge : Option ℕ) → h ≡ 0
    → IsLeft r holders depth edge first h → (es : List Extent) → AreStacked depth edge es →
    IsHeld r holders first es → IsHeld r holders h (filter (λ (e : Extent). not (ends depth edge e)) es)
left_none r holders first h depth edge z left es s k =
    let a = left es s k in
    let b = none_open r holders a.0 (subst (λ (i : ℕ). IsHeld r holders i a.0) z a.1) in
    let c : filter (λ (e : Extent). not (ends depth edge e)) a.0 ≡ [] = ap (λ (zs : List Extent). filter (λ (e : Extent). not (ends depth edge e)) zs) b in
    subst (λ (zs : List Extent). IsHeld r holders h zs) (sym (a.3 ∙ c)) (subst (λ (zs : List Extent). IsHeld r holders h zs) b a.1)

pub none_leave : (r : ReferenceRun) (holders : List ℕ) (h depth : ℕ) (edge : Option ℕ) → edge ≡ None → (es : List Extent) → AreStacked depth edge es → IsHeld r holders h es →
    IsHeld r holders h (filter (λ (e : Extent). not (ends depth edge e)) es)
none_leave r holders h depth edge q es s k =
    subst (λ (o : Option ℕ). IsHeld r holders h (filter (λ (e : Extent). not (ends depth o e)) es)) (sym q) (subst (λ (zs : List Extent). IsHeld r holders h zs) (sym (no_edge depth es)) k)

set_same : (xs : List ℕ) (t x : ℕ) → t < length xs → slice_index_or (slice_set xs t x) t 0 ≡ x
set_same [] t x l = absurd (omega (arith, l))
set_same (y ∷ xs) zero x l = refl
set_same (y ∷ xs) (suc t) x l = set_same xs t x (omega (arith, l))

set_other : (xs : List ℕ) (t u x : ℕ) → (u ≡ t → ⊥) → slice_index_or (slice_set xs t x) u 0 ≡ slice_index_or xs u 0
set_other [] t u x o = refl
set_other (y ∷ xs) zero zero x o = absurd (o refl)
set_other (y ∷ xs) zero (suc u) x o = refl
set_other (y ∷ xs) (suc t) zero x o = refl
set_other (y ∷ xs) (suc t) (suc u) x o = set_other xs t u x (λ z. o (ap suc z))

-- a step of a run, by what is told of it
held_step : (R : Reference) (r : ReferenceRun) (n : ℕ) (m : Moment) (holders tops : List ℕ) (thread inner depth left : ℕ) (edge : Option ℕ) → HasLandmarks R r → ExtentsKeep R →
    slice_get R.moments n ≡ Some m → thread_in m ≡ thread → thread < length tops → length holders ≡ n → IfSome (landmark_at r n) (λ (l : Landmark). depth ≡ l.depth) →
    IfSome (landmark_at r n) (λ (l : Landmark). edge ≡ l.edge) → IfSome (landmark_at r n) (λ (l : Landmark). inner ≡ begun_by l.region n (slice_index_or tops thread 0)) →
    ((es : List Extent) → AreStacked depth edge es → IsHeld r (holders ++ slice_index_or tops thread 0 ∷ []) inner es →
    IsHeld r (holders ++ slice_index_or tops thread 0 ∷ []) left (filter (λ (e : Extent). not (ends depth edge e)) es)) →
    AreHeld R r n holders tops → AreHeld R r (suc n) (holders ++ slice_index_or tops thread 0 ∷ []) (slice_set tops thread left)
held_step R r n m holders tops thread inner depth left edge marks keeps q e below long d g i f a =
    let l = landmark_of R.program R.regions m in
    let at : landmark_at r n ≡ Some l = marks n ∙ ap (option_map (landmark_of R.program R.regions)) q in
    let d2 : depth ≡ l.depth = subst (λ (o : Option Landmark). IfSome o (λ (l : Landmark). depth ≡ l.depth)) at d in
    let g2 : edge ≡ l.edge = subst (λ (o : Option Landmark). IfSome o (λ (l : Landmark). edge ≡ l.edge)) at g in
    let i2 : inner ≡ begun_by l.region n (slice_index_or tops thread 0) =
    subst (λ (o : Option Landmark). IfSome o (λ (l : Landmark). inner ≡ begun_by l.region n (slice_index_or tops thread 0))) at i in
    subst (λ (t : ℕ). AreHeld R r (suc n) (holders ++ slice_index_or tops t 0 ∷ []) (slice_set tops t left)) e
    (held_next R keeps r n m q holders tops (slice_set tops (thread_in m) left) inner left depth edge l at refl refl refl long d2 g2
    (subst (λ (t : ℕ). inner ≡ begun_by l.region n (slice_index_or tops t 0)) (sym e) i2)
    (subst (λ (t : ℕ). (es : List Extent) → AreStacked depth edge es → IsHeld r (holders ++ slice_index_or tops t 0 ∷ []) inner es
    → IsHeld r (holders ++ slice_index_or tops t 0 ∷ []) left (filter (λ (e : Extent). not (ends depth edge e)) es)) (sym e) f)
    (set_same tops (thread_in m) left (subst (λ (t : ℕ). t < length tops) (sym e) below)) (λ u o. set_other tops (thread_in m) u left o) a)

pub hold_is : (R : Reference) (r : ReferenceRun) (n : ℕ) (m : Moment) (holders tops : List ℕ) (thread before inner depth left : ℕ) (edge : Option ℕ) (new shown : List ℕ) →
    before ≡ slice_index_or tops thread 0 → new ≡ holders ++ before ∷ [] → shown ≡ new → HasLandmarks R r → ExtentsKeep R
    → slice_get R.moments n ≡ Some m → thread_in m ≡ thread → thread < length tops →
    length holders ≡ n → IfSome (landmark_at r n) (λ (l : Landmark). depth ≡ l.depth) → IfSome (landmark_at r n) (λ (l : Landmark). edge ≡ l.edge) →
    IfSome (landmark_at r n) (λ (l : Landmark). inner ≡ begun_by l.region n before) →
    ((es : List Extent) → AreStacked depth edge es → IsHeld r shown inner es → IsHeld r shown left (filter (λ (e : Extent). not (ends depth edge e)) es)) →
    AreHeld R r n holders tops → AreHeld R r (n + 1) new (slice_set tops thread left)
hold_is R r n m holders tops thread before inner depth left edge new shown b p s marks keeps q e below long d g i f a =
    let z : suc n ≡ n + 1 = omega arith in
    let k : new ≡ holders ++ slice_index_or tops thread 0 ∷ [] = p ∙ ap (λ (x : ℕ). holders ++ x ∷ []) b in
    subst (λ (j : ℕ). AreHeld R r j new (slice_set tops thread left)) z
    (subst (λ (xs : List ℕ). AreHeld R r (suc n) xs (slice_set tops thread left)) (sym k)
    (held_step R r n m holders tops thread inner depth left edge marks keeps q e below long d g
    (subst (λ (x : ℕ). IfSome (landmark_at r n) (λ (l : Landmark). inner ≡ begun_by l.region n x)) b i)
    (subst (λ (xs : List ℕ). (es : List Extent) → AreStacked depth edge es → IsHeld r xs inner es → IsHeld r xs left (filter (λ (e : Extent). not (ends depth edge e)) es)) (s ∙ k) f) a))

older_at : (xs : List ℕ) (x n : ℕ) → x ≤ length xs → ((i : ℕ) → slice_index_or xs i 0 ≤ i) → slice_index_or (xs ++ x ∷ []) n 0 ≤ n
older_at xs x n l f = go (cases_lt n (length xs))
  where
    past : (ys : List ℕ) (y i : ℕ) → length ys ≤ i → slice_index_or (ys ++ y ∷ []) i 0 ≤ y
    past [] y zero k = omega arith
    past [] y (suc i) k = omega arith
    past (z ∷ ys) y zero k = absurd (omega (arith, k))
    past (z ∷ ys) y (suc i) k = past ys y i (omega (arith, k))

    go : (n < length xs) ⊎ (length xs ≤ n) → slice_index_or (xs ++ x ∷ []) n 0 ≤ n
    go (inl k) = let e = get_at xs x n k in let h = f n in omega (arith, e, h)
    go (inr k) = let e = past xs x n k in omega (arith, e, l, k)

pub older_next : (holders new : List ℕ) (before n : ℕ) → new ≡ holders ++ before ∷ [] → length holders ≡ n → before ≤ n → AreOlder holders → AreOlder new
older_next holders new before n p l b a = record { by = λ i. subst (λ (xs : List ℕ). slice_index_or xs i 0 ≤ i) (sym p) (older_at holders before i (omega (arith, l, b)) a.by) }

pub tops_next : (tops : List ℕ) (t x n : ℕ) → ((u : ℕ) → slice_index_or tops u 0 ≤ n) → x ≤ n + 1 → (u : ℕ) → slice_index_or (slice_set tops t x) u 0 ≤ n + 1
tops_next [] t x n f l u = let h = f u in omega arith
tops_next (y ∷ tops) zero x n f l zero = l
tops_next (y ∷ tops) zero x n f l (suc u) = let h = f (suc u) in omega (arith, h)
tops_next (y ∷ tops) (suc t) x n f l zero = let h = f zero in omega (arith, h)
tops_next (y ∷ tops) (suc t) x n f l (suc u) = tops_next tops t x n (λ v. f (suc v)) l u

no_tops : (n u : ℕ) → slice_index_or (replicate n zero) u zero ≡ zero
no_tops zero u = refl
no_tops (suc n) zero = refl
no_tops (suc n) (suc u) = no_tops n u

pub none_on_top : (tops : List ℕ) (n : ℕ) → tops ≡ replicate n 0 → (u : ℕ) → slice_index_or tops u 0 ≡ 0
none_on_top tops n e u = ap (λ (xs : List ℕ). slice_index_or xs u 0) e ∙ no_tops n u

pub none_older : AreOlder []
none_older = record { by = λ n. omega arith }

-- a run whose steps are all held
pub all_held : (R : Reference) (r : ReferenceRun) (n : ℕ) (holders tops : List ℕ) → length R.moments ≡ n → AreHeld R r n holders tops → Holds R r holders
all_held R r n holders tops l a = record { by = λ j m q. a.before j m (below R.moments j m q) q }
  where
    place : (ms : List Moment) (j : ℕ) (m : Moment) → slice_get ms j ≡ Some m → j < length ms
    place [] j m q = absurd cc
    place (x ∷ ms) zero m q = omega arith
    place (x ∷ ms) (suc j) m q = let h = place ms j m q in omega (arith, h)

    below : (ms : List Moment) (j : ℕ) (m : Moment) → slice_get R.moments j ≡ Some m → j < n
    below ms j m q = let h = place R.moments j m q in omega (arith, h, l)
