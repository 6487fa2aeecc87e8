-- How many registers the calls of the threads have, kept along a run.
use Rattle.std.proofs.Common.{◌≡◌, ℕ, zero, suc, ◌+◌, ◌-◌, ◌<◌, ◌≤◌, ◌==◌, Bool, true, false, List, [], ◌∷◌, ◌++◌, length, map, Option, Some, None}
use Rattle.std.proofs.Common.{refl, sym, ap, ◌∙◌, subst, inl, inr, ◌⊎◌, arith, eqb-true, eq-eqb}
use Rattle.std.specs.Prelude.{slice_get, slice_index_or, slice_set}
use Rattle.std.proofs.lemmas.Bool.{true≢false, cases_lt}
use Rattle.std.proofs.lemmas.List.{length-set, length-replicate, get_or-set_same, get_or-set_other, get_or-append_right}
use Rattle.pg_ir.specs.declared.instr.Instr.{Instr}
use Rattle.pg_ir.specs.declared.function.Function.{Function}
use Rattle.pg_ir.specs.declared.value.Scalar.{Scalar}
use Rattle.pg_ir.specs.Program.{NumberedProgram, types_in, types_of}
use Rattle.pg_run_trace.specs.declared.turn.TurnKind.{TurnKind}
use Rattle.pg_run_trace.specs.declared.turn.TurnKind.TheVariants as turns
use Rattle.pg_run_trace.specs.declared.step.Event.{Event}
use Rattle.pg_run_trace.specs.declared.step.StepKind.{StepKind}
use Rattle.pg_run_trace.specs.declared.step.StepKind.TheVariants as kinds
use Rattle.pg_slice_rules.specs.Moments.{Moment, instr_in, thread_in}
use Rattle.pg_slice_rules.specs.Freeable.{FreeRegion}
use Rattle.pg_slice_rules.specs.Extents.{is_live}
use Rattle.pg_slice_rules.specs.Known.{Reference, SymbolicState, SymbolicThread, after_step, no_thread, region_of, thread_of}
use Rattle.pg_law_least.specs.Keeps.{every}
use Rattle.pg_law_least.proofs.OldestFreeExtent.{live_every}
use Rattle.pg_law_least.proofs.ThreadsAfterSteps.{calls_after, length_next, made_at, made_by, made_in, own_calls, own_made, thread_made, thread_other, thread_own}
use Rattle.pg_slice_back.specs.declared.counts.Held.{Held}
use Rattle.pg_slice_back.specs.declared.counts.Calls.{Calls}
use Rattle.pg_slice_back.specs.Lens.{lens_by_kind, lens_made, lens_made_by, lens_of}
use Rattle.pg_slice_back.specs.Stacks.{AreStacks, IsStack}
use Rattle.pg_slice_back.proofs.CallRegisterCounts.{kind_lens}

made_lens_by : (p : NumberedProgram) (e : Event) (kind : TurnKind) → map (λ (h : SymbolicThread). lens_of h.calls) (made_by p e kind) ≡ lens_made_by p e kind
made_lens_by p e turns.Create = ap (λ (l : ℕ). (l ∷ []) ∷ []) (length-replicate (length (types_of p _)) _)
made_lens_by p e _ = refl

made_lens : (p : NumberedProgram) (kind : StepKind) → map (λ (h : SymbolicThread). lens_of h.calls) (made_in p kind) ≡ lens_made p kind
made_lens p (kinds.Event e) = made_lens_by p e e.kind
made_lens p _ = refl

lens_at : (hs : List SymbolicThread) (i : ℕ) → lens_of (slice_index_or hs i no_thread).calls ≡ slice_index_or (map (λ (h : SymbolicThread). lens_of h.calls) hs) i []
lens_at [] i = refl
lens_at (h ∷ hs) zero = refl
lens_at (h ∷ hs) (suc i) = lens_at hs i

long_map : {A B : Type 0} (f : A → B) (xs : List A) → length (map f xs) ≡ length xs
long_map f [] = refl
long_map f (x ∷ xs) = ap suc (long_map f xs)

module _ (R : Reference) (n : ℕ) (m : Moment) (s : SymbolicState) (x : Instr) (stands : instr_in R.program m ≡ Some x) (begun : thread_in m < length s.threads) where
  abbrev t : ℕ
  t = thread_in m

  abbrev region : Option FreeRegion
  region = region_of R.program R.regions m (instr_in R.program m)

  own_lens : lens_of (thread_of (after_step R every n m s) t).calls ≡ lens_by_kind R.program x.op m.did.did.kind (lens_of (thread_of s t).calls)
  own_lens =
      ap (λ (h : SymbolicThread). lens_of h.calls) (thread_own R every n m s begun)
      ∙ ap (λ (b : Bool). lens_of (own_calls R.program every n m region s b (instr_in R.program m))) (live_every (thread_of s t).extents)
      ∙ ap (λ (o : Option Instr). lens_of (calls_after R.program every n m region o s (thread_of s t).calls)) stands
      ∙ kind_lens R.program every n m region s x m.did.did.kind (thread_of s t).calls

  made_now : own_made R.program every n m region s (is_live every.pinned (thread_of s t).extents) (instr_in R.program m) ≡ made_in R.program m.did.did.kind
  made_now =
      ap (λ (b : Bool). own_made R.program every n m region s b (instr_in R.program m)) (live_every (thread_of s t).extents)
      ∙ ap (λ (o : Option Instr). made_at R.program m o) stands

  pub threads_now : length (after_step R every n m s).threads ≡ length s.threads + length (lens_made R.program m.did.did.kind)
  threads_now =
      length_next R every n m s
      ∙ ap (λ (hs : List SymbolicThread). length s.threads + length hs) made_now
      ∙ ap (λ (l : ℕ). length s.threads + l) (sym (long_map (λ (h : SymbolicThread). lens_of h.calls) (made_in R.program m.did.did.kind)) ∙ ap length (made_lens R.program m.did.did.kind))

  other_lens : (u : ℕ) → (u ≡ t → ⊥) → length s.threads ≤ u →
      lens_of (thread_of (after_step R every n m s) u).calls ≡ slice_index_or (lens_made R.program m.did.did.kind) (u - length s.threads) []
  other_lens u o l =
      ap (λ (h : SymbolicThread). lens_of h.calls) (thread_made R every n m s u o l)
      ∙ ap (λ (hs : List SymbolicThread). lens_of (slice_index_or hs (u - length s.threads) no_thread).calls) made_now
      ∙ lens_at (made_in R.program m.did.did.kind) (u - length s.threads)
      ∙ ap (λ (ls : List (List ℕ)). slice_index_or ls (u - length s.threads) []) (made_lens R.program m.did.did.kind)

  -- where the present call of the step's thread is the one before `top`, the other threads have the calls that they had, and
  -- those that the step makes are there
  pub stacks_next : (old new : Calls) (top : ℕ) → AreStacks old s → ((h : ℕ) (ls : List ℕ) → IsStack old.held.items h ls → IsStack new.held.items h ls) →
      IsStack new.held.items top (lens_by_kind R.program x.op m.did.did.kind (lens_of (thread_of s t).calls)) →
      length new.tops.items ≡ length old.tops.items + length (lens_made R.program m.did.did.kind) →
      slice_index_or new.tops.items t 0 ≡ top → ((u : ℕ) → (u ≡ t → ⊥) → u < length old.tops.items → slice_index_or new.tops.items u 0 ≡ slice_index_or old.tops.items u 0) →
      ((u : ℕ) → length old.tops.items ≤ u → IsStack new.held.items (slice_index_or new.tops.items u 0)
      (slice_index_or (lens_made R.program m.did.did.kind) (u - length old.tops.items) [])) →
      AreStacks new (after_step R every n m s)
  stacks_next old new top a kept own many at others made = record {
    as_many = many ∙ (ap (λ (l : ℕ). l + length (lens_made R.program m.did.did.kind)) a.as_many ∙ sym threads_now);
    stacks = λ u. go u (u == t) refl;
  }
    where
      go : (u : ℕ) (b : Bool) → (u == t) ≡ b → IsStack new.held.items (slice_index_or new.tops.items u 0) (lens_of (thread_of (after_step R every n m s) u).calls)
      go u true f =
          subst (λ (u : ℕ). IsStack new.held.items (slice_index_or new.tops.items u 0) (lens_of (thread_of (after_step R every n m s) u).calls)) (sym (eqb-true u t f))
          (subst (λ (ls : List ℕ). IsStack new.held.items (slice_index_or new.tops.items t 0) ls) (sym own_lens)
          (subst (λ (h : ℕ). IsStack new.held.items h (lens_by_kind R.program x.op m.did.did.kind (lens_of (thread_of s t).calls))) (sym at) own))
      go u false f = apart (cases_lt u (length s.threads))
        where
          differ : u ≡ t → ⊥
          differ z = true≢false (sym (eq-eqb u t z) ∙ f)

          apart : (u < length s.threads) ⊎ (length s.threads ≤ u) → IsStack new.held.items (slice_index_or new.tops.items u 0) (lens_of (thread_of (after_step R every n m s) u).calls)
          apart (inl l) =
              let q : u < length old.tops.items = subst (λ (i : ℕ). u < i) (sym a.as_many) l in
              subst (λ (h : SymbolicThread). IsStack new.held.items (slice_index_or new.tops.items u 0) (lens_of h.calls)) (sym (thread_other R every n m s u differ l))
              (subst (λ (h : ℕ). IsStack new.held.items h (lens_of (thread_of s u).calls)) (sym (others u differ q)) (kept _ _ (a.stacks u)))
          apart (inr l) =
              let q : length old.tops.items ≤ u = subst (λ (i : ℕ). i ≤ u) (sym a.as_many) l in
              subst (λ (ls : List ℕ). IsStack new.held.items (slice_index_or new.tops.items u 0) ls) (sym (other_lens u differ l))
              (subst (λ (i : ℕ). IsStack new.held.items (slice_index_or new.tops.items u 0) (slice_index_or (lens_made R.program m.did.did.kind) (u - i) [])) a.as_many (made u q))

-- a call more leaves those that are there
get_more : {A : Type 0} (xs ys : List A) (i : ℕ) (x : A) → slice_get xs i ≡ Some x → slice_get (xs ++ ys) i ≡ Some x
get_more [] ys i x h = absurd cc
get_more (z ∷ xs) ys zero x h = h
get_more (z ∷ xs) ys (suc i) x h = get_more xs ys i x h

pub stack_more : (held more : List Held) (h : ℕ) (ls : List ℕ) → IsStack held h ls → IsStack (held ++ more) h ls
stack_more held more h [] q = q
stack_more held more h (l ∷ ls) q = (q.0, q.1, q.2, get_more held more q.0 q.1 q.3, q.4, stack_more held more q.1.under ls q.5)

get_last : {A : Type 0} (xs : List A) (x : A) → slice_get (xs ++ x ∷ []) (length xs) ≡ Some x
get_last [] x = refl
get_last (y ∷ xs) x = get_last xs x

pub stack_push : (held : List Held) (c : Held) (ls : List ℕ) → IsStack held c.under ls → IsStack (held ++ c ∷ []) (suc (length held)) (c.count ∷ ls)
stack_push held c ls q = (length held, c, refl, get_last held c, refl, stack_more held (c ∷ []) c.under ls q)

set_length : (xs : List ℕ) (i x : ℕ) → length (slice_set xs i x) ≡ length xs
set_length xs i x = length-set xs i x

-- the calls after a step, as they are kept
pub pass_is : (R : Reference) (n : ℕ) (m : Moment) (s : SymbolicState) (x : Instr) → instr_in R.program m ≡ Some x → thread_in m < length s.threads
    → (p : NumberedProgram) → R.program ≡ p → (kind : StepKind) → m.did.did.kind ≡ kind →
    (old new : Calls) (held : List Held) (tops : List ℕ) (thread before top : ℕ) → thread ≡ thread_in m → before ≡ slice_index_or old.tops.items thread 0 →
    ((h : ℕ) (ls : List ℕ) → IsStack old.held.items h ls → IsStack held h ls) → ((ls : List ℕ) → IsStack old.held.items before ls → IsStack held top (lens_by_kind p x.op kind ls)) →
    tops ≡ slice_set old.tops.items thread top → ((h : ℕ) (ls : List ℕ) → IsStack held h ls → IsStack new.held.items h ls)
    → length new.tops.items ≡ length tops + length (lens_made p kind) →
    ((u : ℕ) → length tops ≤ u → IsStack new.held.items (slice_index_or new.tops.items u 0) (slice_index_or (lens_made p kind) (u - length tops) [])) →
    ((u : ℕ) → u < length tops → slice_index_or new.tops.items u 0 ≡ slice_index_or tops u 0) → AreStacks old s → AreStacks new (after_step R every n m s)
pass_is R n m s x stands begun p program kind did old new held tops thread before top t b kept own set more many made others a =
    stacks_next R n m s x stands begun old new top a (λ h ls q. more h ls (kept h ls q)) this long at same those
  where
    present : slice_index_or old.tops.items (thread_in m) 0 ≡ before
    present = sym (b ∙ ap (λ (i : ℕ). slice_index_or old.tops.items i 0) t)

    this : IsStack new.held.items top (lens_by_kind R.program x.op m.did.did.kind (lens_of (thread_of s (thread_in m)).calls))
    this =
        subst (λ (q : NumberedProgram). IsStack new.held.items top (lens_by_kind q x.op m.did.did.kind (lens_of (thread_of s (thread_in m)).calls))) (sym program)
        (subst (λ (k : StepKind). IsStack new.held.items top (lens_by_kind p x.op k (lens_of (thread_of s (thread_in m)).calls))) (sym did)
        (more top _ (own (lens_of (thread_of s (thread_in m)).calls) (subst (λ (h : ℕ). IsStack old.held.items h (lens_of (thread_of s (thread_in m)).calls)) present (a.stacks (thread_in m))))))

    as_long : length tops ≡ length old.tops.items
    as_long = ap length set ∙ set_length old.tops.items thread top

    lens_same : lens_made p kind ≡ lens_made R.program m.did.did.kind
    lens_same = ap (λ (q : NumberedProgram). lens_made q kind) (sym program) ∙ ap (lens_made R.program) (sym did)

    long : length new.tops.items ≡ length old.tops.items + length (lens_made R.program m.did.did.kind)
    long = many ∙ (ap (λ (l : ℕ). l + length (lens_made p kind)) as_long ∙ ap (λ (ls : List (List ℕ)). length old.tops.items + length ls) lens_same)

    inside : thread_in m < length old.tops.items
    inside = subst (λ (l : ℕ). thread_in m < l) (sym a.as_many) begun

    at : slice_index_or new.tops.items (thread_in m) 0 ≡ top
    at =
        others (thread_in m) (subst (λ (l : ℕ). thread_in m < l) (sym as_long) inside)
        ∙ (ap (λ (xs : List ℕ). slice_index_or xs (thread_in m) 0) (set ∙ ap (λ (i : ℕ). slice_set old.tops.items i top) t)
        ∙ get_or-set_same old.tops.items (thread_in m) top 0 inside)

    same : (u : ℕ) → (u ≡ thread_in m → ⊥) → u < length old.tops.items → slice_index_or new.tops.items u 0 ≡ slice_index_or old.tops.items u 0
    same u o l =
        others u (subst (λ (k : ℕ). u < k) (sym as_long) l)
        ∙ (ap (λ (xs : List ℕ). slice_index_or xs u 0) set
        ∙ get_or-set_other old.tops.items thread u top 0 (λ z. o (z ∙ t)))

    those : (u : ℕ) → length old.tops.items ≤ u → IsStack new.held.items (slice_index_or new.tops.items u 0)
        (slice_index_or (lens_made R.program m.did.did.kind) (u - length old.tops.items) [])
    those u l =
        subst (λ (ls : List (List ℕ)). IsStack new.held.items (slice_index_or new.tops.items u 0) (slice_index_or ls (u - length old.tops.items) [])) lens_same
        (subst (λ (k : ℕ). IsStack new.held.items (slice_index_or new.tops.items u 0) (slice_index_or (lens_made p kind) (u - k) [])) as_long
        (made u (subst (λ (k : ℕ). k ≤ u) (sym as_long) l)))

-- the thread that is made
pub made_stack : (held : List Held) (tops new : List ℕ) (top l : ℕ) → new ≡ tops ++ top ∷ [] → IsStack held top (l ∷ []) → (u : ℕ) → length tops ≤ u →
    IsStack held (slice_index_or new u 0) (slice_index_or ((l ∷ []) ∷ []) (u - length tops) [])
made_stack held tops new top l e h u le =
    subst (λ (i : ℕ). IsStack held i (slice_index_or ((l ∷ []) ∷ []) (u - length tops) [])) (sym (ap (λ (xs : List ℕ). slice_index_or xs u 0) e
    ∙ get_or-append_right tops (top ∷ []) (length tops) u 0 refl le))
    (go (u - length tops))
  where
    go : (i : ℕ) → IsStack held (slice_index_or (top ∷ []) i 0) (slice_index_or ((l ∷ []) ∷ []) i [])
    go zero = h
    go (suc i) = refl

pub long_push : {A : Type 0} (old new : List A) (x : A) → new ≡ old ++ x ∷ [] → length new ≡ suc (length old)
long_push {A = A} old new x e = ap length e ∙ go old
  where
    go : (xs : List A) → length (xs ++ x ∷ []) ≡ suc (length xs)
    go [] = refl
    go (y ∷ xs) = ap suc (go xs)

-- ---- the registers of a function

pub types_are : (p : NumberedProgram) (f : ℕ) (g : Function) (rs : List Scalar) → slice_get p.functions f ≡ Some g → rs ≡ g.registers → length rs ≡ length (types_of p f)
unfolding types_of
types_are p f g rs q e = ap length e ∙ ap (λ (o : Option Function). length (types_in o)) (sym q)

pub no_types : (p : NumberedProgram) (f : ℕ) → length p.functions ≤ f → 0 ≡ length (types_of p f)
unfolding types_of
no_types p f l = ap (λ (o : Option Function). length (types_in o)) (sym (none_at p.functions f l))
  where
    none_at : (xs : List Function) (i : ℕ) → length xs ≤ i → slice_get xs i ≡ None
    none_at [] i l = refl
    none_at (x ∷ xs) zero l = absurd (omega (arith, l))
    none_at (x ∷ xs) (suc i) l = none_at xs i (omega (arith, l))
