-- Loads and stores fit: an exact one, or an event, at the same place; another within the recorded bounds.
use Rattle.std.proofs.Common.{◌≡◌, ℕ, ℤ, ◌==◌, ◌+◌, ◌-◌, ◌*◌, ◌^◌, zero, suc, Bool, true, false, List, [], ◌∷◌, ◌++◌, map, Option, Some, None, Result}
use Rattle.std.proofs.Common.{Ok, Err, refl, sym, ap, ◌∙◌, subst, arith}
use Rattle.std.specs.Prelude.{◌&&◌, ◌||◌, not, nat_lt, nat_le, is_some, slice_get, if◌then◌else◌}
use Rattle.std.specs.List.{AllByRecursion as AllOf, list_any}
use Rattle.std.proofs.lemmas.Bool.{and_parts, eqb-true, true≢false}
use Rattle.pg_num.specs.Places.{ByteRange}
use Rattle.pg_num.specs.Pointers.{byte_place, place_of, pointer_of}
use Rattle.pg_num.specs.declared.layout.TheConstants.{MEMORY_BYTES}
use Rattle.pg_num.specs.declared.places.PlaceFault.{PlaceFault}
use Rattle.pg_num.specs.declared.places.PlaceFault.TheVariants as fault
use Rattle.pg_ir.specs.declared.value.Value.{Value}
use Rattle.pg_run_memory.specs.Bytes.{number_of}
use Rattle.pg_precondition.specs.declared.check.Test.TheVariants as test
use Rattle.pg_precondition.specs.Values as nodes
use Rattle.pg_precondition.specs.Values.{is_met}
use Rattle.pg_run_thread.specs.declared.action.Action.{Action}
use Rattle.pg_run_thread.specs.Operands.{operand, operands_of}
use Rattle.pg_run_thread.specs.States.{CanStep}
use Rattle.pg_run_thread.specs.Step.{on_place, placed}
use Rattle.pg_run_trace.specs.declared.step.Access.{Access}
use Rattle.pg_run_trace.specs.declared.step.Step.{Step}
use Rattle.pg_run_trace.specs.declared.step.StepKind.{StepKind}
use Rattle.pg_run_trace.specs.declared.step.StepKind.TheVariants as kinds
use Rattle.pg_run_trace.specs.Races.{is_in, reply_in}
use Rattle.pg_run_trace.specs.Steps.{access_in, event_of, happening_in, range_of, turn_at}
use Rattle.pg_run.specs.State.{State}
use Rattle.pg_run.proofs.ActionPlaces.{place_is}
use Rattle.pg_law_effects.specs.Views.{is_thread}
use Rattle.pg_slice_rules.specs.Freeable.{bounds_of}
use Rattle.pg_slice_rules.specs.Known.{Taken, operand_at}
use Rattle.pg_slice_rules.specs.Moments.{thread_in}
use Rattle.pg_slice_rules.specs.Rules.{Footprint, Need, Value as ValueNeed, Bounds as BoundsNeed, access_needs_by, access_needs_in, address_index, kind_in, operand_of, same_bounds}
use Rattle.pg_slice_rules.specs.Rules.{value_needs}
use Rattle.pg_slice_rules.specs.SymbolicValues.{OnInput, Symbolic, Known, Bounded, Unknown, cut, bounds_word, joined, loaded, symbolic_of, valued}
use Rattle.pg_law_plan.specs.Likes.{HaveSameBounds, HasBoundsOf, IsLike, IsToldLike}
use Rattle.pg_law_plan.specs.Units.{PlanUnit, ReferenceRun, access_touch, instance_touch, is_event_at, is_read_in, is_written_in, range_touched, reads_cell, reference_of, touch_of, word_read}
use Rattle.pg_law_plan.specs.Units.{word_written, writes_cell}
use Rattle.pg_law_plan.proofs.BranchFits.{eq_met, needs_here, top_known}
use Rattle.pg_law_plan.proofs.StepChecks.{Holds, IsGood}
use Rattle.pg_law_plan.proofs.LocalStepFits.{Pair, instr_is, same_instr}
use Rattle.pg_law_plan.proofs.LikeOperands.{from_like, like_value, operand_like, valued_like}
use Rattle.pg_law_plan.proofs.AccessesInBounds.{in_bounds, place_range}

-- ---- actions that can be done

pub place_done : (word bytes : ℕ) (act : ByteRange → Action) → CanStep (on_place word bytes act) → (r : ByteRange) × (place_of word bytes ≡ Ok r) × (on_place word bytes act ≡ act r)
place_done word bytes act h = go (place_of word bytes) refl h
  where
    go : (o : Result ByteRange PlaceFault) → place_of word bytes ≡ o → CanStep (placed o act) → (r : ByteRange) × (place_of word bytes ≡ Ok r) × (on_place word bytes act ≡ act r)
    go (Ok r) e h = (r, e, ap (λ (z : Result ByteRange PlaceFault). placed z act) e)
    go (Err fault.OutOfRange) e h = absurd h
    go (Err fault.Misaligned) e h = absurd h

-- ---- bounds

bounds_is : (word n : ℕ) → HaveSameBounds word n → bounds_of n ≡ bounds_of word
bounds_is word n h = ap (λ (s : ℕ). record { start = 8 * s; bytes = (pointer_of n).length }) h.start ∙ ap (λ (l : ℕ). record { start = 8 * (pointer_of word).start; bytes = l }) h.length

met_bounds : (word : ℕ) (o : Option ℕ) → is_met (same_bounds word) o ≡ true → (n : ℕ) × (o ≡ Some n) × HaveSameBounds word n
met_bounds word None h = absurd (true≢false (sym h))
met_bounds word (Some n) h =
    let p = and_parts ((pointer_of n).start == (pointer_of word).start) ((pointer_of n).length == (pointer_of word).length) h in
    (n, refl, record { start = eqb-true (pointer_of n).start (pointer_of word).start p.0; length = eqb-true (pointer_of n).length (pointer_of word).length p.1 })

pub bounded_same : (input : List ℤ) (s : Symbolic) (f : OnInput) (word0 word : ℕ) → bounds_word s ≡ Some f → IsLike input s (Some word) → is_met (same_bounds word0) (f input) ≡ true
    → HaveSameBounds word0 word
bounded_same input (Known v g) f word0 word e h m =
    let same : g ≡ f = cc in
    let k = met_bounds word0 (f input) m in
    let j : HaveSameBounds k.0 word = subst (λ (o : Option ℕ). HasBoundsOf o (Some word)) (ap (λ (z : OnInput). z input) same ∙ k.1) h.1 in
    record { start = j.start ∙ k.2.start; length = j.length ∙ k.2.length }
bounded_same input (Bounded g x) f word0 word e h m =
    let same : g ≡ f = cc in
    let k = met_bounds word0 (f input) m in
    let j : HaveSameBounds k.0 word = subst (λ (o : Option ℕ). HasBoundsOf o (Some word)) (ap (λ (z : OnInput). z input) same ∙ k.1) h in
    record { start = j.start ∙ k.2.start; length = j.length ∙ k.2.length }
bounded_same input (Unknown x) f word0 word e h m = absurd cc

-- ---- bytes

pub cut_like : (input : List ℤ) (f : ℕ → ℕ) (s : Symbolic) (n : ℕ) → IsLike input s (Some n) → IsLike input (cut f s) (Some (f n))
cut_like input f (Known g u) n h = valued_like input (λ i. nodes.with_one (g i) (λ m. Some (f m))) (Some (f n)) (ap (λ (o : Option ℕ). nodes.with_one o (λ m. Some (f m))) h.0)
cut_like input f (Bounded g x) n h = tt
cut_like input f (Unknown x) n h = tt

joined_like : (input : List ℤ) (low high : Symbolic) (b n : ℕ) → IsLike input low (Some b) → IsLike input high (Some n) → IsLike input (joined low high) (Some (n * 2 ^ 8 + b))
joined_like input low high b n h k = from_like input (low ∷ high ∷ []) (Some b ∷ Some n ∷ [])
    (λ gs. valued (λ i. nodes.with_both (nodes.number_of (gs i) 0) (nodes.number_of (gs i) 1) (λ b n. Some (n * 2 ^ 8 + b)))) (Some (n * 2 ^ 8 + b)) (h, (k, tt))
    (λ gs e. valued_like input (λ i. nodes.with_both (nodes.number_of (gs i) 0) (nodes.number_of (gs i) 1) (λ b n. Some (n * 2 ^ 8 + b))) (Some (n * 2 ^ 8 + b))
    (ap (λ (l : List (Option ℕ)). nodes.with_both (nodes.number_of l 0) (nodes.number_of l 1) (λ b n. Some (n * 2 ^ 8 + b))) (sym e)))

pub loaded_like : (input : List ℤ) (bytes : ℕ → Symbolic) (m : ℕ → ℕ) (at n : ℕ)
    → ((c : ℕ) → is_in (record { start = at; bytes = n }) c ≡ true → IsLike input (bytes c) (Some (m c))) → IsLike input (loaded bytes at n) (Some (number_of m at n))
unfolding number_of
loaded_like input bytes m at zero h = valued_like input (λ i. Some 0) (Some 0) refl
loaded_like input bytes m at (suc n) h =
    let next : at + 1 ≡ suc at = omega arith in
    joined_like input (bytes at) (loaded bytes (at + 1) n) (m at) (number_of m (suc at) n) (h at (first at n))
    (subst (λ (z : ℕ). IsLike input (loaded bytes z n) (Some (number_of m (suc at) n))) (sym next) (loaded_like input bytes m (suc at) n (λ c i. h c (later at n c i))))
  where
    first : (a k : ℕ) → (nat_le a a && nat_lt a (a + suc k)) ≡ true
    first a k = Rattle.std.proofs.lemmas.Bool.and_from (nat_le a a) (nat_lt a (a + suc k)) (Rattle.std.proofs.lemmas.Bool.le-leb a a (omega arith))
        (Rattle.std.proofs.lemmas.Bool.lt-ltb a (a + suc k) (omega arith))

    later : (a k c : ℕ) → (nat_le (suc a) c && nat_lt c (suc a + k)) ≡ true → (nat_le a c && nat_lt c (a + suc k)) ≡ true
    later a k c i =
        let p = and_parts (nat_le (suc a) c) (nat_lt c (suc a + k)) i in
        let x = Rattle.std.proofs.lemmas.Bool.leb-true (suc a) c p.0 in
        let z = Rattle.std.proofs.lemmas.Bool.ltb-true c (suc a + k) p.1 in
        Rattle.std.proofs.lemmas.Bool.and_from (nat_le a c) (nat_lt c (a + suc k)) (Rattle.std.proofs.lemmas.Bool.le-leb a c (omega (arith, x)))
        (Rattle.std.proofs.lemmas.Bool.lt-ltb c (a + suc k) (omega (arith, z)))

-- ---- a step at an access, in both runs

module _ (r : ReferenceRun) (d : Taken) (input : List ℤ) (u : PlanUnit) (st : State) (moves : ℕ → ℕ) (y : Step) (q : Pair r d input u st moves y)
    (good : IsGood (reference_of r) d input u.seen) where
  pub record Access' : Type 0 where
    pub word0 : ℕ
    pub word : ℕ
    pub q0 : ByteRange
    pub q1 : ByteRange
    pub size : ℕ
    pub number0 : ℕ
    pub number : ℕ
    pub writes : Bool
    pub event : Bool
    pub kind0 : kind_in u.seen ≡ kinds.Access (record { pointer = word0; number = number0; bytes = q0.bytes; writes = writes; event = event })
    pub kind : y.kind ≡ kinds.Access (record { pointer = word; number = number; bytes = q1.bytes; writes = writes; event = event })
    pub place0 : place_of word0 size ≡ Ok q0
    pub place : place_of word size ≡ Ok q1
    pub at : Value
    pub index : slice_get (operands_of q.both.x.op) (address_index q.both.x.op) ≡ Some at
    pub address : operand r.program q.both.f.registers at ≡ Some word

  module _ (a : Access') where
    abbrev pub told_access : Access
    told_access = record { pointer = a.word0; number = a.number0; bytes = a.q0.bytes; writes = a.writes; event = a.event }

    abbrev pub fixed : Bool
    fixed = a.event || d.exact u.seen.number

    address_like : IsLike input (operand_of r.program u.seen q.both.x (address_index q.both.x.op)) (Some a.word)
    address_like = subst (λ (o : Option ℕ). IsLike input (operand_of r.program u.seen q.both.x (address_index q.both.x.op)) o) a.address
        (subst (λ (s : Symbolic). IsLike input s (operand r.program q.both.f.registers a.at))
        (at_known (operands_of q.both.x.op) (address_index q.both.x.op) a.at a.index
        ∙ ap (λ (ss : List Symbolic). operand_at r.program ss q.both.x.op (address_index q.both.x.op)) (sym (top_known r d input u st moves y q)))
        (operand_like input r.program q.both.ks q.both.f.registers q.both.top.registers a.at))
      where
        at_known : (vs : List Value) (i : ℕ) (v : Value) → slice_get vs i ≡ Some v
            → symbolic_of r.program q.both.ks v ≡ Rattle.std.specs.Prelude.slice_index_or (map (symbolic_of r.program q.both.ks) vs) i Rattle.pg_slice_rules.specs.SymbolicValues.unset
        at_known [] i v g = absurd cc
        at_known (w ∷ vs) zero v g = let same : v ≡ w = cc in ap (symbolic_of r.program q.both.ks) same
        at_known (w ∷ vs) (suc i) v g = at_known vs i v g

    -- the address has the recorded bounds
    pub equal_bounds : HaveSameBounds a.word0 a.word
    equal_bounds =
        let needs : access_needs_in r.program u.seen (Rattle.pg_slice_rules.specs.Moments.instr_in r.program u.seen.moment)
        ≡ BoundsNeed (operand_of r.program u.seen q.both.x (address_index q.both.x.op)) (same_bounds a.word0) ∷ [] =
        ap (access_needs_in r.program u.seen) (instr_is r d input u st moves y q) ∙ ap (λ (b : Bool). if b then access_needs_by r.program u.seen q.both.x (kind_in u.seen) else []) q.unit.live
        ∙ ap (access_needs_by r.program u.seen q.both.x) a.kind0 in
        let h = first_of (BoundsNeed (operand_of r.program u.seen q.both.x (address_index q.both.x.op)) (same_bounds a.word0)) _
        (subst (λ (ns : List Need). AllOf (Holds input) (ns ++ (if u.seen.live then Rattle.pg_slice_rules.specs.Rules.region_needs_in r.program u.seen u.seen.region else []))) needs good.bounds) in
        bounded_same input (operand_of r.program u.seen q.both.x (address_index q.both.x.op)) h.0 a.word0 a.word h.1 address_like h.2
      where
        first_of : (n : Need) (ns : List Need) → AllOf (Holds input) (n ∷ ns) → Holds input n
        first_of n ns h = h.0

    -- and is the recorded one, where the access is exact or an event
    pub same_word : fixed ≡ true → a.word ≡ a.word0
    same_word e =
        let needs : value_needs (reference_of r) d u.seen ≡ ValueNeed (operand_of r.program u.seen q.both.x (address_index q.both.x.op)) (test.Eq a.word0 ∷ []) ∷ [] =
        needs_here r d input u st moves y q (kinds.Access told_access) a.kind0
        ∙ ap (λ (b : Bool). if b then ValueNeed (operand_of r.program u.seen q.both.x (address_index q.both.x.op)) (test.Eq a.word0 ∷ []) ∷ [] else []) e in
        let h = (subst (AllOf (Holds input)) needs good.values).0 in
        let known : Some a.word ≡ h.0 input = like_value input (operand_of r.program u.seen q.both.x (address_index q.both.x.op)) h.0 (Some a.word) h.1 address_like in
        eq_met a.word0 a.word (subst (λ (o : Option ℕ). is_met (test.Eq a.word0) o ≡ true) (sym known) h.2.0)

    size0 : a.q0.bytes ≡ a.size
    size0 = ap (λ (z : ByteRange). z.bytes) (sym (place_is a.word0 a.size a.q0 a.place0))

    pub same_range : fixed ≡ true → a.q1 ≡ range_of told_access
    same_range e = sym (place_is a.word a.size a.q1 a.place) ∙ ap (λ (w : ℕ). record { start = byte_place w; bytes = a.size }) (same_word e)
        ∙ ap (λ (n : ℕ). record { start = byte_place a.word0; bytes = n }) (sym size0)

    -- its bytes are among those that the unit may touch
    pub within : (c : ℕ) → is_in a.q1 c ≡ true → is_in (range_touched fixed told_access) c ≡ true
    within c h = go fixed refl
      where
        go : (b : Bool) → fixed ≡ b → is_in (range_touched b told_access) c ≡ true
        go true e = subst (λ (z : ByteRange). is_in z c ≡ true) (same_range e) h
        go false e =
            let access : Access = record { pointer = a.word; number = a.number; bytes = a.size; writes = a.writes; event = a.event } in
            subst (λ (z : ByteRange). is_in z c ≡ true) (bounds_is a.word0 a.word equal_bounds)
            (in_bounds access c (place_range a.word a.size a.q1 a.place) (subst (λ (z : ByteRange). is_in z c ≡ true) (sym (place_is a.word a.size a.q1 a.place)) h))

    touch_here : touch_of d u.seen ≡ record { bytes = range_touched fixed told_access; writes = a.writes } ∷ []
    touch_here = ap (λ (k : StepKind). access_touch d u.seen.number (access_in k) ++ instance_touch d u.seen) a.kind0
        ∙ ap (λ (b : Bool). record { bytes = range_touched fixed told_access; writes = a.writes } ∷ (if b then Rattle.pg_slice_rules.specs.Rules.footprints_in u.seen.region else [])) q.plain

    no_word : word_written (thread_in u.seen.moment) (kind_in u.seen) ≡ None
    no_word = ap (word_written (thread_in u.seen.moment)) a.kind0

    or_nothing : (b : Bool) → (b || false) ≡ b
    or_nothing true = refl
    or_nothing false = refl

    pub writes_here : (c : ℕ) → writes_cell d u.seen c ≡ (if nat_lt c MEMORY_BYTES then a.writes && is_in (range_touched fixed told_access) c else false)
    writes_here c = ap (λ (fs : List Footprint). if nat_lt c MEMORY_BYTES then list_any (λ f. is_written_in f c) fs else is_thread (word_written (thread_in u.seen.moment) (kind_in u.seen))
        (c - MEMORY_BYTES)) touch_here
        ∙ ap (λ (o : Option ℕ). if nat_lt c MEMORY_BYTES then ((a.writes && is_in (range_touched fixed told_access) c) || false) else is_thread o (c - MEMORY_BYTES)) no_word
        ∙ ap (λ (b : Bool). if nat_lt c MEMORY_BYTES then b else false) (or_nothing (a.writes && is_in (range_touched fixed told_access) c))

    pub reads_here : (c : ℕ) → reads_cell d u.seen c ≡ (if nat_lt c MEMORY_BYTES then not a.writes && is_in (range_touched fixed told_access) c else false)
    reads_here c = ap (λ (fs : List Footprint). if nat_lt c MEMORY_BYTES then list_any (λ f. is_read_in f c) fs else is_thread (word_read (thread_in u.seen.moment) (kind_in u.seen))
        (c - MEMORY_BYTES)) touch_here
        ∙ ap (λ (o : Option ℕ). if nat_lt c MEMORY_BYTES then ((not a.writes && is_in (range_touched fixed told_access) c) || false) else is_thread o (c - MEMORY_BYTES))
        (ap (word_read (thread_in u.seen.moment)) a.kind0)
        ∙ ap (λ (b : Bool). if nat_lt c MEMORY_BYTES then b else false) (or_nothing (not a.writes && is_in (range_touched fixed told_access) c))

    -- ---- what is told

    happens_alike : happening_in y.kind ≡ happening_in (kind_in u.seen)
    happens_alike = go a.event refl
      where
        go : (b : Bool) → a.event ≡ b → happening_in y.kind ≡ happening_in (kind_in u.seen)
        go true e =
            let fix : fixed ≡ true = rw e refl in
            ap happening_in a.kind ∙ ap (λ (w : ℕ). happening_in (kinds.Access (record { pointer = w; number = a.number; bytes = a.q1.bytes; writes = a.writes; event = a.event })))
            (same_word fix) ∙ sym (ap happening_in a.kind0)
        go false e =
            ap happening_in a.kind ∙ ap (λ (v : Bool). happening_in (kinds.Access (record { pointer = a.word; number = a.number; bytes = a.q1.bytes; writes = a.writes; event = v }))) e
            ∙ sym (ap happening_in a.kind0 ∙ ap (λ (v : Bool). happening_in (kinds.Access (record { pointer = a.word0; number = a.number0; bytes = a.q0.bytes; writes = a.writes; event = v }))) e)

    pub told_alike : IsToldLike u.seen.moment.did.did y
    told_alike = record {
      thread = ap (λ (v : ℕ). record { 0 = v }) q.own;
      instr = same_instr r d input u st moves y q;
      turn = ap (turn_at y) happens_alike ∙ turn_same (happening_in (kind_in u.seen));
      reply = ap reply_in a.kind ∙ sym (ap reply_in a.kind0);
    }
      where
        turn_same : (o : Option Rattle.pg_run_trace.specs.declared.step.Happening.Happening) → turn_at y o ≡ turn_at u.seen.moment.did.did o
        turn_same None = refl
        turn_same (Some h) = ap (λ (v : ℕ). Some (record { thread = record { 0 = v }; instr = y.instr; kind = h.kind; object = h.object })) q.own
            ∙ ap (λ i. Some (record { thread = u.seen.moment.did.did.thread; instr = i; kind = h.kind; object = h.object })) (same_instr r d input u st moves y q)

    pub event_alike : is_some (event_of y) ≡ is_event_at u.seen
    event_alike = some_turn (happening_in y.kind) ∙ ap is_some happens_alike
      where
        some_turn : (o : Option Rattle.pg_run_trace.specs.declared.step.Happening.Happening) → is_some (turn_at y o) ≡ is_some o
        some_turn None = refl
        some_turn (Some h) = refl
