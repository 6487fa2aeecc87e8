-- The words of threads that have to be known, from behind a live step to before it.
use Rattle.std.proofs.Common.{◌≡◌, ℕ, zero, suc, ◌+◌, ◌<◌, ◌≤◌, ◌==◌, Bool, true, false, List, [], ◌∷◌, length, Option, Some, None, refl, sym, ap, ◌∙◌, subst, arith}
use Rattle.std.proofs.Common.{inl, inr, ◌⊎◌}
use Rattle.std.specs.Prelude.{IfNone, IfSome, ◌&&◌, is_some, nat_lt, not, if◌then◌else◌, replicate, slice_index_or}
use Rattle.std.specs.List.{AllByRecursion}
use Rattle.std.proofs.lemmas.Bool.{true≢false, eqb-true, eq-eqb, le-leb, lt-ltb}
use Rattle.pg_ir.specs.declared.instr.Instr.{Instr}
use Rattle.pg_ir.specs.declared.instr.Op.{Op}
use Rattle.pg_ir.specs.Program.{NumberedProgram, parameter_count}
use Rattle.pg_run_trace.specs.declared.turn.TurnKind.{TurnKind}
use Rattle.pg_run_trace.specs.declared.turn.TurnKind.TheVariants as turns
use Rattle.pg_run_trace.specs.declared.turn.TurnKind.TheVariants.{Create, Exit, Join, Start}
use Rattle.pg_run_trace.specs.declared.step.Step.{Step}
use Rattle.pg_run_trace.specs.declared.step.StepKind.{StepKind}
use Rattle.pg_run_trace.specs.declared.step.StepKind.TheVariants as kinds
use Rattle.pg_run_trace.specs.declared.step.Event.{Event}
use Rattle.pg_run_trace.specs.declared.step.Write.{Write}
use Rattle.pg_run_trace.specs.Steps.{range_of, write_by}
use Rattle.pg_slice_rules.specs.Moments.{Moment}
use Rattle.pg_slice_rules.specs.SymbolicValues.{is_within}
use Rattle.pg_slice_rules.specs.Known.{Reference, SymbolicState, Taken, function_in}
use Rattle.pg_slice_back.specs.pg_law_least.Keeps.{every}
use Rattle.pg_slice_back.proofs.of_pg_law_least.LikeValues.{Likes}
use Rattle.pg_slice_back.specs.pg_slice_replay.declared.run.ReferenceRun.{ReferenceRun}
use Rattle.pg_slice_back.specs.pg_slice_replay.Kept.{landmark_at}
use Rattle.pg_slice_back.specs.pg_slice_replay.Landmarks.{Landmark}
use Rattle.pg_slice_back.specs.pg_law_demands.Cells.{IsMet, Word}
use Rattle.pg_slice_back.specs.pg_law_demands.Back.{Asked, back, back_byte, back_event, back_exit, back_start, back_top, back_word, back_word_event, back_write, back_written, byte_demand, of_operand, only, register_demand}
use Rattle.pg_slice_back.specs.pg_law_demands.Back.{word_demand}
use Rattle.pg_slice_back.proofs.of_pg_law_demands.DemandsBack.{Asks}
use Rattle.pg_slice_back.proofs.of_pg_law_demands.StepBack.{step_back}
use Rattle.pg_slice_demands.specs.declared.demanded.Demanded.{Demanded}
use Rattle.pg_slice_demands.specs.Asked.{asks_byte}
use Rattle.pg_slice_demands.specs.declared.call.Call.{Call}
use Rattle.pg_slice_back.specs.declared.registers.Counts.{Counts}
use Rattle.pg_slice_back.specs.Met.{AreMet}
use Rattle.pg_slice_back.specs.Steps.{IsCallOf, IsLiveStep}
use Rattle.pg_slice_back.proofs.Dispatch.{landmark_is}
use Rattle.pg_slice_back.proofs.KnownBefore.{the_link}
use Rattle.pg_slice_back.proofs.KnownBackOverSteps as live
use Rattle.pg_slice_walk.specs.Words.{AreWordsMet, AsksArgument, IsWordMet, WritesAsked}
use Rattle.pg_slice_walk.specs.declared.words.AskedWord.{AskedWord}
use Rattle.pg_slice_walk.proofs.PassedExtents.{step_is}
use Rattle.pg_slice_walk.proofs.ThreadWords.{words_at}

-- the first of what two tests choose, where both hold
chosen : (e : Taken) (s : SymbolicState) (a b : Bool) (x y z : Asked) → a ≡ true → b ≡ true → Asks e s (if a then (if b then x else y) else z) → Asks e s x
chosen e s true true x y z f g h = h
chosen e s true false x y z f g h = absurd (true≢false (sym g))
chosen e s false b x y z f g h = absurd (true≢false (sym f))

chosen_one : (e : Taken) (s : SymbolicState) (a : Bool) (x y : Asked) → a ≡ true → Asks e s (if a then x else y) → Asks e s x
chosen_one e s true x y f h = h
chosen_one e s false x y f h = absurd (true≢false (sym f))

module _ (R : Reference) (e : Taken) (p : NumberedProgram) (r : ReferenceRun) (x : Instr) (step : Step) (counts : Counts) (n : ℕ) (m : Moment) (st : IsLiveStep R e p r x step counts n m) where
  open live.standing R e p r x step counts n m st use {s, after, t, k}

  abbrev u : SymbolicState
  u = live.u R e p r x step counts n m st

  word_back : (w : ℕ) (whole : Bool) → IsMet after (word_demand w whole) → Asks e s (back_word t k (length u.words) x.op w whole m.did.did.kind)
  word_back w whole h =
      let a = live.here R e p r x step counts n m st in
      subst (λ (o : Option Instr). Asks e s (back R.program (live.y R e p r x step counts n m st) o (word_demand w whole))) st.instr
      (step_back R st.keeps e (length R.moments) (Likes every) (the_link e (length R.moments)) n m s u a.like a.in_run st.live (word_demand w whole)
      (subst (λ (z : SymbolicState). IsMet z (word_demand w whole)) (step_is R st.keeps e n m st.stands) h))

  kind_is : (c : StepKind) → step.kind ≡ c → m.did.did.kind ≡ c
  kind_is c q = ap (λ (z : Step). z.kind) st.did ∙ q

  -- of a step that is no event
  plain_word : (c : StepKind) → ((v : Event) → c ≡ kinds.Event v → ⊥) → (w : ℕ) (whole : Bool) → Asks e s (back_word t k (length u.words) x.op w whole c)
      → IsMet s (word_demand w whole)
  plain_word (kinds.Event v) o w whole h = absurd (o v refl)
  plain_word c o w whole h = h.0.0

  pub plain_words : (words : List (Option Bool)) → ((v : Event) → step.kind ≡ kinds.Event v → ⊥) → AreWordsMet after words → AreWordsMet s words
  plain_words words o a = record { by = λ w b q. plain_word m.did.did.kind (λ v f. o v (sym (ap (λ (z : Step). z.kind) st.did) ∙ f)) w b (word_back w b (a.by w b q)) }

  module _ (v : Event) (kind : step.kind ≡ kinds.Event v) where
    event_word : (w : ℕ) (whole : Bool) → IsMet after (word_demand w whole) → Asks e s (back_word_event t k (length u.words) x.op w whole v.kind)
    event_word w whole h = subst (λ (c : StepKind). Asks e s (back_word t k (length u.words) x.op w whole c)) (kind_is (kinds.Event v) kind) (word_back w whole h)

    kept_word : (c : TurnKind) (w : ℕ) (whole : Bool) → (c ≡ Exit → w ≡ t → ⊥) → (c ≡ Create → w ≡ length u.words → ⊥)
        → Asks e s (back_word_event t k (length u.words) x.op w whole c) → IsMet s (word_demand w whole)
    kept_word turns.Exit w whole o g h = go (w == t) refl h
      where
        go : (b : Bool) → (w == t) ≡ b → Asks e s (if b then (if nat_lt w (length u.words) then back_exit t k whole x.op else only []) else only (word_demand w whole ∷ []))
            → IsMet s (word_demand w whole)
        go true f h = absurd (o refl (eqb-true w t f))
        go false f h = h.0.0
    kept_word turns.Create w whole o g h = go (w == length u.words) refl h
      where
        go : (b : Bool) → (w == length u.words) ≡ b → Asks e s (if b then only (of_operand t k whole x.op 3) else only (word_demand w whole ∷ [])) → IsMet s (word_demand w whole)
        go true f h = absurd (g refl (eqb-true w (length u.words) f))
        go false f h = h.0.0
    kept_word c w whole o g h = h.0.0

    many : counts.threads ≡ length u.words
    many = st.counted.threads ∙ sym (words_at R every n)

    -- all but that of the own thread, where it exits, and of the thread that is made
    pub event_words : (old new : List (Option Bool)) → ((w : ℕ) (b : Bool) → slice_index_or new w None ≡ Some b → slice_index_or old w None ≡ Some b)
        → ((w : ℕ) (b : Bool) → slice_index_or new w None ≡ Some b → v.kind ≡ Exit → w ≡ t → ⊥)
        → ((w : ℕ) (b : Bool) → slice_index_or new w None ≡ Some b → v.kind ≡ Create → w ≡ counts.threads → ⊥) → AreWordsMet after old → AreWordsMet s new
    event_words old new f o g a = record { by = λ w b q. kept_word v.kind w b (o w b q) (λ z y. g w b q z (y ∙ sym many)) (event_word w b (a.by w b (f w b q))) }

    pub exit_asks : v.kind ≡ Exit → (words : List (Option Bool)) (whole : Bool) → slice_index_or words t None ≡ Some whole → AreWordsMet after words
        → AllByRecursion (IsMet s) (back_exit t k whole x.op).demands
    exit_asks q words whole f a =
        let h : Asks e s (back_word_event t k (length u.words) x.op t whole Exit) =
        subst (λ (c : TurnKind). Asks e s (back_word_event t k (length u.words) x.op t whole c)) q (event_word t whole (a.by t whole f)) in
        let begun = st.keeps.known (live.y R e p r x step counts n m st) (live.here R e p r x step counts n m st).in_run in
        let l = words_at R every n in
        (chosen e s (t == t) (nat_lt t (length u.words)) (back_exit t k whole x.op) (only []) (only (word_demand t whole ∷ [])) (eq-eqb t t refl)
        (lt-ltb t (length u.words) (omega (arith, begun, l))) h).0

    pub create_asks : v.kind ≡ Create → (words : List (Option Bool)) (whole : Bool) → slice_index_or words counts.threads None ≡ Some whole → AreWordsMet after words
        → AllByRecursion (IsMet s) (of_operand t k whole x.op 3)
    create_asks q words whole f a =
        let h : Asks e s (back_word_event t k (length u.words) x.op counts.threads whole Create) =
        subst (λ (z : TurnKind). Asks e s (back_word_event t k (length u.words) x.op counts.threads whole z)) q (event_word counts.threads whole (a.by counts.threads whole f)) in
        (chosen_one e s (counts.threads == length u.words) (only (of_operand t k whole x.op 3)) (only (word_demand counts.threads whole ∷ [])) (eq-eqb counts.threads (length u.words) many) h).0

    pub join_asks : v.kind ≡ Join → (w : Demanded) → AreMet after w → (y : AskedWord) → (z : Write) × (v.write ≡ Some z) × WritesAsked w z × (y.thread ≡ v.object) × (y.whole ≡ true)
        → IsWordMet s y
    join_asks q w a y j = subst (λ (i : ℕ). IsMet s (word_demand i y.whole)) (sym j.3) (subst (λ (b : Bool). IsMet s (word_demand v.object b)) (sym j.4) written.0.0)
      where
        stored : Asks e s (back_write v v.write j.2.0 true)
        stored = subst (λ (c : StepKind). Asks e s (back_byte t k n (live.region R e p r x step counts n m st) x j.2.0 true c)) (kind_is (kinds.Event v) kind)
            (live.byte_back R e p r x step counts n m st j.2.0 (a.bytes j.2.0 j.2.2))

        written : Asks e s (back_written v Join)
        written = subst (λ (c : TurnKind). Asks e s (back_written v c)) q
            (chosen_one e s (is_within (range_of (write_by j.0)) j.2.0) (back_written v v.kind) (only (byte_demand j.2.0 true ∷ [])) j.2.1
            (subst (λ (o : Option Write). Asks e s (back_write v o j.2.0 true)) j.1 stored))

    pub start_asks : v.kind ≡ Start → (w : Demanded) → AreMet after w → (at : Call) → IsCallOf m at → (count : ℕ) → counts.present ≡ count → (f : ℕ)
        → IfSome (landmark_at r n) (λ (l : Landmark). f ≡ l.function) → (y : AskedWord) → (y.thread ≡ at.thread.0) × AsksArgument p w f at count y.whole
        → IsWordMet s y
    start_asks q w a at call count present f h y j = subst (λ (i : ℕ). IsMet s (word_demand i y.whole)) (sym (j.0 ∙ call.thread)) (given (parameter_count R.program (function_in m.calls) == 0) refl asked)
      where
        function_is : f ≡ function_in m.calls
        function_is = subst (λ (o : Option Landmark). IfSome o (λ (l : Landmark). f ≡ l.function)) (landmark_is R e p r x step counts n m st) h

        some : parameter_count R.program (function_in m.calls) ≡ 0 → ⊥
        some z = j.1.0 (ap (λ (g : NumberedProgram). parameter_count g f) (sym st.program) ∙ ap (λ (i : ℕ). parameter_count R.program i) function_is ∙ z)

        register : IsMet after (register_demand t k 0 y.whole)
        register = subst (λ (i : ℕ). IsMet after (register_demand i k 0 y.whole)) call.thread
            (subst (λ (i : ℕ). IsMet after (register_demand at.thread.0 i 0 y.whole)) call.depth (a.registers at.thread.0 at.depth 0 y.whole j.1.2))

        asked : Asks e s (back_start (parameter_count R.program (function_in m.calls)) t k 0 y.whole)
        asked = subst (λ (c : TurnKind). Asks e s (back_event R.program t k m x 0 y.whole c)) q
            (subst (λ (c : StepKind). Asks e s (back_top R.program t k n m (live.region R e p r x step counts n m st) x 0 y.whole c)) (kind_is (kinds.Event v) kind)
            (live.present_back R e p r x step counts n m st 0 y.whole (let l = j.1.1 in omega (arith, l, present)) register))

        given : (b : Bool) → (parameter_count R.program (function_in m.calls) == 0) ≡ b → Asks e s (if not b && true then only (record { cell = Word t; whole = y.whole } ∷ []) else only (register_demand t k 0 y.whole ∷ []))
            → IsMet s (word_demand t y.whole)
        given true z h = absurd (some (eqb-true (parameter_count R.program (function_in m.calls)) 0 z))
        given false z h = h.0.0

    -- before an event, what has to be known behind it
    pub kept_met : (v.kind ≡ Exit → ⊥) → (v.kind ≡ Create → ⊥) → (words : List (Option Bool)) → AreWordsMet after words → AreWordsMet s words
    kept_met o g words a = event_words words words (λ w b q. q) (λ w b q z y. o z) (λ w b q z y. g z) a

    pub exited_met : v.kind ≡ Exit → (at : Call) → IsCallOf m at → (o : Op) → x.op ≡ o → (old new : List (Option Bool)) (w z : Demanded)
        → ((i : ℕ) (b : Bool) → slice_index_or new i None ≡ Some b → (slice_index_or old i None ≡ Some b) × (i ≡ at.thread.0 → ⊥))
        → ((k : SymbolicState) → ((b : Bool) → slice_index_or old at.thread.0 None ≡ Some b → AllByRecursion (IsMet k) (back_exit at.thread.0 at.depth b o).demands) → AreMet k w → AreMet k z)
        → AreWordsMet after old → AreMet s w → AreMet s z × AreWordsMet s new
    exited_met q at call o same old new w z f g a met = (
      g s (λ b h. asked b (exit_asks q old b (subst (λ (i : ℕ). slice_index_or old i None ≡ Some b) call.thread h) a)) met,
      event_words old new (λ i b h. (f i b h).0) (λ i b h c y. (f i b h).1 (y ∙ sym call.thread)) (λ i b h c y. apart (sym q ∙ c)) a,
    )
      where
        apart : Exit ≡ Create → ⊥
        apart c = absurd cc

        asked : (w : Bool) → AllByRecursion (IsMet s) (back_exit t k w x.op).demands → AllByRecursion (IsMet s) (back_exit at.thread.0 at.depth w o).demands
        asked w h =
            subst (λ (i : ℕ). AllByRecursion (IsMet s) (back_exit i at.depth w o).demands) (sym call.thread)
            (subst (λ (i : ℕ). AllByRecursion (IsMet s) (back_exit t i w o).demands) (sym call.depth)
            (subst (λ (b : Op). AllByRecursion (IsMet s) (back_exit t k w b).demands) same h))

    pub created_met : v.kind ≡ Create → (at : Call) → IsCallOf m at → (o : Op) → x.op ≡ o → (threads : ℕ) → counts.threads ≡ threads → (old new : List (Option Bool)) (w z : Demanded)
        → ((i : ℕ) (b : Bool) → slice_index_or new i None ≡ Some b → (slice_index_or old i None ≡ Some b) × (i ≡ threads → ⊥))
        → ((k : SymbolicState) → ((b : Bool) → slice_index_or old threads None ≡ Some b → AllByRecursion (IsMet k) (of_operand at.thread.0 at.depth b o 3)) → AreMet k w → AreMet k z)
        → AreWordsMet after old → AreMet s w → AreMet s z × AreWordsMet s new
    created_met q at call o same threads count old new w z f g a met = (
      g s (λ b h. asked b (create_asks q old b (subst (λ (i : ℕ). slice_index_or old i None ≡ Some b) (sym count) h) a)) met,
      event_words old new (λ i b h. (f i b h).0) (λ i b h c y. apart (sym c ∙ q)) (λ i b h c y. (f i b h).1 (y ∙ count)) a,
    )
      where
        apart : Exit ≡ Create → ⊥
        apart c = absurd cc

        asked : (w : Bool) → AllByRecursion (IsMet s) (of_operand t k w x.op 3) → AllByRecursion (IsMet s) (of_operand at.thread.0 at.depth w o 3)
        asked w h =
            subst (λ (i : ℕ). AllByRecursion (IsMet s) (of_operand i at.depth w o 3)) (sym call.thread)
            (subst (λ (i : ℕ). AllByRecursion (IsMet s) (of_operand t i w o 3)) (sym call.depth)
            (subst (λ (b : Op). AllByRecursion (IsMet s) (of_operand t k w b 3)) same h))

abbrev nothing : Option Bool
nothing = None

no_word : (n i : ℕ) → slice_index_or (replicate n nothing) i nothing ≡ nothing
no_word zero i = refl
no_word (suc n) zero = refl
no_word (suc n) (suc i) = no_word n i

-- nothing is asked of any word
pub none_asked : (words : List (Option Bool)) (n i : ℕ) (b : Bool) → words ≡ replicate n None → slice_index_or words i None ≡ Some b → ⊥
none_asked words n i b e q = let z : None ≡ Some b = sym (ap (λ (l : List (Option Bool)). slice_index_or l i None) e ∙ no_word n i) ∙ q in absurd cc

-- with the word of one thread more
pub word_more : (s : SymbolicState) (old new : List (Option Bool)) (o : Option AskedWord)
    → ((w : ℕ) (b : Bool) → slice_index_or new w None ≡ Some b → (slice_index_or old w None ≡ Some b) ⊎ ((a : AskedWord) × (o ≡ Some a) × (w ≡ a.thread) × (a.whole ≡ b))) →
    IfSome o (IsWordMet s) → AreWordsMet s old → AreWordsMet s new
word_more s old new o f g a = record { by = λ w b q. go w b (f w b q) }
  where
    go : (w : ℕ) (b : Bool) → (slice_index_or old w None ≡ Some b) ⊎ ((a : AskedWord) × (o ≡ Some a) × (w ≡ a.thread) × (a.whole ≡ b)) → IsMet s (word_demand w b)
    go w b (inl q) = a.by w b q
    go w b (inr q) = subst (λ (i : ℕ). IsMet s (word_demand i b)) (sym q.2)
        (subst (λ (c : Bool). IsMet s (word_demand q.0.thread c)) q.3 (subst (λ (z : Option AskedWord). IfSome z (IsWordMet s)) q.1 g))

pub if_weaker : {A : Type 0} {P Q : A → Type 0} (o : Option A) → ((x : A) → P x → Q x) → IfSome o P → IfSome o Q
if_weaker None f h = tt
if_weaker (Some x) f h = f x h

pub some_found : {A : Type 0} {P : A → Type 0} (o : Option A) → is_some o ≡ true → IfSome o P → (x : A) × P x
some_found None q h = absurd (true≢false (sym q))
some_found (Some x) q h = (x, h)

pub write_asked : (w : Demanded) (x : Write) (from b : ℕ) → from ≡ (range_of (write_by x)).start → from ≤ b → b < from + 8 → asks_byte w b ≡ true → WritesAsked w x
write_asked w x from b e l g a =
    (b, rw (le-leb (range_of (write_by x)).start b (omega (arith, e, l)), lt-ltb b ((range_of (write_by x)).start + 8) (omega (arith, e, g))) refl, a)

pub if_is : {A : Type 0} (o : Option A) (x : A) (P : A → Type 0) → o ≡ Some x → IfSome o P → P x
if_is {A = A} o x P e h = subst (λ (z : Option A). IfSome z P) e h

pub if_not : {A : Type 0} (o : Option A) (P : Type 0) → o ≡ None → IfNone o P → P
if_not o P e h = subst (λ (z : Option _). IfNone z P) e h
