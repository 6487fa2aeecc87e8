-- Along a reference run, what is known under some decisions and under more of them is alike.
use Rattle.std.proofs.Common.{◌≡◌, ℕ, ◌-◌, ◌<◌, ◌≤◌, Bool, true, false, List, [], ◌++◌, length, Option, Some, None, refl, sym, ap, ◌∙◌, subst, inl}
use Rattle.std.proofs.Common.{inr, ◌⊎◌, arith}
use Rattle.std.specs.Prelude.{Contains}
use Rattle.std.specs.List.{AllZip}
use Rattle.std.proofs.lemmas.Bool.{true≢false, cases_eq, cases_lt}
use Rattle.pg_ir.specs.declared.instr.Instr.{Instr}
use Rattle.pg_run_trace.specs.declared.step.StepKind.{StepKind}
use Rattle.pg_run_trace.specs.declared.step.StepKind.TheVariants as kinds
use Rattle.pg_run_trace.specs.declared.step.Access.{Access}
use Rattle.pg_run_trace.specs.Steps.{happening_in, range_of}
use Rattle.pg_slice_rules.specs.declared.decision.Decision.TheVariants.{Pinned}
use Rattle.pg_slice_rules.specs.Moments.{Moment, instr_in, thread_in}
use Rattle.pg_slice_rules.specs.Freeable.{FreeRegion, bounds_of}
use Rattle.pg_slice_rules.specs.SymbolicValues.{Symbolic, Unknown, is_within}
use Rattle.pg_slice_rules.specs.Extents.{Extent, begun, edge_in, ends, is_live, open_after}
use Rattle.pg_slice_rules.specs.Known.{Reference, SymbolicState, Seen, Taken, SymbolicThread, after_step, edge_of, is_branch, region_of, thread_of}
use Rattle.pg_law_least.specs.Keeps.{AreStacked, ExtentsKeep, KeepsTo, MaySetPhis, every, is_store, may_write, steps_of}
use Rattle.pg_law_least.specs.Along.{calls_behind}
use Rattle.pg_law_least.proofs.AlikeKnowledge.{Alike, RunLike, Still, ThreadLike, all_alike, made_like, made_plain}
use Rattle.pg_law_least.proofs.AlikeLists.{all_none}
use Rattle.pg_law_least.proofs.AskedOfValues.{SeenLike}
use Rattle.pg_law_least.proofs.KeptLikeness.{IsLink}
use Rattle.pg_law_least.proofs.LiveSteps.{bytes_like, calls_by, calls_like, known_bytes, top_like, words_like}
use Rattle.pg_law_least.proofs.ThreadsAfterSteps.{bytes_after, bytes_next, calls_after, extents_after, length_next, live_at, made_at, next_bytes, next_calls, next_made, own_bytes}
use Rattle.pg_law_least.proofs.ThreadsAfterSteps.{own_calls, own_made, own_words, thread_made, thread_other, thread_own, words_behind, words_next}
use Rattle.pg_law_least.proofs.OldestFreeExtent.{begun_free, begun_pinned, begun_some, height_by, live_every, live_more, live_stand, not_live, own_extent, stand, stand_in, stand_live, stays_ended}
use Rattle.pg_law_least.proofs.OldestFreeExtent.{stays_none, stays_on}
use Rattle.pg_law_least.proofs.KnownCallCounts.{branch_height, calls_length, edge_height, live_height, region_branch, still_height}
use Rattle.pg_law_least.proofs.LeftUnknown.{branch_plain, instance_bytes, instance_calls}
use Rattle.pg_law_least.proofs.LiveStepsInside.{Above, IsTopForgotten, bytes_kept, calls_kept, none_above, plain_edge, words_kept}

module _ (R : Reference) (keeps : ExtentsKeep R) (d e : Taken) (bound : ℕ) (L : Symbolic → Symbolic → Type 0) (k : IsLink d e bound L) where
  -- ---- a step

  module _ (n : ℕ) (below : n < bound) (m : Moment) (s t u : SymbolicState) (like : RunLike R keeps d e bound L k s t u)
      (in_run : Contains (steps_of R) (record {
        number = n;
        moment = m;
        region = region_of R.program R.regions m (instr_in R.program m);
        live =
            is_live every.pinned (thread_of u (thread_in m)).extents;
        before = u;
      })) where
    abbrev i : Option Instr
    i = instr_in R.program m

    abbrev kind : StepKind
    kind = m.did.did.kind

    abbrev region : Option FreeRegion
    region = region_of R.program R.regions m (instr_in R.program m)

    abbrev edge : Option ℕ
    edge = edge_of R.program m m.did.did.kind

    abbrev y : Seen
    y = record { number = n; moment = m; region = region_of R.program R.regions m (instr_in R.program m); live = is_live every.pinned (thread_of u (thread_in m)).extents; before = u }

    abbrev es : List Extent
    es = (thread_of u (thread_in m)).extents

    abbrev cs : List (List Symbolic)
    cs = (thread_of s (thread_in m)).calls

    abbrev ct : List (List Symbolic)
    ct = (thread_of t (thread_in m)).calls

    abbrev cu : List (List Symbolic)
    cu = (thread_of u (thread_in m)).calls

    abbrev own : ThreadLike R keeps d e bound L k s.bytes (thread_of s (thread_in m)) (thread_of t (thread_in m)) (thread_of u (thread_in m))
    own = like.threads (thread_in m)

    live_s : live_at R d n m s ≡ is_live d.pinned es
    live_s = ap (is_live d.pinned) own.first

    live_t : live_at R e n m t ≡ is_live e.pinned es
    live_t = ap (is_live e.pinned) own.second

    live_u : live_at R every n m u ≡ true
    live_u = live_every es

    -- ---- heights

    deep : length cu ≡ length m.calls
    deep = keeps.calls y in_run

    stacked : AreStacked (length m.calls) edge (begun n (length m.calls) region es)
    stacked = keeps.nested y in_run

    edges : (to : ℕ) → edge ≡ Some to → calls_behind i kind (length cu) ≡ length cu
    edges to q = edge_height R.program m to (length cu) i kind refl q

    branches : (r : FreeRegion) → region ≡ Some r → calls_behind i kind (length cu) ≡ length cu
    branches r q = branch_height R.program R.regions m i r (length cu) q (λ x f. keeps.branches y in_run r q x f)

    -- of one thread under decisions c
    height_next : (c : Taken) (v : SymbolicState) (b : Bool) → b ≡ is_live c.pinned es → length (thread_of v (thread_in m)).calls ≡ height_by (stand c es) (length cu) →
        length (own_calls R.program c n m region v b i) ≡ height_by (stand c (open_after n (length m.calls) region edge es)) (length (own_calls R.program every n m region u true i))
    height_next c v b q h = go (stand c es) refl
      where
        full : length (own_calls R.program every n m region u true i) ≡ calls_behind i kind (length cu)
        full = calls_length R.program every n m region u i cu

        go : (o : Option Extent) → stand c es ≡ o →
            length (own_calls R.program c n m region v b i) ≡ height_by (stand c (open_after n (length m.calls) region edge es)) (length (own_calls R.program every n m region u true i))
        go None f =
            let live : b ≡ true = q ∙ stand_live c es f in
            let same : length (thread_of v (thread_in m)).calls ≡ length cu = h ∙ ap (λ (o : Option Extent). height_by o (length cu)) f in
            ap (λ (b : Bool). length (own_calls R.program c n m region v b i)) live
            ∙ calls_length R.program c n m region v i (thread_of v (thread_in m)).calls
            ∙ ap (calls_behind i kind) same
            ∙ live_height c n (length m.calls) region edge es (calls_behind i kind) (length cu) deep stacked edges branches f
            ∙ ap (height_by (stand c (open_after n (length m.calls) region edge es))) (sym full)
        go (Some x) f =
            let in_es = stand_in c es x f in
            let dead : b ≡ false = q ∙ not_live c es x in_es.0 in_es.1 in
            ap (λ (b : Bool). length (own_calls R.program c n m region v b i)) dead
            ∙ (h ∙ ap (λ (o : Option Extent). height_by o (length cu)) f)
            ∙ still_height c n (length m.calls) region edge es (calls_behind i kind) (length cu) deep stacked edges branches x f
            ∙ ap (height_by (stand c (open_after n (length m.calls) region edge es))) (sym full)

    height_s : length (next_calls R d n m s) ≡ height_by (stand d (extents_after R every n m u)) (length (next_calls R every n m u))
    height_s = height_next d s (live_at R d n m s) live_s own.height ∙ ap
        (λ (b : Bool). height_by (stand d (extents_after R every n m u)) (length (own_calls R.program every n m region u b i))) (sym live_u)

    height_t : length (next_calls R e n m t) ≡ height_by (stand e (extents_after R every n m u)) (length (next_calls R every n m u))
    height_t = height_next e t (live_at R e n m t) live_t own.higher ∙ ap
        (λ (b : Bool). height_by (stand e (extents_after R every n m u)) (length (own_calls R.program every n m region u b i))) (sym live_u)

    -- ---- where the step is live under d

    record NextLike (bs bt : Bool) : Type 0 where
      above : Above R.program d e bound L k (own_calls R.program d n m region s bs i) (own_calls R.program e n m region t bt i)
      bytes : (b : ℕ) → L (own_bytes R.program d n m region s bs i b) (own_bytes R.program e n m region t bt i b)
      words : AllZip L (own_words R.program d n m region s bs i) (own_words R.program e n m region t bt i)
      made_s : own_made R.program d n m region s bs i ≡ made_at R.program m i
      made_t : own_made R.program e n m region t bt i ≡ made_at R.program m i
      still : (x : Extent) → stand d (open_after n (length m.calls) region edge es) ≡ Some x
          → Still R keeps d e bound L k (own_bytes R.program d n m region s bs i) (own_calls R.program d n m region s bs i) x

    edge_sets : (x : Instr) → i ≡ Some x → d.pinned n ≡ false → e.pinned n ≡ true → (r : FreeRegion) → region ≡ Some r →
        MaySetPhis R.program r.sets (edge_in R.program m (Some x))
    edge_sets x q f g r h =
        let b : is_branch kind ≡ true = region_branch R.program R.regions m x r (subst (λ (o : Option Instr). region_of R.program R.regions m o ≡ Some r) q h) in
        let z : edge ≡ edge_in R.program m (Some x) = plain_edge R.program m kind (branch_plain kind b) ∙ ap (edge_in R.program m) q in
        subst (MaySetPhis R.program r.sets) z (keeps.own y in_run r h)

    fits : (x : Instr) → i ≡ Some x → (a : Access) → kind ≡ kinds.Access a → is_store x.op ≡ true → (b : ℕ) → is_within (range_of a) b ≡ true →
        is_within (bounds_of a.pointer) b ≡ true
    fits x q a f h b = keeps.bounds y in_run a (record { instr = x; stands = q; store = h; kind = f }) b

    module _ (h : stand d es ≡ None) where
      alike : Alike R keeps d e bound L k cs ct
      alike =
          let a : length cs ≡ length cu = own.height ∙ ap (λ (o : Option Extent). height_by o (length cu)) h in
          let g : stand e es ≡ None = live_stand e es (live_more d e es k.within (stand_live d es h)) in
          let b : length ct ≡ length cu = own.higher ∙ ap (λ (o : Option Extent). height_by o (length cu)) g in
          none_above R.program d e bound L k cs ct own.above (a ∙ sym b)

      live_calls : (o : Option Instr) → i ≡ o → Alike R keeps d e bound L k (calls_after R.program d n m region o s cs) (calls_after R.program e n m region o t ct)
      live_calls None q = alike
      live_calls (Some x) q = calls_like R.program d e bound L k n below m region x (edge_sets x q) kind s t like.bytes like.words cs ct alike

      live_bytes : (o : Option Instr) → i ≡ o → (b : ℕ) → L (bytes_after R.program d n m region o s b) (bytes_after R.program e n m region o t b)
      live_bytes None q b = like.bytes b
      live_bytes (Some x) q b = bytes_like R.program d e bound L k n below m region x (edge_sets x q) kind s t (λ a f g v w. fits x q a f g)
          (top_like R.program d e bound L k cs ct alike) like.bytes like.words b

      live_words : (o : Option Instr) → i ≡ o → AllZip L (words_behind R.program m o s) (words_behind R.program m o t)
      live_words None q = like.words
      live_words (Some x) q = words_like R.program d e bound L k n below m region x (edge_sets x q) kind s t (top_like R.program d e bound L k cs ct alike) like.words

      -- what begins to stand still
      begins : (r : FreeRegion) → region ≡ Some r → d.pinned n ≡ false → (o : Option Instr) → i ≡ o →
          Still R keeps d e bound L k (bytes_after R.program d n m region o s) (calls_after R.program d n m region o s cs) (own_extent d n (length m.calls) r)
      begins r q f None g = let z : None ≡ Some r = sym (ap (region_of R.program R.regions m) g) ∙ q in absurd (cc)
      begins r q f (Some x) g =
          let b : is_branch kind ≡ true = region_branch R.program R.regions m x r (subst (λ (o : Option Instr). region_of R.program R.regions m o ≡ Some r) g q) in
          record {
            branch = y;
            seen = in_run;
            number = refl;
            region = r;
            is = q;
            registers = subst (λ (o : Option FreeRegion). IsTopForgotten r.sets (Pinned n) (calls_by R.program d n m o x kind s cs)) (sym q)
                (instance_calls R.program d n m r x kind s cs b (keeps.branches y in_run r q x g) f);
            writes = λ j w. subst (λ (o : Option FreeRegion). known_bytes R.program d n m o x kind s j ≡ Unknown (Pinned n)) (sym q) (instance_bytes R.program d n m r x kind s j b f w);
          }

      nothing_stands : stand d (open_after n (length m.calls) region edge es) ≡ None → (x : Extent) → stand d (open_after n (length m.calls) region edge es) ≡ Some x →
          Still R keeps d e bound L k (bytes_after R.program d n m region i s) (calls_after R.program d n m region i s cs) x
      nothing_stands q x f = let z : None ≡ Some x = sym q ∙ f in absurd (cc)

      live_still : (o : Option FreeRegion) → region ≡ o → (b : Bool) → d.pinned n ≡ b → (x : Extent) → stand d (open_after n (length m.calls) region edge es) ≡ Some x →
          Still R keeps d e bound L k (bytes_after R.program d n m region i s) (calls_after R.program d n m region i s cs) x
      live_still None q b f = nothing_stands (stays_none d (length m.calls) edge (begun n (length m.calls) region es)
          (subst (λ (o : Option FreeRegion). stand d (begun n (length m.calls) o es) ≡ None) (sym q) h))
      live_still (Some r) q true f = nothing_stands (stays_none d (length m.calls) edge (begun n (length m.calls) region es) (begun_pinned d n (length m.calls) region es f h))
      live_still (Some r) q false f = split (ends (length m.calls) edge (own_extent d n (length m.calls) r)) refl
        where
          starts : stand d (begun n (length m.calls) region es) ≡ Some (own_extent d n (length m.calls) r)
          starts = subst (λ (o : Option FreeRegion). stand d (begun n (length m.calls) o es) ≡ Some (own_extent d n (length m.calls) r)) (sym q) (begun_free d n (length m.calls) r es f h)

          split : (c : Bool) → ends (length m.calls) edge (own_extent d n (length m.calls) r) ≡ c → (x : Extent) → stand d (open_after n (length m.calls) region edge es) ≡ Some x →
              Still R keeps d e bound L k (bytes_after R.program d n m region i s) (calls_after R.program d n m region i s cs) x
          split true g x z = nothing_stands (stays_ended d (length m.calls) edge (begun n (length m.calls) region es) (own_extent d n (length m.calls) r) stacked starts g) x z
          split false g x z =
              let a : Some (own_extent d n (length m.calls) r) ≡ Some x =
              sym (stays_on d (length m.calls) edge (begun n (length m.calls) region es) (own_extent d n (length m.calls) r) starts g) ∙ z in
              let c : own_extent d n (length m.calls) r ≡ x = cc in
              subst (Still R keeps d e bound L k (bytes_after R.program d n m region i s) (calls_after R.program d n m region i s cs)) c (begins r q f i refl)

      live_next : NextLike true true
      live_next = record {
        above = all_alike R keeps d e bound L k _ _ (live_calls i refl);
        bytes = live_bytes i refl;
        words = live_words i refl;
        made_s = refl;
        made_t = refl;
        still = live_still region refl (d.pinned n) refl;
      }

    -- ---- where it isn't

    module _ (x : Extent) (h : stand d es ≡ Some x) where
      st : Still R keeps d e bound L k s.bytes cs x
      st = own.still x h

      keep : KeepsTo R (st).region x.depth y
      keep = keeps.keep st.branch st.seen y in_run st.region st.is x (stand_in d es x h).0 st.number

      new : d.pinned x.step ≡ false
      new = (stand_in d es x h).1

      high : length cs ≡ x.depth
      high = own.height ∙ ap (λ (o : Option Extent). height_by o (length cu)) h

      still_on : (z : Extent) → stand d (open_after n (length m.calls) region edge es) ≡ Some z → Still R keeps d e bound L k s.bytes cs z
      still_on z f = split (ends (length m.calls) edge x) refl
        where
          all : stand d (begun n (length m.calls) region es) ≡ Some x
          all = begun_some d n (length m.calls) region es x h

          split : (c : Bool) → ends (length m.calls) edge x ≡ c → Still R keeps d e bound L k s.bytes cs z
          split true g = let a : None ≡ Some z = sym (stays_ended d (length m.calls) edge (begun n (length m.calls) region es) x stacked all g) ∙ f in absurd (cc)
          split false g =
              let a : Some x ≡ Some z = sym (stays_on d (length m.calls) edge (begun n (length m.calls) region es) x all g) ∙ f in
              let c : x ≡ z = cc in
              subst (Still R keeps d e bound L k s.bytes cs) c st

      made_plainly : [] ≡ made_at R.program m i
      made_plainly = sym (made_plain R keeps d e bound L k m i keep.plain)

      -- both stand still
      both_still : NextLike false false
      both_still = record {
        above = own.above;
        bytes = like.bytes;
        words = like.words;
        made_s = made_plainly;
        made_t = made_plainly;
        still = still_on;
      }

      module _ (taken : e.pinned x.step ≡ true) (live : stand e es ≡ None) where
        long : length ct ≡ length m.calls
        long = own.higher ∙ ap (λ (o : Option Extent). height_by o (length cu)) live ∙ deep

        whole : length (own.above.more ++ own.above.low) ≡ length m.calls
        whole = sym (ap length own.above.whole) ∙ long

        moved_calls : (o : Option Instr) → i ≡ o → Above R.program d e bound L k cs (calls_after R.program e n m region o t ct)
        moved_calls None q = own.above
        moved_calls (Some z) q =
            subst (λ (c : List (List Symbolic)). Above R.program d e bound L k cs (calls_by R.program e n m region z kind t c)) (sym own.above.whole)
            (calls_kept R.program d e bound L k st.region.sets (Pinned x.step) new taken n m region x.depth z cs own.above.more own.above.low own.above.like st.registers high whole
            (λ l. keep.result l z q)
            (λ l. subst (MaySetPhis R.program st.region.sets) (plain_edge R.program m kind keep.plain ∙ ap (edge_in R.program m) q) (keep.phis l))
            keep.inner
            (λ v f. keep.deeper (record { instr = z; value = v; stands = q; returns = f }))
            (λ v f. keep.target (record { instr = z; value = v; stands = q; returns = f }))
            kind keep.plain t)

        byte_same : (o : Option Instr) → i ≡ o → (b : ℕ) → may_write st.region.accesses b ≡ false → bytes_after R.program e n m region o t b ≡ t.bytes b
        byte_same None q b f = refl
        byte_same (Some z) q b f = bytes_kept R.program e n m region z (may_write st.region.accesses) b f kind keep.plain t
            (λ a g v w. keep.stores a (record { instr = z; stands = q; store = v; kind = g }) b (fits z q a g v b w))
            (λ a g v. keep.stores a (record { instr = z; stands = q; store = v; kind = g }) b)
            (λ p g. keep.inner_stores p g b)

        moved_bytes : (b : ℕ) → L (s.bytes b) (bytes_after R.program e n m region i t b)
        moved_bytes b = go (may_write st.region.accesses b) refl
          where
            go : (c : Bool) → may_write st.region.accesses b ≡ c → L (s.bytes b) (bytes_after R.program e n m region i t b)
            go true f = subst (λ (z : Symbolic). L z (bytes_after R.program e n m region i t b)) (sym (st.writes b f)) (k.left (Pinned x.step) new taken _)
            go false f = subst (L (s.bytes b)) (sym (byte_same i refl b f)) (like.bytes b)

        word_same : (o : Option Instr) → words_behind R.program m o t ≡ t.words
        word_same None = refl
        word_same (Some z) = words_kept R.program m z kind keep.plain t

        one_moves : NextLike false true
        one_moves = record {
          above = moved_calls i refl;
          bytes = moved_bytes;
          words = subst (AllZip L s.words) (sym (word_same i)) like.words;
          made_s = made_plainly;
          made_t = refl;
          still = still_on;
        }

    -- ---- both

    next_like : NextLike (is_live d.pinned es) (is_live e.pinned es)
    next_like = go (stand d es) refl
      where
        moves : (x : Extent) → stand d es ≡ Some x → (b : Bool) → is_live e.pinned es ≡ b → NextLike false b
        moves x h false g = both_still x h
        moves x h true g = pinned (e.pinned x.step) refl
          where
            pinned : (c : Bool) → e.pinned x.step ≡ c → NextLike false true
            pinned true f = one_moves x h f (live_stand e es g)
            pinned false f = absurd (true≢false (sym g ∙ not_live e es x (stand_in d es x h).0 f))

        go : (o : Option Extent) → stand d es ≡ o → NextLike (is_live d.pinned es) (is_live e.pinned es)
        go None h =
            let a : is_live d.pinned es ≡ true = stand_live d es h in
            rw (a, live_more d e es k.within a) (live_next h)
        go (Some x) h =
            let c = stand_in d es x h in
            rw (not_live d es x c.0 c.1) (moves x h (is_live e.pinned es) refl)

    -- ---- the whole state after the step

    next : NextLike (live_at R d n m s) (live_at R e n m t)
    next = rw (live_s, live_t) next_like

    begun_u : thread_in m < length u.threads
    begun_u = keeps.known y in_run

    made_u : next_made R every n m u ≡ made_at R.program m i
    made_u = ap (λ (b : Bool). own_made R.program every n m region u b i) live_u

    fewer_next : length (after_step R d n m s).threads ≡ length (after_step R every n m u).threads
    fewer_next =
        let a : length (next_made R d n m s) ≡ length (next_made R every n m u) = ap length (next.made_s ∙ sym made_u) in
        let b = length_next R d n m s in
        let c = length_next R every n m u in
        let f = like.fewer in
        omega (arith, a, b, c, f)

    as_many_next : length (after_step R e n m t).threads ≡ length (after_step R every n m u).threads
    as_many_next =
        let a : length (next_made R e n m t) ≡ length (next_made R every n m u) = ap length (next.made_t ∙ sym made_u) in
        let b = length_next R e n m t in
        let c = length_next R every n m u in
        let f = like.as_many in
        omega (arith, a, b, c, f)

    own_next : ThreadLike R keeps d e bound L k (next_bytes R d n m s) (record { calls = next_calls R d n m s; extents = extents_after R d n m s })
        (record { calls = next_calls R e n m t; extents = extents_after R e n m t }) (record { calls = next_calls R every n m u; extents = extents_after R every n m u })
    own_next = record {
      first = ap (open_after n (length m.calls) region edge) own.first;
      second = ap (open_after n (length m.calls) region edge) own.second;
      above = next.above;
      height = height_s;
      higher = height_t;
      still = next.still;
    }

    abbrev After : (ℕ → Symbolic) → ℕ → Type 0
    After bytes j = ThreadLike R keeps d e bound L k bytes (thread_of (after_step R d n m s) j) (thread_of (after_step R e n m t) j) (thread_of (after_step R every n m u) j)

    own_thread : After (next_bytes R d n m s) (thread_in m)
    own_thread =
        let f = like.fewer in
        let g = like.as_many in
        rw (thread_own R d n m s (omega (arith, f, begun_u)), thread_own R e n m t (omega (arith, g, begun_u)), thread_own R every n m u begun_u) own_next

    quiet_like : (bytes bytes' : ℕ → Symbolic) (a b c : SymbolicThread) → c.extents ≡ [] → ThreadLike R keeps d e bound L k bytes a b c → ThreadLike R keeps d e bound L k bytes' a b c
    quiet_like bytes bytes' a b c q h = record {
      first = h.first;
      second = h.second;
      above = h.above;
      height = h.height;
      higher = h.higher;
      still = λ x f. let g : None ≡ Some x = ap (stand d) (sym q) ∙ f in absurd (cc);
    }

    other_thread : (j : ℕ) → (j ≡ thread_in m → ⊥) → j < length u.threads → After (next_bytes R d n m s) j
    other_thread j o l =
        let f = like.fewer in
        let g = like.as_many in
        let none : (thread_of u j).extents ≡ [] = all_none (thread_of u j).extents (λ x c. o (sym (keeps.together y in_run j x c))) in
        rw (thread_other R d n m s j o (omega (arith, f, l)), thread_other R e n m t j o (omega (arith, g, l)), thread_other R every n m u j o l)
        (quiet_like s.bytes (next_bytes R d n m s) (thread_of s j) (thread_of t j) (thread_of u j) none (like.threads j))

    new_thread : (j : ℕ) → (j ≡ thread_in m → ⊥) → length u.threads ≤ j → After (next_bytes R d n m s) j
    new_thread j o l =
        let f = like.fewer in
        let g = like.as_many in
        rw (thread_made R d n m s j o (omega (arith, f, l)), thread_made R e n m t j o (omega (arith, g, l)), thread_made R every n m u j o l, next.made_s, next.made_t, made_u, f, g)
        (made_like R keeps d e bound L k (next_bytes R d n m s) m i (j - length u.threads))

    each_thread : (j : ℕ) → After (next_bytes R d n m s) j
    each_thread j = go (cases_eq j (thread_in m))
      where
        go : (j ≡ thread_in m) ⊎ (j ≡ thread_in m → ⊥) → After (next_bytes R d n m s) j
        go (inl q) = subst (After (next_bytes R d n m s)) (sym q) own_thread
        go (inr o) = on (cases_lt j (length u.threads))
          where
            on : (j < length u.threads) ⊎ (length u.threads ≤ j) → After (next_bytes R d n m s) j
            on (inl l) = other_thread j o l
            on (inr l) = new_thread j o l

    pub step_like : RunLike R keeps d e bound L k (after_step R d n m s) (after_step R e n m t) (after_step R every n m u)
    step_like = record {
      fewer = fewer_next;
      as_many = as_many_next;
      threads = λ j. subst (λ (b : ℕ → Symbolic). After b j) (sym (bytes_next R d n m s)) (each_thread j);
      bytes = λ b. rw (bytes_next R d n m s, bytes_next R e n m t) (next.bytes b);
      words = rw (words_next R d n m s, words_next R e n m t) next.words;
    }

    -- ---- the step itself

    pub seen_like : SeenLike L (record { number = n; moment = m; region = region; live = live_at R d n m s; before = s })
        (record { number = n; moment = m; region = region; live = live_at R e n m t; before = t })
    seen_like = record {
      same = refl;
      live = λ q. live_t ∙ live_more d e es k.within (sym live_s ∙ q);
      registers = λ q. top_like R.program d e bound L k cs ct (alike (live_stand d es (sym live_s ∙ q)));
      bytes = like.bytes;
      words = like.words;
    }

    -- ---- what is left out

    pub left_out : live_at R d n m s ≡ false → happening_in kind ≡ None
    left_out q = go (stand d es) refl
      where
        go : (o : Option Extent) → stand d es ≡ o → happening_in kind ≡ None
        go None h = absurd (true≢false (sym (stand_live d es h) ∙ sym live_s ∙ q))
        go (Some x) h = (keep x h).plain

    pub same_extents : (j : ℕ) → (thread_of s j).extents ≡ (thread_of t j).extents
    same_extents j = (like.threads j).first ∙ sym (like.threads j).second
