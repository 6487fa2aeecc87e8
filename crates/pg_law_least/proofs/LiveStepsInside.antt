-- A live step in an extent that stands still under fewer decisions: it changes what is unknown there alone.
use Rattle.std.proofs.Common.{◌≡◌, ℕ, suc, ◌+◌, ◌-◌, ◌<◌, Bool, true, false, List, [], ◌∷◌, ◌++◌, length, Option, Some, None, refl, sym, ap, ◌∙◌, subst}
use Rattle.std.proofs.Common.{arith, length-append}
use Rattle.std.specs.Prelude.{◌||◌, if◌then◌else◌}
use Rattle.std.proofs.lemmas.Bool.{true≢false}
use Rattle.pg_num.specs.Places.{ByteRange}
use Rattle.pg_ir.specs.declared.library_call.LibraryCall.{LibraryCall}
use Rattle.pg_ir.specs.declared.library_call.LibraryCall.TheVariants as known
use Rattle.pg_ir.specs.declared.value.Value.{Value}
use Rattle.pg_ir.specs.declared.instr.Instr.{Instr}
use Rattle.pg_ir.specs.declared.instr.Op.{Op}
use Rattle.pg_ir.specs.declared.instr.Op.TheVariants as op
use Rattle.pg_ir.specs.Program.{NumberedProgram}
use Rattle.pg_run_trace.specs.declared.step.StepKind.{StepKind}
use Rattle.pg_run_trace.specs.declared.step.StepKind.TheVariants as kinds
use Rattle.pg_run_trace.specs.declared.step.Access.{Access}
use Rattle.pg_run_trace.specs.Steps.{happening_in, range_of}
use Rattle.pg_slice_rules.specs.declared.decision.Decision.{Decision}
use Rattle.pg_slice_rules.specs.declared.decision.Decision.TheVariants.{Pinned}
use Rattle.pg_slice_rules.specs.Moments.{Moment, instr_in}
use Rattle.pg_slice_rules.specs.Freeable.{FreeRegion, bounds_of}
use Rattle.pg_slice_rules.specs.SymbolicValues.{Symbolic, Unknown, is_within, spoiled, stored, byte_in}
use Rattle.pg_slice_rules.specs.Extents.{edge_by, edge_in}
use Rattle.pg_slice_rules.specs.Known.{SymbolicState, Taken, after_access, after_branch, after_known, after_op, bytes_freed, bytes_stored, caller_target, edge_of, forgotten_bytes, has, result_in}
use Rattle.pg_slice_rules.specs.Known.{under_top, with_top}
use Rattle.pg_law_least.specs.Keeps.{MaySet, MaySetPhis, is_store, may_write}
use Rattle.pg_law_least.proofs.KeptLikeness.{AreForgotten, IsLink, Outside, changed_like, forgotten_byte, outside_edge, outside_forgotten, outside_same, outside_target}
use Rattle.pg_law_least.proofs.LiveSteps.{CallsLike, calls_by, known_bytes, known_words}
use Rattle.pg_law_least.proofs.ThreadsAfterSteps.{made_in}

-- in the topmost call these registers are unknown
abbrev pub IsTopForgotten : (ℕ → Bool) → Decision → List (List Symbolic) → Type 0
IsTopForgotten sets x [] = Unit {0}
IsTopForgotten sets x (rs ∷ cs) = AreForgotten 0 sets x rs

module _ (p : NumberedProgram) (d e : Taken) (bound : ℕ) (L : Symbolic → Symbolic → Type 0) (k : IsLink d e bound L) where
  -- the calls of the second are those of the first, with more on top
  pub record Above (cs ct : List (List Symbolic)) : Type 0 where
    pub more : List (List Symbolic)
    pub low : List (List Symbolic)
    pub whole : ct ≡ more ++ low
    pub like : CallsLike p d e bound L k cs low

  calls_long : (cs ct : List (List Symbolic)) → CallsLike p d e bound L k cs ct → length cs ≡ length ct
  calls_long [] [] h = refl
  calls_long [] (rt ∷ ct) h = absurd h
  calls_long (rs ∷ cs) [] h = absurd h
  calls_long (rs ∷ cs) (rt ∷ ct) h = ap suc (calls_long cs ct h.1)

  -- where both are as high there is none on top
  pub none_above : (cs ct : List (List Symbolic)) → Above cs ct → length cs ≡ length ct → CallsLike p d e bound L k cs ct
  none_above cs ct h l = go h.more refl
    where
      go : (more : List (List Symbolic)) → h.more ≡ more → CallsLike p d e bound L k cs ct
      go [] q = subst (CallsLike p d e bound L k cs) (sym (h.whole ∙ ap (λ (m : List (List Symbolic)). m ++ h.low) q)) h.like
      go (c ∷ more) q =
          let a : length ct ≡ length ((c ∷ more) ++ h.low) = ap length h.whole ∙ ap (λ (m : List (List Symbolic)). length (m ++ h.low)) q in
          let b : length ((c ∷ more) ++ h.low) ≡ suc (length more + length h.low) = ap suc (length-append more h.low) in
          let g : length cs ≡ length h.low = calls_long cs h.low h.like in
          absurd (omega (arith, a, b, g, l))

  module _ (sets : ℕ → Bool) (y : Decision) (new : has d y ≡ false) (taken : has e y ≡ true) where
    above_top : (f : List Symbolic → List Symbolic) (cs more low : List (List Symbolic)) → CallsLike p d e bound L k cs low → IsTopForgotten sets y cs →
        (length more ≡ 0 → (rs : List Symbolic) → Outside 0 sets rs (f rs)) → Above cs (with_top f (more ++ low))
    above_top f [] [] [] h g o = record { more = []; low = []; whole = refl; like = tt }
    above_top f [] [] (rt ∷ low) h g o = absurd h
    above_top f (rs ∷ cs) [] [] h g o = absurd h
    above_top f (rs ∷ cs) [] (rt ∷ low) h g o = record {
      more = [];
      low = f rt ∷ low;
      whole = refl;
      like =
          (changed_like p d e bound L k 0 sets y rs rt (f rt) new taken g h.0 (o refl rt), h.1);
    }
    above_top f cs (c ∷ more) low h g o = record { more = f c ∷ more; low = low; whole = refl; like = h }

    above_call : (c : List Symbolic) (cs more low : List (List Symbolic)) → CallsLike p d e bound L k cs low → Above cs (c ∷ (more ++ low))
    above_call c cs more low h = record { more = c ∷ more; low = low; whole = refl; like = h }

    module _ (n : ℕ) (m : Moment) (region : Option FreeRegion) (depth : ℕ) (x : Instr) (cs more low : List (List Symbolic)) (like : CallsLike p d e bound L k cs low)
        (forgotten : IsTopForgotten sets y cs)
        (high : length cs ≡ depth) (whole : length (more ++ low) ≡ length m.calls)
        (result : length m.calls ≡ depth → MaySet sets x.result) (phis : length m.calls ≡ depth → MaySetPhis p sets (edge_in p m (Some x)))
        (inner : length m.calls ≡ depth → (q : FreeRegion) → region ≡ Some q → (j : ℕ) → q.sets j ≡ true → sets j ≡ true)
        (deeper : (v : Option Value) → x.op ≡ op.Ret v → depth < length m.calls)
        (target : (v : Option Value) → x.op ≡ op.Ret v → length m.calls ≡ suc depth → MaySet sets (caller_target p m.calls)) where
      same_depth : length more ≡ 0 → length m.calls ≡ depth
      same_depth q =
          let a : length (more ++ low) ≡ length more + length low = length-append more low in
          let b : length cs ≡ length low = calls_long cs low like in
          omega (arith, a, b, q, high, whole)

      top_kept : (f : List Symbolic → List Symbolic) → (length m.calls ≡ depth → (rs : List Symbolic) → Outside 0 sets rs (f rs)) → Above cs (with_top f (more ++ low))
      top_kept f o = above_top f cs more low like forgotten (λ q. o (same_depth q))

      returned : (f : List Symbolic → List Symbolic) → depth < length m.calls → (length m.calls ≡ suc depth → (rs : List Symbolic) → Outside 0 sets rs (f rs)) →
          (more' : List (List Symbolic)) → more ≡ more' → Above cs (with_top f (under_top (more' ++ low)))
      returned f l o [] q =
          let a : length (more ++ low) ≡ length more + length low = length-append more low in
          let b : length cs ≡ length low = calls_long cs low like in
          let z : length more ≡ 0 = ap length q in
          absurd (omega (arith, a, b, z, high, whole, l))
      returned f l o (c ∷ more') q = above_top f cs more' low like forgotten (λ z. o (under z))
        where
          under : length more' ≡ 0 → length m.calls ≡ suc depth
          under z =
              let a : length (more ++ low) ≡ length more + length low = length-append more low in
              let b : length cs ≡ length low = calls_long cs low like in
              let i : length more ≡ suc (length more') = ap length q in
              omega (arith, a, b, i, z, high, whole)

      branch_kept : (pinned : Bool) (o : Option FreeRegion) → region ≡ o → length m.calls ≡ depth → (rs : List Symbolic) →
          Outside 0 sets rs (after_branch p pinned n x (edge_in p m (Some x)) o rs)
      branch_kept true o q l rs = outside_edge p sets x.block.0 (edge_in p m (Some x)) rs (phis l)
      branch_kept false None q l rs = outside_edge p sets x.block.0 (edge_in p m (Some x)) rs (phis l)
      branch_kept false (Some r) q l rs = outside_forgotten 0 sets r.sets (Pinned n) rs (inner l r q)

      known_kept : (f : LibraryCall) (number : ℕ) (s : Symbolic) → length m.calls ≡ depth → (rs : List Symbolic) → Outside 0 sets rs (after_known f x.result number s rs)
      known_kept known.PgIn number s l rs = outside_target sets x.result _ rs (result l)
      known_kept known.PgInLen number s l rs = outside_target sets x.result _ rs (result l)
      known_kept known.Malloc number s l rs = outside_target sets x.result _ rs (result l)
      known_kept _ number s l rs = outside_same 0 sets rs

      op_kept : (pinned : Bool) (number : ℕ) (o : Op) → x.op ≡ o → Above cs (after_op p pinned n m region number x o (more ++ low))
      op_kept pinned number (op.Br to) q = top_kept _ (λ l rs. outside_edge p sets x.block.0 (Some to.0) rs (subst (λ (o : Op). MaySetPhis p sets (edge_by p m o)) q (phis l)))
      op_kept pinned number (op.CondBr c a b) q = top_kept _ (λ l rs. branch_kept pinned region refl l rs)
      op_kept pinned number (op.Switch w on other cases) q = top_kept _ (λ l rs. branch_kept pinned region refl l rs)
      op_kept pinned number (op.Call g args) q = above_call _ cs more low like
      op_kept pinned number (op.Ret v) q = returned _ (deeper v q) (λ l rs. outside_target sets (caller_target p m.calls) _ rs (target v q l)) more refl
      op_kept pinned number (op.Alloca bytes) q = top_kept _ (λ l rs. outside_target sets x.result _ rs (result l))
      op_kept pinned number (op.CallLibrary f args) q = top_kept _ (λ l rs. known_kept f number _ l rs)
      op_kept pinned number (op.Gep base indices) q = top_kept _ (λ l rs. outside_target sets x.result _ rs (result l))
      op_kept pinned number _ q = top_kept _ (λ l rs. outside_target sets x.result _ rs (result l))

      access_kept : (exact : Bool) (a : Access) (bytes : ℕ → Symbolic) (o : Op) → length m.calls ≡ depth → (rs : List Symbolic) → Outside 0 sets rs (after_access p exact n a bytes x o rs)
      access_kept exact a bytes (op.Load w from) l rs = outside_target sets x.result _ rs (result l)
      access_kept exact a bytes o l rs = outside_same 0 sets rs

      pub calls_kept : (kind : StepKind) → happening_in kind ≡ None → (t : SymbolicState) → Above cs (calls_by p e n m region x kind t (more ++ low))
      calls_kept (kinds.Access a) q t = top_kept _ (λ l rs. access_kept (e.exact n) a t.bytes x.op l rs)
      calls_kept (kinds.Event v) q t = absurd (cc)
      calls_kept kind q t = op_kept (e.pinned n) (result_in kind) x.op refl

-- ---- bytes and words

module _ (p : NumberedProgram) (e : Taken) (n : ℕ) (m : Moment) (region : Option FreeRegion) (x : Instr) (writes : ℕ → Bool) (b : ℕ) (apart : writes b ≡ false) where
  stored_kept : (r : ByteRange) (v : Symbolic) (bytes : ℕ → Symbolic) → (is_within r b ≡ true → writes b ≡ true) → stored r v bytes b ≡ bytes b
  stored_kept r v bytes h = go (is_within r b) refl
    where
      go : (i : Bool) → is_within r b ≡ i → (if is_within r b then byte_in (b - r.start) v else bytes b) ≡ bytes b
      go true q = absurd (true≢false (sym (h q) ∙ apart))
      go false q = rw q refl

  spoiled_kept : (r : ByteRange) (y : Decision) (bytes : ℕ → Symbolic) → (is_within r b ≡ true → writes b ≡ true) → spoiled r y bytes b ≡ bytes b
  spoiled_kept r y bytes h = go (is_within r b) refl
    where
      go : (i : Bool) → is_within r b ≡ i → (if is_within r b then Unknown y else bytes b) ≡ bytes b
      go true q = absurd (true≢false (sym (h q) ∙ apart))
      go false q = rw q refl

  store_kept : (a : Access) (rs : List Symbolic) (bytes : ℕ → Symbolic) (o : Op) (known : Bool) → (is_store o ≡ true → is_within (range_of a) b ≡ true → writes b ≡ true) →
      (is_store o ≡ true → is_within (bounds_of a.pointer) b ≡ true → writes b ≡ true) → bytes_stored p known n a rs o bytes b ≡ bytes b
  store_kept a rs bytes (op.Store w v at) true h g = stored_kept (range_of a) _ bytes (h refl)
  store_kept a rs bytes (op.Store w v at) false h g = spoiled_kept (bounds_of a.pointer) _ bytes (g refl)
  store_kept a rs bytes _ known h g = refl

  free_kept : (o : Option FreeRegion) (pinned : Bool) (bytes : ℕ → Symbolic) → ((q : FreeRegion) → o ≡ Some q → may_write q.accesses b ≡ true → writes b ≡ true) →
      bytes_freed pinned n o bytes b ≡ bytes b
  free_kept None true bytes h = refl
  free_kept None false bytes h = refl
  free_kept (Some q) true bytes h = refl
  free_kept (Some q) false bytes h = go (may_write q.accesses b) refl
    where
      go : (i : Bool) → may_write q.accesses b ≡ i → forgotten_bytes q.accesses (Pinned n) bytes b ≡ bytes b
      go true f = absurd (true≢false (sym (h q refl f) ∙ apart))
      go false f = forgotten_byte q.accesses (Pinned n) bytes b ∙ (rw f refl)

  pub bytes_kept : (kind : StepKind) → happening_in kind ≡ None → (t : SymbolicState) →
      ((a : Access) → kind ≡ kinds.Access a → is_store x.op ≡ true → is_within (range_of a) b ≡ true → writes b ≡ true) →
      ((a : Access) → kind ≡ kinds.Access a → is_store x.op ≡ true → is_within (bounds_of a.pointer) b ≡ true → writes b ≡ true) →
      ((q : FreeRegion) → region ≡ Some q → may_write q.accesses b ≡ true → writes b ≡ true) →
      known_bytes p e n m region x kind t b ≡ t.bytes b
  bytes_kept (kinds.Access a) q t h g f = store_kept a _ t.bytes x.op (e.exact n || a.event) (h a refl) (g a refl)
  bytes_kept (kinds.Event v) q t h g f = absurd (cc)
  bytes_kept kind q t h g f = free_kept region (e.pinned n) t.bytes f

pub words_kept : (p : NumberedProgram) (m : Moment) (x : Instr) (kind : StepKind) → happening_in kind ≡ None → (t : SymbolicState) → known_words p m x kind t ≡ t.words
words_kept p m x (kinds.Event v) q t = absurd (cc)
words_kept p m x kind q t = refl

pub made_none : (p : NumberedProgram) (kind : StepKind) → happening_in kind ≡ None → made_in p kind ≡ []
made_none p (kinds.Event v) q = absurd (cc)
made_none p kind q = refl

pub plain_edge : (p : NumberedProgram) (m : Moment) (kind : StepKind) → happening_in kind ≡ None → edge_of p m kind ≡ edge_in p m (instr_in p m)
plain_edge p m (kinds.Event v) q = absurd (cc)
plain_edge p m kind q = refl
