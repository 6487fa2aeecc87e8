-- From the join on, a thread that does an event comes to a block that isn't quiet, or to a return, along the flow of control.
use Rattle.std.proofs.Common.{◌≡◌, ℕ, ◌+◌, ◌<◌, Bool, true, false, List, [], ◌∷◌, ◌++◌, length, Option, Some, None, refl, sym, ap, ◌∙◌, subst, arith, inl}
use Rattle.std.proofs.Common.{inr, ◌⊎◌}
use Rattle.std.specs.Prelude.{slice_get, Contains}
use Rattle.pg_ir.specs.declared.instr.Instr.{Instr}
use Rattle.pg_ir.specs.declared.instr.Op.{Op}
use Rattle.pg_ir.specs.declared.instr.Op.TheVariants as op
use Rattle.pg_ir.specs.Program.{NumberedProgram, function_of, end_of}
use Rattle.pg_ir.specs.Edges.{is_terminator, body_of, successors}
use Rattle.pg_ir.specs.WellFormed.{IsProgram, IsInBlock, StandsIn}
use Rattle.pg_ir.proofs.FunctionPlaces.{block_held, not_last, stands_within}
use Rattle.pg_cfg.specs.Graphs.{Path}
use Rattle.pg_cfg.specs.Graphs.Path.{on}
use Rattle.pg_region_accesses.specs.Accesses.{RootedList}
use Rattle.pg_region_accesses.specs.Laws.{IsQuiet}
use Rattle.pg_region_summaries.specs.Laws.{HasSummary}
use Rattle.pg_region_summaries.specs.Summaries.{AreSummaries}
use Rattle.pg_region_summaries.proofs.SummaryFacts.{passes_quiet}
use Rattle.pg_region_summaries.proofs.InstructionPlaces.{stands}
use Rattle.pg_region.specs.Regions.{flow_of}
use Rattle.pg_region.specs.Laws.{IsLoudBlock}
use Rattle.pg_run_thread.specs.LocalState.{Frame}
use Rattle.pg_run_thread.specs.States.{IsFrameOf, AreFramesOf, WaitFor, Calls, CallsFunction, StandsAt}
use Rattle.pg_run_thread.specs.Step.{moved, returned, stepped, target_in}
use Rattle.pg_law_instances.specs.Moves.{Moves, IsReturn}
use Rattle.pg_law_instances.proofs.FramesBehindEdges.{body_within, successors_of, target_fits}
use Rattle.pg_law_instances.proofs.ControlFlow.{edge_of}
use Rattle.pg_law_instances.proofs.QuietInstructions.{quieter, no_return}

module _ (p : NumberedProgram) (gated : ℕ → Bool) (sums : ℕ → Option RootedList) (program : IsProgram p) (summaries : AreSummaries p gated sums) (j : ℕ) where
  -- a frame that stands in a block to which a path leads from the join
  pub record Reached (f : Frame) : Type 0 where
    pub instr : Instr
    pub is : slice_get p.instrs f.place ≡ Some instr
    pub path : Path (flow_of p) j instr.block.0

  -- such a frame among the calls
  pub record Beyond (fs : List Frame) : Type 0 where
    pub above : List Frame
    pub base : Frame
    pub below : List Frame
    pub frames : fs ≡ above ++ base ∷ below
    pub reached : Reached base

  -- a block that isn't quiet can be reached
  pub record Loud : Type 0 where
    pub block : ℕ
    pub path : Path (flow_of p) j block
    pub loud : IsLoudBlock p gated sums block

  -- ---- where frames stand

  in_block : (b : ℕ) (o : Option Instr) → IsInBlock b o → (y : Instr) × (o ≡ Some y) × (y.block.0 ≡ b)
  in_block b None h = absurd h
  in_block b (Some y) h = (y, refl, h)

  -- behind an instruction that doesn't end its block stands one of the block
  next_in_block : (f g : Frame) (x : Instr) → slice_get p.instrs f.place ≡ Some x → is_terminator x.op ≡ false → g.place ≡ f.place + 1 → Path (flow_of p) j x.block.0 → Reached g
  next_in_block f g x e t q w =
      let fits = program.instrs f.place x e in
      let l = not_last (is_terminator x.op) f.place (end_of p x.block.0) t fits.ends fits.before in
      let y = in_block x.block.0 (slice_get p.instrs g.place)
      (subst (λ (i : ℕ). IsInBlock x.block.0 (slice_get p.instrs i)) (sym q) (block_held p x.block.0 (f.place + 1) program (let k = fits.from in omega arith) l)) in
      record { instr = y.0; is = y.1; path = subst (λ (b : ℕ). Path (flow_of p) j b) (sym y.2) w }

  -- at the body of a block
  pub at_body : (g : Frame) (b : ℕ) → b < length p.blocks → g.place ≡ body_of p b → Path (flow_of p) j b → Reached g
  unfolding body_of
  at_body g b lt q w =
      let y = in_block b (slice_get p.instrs g.place) (subst (λ (i : ℕ). IsInBlock b (slice_get p.instrs i)) (sym q)
      (block_held p b (body_of p b) program (omega arith) (body_within p b program lt))) in
      record { instr = y.0; is = y.1; path = subst (λ (c : ℕ). Path (flow_of p) j c) (sym y.2) w }

  loud_here : (f : Frame) (x : Instr) → slice_get p.instrs f.place ≡ Some x → Path (flow_of p) j x.block.0 → (IsQuiet false gated sums f.place x.op → ⊥) → Loud
  loud_here f x e w n =
      let k = stands p f.place x program e in
      record { block = x.block.0; path = w; loud = record { at = k.0; instr = x; is = k.2; loud = λ q. n (subst (λ (i : ℕ). IsQuiet false gated sums i x.op) k.1 q) } }

  -- ---- frames of quiet functions

  call_some : (g : ℕ) (i : ℕ) (o : Op) → CallsFunction g o → IsQuiet true gated sums i o → (ys : RootedList) × (sums g ≡ Some ys)
  call_some g i (op.Call h args) c q = let e : h ≡ g = c in (q.0, ap sums (sym e) ∙ q.1)
  call_some g i o c q = absurd c

  stands_of : (f : ℕ) (o : Option Instr) → StandsAt p f o → StandsIn p f o
  stands_of f None h = h
  stands_of f (Some x) h = h.0

  frame_function : (f : Frame) → IsFrameOf p f → f.function < length p.functions
  frame_function f h = stands_within p f.function f.place (slice_get p.instrs f.place) program refl (stands_of f.function (slice_get p.instrs f.place) h.place)

  instr_function : (f : ℕ) (o : Option Instr) (x : Instr) → o ≡ Some x → StandsAt p f o → function_of p x.block.0 ≡ f
  instr_function f None x e h = absurd h
  instr_function f (Some y) x e h = let q : y ≡ x = cc in subst (λ (z : Instr). function_of p z.block.0 ≡ f) q h.0

  -- a quiet function's instruction is quiet
  frame_quiet : (f : Frame) (x : Instr) (ys : RootedList) → IsFrameOf p f → slice_get p.instrs f.place ≡ Some x → sums f.function ≡ Some ys → IsQuiet true gated sums f.place x.op
  frame_quiet f x ys h e s =
      let k : HasSummary p gated sums f.function ys = record { program = program; summaries = summaries; function = frame_function f h; summary = s } in
      passes_quiet p gated sums f.function ys k f.place x e (instr_function f.function (slice_get p.instrs f.place) x e h.place)

  called_instr : (g : ℕ) (o : Option Instr) → Calls g o → (x : Instr) × (o ≡ Some x) × CallsFunction g x.op
  called_instr g None c = absurd c
  called_instr g (Some x) c = (x, refl, c)

  -- where the frame in the region's function is at a call that is quiet, all frames above are of quiet functions
  above_quiet : (us : List Frame) (base : Frame) (below : List Frame) (r : Reached base) (g h : ℕ) → IsQuiet false gated sums base.place r.instr.op → WaitFor p g h (us ++ base ∷ below)
      → (ys : RootedList) × (sums g ≡ Some ys)
  above_quiet [] base below r g h q w =
      let c = called_instr g (slice_get p.instrs base.place) w.1 in
      let e : c.0 ≡ r.instr = (let k : Some c.0 ≡ Some r.instr = sym c.1 ∙ r.is in cc) in
      call_some g base.place r.instr.op (subst (λ (z : Instr). CallsFunction g z.op) e c.2) (quieter gated sums base.place r.instr.op q)
  above_quiet (a ∷ us) base below r g h q w =
      let ys = above_quiet us base below r a.function a.height q w.3 in
      let c = called_instr g (slice_get p.instrs a.place) w.1 in
      call_some g a.place c.0.op c.2 (frame_quiet a c.0 ys.0 w.0 c.1 ys.1)

  -- ---- a step that ends the quiet

  -- an instruction on top that isn't quiet, also where a return is
  pub not_quiet : (fs : List Frame) (f : Frame) (gs : List Frame) (x : Instr) → fs ≡ f ∷ gs → AreFramesOf p fs → Beyond fs → slice_get p.instrs f.place ≡ Some x
      → (IsQuiet true gated sums f.place x.op → IsReturn x.op × (gs ≡ [])) → Loud
  not_quiet fs f gs x e ok b at n = go b.above b.frames
    where
      same : (r : Reached f) → r.instr ≡ x
      same r = let k : Some r.instr ≡ Some x = sym r.is ∙ at in cc

      ok' : AreFramesOf p (f ∷ gs)
      ok' = subst (AreFramesOf p) e ok

      top_is : (h : Frame) (hs : List Frame) → fs ≡ h ∷ hs → (f ≡ h) × (gs ≡ hs)
      top_is h hs q = let k : f ∷ gs ≡ h ∷ hs = sym e ∙ q in (cc, cc)

      go : (us : List Frame) → fs ≡ us ++ b.base ∷ b.below → Loud
      go [] q =
          let t = top_is b.base b.below q in
          let r : Reached f = subst (λ (h : Frame). Reached h) (sym t.0) b.reached in
          loud_here f x at (subst (λ (z : Instr). Path (flow_of p) j z.block.0) (same r) r.path) (λ k. no_return gated sums f.place x.op (n (quieter gated sums f.place x.op k)).0 k)
      go (a ∷ us) q =
          let t = top_is a (us ++ b.base ∷ b.below) q in
          let w : WaitFor p f.function f.height (us ++ b.base ∷ b.below) = subst (λ (hs : List Frame). WaitFor p f.function f.height hs) t.1 ok'.1 in
          loud_here b.base b.reached.instr b.reached.is b.reached.path (λ k.
          let ys = above_quiet us b.base b.below b.reached f.function f.height k w in
          let m = n (frame_quiet f x ys.0 ok'.0 at ys.1) in
          nonempty us (sym t.1 ∙ m.1))
        where
          nonempty : (us : List Frame) → us ++ b.base ∷ b.below ≡ [] → ⊥
          nonempty [] v = cc
          nonempty (c ∷ us) v = cc

  -- ---- a step that goes on

  -- a step that asks nothing of other threads leads on, or returns from the frame
  pub moves_on : (fs : List Frame) (f : Frame) (gs : List Frame) (x : Instr) (hs : List Frame) → fs ≡ f ∷ gs → AreFramesOf p fs → Beyond fs → slice_get p.instrs f.place ≡ Some x
      → Moves p f gs x x.op hs → Loud ⊎ Beyond hs
  moves_on fs f gs x hs e ok b at m = go b.above b.frames
    where
      top_is : (h : Frame) (ks : List Frame) → fs ≡ h ∷ ks → (f ≡ h) × (gs ≡ ks)
      top_is h ks q = let k : f ∷ gs ≡ h ∷ ks = sym e ∙ q in (cc, cc)

      ok' : AreFramesOf p (f ∷ gs)
      ok' = subst (AreFramesOf p) e ok

      path_here : Reached f → Path (flow_of p) j x.block.0
      path_here r = let k : r.instr ≡ x = (let v : Some r.instr ≡ Some x = sym r.is ∙ at in cc) in subst (λ (z : Instr). Path (flow_of p) j z.block.0) k r.path

      -- the frame itself is on top
      own : Reached f → gs ≡ b.below → Moves p f gs x x.op hs → Loud ⊎ Beyond hs
      own r q (inl a) =
          let t = target_fits p f.place x a.to program at a.among in
          let lt : x.block.0 < length p.blocks = (program.instrs f.place x at).block in
          let s : Contains (successors p x.block.0) a.to = subst (λ (ts : List ℕ). Contains ts a.to) (sym (successors_of p f.place x program at a.ends)) a.among in
          inr (record {
            above = [];
            base = moved p f x.block.0 a.to;
            below = gs;
            frames = a.is;
            reached = at_body (moved p f x.block.0 a.to) a.to t.0 refl (on (path_here r) (edge_of p x.block.0 a.to lt s));
          })
      own r q (inr (inl c)) = inr (record { above = c.frame ∷ []; base = f; below = gs; frames = c.is; reached = r })
      own r q (inr (inr (inl c))) = inl (loud_here f x at (path_here r) (λ k. no_return gated sums f.place x.op c.back k))
      own r q (inr (inr (inr c))) = inr (record { above = []; base = c.frame; below = gs; frames = c.is; reached = next_in_block f c.frame x at c.plain c.place (path_here r) })

      call_plain : (g : ℕ) (o : Op) → CallsFunction g o → is_terminator o ≡ false
      call_plain g (op.Call h args) c = refl
      call_plain g o c = absurd c

      -- a frame above is on top
      other : (us : List Frame) → gs ≡ us ++ b.base ∷ b.below → Moves p f gs x x.op hs → Loud ⊎ Beyond hs
      other us q (inl a) = inr (record
          { above = moved p f x.block.0 a.to ∷ us; base = b.base; below = b.below; frames = a.is ∙ ap (λ (ks : List Frame). moved p f x.block.0 a.to ∷ ks) q; reached = b.reached })
      other us q (inr (inl c)) = inr (record { above = c.frame ∷ f ∷ us; base = b.base; below = b.below; frames = c.is ∙ ap (λ (ks : List Frame). c.frame ∷ f ∷ ks) q; reached = b.reached })
      other us q (inr (inr (inr c))) = inr (record { above = c.frame ∷ us; base = b.base; below = b.below; frames = c.is ∙ ap (λ (ks : List Frame). c.frame ∷ ks) q; reached = b.reached })
      other [] q (inr (inr (inl c))) =
          let w : WaitFor p f.function f.height (b.base ∷ b.below) = subst (λ (ks : List Frame). WaitFor p f.function f.height ks) q ok'.1 in
          let y = called_instr f.function (slice_get p.instrs b.base.place) w.1 in
          let k : y.0 ≡ b.reached.instr = (let v : Some y.0 ≡ Some b.reached.instr = sym y.1 ∙ b.reached.is in cc) in
          let t : is_terminator b.reached.instr.op ≡ false = subst (λ (z : Instr). is_terminator z.op ≡ false) k (call_plain f.function y.0.op y.2) in
          let g : Frame = stepped b.base (target_in (slice_get p.instrs b.base.place)) c.number in
          inr (record {
            above = [];
            base = g;
            below = b.below;
            frames = c.is ∙ ap (λ (ks : List Frame). returned p ks c.number) q;
            reached = next_in_block b.base g b.reached.instr b.reached.is t refl b.reached.path;
          })
      other (a ∷ us) q (inr (inr (inl c))) =
          inr (record {
            above = stepped a (target_in (slice_get p.instrs a.place)) c.number ∷ us;
            base = b.base;
            below = b.below;
            frames = c.is ∙ ap (λ (ks : List Frame). returned p ks c.number) q;
            reached = b.reached;
          })

      go : (us : List Frame) → fs ≡ us ++ b.base ∷ b.below → Loud ⊎ Beyond hs
      go [] q = let t = top_is b.base b.below q in own (subst (λ (h : Frame). Reached h) (sym t.0) b.reached) t.1 m
      go (a ∷ us) q = let t = top_is a (us ++ b.base ∷ b.below) q in other us t.1 m
