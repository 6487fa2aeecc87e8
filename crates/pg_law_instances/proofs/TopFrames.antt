-- The top frame of an instance, whichever it is.
use Rattle.std.proofs.Common.{◌≡◌, ℕ, true, false, List, ◌∷◌, Option, Some, sym, ap, ◌∙◌, subst, inl, inr, ◌⊎◌}
use Rattle.pg_run_thread.specs.LocalState.{Frame}
use Rattle.pg_run_thread.specs.Step.{moved}
use Rattle.pg_law_instances.specs.Inside.{Instance, QuietSet, IsQuietSet, StandsIn, Stands, Waits, HasJoined, region_set}
use Rattle.pg_law_instances.proofs.FramesBehindEdges.{edge_joins}

-- the branch's frame at the join, on the lower frames
pub record AtJoin (I : Instance) (fs : List Frame) : Type 0 where
  pub frame : Frame
  pub frames : fs ≡ frame ∷ I.lower
  pub joined : HasJoined I frame

-- where a step leads by this edge, if it takes one, from the top frame on these: inside, or by the edge to the join
abbrev pub Arrived : Instance → List Frame → Option ℕ → List Frame → Type 0
Arrived I below edge fs = Stands I fs ⊎ (AtJoin I fs × (below ≡ I.lower) × (edge ≡ Some I.join))

-- what holds of the top frame: it may stand anew in its set, go on to the join if it is the branch's, and return if it isn't
pub record Top (I : Instance) (f : Frame) (fs : List Frame) : Type 0 where
  pub set : QuietSet
  pub quiet : IsQuietSet I set
  pub stands : StandsIn I set f
  pub again : (g : Frame) → g.function ≡ f.function → g.height ≡ f.height → StandsIn I set g → Stands I (g ∷ fs)
  pub joins : set.returns ≡ false → (from : ℕ) → AtJoin I (moved I.program f from I.join ∷ fs) × (fs ≡ I.lower)
  pub above : set.returns ≡ true → Waits I.program f.function fs × Stands I fs

pub top_of : (I : Instance) (f : Frame) (fs : List Frame) → IsQuietSet I (region_set I) → Stands I (f ∷ fs) → Top I f fs
top_of I f fs region (inl b) = record {
  set = region_set I;
  quiet = region;
  stands = b.stands;
  again = λ g fn h s. inl (record { lower = b.lower; function = fn ∙ b.function; height = h ∙ b.height; stands = s });
  joins = λ r from. (
    record {
      frame = moved I.program f from I.join;
      frames = ap (λ (l : List Frame). moved I.program f from I.join ∷ l) b.lower;
      joined = edge_joins I f from b.function b.height b.stands.kept;
    },
    b.lower,
  );
  above = λ r. absurd cc;
}
top_of I f fs region (inr (a, s)) = record {
  set = a.set;
  quiet = a.quiet;
  stands = a.stands;
  again = λ g fn h t. inr (
    record { set = a.set; returns = a.returns; blocks = rw fn a.blocks; quiet = a.quiet; waits = subst (λ (n : ℕ). Waits I.program n fs) (sym fn) a.waits; stands = t },
    s,
  );
  joins = λ r from. absurd (let z = a.returns in cc);
  above = λ r. (a.waits, s);
}
