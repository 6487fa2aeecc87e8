-- In alike states a region's paths lead where they were recorded to lead.
use Rattle.std.proofs.Common.{◌≡◌, ℕ, Bool, List, [], ◌∷◌, Option, Some, None, refl, sym, ap, ◌∙◌, subst}
use Rattle.std.specs.Prelude.{Contains, option_and_then}
use Rattle.pg_num.specs.Places.{ByteRange}
use Rattle.pg_run_memory.specs.Memory.{read}
use Rattle.pg_ir.specs.declared.instr.Instr.{Instr}
use Rattle.pg_ir.specs.Program.{NumberedProgram}
use Rattle.pg_region_paths.specs.declared.path.Loads.{Loads}
use Rattle.pg_region_paths.specs.declared.path.Loads.TheVariants.{Never, Once, Twice, Thrice, FourTimes}
use Rattle.pg_region_paths.specs.FollowedPaths as followed
use Rattle.pg_region_paths.specs.FollowedPaths.{PathPointers, cell_at, followed_from, root_value}
use Rattle.pg_region_paths.specs.Paths.{offsets_of}
use Rattle.pg_region_accesses.specs.declared.rooted.Rooted.{Rooted}
use Rattle.pg_region_accesses.specs.Accesses.{RootedList}
use Rattle.pg_region_paths.proofs.Elements.{here, there, none_in}
use Rattle.pg_region.specs.declared.region.Region.{Region}
use Rattle.pg_run_thread.specs.LocalState.{Frame, LocalState}
use Rattle.pg_run.specs.State.{State}
use Rattle.pg_slice_replay.specs.pg_slice_rules.Moments.{Moment, number_in}
use Rattle.pg_slice_replay.specs.pg_slice_rules.Freeable.{FreeRegion, bounds_of}
use Rattle.pg_law_instances.specs.Alike.{IsAlike, IsAlikeBranch, recorded_registers}
use Rattle.pg_law_instances.specs.Free.{instance_of}
use Rattle.pg_law_instances.specs.Inside.{IsAtBranch, registers_by}
use Rattle.pg_law_instances.specs.Leads.{IsReached, Leads}
use Rattle.pg_law_instances.proofs.FreeableSteps.{apart_at, at_branch, followed_at}
use Rattle.pg_law_instances.proofs.PathsOfValues.{follows_root, root_follows}

-- in memory with the same cells a path is followed in the same way
same_cells : (before now : ByteRange → ℕ) (ks : List ℕ) (w : ℕ) (at : PathPointers) → followed_from before w ks ≡ Some at
    → ((c : ByteRange) → Contains at.cells c → now c ≡ before c) → followed_from now w ks ≡ Some at
same_cells before now [] w at e h = e
same_cells before now (k ∷ ks) w at e h = go (cell_at w k) refl e (λ u more q i. same_cells before now ks u more q i)
  where
    with_more : (c : ByteRange) (o : Option PathPointers) → cell_at w k ≡ Some c → followed_from before (before c) ks ≡ o → followed.behind w c o ≡ Some at
        → ((u : ℕ) (more : PathPointers) → followed_from before u ks ≡ Some more → ((c : ByteRange) → Contains more.cells c → now c ≡ before c)
        → followed_from now u ks ≡ Some more) → followed_from now w (k ∷ ks) ≡ Some at
    with_more c None q r v rest = absurd cc
    with_more c (Some more) q r v rest =
        let is : record { pointers = w ∷ more.pointers; cells = c ∷ more.cells; last = more.last } ≡ at = cc in
        let cells : at.cells ≡ c ∷ more.cells = ap (λ (f : PathPointers). f.cells) (sym is) in
        let held : now c ≡ before c = h c (subst (λ (l : List ByteRange). Contains l c) (sym cells) (here c more.cells)) in
        let next : followed_from now (before c) ks ≡ Some more = rest (before c) more r (λ d m. h d (subst (λ (l : List ByteRange). Contains l d) (sym cells) (there c more.cells d m))) in
        ap (λ (o : Option ByteRange). option_and_then (λ cell. followed.behind w cell (followed_from now (now cell) ks)) o) q
        ∙ ap (λ (u : ℕ). followed.behind w c (followed_from now u ks)) held
        ∙ ap (followed.behind w c) next ∙ ap (λ (f : PathPointers). Some f) is

    go : (o : Option ByteRange) → cell_at w k ≡ o → option_and_then (λ cell. followed.behind w cell (followed_from before (before cell) ks)) o ≡ Some at
        → ((u : ℕ) (more : PathPointers) → followed_from before u ks ≡ Some more → ((c : ByteRange) → Contains more.cells c → now c ≡ before c)
        → followed_from now u ks ≡ Some more) →
        followed_from now w (k ∷ ks) ≡ Some at
    go None q v rest = absurd cc
    go (Some c) q v rest = with_more c (followed_from before (before c) ks) q refl v rest

module _ (p : NumberedProgram) (gated : ℕ → Bool) (sums : ℕ → Option RootedList) (r : Region) (q : FreeRegion) (m : Moment) (s : State) (l : LocalState) (f : Frame) (fs : List Frame)
    (x : Instr) (h : IsAlikeBranch p gated sums r q m s l f fs x) where
  access_leads : (a : Rooted) → Contains r.accesses.items a → Leads p (registers_by f.registers) (read s.memory) q.accesses a
  access_leads a c = go a.path.loads refl
    where
      recorded : (g : PathPointers) × (followed.followed p (recorded_registers m) (number_in m) a.path ≡ Some g) × Contains q.accesses (record { writes = a.writes; path = a.path; at = g })
      recorded = followed_at p m r.accesses.items q.accesses a h.recorded c

      alike : IsAlike p m (registers_by f.registers) (read s.memory) a.path
      alike = h.alike a c

      root : (w : ℕ) × (root_value p (recorded_registers m) a.path.root ≡ Some w) × (followed_from (number_in m) w (offsets_of a.path.loads) ≡ Some recorded.0)
      root = follows_root (number_in m) (offsets_of a.path.loads) (root_value p (recorded_registers m) a.path.root) recorded.0 recorded.1

      reached : (last : ℕ) → bounds_of last ≡ bounds_of recorded.0.last → IsReached q.accesses a.writes (bounds_of last)
      reached last e = record { access = record { writes = a.writes; path = a.path; at = recorded.0 }; among = recorded.2; kind = refl; same = sym e }

      -- the path doesn't load
      never : a.path.loads ≡ Never → Leads p (registers_by f.registers) (read s.memory) q.accesses a
      never e =
          let k : followed_from (number_in m) root.0 [] ≡ Some recorded.0 = ap (λ (v : Loads). followed_from (number_in m) root.0 (offsets_of v)) (sym e) ∙ root.2 in
          let is : record { pointers = []; cells = []; last = root.0 } ≡ recorded.0 = cc in
          record {
            at = record { pointers = []; cells = []; last = alike.word };
            is = root_follows (read s.memory) (offsets_of a.path.loads) (root_value p (registers_by f.registers) a.path.root) alike.word alike.is_word
                ∙ ap (λ (v : Loads). followed_from (read s.memory) alike.word (offsets_of v)) e;
            loads = λ w d. absurd (none_in w d);
            last = reached alike.word (alike.bounds root.0 root.1 ∙ ap (λ (g : PathPointers). bounds_of g.last) is);
          }

      -- it loads
      some : (a.path.loads ≡ Never → ⊥) → Leads p (registers_by f.registers) (read s.memory) q.accesses a
      some n =
          let same : alike.word ≡ root.0 = alike.same root.0 root.1 n in
          record {
            at = recorded.0;
            is = root_follows (read s.memory) (offsets_of a.path.loads) (root_value p (registers_by f.registers) a.path.root) root.0 (alike.is_word ∙ ap (λ (w : ℕ). Some w) same)
                ∙ same_cells (number_in m) (read s.memory) (offsets_of a.path.loads) root.0 recorded.0 root.2 (alike.cells recorded.0 recorded.1);
            loads = λ w d. record { access = record { writes = a.writes; path = a.path; at = recorded.0 }; among = recorded.2; pointer = w; loads = d; same = refl };
            last = reached recorded.0.last refl;
          }

      no_never : (v : Loads) → a.path.loads ≡ v → (v ≡ Never → ⊥) → a.path.loads ≡ Never → ⊥
      no_never v e n k = n (sym e ∙ k)

      go : (v : Loads) → a.path.loads ≡ v → Leads p (registers_by f.registers) (read s.memory) q.accesses a
      go Never e = never e
      go (Once i) e = some (no_never (Once i) e (λ k. cc))
      go (Twice i j) e = some (no_never (Twice i j) e (λ k. cc))
      go (Thrice i j k) e = some (no_never (Thrice i j k) e (λ k. cc))
      go (FourTimes i j k n) e = some (no_never (FourTimes i j k n) e (λ k. cc))

  pub alike_begins : IsAtBranch (instance_of p gated sums r q s l f fs)
  alike_begins = at_branch p gated sums r q s l f fs x h.program h.summaries h.begun h.frames h.is h.kind h.function (h.program.instrs f.place x h.is).block h.join access_leads
      (apart_at q.accesses h.apart)
