-- What makes a step freeable, as it is added.
use Rattle.std.proofs.Common.{◌≡◌, ℕ, ◌+◌, ◌≤◌, List, [], ◌∷◌, ◌++◌, length, drop, take, Bool, true, false, Option, Some, None}
use Rattle.std.proofs.Common.{option_map, refl, sym, ap, ◌∙◌, subst, arith}
use Rattle.std.specs.Prelude.{IfSome, not, slice_get, if◌then◌else◌}
use Rattle.std.specs.List.{list_any}
use Rattle.std.proofs.lemmas.List.{length-append}
use Rattle.pg_ir.specs.declared.function.Block.{Block}
use Rattle.pg_ir.specs.declared.instr.Instr.{Instr}
use Rattle.pg_ir.specs.Program.{NumberedProgram, function_in, function_of}
use Rattle.pg_region_accesses.specs.declared.rooted.Rooted.{Rooted}
use Rattle.pg_region.specs.Regions.{block_in, block_of}
use Rattle.pg_law_effects.specs.pg_run.State.{State}
use Rattle.pg_slice_rules.specs.Freeable.{FreeAccess, stores_on}
use Rattle.pg_slice_replay.specs.declared.at.At.{At}
use Rattle.pg_slice_replay.specs.declared.found.FoundRegion.{FoundRegion}
use Rattle.pg_slice_replay.specs.Apart.{AddsApart, TriesApart, apart}
use Rattle.pg_slice_replay.specs.Kept.{FitsBy, free_by, region_with}
use Rattle.pg_slice_replay.specs.Paths.{Adds, accesses_in, accesses_with}
use Rattle.pg_slice_replay.specs.Sought.{IsFreed, freed}
use Rattle.pg_slice_replay.proofs.AddedRows.{drop_all}

module _ (p : NumberedProgram) (s : State) (t : ℕ) (us : List Rooted) (old : List At) where
  -- what was added, behind the old ones
  added_is : (new xs : List At) (first : ℕ) → first ≡ length old → new ≡ old ++ xs → drop first new ≡ xs
  added_is new xs first e n = ap (λ (k : ℕ). drop k new) e ∙ ap (drop (length old)) n ∙ drop_all old xs

  pub added_count : (b : Bool) (new added : List At) (first : ℕ) → b ≡ true → first ≡ length old → added ≡ drop first new → Adds p s t us old b new → length added ≡ length us
  added_count true new added first e f a h = ap length (a ∙ added_is new h.0 first f h.1.behind) ∙ h.1.count
  added_count false new added first e f a h = absurd cc

  -- the paths were followed, and a store meets what is loaded or none does
  pub tried : (b stored : Bool) (new added : List At) (first : ℕ) → b ≡ true → first ≡ length old → added ≡ drop first new → Adds p s t us old b new
      → stored ≡ list_any (stores_on (accesses_with us added)) (accesses_with us added) → TriesApart p s t us old (not stored) new
  tried false stored new added first e f a h q = absurd cc
  tried true stored new added first e f a h q = go stored (q ∙ ap (λ (xs : List At). list_any (stores_on (accesses_with us xs)) (accesses_with us xs)) (a ∙ added_is new h.0 first f h.1.behind))
    where
      apart_is : (c : Bool) → c ≡ list_any (stores_on (accesses_with us h.0)) (accesses_with us h.0) → apart (accesses_in p s t us) ≡ (if c then None else Some (accesses_with us h.0))
      apart_is c k = ap apart h.1.given ∙ ap (λ (d : Bool). if d then None else Some (accesses_with us h.0)) (sym k)

      go : (c : Bool) → c ≡ list_any (stores_on (accesses_with us h.0)) (accesses_with us h.0) → TriesApart p s t us old (not c) new
      go true k = (h.0, record { behind = h.1.behind; none = apart_is true k })
      go false k = (h.0, record { behind = h.1.behind; count = h.1.count; given = apart_is false k })

  pub tried_none : (b : Bool) (new : List At) → b ≡ false → Adds p s t us old b new → TriesApart p s t us old false new
  tried_none true new e h = absurd cc
  tried_none false new e h = (h.0, record { behind = h.1.behind; none = ap apart h.1.none })

  take_front : (xs ys : List At) → take (length xs) (xs ++ ys) ≡ xs
  take_front [] ys = refl
  take_front (x ∷ xs) ys = ap (λ (l : List At). x ∷ l) (take_front xs ys)

  pub apart_added : (b : Bool) (new : List At) → b ≡ true → TriesApart p s t us old b new → AddsApart p s t us old true new
  apart_added true new e h = h
  apart_added false new e h = absurd cc

  pub apart_cut : (b : Bool) (new rest : List At) (first : ℕ) → b ≡ false → first ≡ length old → rest ≡ take first new → TriesApart p s t us old b new
      → AddsApart p s t us old false rest
  apart_cut true new rest first e f r h = absurd cc
  apart_cut false new rest first e f r h = (r ∙ ap (λ (k : ℕ). take k new) f ∙ ap (take (length old)) h.1.behind ∙ take_front old h.0, h.1.none)

-- ---- a free step

append_none : (xs : List At) → xs ++ [] ≡ xs
append_none [] = refl
append_none (x ∷ xs) = ap (λ (l : List At). x ∷ l) (append_none xs)

module _ (p : NumberedProgram) (s : State) (t : ℕ) (regions : List FoundRegion) (n : ℕ) (old : List At) where
  -- there is no such region
  pub freed_missing : slice_get regions n ≡ None → (xs : List At) × IsFreed (freed p s t (slice_get regions n)) regions old old xs None
  freed_missing e = ([], record { behind = sym (append_none old); fits = tt; given = sym (ap (freed p s t) e) })

  module _ (r : FoundRegion) (at : slice_get regions n ≡ Some r) (us : List Rooted) (all : us ≡ r.accesses.items) where
    same_accesses : accesses_in p s t us ≡ accesses_in p s t r.accesses.items
    same_accesses = ap (accesses_in p s t) all

    pub freed_none : (b : Bool) (new : List At) → b ≡ false → AddsApart p s t us old b new → (xs : List At) × IsFreed (freed p s t (slice_get regions n)) regions old new xs None
    freed_none true new e h = absurd cc
    freed_none false new e h = (
      [],
      record {
        behind = h.0 ∙ sym (append_none old);
        fits = tt;
        given = sym
            (ap (freed p s t) at ∙ ap (λ (o : Option (List FreeAccess)). option_map (region_with r) (apart o)) (sym same_accesses) ∙ ap (option_map (region_with r)) h.1);
      },
    )

    pub freed_some : (b : Bool) (new : List At) (first : ℕ) → b ≡ true → first ≡ length old → AddsApart p s t us old b new
        → (xs : List At) × IsFreed (freed p s t (slice_get regions n)) regions old new xs (Some (record { region = n; first = first }))
    freed_some false new first e f h = absurd cc
    freed_some true new first e f h = (
      h.0,
      record {
        behind = h.1.behind;
        fits = subst (λ (o : Option FoundRegion). FitsBy new first o) (sym at) (omega (arith, f, ap length h.1.behind, length-append old h.0, h.1.count, ap length all));
        given =
            ap (free_by new first) at
            ∙ ap (λ (xs : List At). Some (region_with r (accesses_with r.accesses.items xs))) (ap (λ (k : ℕ). drop k new) f ∙ ap (drop (length old)) h.1.behind ∙ drop_all old h.0)
            ∙ ap (λ (vs : List Rooted). Some (region_with r (accesses_with vs h.0))) (sym all)
            ∙ sym (ap (freed p s t) at ∙ ap (λ (o : Option (List FreeAccess)). option_map (region_with r) (apart o)) (sym same_accesses) ∙ ap (option_map (region_with r)) h.1.given);
      },
    )

    -- the accesses lead where others do that are there already
    pub freed_again : (first : ℕ) → first + length us ≤ length old → apart (accesses_in p s t us) ≡ Some (accesses_with us (drop first old))
        → (xs : List At) × IsFreed (freed p s t (slice_get regions n)) regions old old xs (Some (record { region = n; first = first }))
    freed_again first room e = (
      [],
      record {
        behind = sym (append_none old);
        fits = subst (λ (o : Option FoundRegion). FitsBy old first o) (sym at) (omega (arith, room, ap length all));
        given =
            ap (free_by old first) at
            ∙ ap (λ (vs : List Rooted). Some (region_with r (accesses_with vs (drop first old)))) (sym all)
            ∙ sym (ap (freed p s t) at ∙ ap (λ (o : Option (List FreeAccess)). option_map (region_with r) (apart o)) (sym same_accesses) ∙ ap (option_map (region_with r)) e);
      },
    )

    pub freed_before : (ats : List At) → ats ≡ old → (o : Option ℕ) (first : ℕ) → o ≡ Some first
        → IfSome o (λ (k : ℕ). (k + length us ≤ length ats) × (apart (accesses_in p s t us) ≡ Some (accesses_with us (drop k ats))))
        → (xs : List At) × IsFreed (freed p s t (slice_get regions n)) regions old old xs (Some (record { region = n; first = first }))
    freed_before ats same o first is h =
        let a = subst (λ (z : Option ℕ). IfSome z (λ (k : ℕ). (k + length us ≤ length ats) × (apart (accesses_in p s t us) ≡ Some (accesses_with us (drop k ats))))) is h in
        freed_again first (subst (λ (l : List At). first + length us ≤ length l) same a.0)
        (subst (λ (l : List At). apart (accesses_in p s t us) ≡ Some (accesses_with us (drop first l))) same a.1)

-- ---- the function of a step

pub function_at : (p : NumberedProgram) (i : ℕ) (x : Instr) (b : Block) → slice_get p.instrs i ≡ Some x → slice_get p.blocks x.block.0 ≡ Some b
    → b.function ≡ function_of p (block_of p i)
unfolding function_of
function_at p i x b e f = sym (ap function_in (ap (slice_get p.blocks) (ap block_in e) ∙ f))
