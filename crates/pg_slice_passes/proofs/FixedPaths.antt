-- A path that loads nothing and begins at a word that is the same on each input asks nothing of it.
use Rattle.std.proofs.Common.{◌≡◌, ℕ, ◌&&◌, Bool, true, false, List, [], ◌∷◌, refl, sym, ap, ◌∙◌, subst, append-nil}
use Rattle.pg_num.specs.Pointers.{pointer_of}
use Rattle.pg_ir.specs.Program.{NumberedProgram}
use Rattle.pg_run.proofs.GuidedRuns.{same_as_itself}
use Rattle.pg_precondition.specs.Nodes.{NodeList}
use Rattle.pg_slice_rules.specs.Freeable.{FreeAccess}
use Rattle.pg_slice_rules.specs.Rules.{Bounds, path_needs, root_symbolic, same_bounds}
use Rattle.pg_slice_rules.specs.SymbolicValues.{Symbolic, always}
use Rattle.pg_slice_checks.specs.Asks.{Adds, all_hold}
use Rattle.pg_slice_checks.specs.declared.asked.Asked.{Asked}
use Rattle.pg_region_paths.specs.Paths.{offsets_of}
use Rattle.pg_slice_replay.specs.Given.{access_as}
use Rattle.pg_slice_replay.specs.declared.run.FreeAccess as declared

and_true : (b : Bool) → (b && true) ≡ b
and_true true = refl
and_true false = refl

-- the bounds of a word are its own on each input
pub own_bounds : (ns : NodeList) (old : Asked) (word : ℕ) → Adds ns (Bounds (always word) (same_bounds word) ∷ []) old old
own_bounds ns old word = record {
  missing = sym (append-nil old.missing.items);
  checks = λ input.
      sym (and_true (all_hold ns old.checks.items input))
      ∙ ap (λ b. all_hold ns old.checks.items input && b) (sym (rw (same_as_itself (pointer_of word).start) (rw (same_as_itself (pointer_of word).length) refl)));
  named = λ a. a;
}

pub fixed_adds : (p : NumberedProgram) (ns : NodeList) (bytes : ℕ → Symbolic) (rs : List Symbolic) (access : declared.FreeAccess) (old : Asked) →
    offsets_of access.path.loads ≡ [] → root_symbolic p rs access.path.root ≡ always access.last → (a : FreeAccess) → access_as access ≡ a →
    Adds ns (path_needs bytes (root_symbolic p rs a.path.root) (offsets_of a.path.loads) a.at.pointers a.at.cells a.at.last) old old
fixed_adds p ns bytes rs access old none root a q =
    subst (λ (y : FreeAccess). Adds ns (path_needs bytes (root_symbolic p rs y.path.root) (offsets_of y.path.loads) y.at.pointers y.at.cells y.at.last) old old) q
    (subst (λ (ks : List ℕ). Adds ns (path_needs bytes (root_symbolic p rs access.path.root) ks (access_as access).at.pointers (access_as access).at.cells access.last) old old) (sym none)
    (subst (λ (s : Symbolic). Adds ns (path_needs bytes s [] (access_as access).at.pointers (access_as access).at.cells access.last) old old) (sym root) (own_bounds ns old access.last)))
