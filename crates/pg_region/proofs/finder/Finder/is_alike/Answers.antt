use Rattle.std.proofs.Common.{◌≡◌, ℕ, true, Some, sym, ◌∙◌, ap, arith, subst, length}
use Rattle.pg_cfg.specs.Graphs.{Edge}
use Rattle.pg_cfg.specs.Separators.{AreRanks, NoneSeparates, rank_in}
use Rattle.pg_cfg.proofs.AlikeVertices.{marked_more, more_alike}
use Rattle.pg_region.specs.Finders.{FinderParts}
use Rattle.pg_region.proofs.AlikeBranches.{both_like}
use Rattle.pg_region_accesses.specs.Tables.{in_table}
use Rattle.pg_region.proofs.finder.Finder.is_alike.Goals as goal

pub nearest_separator-requires-clause-ranks : goal.nearest_separator-requires-clause-ranks
nearest_separator-requires-clause-ranks c =
    let m : in_table c.args.alike.now.before.items c.args.block ≡ true = rw c.as_slice.ensures.value at (sym c.contains-is_before.ensures ∙ c.if-not-is_before.false) in
    let r : AreRanks c.args.self.now.flow c.args.alike.now.marks.items c.args.self.now.ranks =
    marked_more c.args.self.now.flow c.args.self.now.loud c.args.alike.now.marks.items c.args.self.now.ranks c.requires.ranks (c.requires.kept c.args.block m).kept in
    rw (c.as_slice-2.ensures.value, c.as_slice-3.ensures.value) (subst (λ (f : FinderParts). AreRanks f.flow c.args.alike.now.marks.items f.ranks) (sym c.self.view_is) r)

pub nearest_separator-requires-clause-vertex : goal.nearest_separator-requires-clause-vertex
nearest_separator-requires-clause-vertex c = omega (arith, c.requires.block, ap (λ (f : FinderParts). length f.flow) c.self.view_is)

pub returns-clause-kept : goal.returns-clause-kept
returns-clause-kept c =
    let m : in_table c.args.alike.now.before.items c.args.block ≡ true = rw c.as_slice.ensures.value at (sym c.contains-is_before.ensures ∙ c.if-not-is_before.false) in
    let none : NoneSeparates c.args.self.now.flow c.args.alike.now.marks.items c.args.block =
    subst (λ (f : FinderParts). NoneSeparates f.flow c.args.alike.now.marks.items c.args.block) c.self.view_is
    (rw (c.is_nothing-is_one.ensures c.if-not-is_one.false, c.as_slice-2.ensures.value) at c.in_ok-separator.ensures.separator) in
    let ranked : (x : ℕ) × (r : ℕ) × Edge c.args.self.now.flow c.args.block x × (rank_in c.args.self.now.ranks x ≡ Some r) =
    subst (λ (f : FinderParts). (x : ℕ) × (r : ℕ) × Edge f.flow c.args.block x × (rank_in f.ranks x ≡ Some r)) c.self.view_is
    (rw (c.is_nothing-is_one.ensures c.if-not-is_one.false, c.as_slice-3.ensures.value) at c.in_ok-separator.ensures.ranked) in
    λ x e. rw c.put.ensures.items (more_alike c.args.self.now.flow c.args.self.now.loud c.args.alike.now.first c.args.alike.now.join c.args.alike.now.before.items c.args.alike.now.marks.items
    (c.requires.kept x e) c.args.block (both_like c.args.self.now c.requires.closed c.requires.ranks c.args.alike.now.first c.args.block c.args.alike.now.join c.args.alike.now.before.items
    c.args.alike.now.marks.items (c.requires.kept x e) m none ranked))

pub returns-clause-alike : goal.returns-clause-alike
returns-clause-alike c =
    let m : in_table c.args.alike.now.before.items c.args.block ≡ true = rw c.as_slice.ensures.value at (sym c.contains-is_before.ensures ∙ c.if-not-is_before.false) in
    let none : NoneSeparates c.args.self.now.flow c.args.alike.now.marks.items c.args.block =
    subst (λ (f : FinderParts). NoneSeparates f.flow c.args.alike.now.marks.items c.args.block) c.self.view_is
    (rw (c.is_nothing-is_one.ensures c.if-not-is_one.false, c.as_slice-2.ensures.value) at c.in_ok-separator.ensures.separator) in
    let ranked : (x : ℕ) × (r : ℕ) × Edge c.args.self.now.flow c.args.block x × (rank_in c.args.self.now.ranks x ≡ Some r) =
    subst (λ (f : FinderParts). (x : ℕ) × (r : ℕ) × Edge f.flow c.args.block x × (rank_in f.ranks x ≡ Some r)) c.self.view_is
    (rw (c.is_nothing-is_one.ensures c.if-not-is_one.false, c.as_slice-3.ensures.value) at c.in_ok-separator.ensures.ranked) in
    λ t. (
      c.args.alike.now.join,
      (c.requires.kept c.args.block m).own,
      both_like c.args.self.now c.requires.closed c.requires.ranks c.args.alike.now.first c.args.block c.args.alike.now.join c.args.alike.now.before.items c.args.alike.now.marks.items
          (c.requires.kept c.args.block m) m none ranked,
    )
