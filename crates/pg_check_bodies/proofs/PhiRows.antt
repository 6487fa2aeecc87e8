-- The places of phis.
use Rattle.std.proofs.Common.{◌≡◌, ℕ, zero, suc, ◌&&◌, ◌==◌, not, nat_lt, Bool, true, false, cond, List, [], ◌∷◌, ◌++◌, drop, Option, Some, None, refl, sym, ap, ◌∙◌}
use Rattle.std.specs.List.{flat_map, prefix_len}
use Rattle.pg_read_lex.specs.declared.token.Span.{Span}
use Rattle.pg_read_ast.specs.declared.names.Name.{Name}
use Rattle.pg_read_ast.specs.Syntax.{Line, Block}
use Rattle.pg_check_rules.specs.Earliest.{earlier, earliest}
use Rattle.pg_check_rules.specs.Written.{is_phi_op, label_sources}
use Rattle.pg_check_rules.specs.BlockConditions.{phi_span, same_labels, are_labels, predecessors, wrong_sources, behind_phis, bad_phis}
use Rattle.pg_check_rules.proofs.Rows.{earliest_more}

nothing_early : (ss : List Span) → None ≡ earliest ss → ss ≡ []
unfolding earliest
nothing_early [] h = refl
nothing_early (s ∷ ss) h = by (earliest ss) h
  where
    by : (o : Option Span) → None ≡ earlier (Some s) o → s ∷ ss ≡ []
    by None h = absurd cc
    by (Some x) h = pick (nat_lt x.start s.start) h
      where
        pick : (b : Bool) → None ≡ cond b (Some x) (Some s) → s ∷ ss ≡ []
        pick true h = absurd cc
        pick false h = absurd cc

front_none : {X : Type 0} (xs ys : List X) → xs ++ ys ≡ [] → xs ≡ []
front_none [] ys h = refl
front_none (x ∷ xs) ys h = absurd cc

back_none : {X : Type 0} (xs ys : List X) → xs ++ ys ≡ [] → ys ≡ []
back_none [] ys h = h
back_none (x ∷ xs) ys h = absurd cc

drop_none : (n : ℕ) (ls : List Line) → flat_map phi_span ls ≡ [] → flat_map phi_span (drop n ls) ≡ []
drop_none zero ls h = h
drop_none (suc n) [] h = refl
drop_none (suc n) (l ∷ ls) h = drop_none n ls (back_none (phi_span l) (flat_map phi_span ls) h)

if_none : (b : Bool) (ss : List Span) → ss ≡ [] → cond b ss [] ≡ []
if_none true ss h = h
if_none false ss h = refl

sources_none : (labels before : List Name) (ls : List Line) → flat_map phi_span ls ≡ [] → flat_map (wrong_sources labels before) ls ≡ []
sources_none labels before [] h = refl
sources_none labels before (l ∷ ls) h =
    ap (λ ss. ss ++ flat_map (wrong_sources labels before) ls)
    (if_none (are_labels labels (label_sources l.op) && not (same_labels before (label_sources l.op))) (phi_span l) (front_none (phi_span l) (flat_map phi_span ls) h))
    ∙ sources_none labels before ls (back_none (phi_span l) (flat_map phi_span ls) h)

-- a block without a phi
pub no_phis : (labels : List Name) (blocks : List Block) (i : ℕ) (b : Block) → None ≡ earliest (flat_map phi_span b.lines) → None ≡ earliest (bad_phis labels blocks i b)
unfolding bad_phis earliest
no_phis labels blocks i b h =
    let none = nothing_early (flat_map phi_span b.lines) h in
    let late = drop_none (prefix_len (λ (l : Line). is_phi_op l.op) b.lines) b.lines none in
    let early = if_none (i == 0) (flat_map phi_span b.lines) none in
    let wrong = sources_none labels (predecessors blocks b.label) b.lines none in
    let first = cond (i == 0) (flat_map phi_span b.lines) [] in
    let third = flat_map (wrong_sources labels (predecessors blocks b.label)) b.lines in
    sym (ap (λ ss. earliest (ss ++ (first ++ third))) late ∙ ap (λ ss. earliest (ss ++ third)) early ∙ ap (λ ss. earliest ss) wrong)

-- the three rows of a block's phis
pub three_rows : (labels : List Name) (blocks : List Block) (i : ℕ) (b : Block) (late early wrong : Option Span) → late ≡ earliest (flat_map phi_span (behind_phis b))
    → early ≡ earliest (cond (i == 0) (flat_map phi_span b.lines) [])
    → wrong ≡ earliest (flat_map (wrong_sources labels (predecessors blocks b.label)) b.lines) → earlier late (earlier early wrong) ≡ earliest (bad_phis labels blocks i b)
unfolding bad_phis
three_rows labels blocks i b late early wrong x y z =
    let first = cond (i == 0) (flat_map phi_span b.lines) [] in
    let third = flat_map (wrong_sources labels (predecessors blocks b.label)) b.lines in
    ap (λ o. earlier o (earlier early wrong)) x
    ∙ ap (λ o. earlier (earliest (flat_map phi_span (behind_phis b))) (earlier o wrong)) y
    ∙ ap (λ o. earlier (earliest (flat_map phi_span (behind_phis b))) (earlier (earliest first) o)) z
    ∙ ap (λ o. earlier (earliest (flat_map phi_span (behind_phis b))) o) (sym (earliest_more first third))
    ∙ sym (earliest_more (flat_map phi_span (behind_phis b)) (first ++ third))
