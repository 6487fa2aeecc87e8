-- Tables in which ranks are noted at nodes.
use Rattle.std.proofs.Common.{◌≡◌, ℕ, suc, ◌+◌, ◌-◌, ◌/◌, ◌%◌, ◌<◌, ◌≤◌, ◌==◌, Bool, true, false, List, [], ◌∷◌, ◌++◌, refl, sym, ap}
use Rattle.std.proofs.Common.{◌∙◌, subst, arith}
use Rattle.std.specs.Prelude.{◌&&◌, ◌||◌}
use Rattle.std.proofs.lemmas.List.Folds.{list_any-append}
use Rattle.pg_run_trace.specs.declared.best.Best.{Best}
use Rattle.pg_slice_conflicts.specs.declared.pass.Touch.{Touch}
use Rattle.pg_slice_conflicts.specs.Nodes.{ends, path, span}
use Rattle.pg_slice_conflicts.specs.Ranks.{AreBest, Noted, any_above, gives, has_above, is_among}

or_none : (a : Bool) → a ≡ (a || false)
or_none true = refl
or_none false = refl

or_more : (a b c g : Bool) → ((a || (b && g)) || (c && g)) ≡ (a || ((b || c) && g))
or_more true b c g = refl
or_more false true c true = refl
or_more false true true false = refl
or_more false true false false = refl
or_more false false c g = refl

module _ (x : Touch) where
  pub noted_none : (table : List Best) → AreBest table → Noted table table [] x
  noted_none table b = record { as_many = refl; best = b; above = λ v u need. or_none (has_above table v u need) }

  pub noted_append : (old mid more : List Best) (vs ws : List ℕ) → Noted old mid vs x → Noted mid more ws x → Noted old more (vs ++ ws) x
  noted_append old mid more vs ws a b = record {
    as_many = b.as_many ∙ a.as_many;
    best = b.best;
    above = λ v u need.
        b.above v u need ∙ ap (λ t. t || (is_among v ws && gives x u need)) (a.above v u need)
        ∙ or_more (has_above old v u need) (is_among v vs) (is_among v ws) (gives x u need)
        ∙ sym (ap (λ t. has_above old v u need || (t && gives x u need)) (list_any-append (λ w. w == v) vs ws));
  }

  -- with the rest of a path, or of a span, noted too
  pub path_next : (old more : List Best) (n level node : ℕ) → level < n
      → ((new' : List Best) → Noted old new' (node ∷ []) x → Noted new' more (path (n - (level + 1)) (node / 2)) x → Noted old more (path (n - level) node) x)
  path_next old more n level node lt new' a b =
      let e : suc (n - (level + 1)) ≡ n - level = omega (arith, lt) in
      subst (λ k. Noted old more (path k node) x) e (noted_append old new' more (node ∷ []) (path (n - (level + 1)) (node / 2)) a b)

  pub span_next : (old more : List Best) (n level low high : ℕ) → level < n
      → ((new' : List Best) → Noted old new' (ends low high) x → Noted new' more (span (n - (level + 1)) (low / 2 + low % 2) (high / 2)) x → Noted old more (span (n - level) low high) x)
  span_next old more n level low high lt new' a b =
      let e : suc (n - (level + 1)) ≡ n - level = omega (arith, lt) in
      subst (λ k. Noted old more (span k low high) x) e (noted_append old new' more (ends low high) (span (n - (level + 1)) (low / 2 + low % 2) (high / 2)) a b)

  -- ---- looking

  pub path_passed : (table : List Best) (n level node : ℕ) → level < n → has_above table node x.thread.0 x.need ≡ false
      → any_above table x (path (n - (level + 1)) (node / 2)) ≡ any_above table x (path (n - level) node)
  path_passed table n level node lt h =
      let e : suc (n - (level + 1)) ≡ n - level = omega (arith, lt) in
      subst (λ k. any_above table x (path (n - (level + 1)) (node / 2)) ≡ any_above table x (path k node)) e (sym (ap (λ b. b || any_above table x (path (n - (level + 1)) (node / 2))) h))

  pub span_passed : (table : List Best) (n level low high : ℕ) → level < n → any_above table x (ends low high) ≡ false
      → any_above table x (span (n - (level + 1)) (low / 2 + low % 2) (high / 2)) ≡ any_above table x (span (n - level) low high)
  span_passed table n level low high lt h =
      let e : suc (n - (level + 1)) ≡ n - level = omega (arith, lt) in
      subst (λ k. any_above table x (span (n - (level + 1)) (low / 2 + low % 2) (high / 2)) ≡ any_above table x (span k low high)) e
      (sym (list_any-append (λ v. has_above table v x.thread.0 x.need) (ends low high) (span (n - (level + 1)) (low / 2 + low % 2) (high / 2))
      ∙ ap (λ b. b || any_above table x (span (n - (level + 1)) (low / 2 + low % 2) (high / 2))) h))

  pub path_whole : (old more : List Best) (n level node : ℕ) → n ≤ level → Noted old more [] x → Noted old more (path (n - level) node) x
  path_whole old more n level node le h = let e : 0 ≡ n - level = omega (arith, le) in subst (λ k. Noted old more (path k node) x) e h

  pub span_whole : (old more : List Best) (n level low high : ℕ) → n ≤ level → Noted old more [] x → Noted old more (span (n - level) low high) x
  span_whole old more n level low high le h = let e : 0 ≡ n - level = omega (arith, le) in subst (λ k. Noted old more (span k low high) x) e h
