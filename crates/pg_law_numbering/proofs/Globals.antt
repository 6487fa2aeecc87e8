-- The globals of an accepted tree lie one after another, below the threads' regions.
use Rattle.std.proofs.Common.{◌≡◌, ℕ, zero, suc, ◌+◌, ◌<◌, ◌≤◌, List, [], ◌∷◌, ◌++◌, length, map, take, false, ◌||◌, refl, sym, ap, ◌∙◌, subst, arith, nat_lt}
use Rattle.std.specs.Prelude.{slice_get, Option, Some, sum_by, nat_le}
use Rattle.std.specs.List.{flat_map, enumerate_from}
use Rattle.std.proofs.lemmas.Bool.{or_parts, ltb-false, leb-false}
use Rattle.std.proofs.lemmas.List.FromFn.{length-enumerate_from}
use Rattle.pg_num.specs.declared.limits.TheConstants.{SIZE_LIMIT, GLOBAL_LIMIT}
use Rattle.pg_num.specs.declared.layout.TheConstants.{GLOBALS_END}
use Rattle.pg_ir.specs.WellFormed.{LieFrom, granules_for}
use Rattle.pg_read_ast.specs.Syntax.{Ty, Variable, Tree}
use Rattle.pg_check_rules.specs.declared.fault.CheckKind.TheVariants.{UnknownName, WrongType, TooLarge}
use Rattle.pg_check_types.specs.Resolved.{ResolvedType, resolved}
use Rattle.pg_check_types.specs.Layout.{size_or_none}
use Rattle.pg_check_rules.specs.Written.{Use, const_types, own_types, asks, isnt_void}
use Rattle.pg_check_rules.specs.TypeConditions.{unknown_types, wrong_types, any_large, unmet}
use Rattle.pg_check_rules.specs.ValueConditions.{wrong_const, wrong_use, unknown_value}
use Rattle.pg_check_rules.specs.Constants.{start_granule, const_bytes, bytes_at, trimmed}
use Rattle.pg_check_rules.specs.Numbered.{global_at, program_of}
use Rattle.pg_check_rules.specs.Conditions.{global_uses, global_types, granules_of, globals_end, outside, global_refused, IsUnrefused}
use Rattle.pg_law_numbering.proofs.FlattenedLists.{Numbered, take_more, there_at}
use Rattle.pg_law_numbering.proofs.UnrefusedParts.{front_none, behind_none, at_if_none, globals_pass}
use Rattle.pg_law_numbering.proofs.ResolvedTypes.{Has}
use Rattle.pg_law_numbering.proofs.TypeNameChains.{types_are}
use Rattle.pg_law_numbering.proofs.TypeSizes.{not_large, size_within}
use Rattle.pg_law_numbering.proofs.ConstantBytes.{const_length, trimmed_length}
use Rattle.pg_law_numbering.proofs.EachElement.{all_from_front}

-- ---- sums of the first elements

module _ (m : Tree) (accepted : IsUnrefused m) where
  -- each type that a global writes is one
  global_type : (i : ℕ) (v : Variable) → slice_get m.globals i ≡ Some v → (k : ℕ) (t : Ty) → slice_get (global_types v) k ≡ Some t → Has (resolved m.types t)
  unfolding global_refused
  global_type i v e k t at =
      types_are m accepted (global_types v) k t
      (front_none (unknown_types m.types (global_types v)) (flat_map (λ (u : Use). unknown_value (outside m) u.value) (global_uses v)) (globals_pass m accepted i v e UnknownName))
      (front_none (wrong_types m.types (global_types v)) (unmet m.types (asks isnt_void v.ty)
      ++ (wrong_const m.types (resolved m.types v.ty) v.value ++ flat_map (wrong_use (outside m)) (global_uses v))) (globals_pass m accepted i v e WrongType))
      at

  global_const : (i : ℕ) (v : Variable) → slice_get m.globals i ≡ Some v → wrong_const m.types (resolved m.types v.ty) v.value ≡ []
  unfolding global_refused
  global_const i v e =
      front_none (wrong_const m.types (resolved m.types v.ty) v.value) (flat_map (wrong_use (outside m)) (global_uses v))
      (behind_none (unmet m.types (asks isnt_void v.ty)) (wrong_const m.types (resolved m.types v.ty) v.value ++ flat_map (wrong_use (outside m)) (global_uses v))
      (behind_none (wrong_types m.types (global_types v)) (unmet m.types (asks isnt_void v.ty)
      ++ (wrong_const m.types (resolved m.types v.ty) v.value ++ flat_map (wrong_use (outside m)) (global_uses v))) (globals_pass m accepted i v e WrongType)))

  -- what the bytes of a global take
  bytes_length : (i : ℕ) (v : Variable) → slice_get m.globals i ≡ Some v → length (trimmed (bytes_at m (resolved m.types v.ty) v.value)) ≤ size_or_none (resolved m.types v.ty)
  bytes_length i v e =
      let r = global_type i v e 0 v.ty refl in
      let all = all_from_front (λ (t : Ty). Has (resolved m.types t)) (const_types v.value) (flat_map (λ (u : Use). own_types u.value) (global_uses v))
      (λ (k : ℕ) (t : Ty) at. global_type i v e (suc k) t at) in
      let c : wrong_const m.types (Some r.0) v.value ≡ [] = sym (ap (λ (o : Option ResolvedType). wrong_const m.types o v.value) r.1) ∙ global_const i v e in
      subst (λ (o : Option ResolvedType). length (trimmed (bytes_at m o v.value)) ≤ size_or_none o) (sym r.1)
      (omega (arith, trimmed_length (const_bytes m r.0 v.value), const_length m r.0 v.value c all))

  no_limit : (i : ℕ) (v : Variable) → slice_get m.globals i ≡ Some v
      → (any_large m.types (global_types v) || nat_le GLOBAL_LIMIT i || nat_lt GLOBALS_END (globals_end m.types (take (i + 1) m.globals))) ≡ false
  unfolding global_refused
  no_limit i v e = at_if_none (any_large m.types (global_types v) || nat_le GLOBAL_LIMIT i || nat_lt GLOBALS_END (globals_end m.types (take (i + 1) m.globals))) v.name.span
      (globals_pass m accepted i v e TooLarge)

  pub size_fits : (i : ℕ) (v : Variable) → slice_get m.globals i ≡ Some v → size_or_none (resolved m.types v.ty) ≤ SIZE_LIMIT
  size_fits i v e =
      let large = (or_parts (any_large m.types (global_types v)) (nat_le GLOBAL_LIMIT i)
      (or_parts (any_large m.types (global_types v) || nat_le GLOBAL_LIMIT i) (nat_lt GLOBALS_END (globals_end m.types (take (i + 1) m.globals))) (no_limit i v e)).0).0 in
      size_within m accepted v.ty (not_large m.types (global_types v) 0 v.ty large refl)

  end_fits : (i : ℕ) (v : Variable) → slice_get m.globals i ≡ Some v → 1 + sum_by (granules_of m.types) (take (suc i) m.globals) ≤ GLOBALS_END
  unfolding globals_end
  end_fits i v e =
      let b = (or_parts (any_large m.types (global_types v) || nat_le GLOBAL_LIMIT i) (nat_lt GLOBALS_END (globals_end m.types (take (i + 1) m.globals))) (no_limit i v e)).1 in
      let z : i + 1 ≡ suc i = omega arith in
      subst (λ (q : ℕ). 1 + sum_by (granules_of m.types) (take q m.globals) ≤ GLOBALS_END) z (ltb-false GLOBALS_END (globals_end m.types (take (i + 1) m.globals)) b)

  place_fits : (i : ℕ) (v : Variable) → slice_get m.globals i ≡ Some v → i < GLOBAL_LIMIT
  place_fits i v e =
      let a = (or_parts (any_large m.types (global_types v) || nat_le GLOBAL_LIMIT i) (nat_lt GLOBALS_END (globals_end m.types (take (i + 1) m.globals))) (no_limit i v e)).0 in
      leb-false GLOBAL_LIMIT i (or_parts (any_large m.types (global_types v)) (nat_le GLOBAL_LIMIT i) a).1

  -- each global starts below the threads' regions, and the last ends there
  pub start_below : (i : ℕ) → i ≤ length m.globals → start_granule m i ≤ GLOBALS_END
  unfolding start_granule
  start_below zero l = omega arith
  start_below (suc i) l =
      let v = there_at m.globals i (omega (arith, l)) in
      end_fits i v.0 v.1

  start_more : (i : ℕ) (v : Variable) → slice_get m.globals i ≡ Some v → start_granule m (suc i) ≡ start_granule m i + granules_of m.types v
  unfolding start_granule
  start_more i v e = let t = take_more (granules_of m.types) m.globals i v e in omega (arith, t)

  lie : (n : ℕ) (gs : List Variable) → n + length gs ≡ length m.globals → ((i : ℕ) (v : Variable) → slice_get gs i ≡ Some v → slice_get m.globals (n + i) ≡ Some v)
      → LieFrom (start_granule m n) (map (λ (x : Numbered Variable). global_at m x.0 x.1) (enumerate_from n gs))
  lie n [] l h = start_below n (omega (arith, l))
  lie n (g ∷ gs) l h =
      let z : n + 0 ≡ n = omega arith in
      let here : slice_get m.globals n ≡ Some g = subst (λ (q : ℕ). slice_get m.globals q ≡ Some g) z (h 0 g refl) in
      let s : suc n ≡ n + 1 = omega arith in
      let next : start_granule m n + granules_for (size_or_none (resolved m.types g.ty)) ≡ start_granule m (n + 1) = sym (start_more n g here) ∙ ap (start_granule m) s in (
        refl,
        size_fits n g here,
        bytes_length n g here,
        subst (λ (q : ℕ). LieFrom q (map (λ (x : Numbered Variable). global_at m x.0 x.1) (enumerate_from (n + 1) gs))) (sym next)
            (lie (n + 1) gs (omega (arith, l)) (λ (i : ℕ) (v : Variable) e. let y : n + suc i ≡ n + 1 + i = omega arith in
            subst (λ (q : ℕ). slice_get m.globals q ≡ Some v) y (h (suc i) v e))),
      )

  pub globals_lie : LieFrom 1 (program_of m).globals
  unfolding program_of start_granule
  globals_lie = lie 0 m.globals (omega arith) (λ (i : ℕ) (v : Variable) e. let z : i ≡ 0 + i = omega arith in subst (λ (q : ℕ). slice_get m.globals q ≡ Some v) z e)

  pub globals_count : length (program_of m).globals ≡ length m.globals
  unfolding program_of
  globals_count = count (enumerate_from 0 m.globals) ∙ length-enumerate_from 0 m.globals
    where
      count : (xs : List (Numbered Variable)) → length (map (λ (x : Numbered Variable). global_at m x.0 x.1) xs) ≡ length xs
      count [] = refl
      count (x ∷ xs) = ap suc (count xs)

  pub few_globals : length (program_of m).globals ≤ GLOBAL_LIMIT
  few_globals = by (length m.globals) refl
    where
      by : (n : ℕ) → length m.globals ≡ n → length (program_of m).globals ≤ GLOBAL_LIMIT
      by zero e = omega (arith, globals_count, e)
      by (suc n) e =
          let v = there_at m.globals n (omega (arith, e)) in
          omega (arith, globals_count, e, place_fits n v.0 v.1)
