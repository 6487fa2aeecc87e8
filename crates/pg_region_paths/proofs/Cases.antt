-- The paths of the relation are those that the function gives.
use Rattle.std.proofs.Common.{◌≡◌, ◌≢◌, ℕ, ◌↔◌, Bool, true, false, cond, List, [], ◌∷◌, Option, Some, None, refl, sym, ap, ◌∙◌, subst}
use Rattle.std.specs.Prelude.{option_map, option_and_then}
use Rattle.pg_ir.specs.declared.value.Value.{Value}
use Rattle.pg_ir.specs.declared.value.Value.TheVariants as value
use Rattle.pg_ir.specs.declared.value.Index.{Index}
use Rattle.pg_ir.specs.declared.value.Scalar.{Scalar}
use Rattle.pg_ir.specs.pg_num.declared.width.Width.{Width}
use Rattle.pg_ir.specs.declared.instr.Instr.{Instr}
use Rattle.pg_ir.specs.declared.instr.Op.{Op}
use Rattle.pg_ir.specs.declared.instr.Op.TheVariants as op
use Rattle.pg_region_paths.specs.declared.path.Root.{Root}
use Rattle.pg_region_paths.specs.declared.path.Root.TheVariants as root
use Rattle.pg_region_paths.specs.declared.path.Path.{Path}
use Rattle.pg_region_paths.specs.Paths.{rooted, loaded}
use Rattle.pg_region_paths.specs.Registers.{is_register, has_pointer, moved, value_path, path_by, register_path, path_of}
use Rattle.pg_region_paths.specs.Relation.{LastSets, NoneSets, HasPath}
use Rattle.pg_region_paths.specs.Relation.LastSets.{here, before}
use Rattle.pg_region_paths.specs.Relation.NoneSets.{none, also}
use Rattle.pg_region_paths.specs.Relation.HasPath.{global, constant, register, getelementptr, load}

module _ (is_set : ℕ → Bool) (types : List Scalar) where
  root_path : (r : ℕ) (ys : List Instr) → is_set r ≡ false → NoneSets r ys → register_path is_set types ys r ≡ Some (rooted (root.Register r))
  root_path r ys e none = rw e refl
  root_path r ys e (also {y = y} {ys = zs} n h) = rw n (root_path r zs e h)

  set_path : (r : ℕ) (x : Instr) (rest ys : List Instr) → LastSets r x rest ys → register_path is_set types ys r ≡ path_by (register_path is_set types rest) (has_pointer types x.result) x.op
  set_path r x rest ys (here e) = rw e refl
  set_path r x rest ys (before {y = y} {ys = zs} n h) = rw n (set_path r x rest zs h)

  to : (ys : List Instr) (v : Value) (q : Path) → HasPath is_set types ys v q → path_of is_set types ys v ≡ Some q
  to ys v q global = refl
  to ys v q constant = refl
  to ys v q (register {r = r} e h) = root_path r ys e h
  to ys v q (getelementptr {rest = rest} {r = r} {x = x} {base = base} {indices = is} {q = q'} h e k) =
      set_path r x rest ys h ∙ rw e (ap (λ o. option_map (moved is) o) (to rest base q' k))
  to ys v q (load {rest = rest} {r = r} {x = x} {from = from} {q = q'} h e t k l) =
      set_path r x rest ys h ∙ rw (e, t) (ap (λ o. option_and_then loaded o) (to rest from q' k) ∙ l)

  -- the other way: the nearest instruction that sets the register, or none
  widen : (r : ℕ) (y : Instr) (ys : List Instr) (q : Path) → is_register y.result r ≡ false → HasPath is_set types ys (value.Register r) q
      → HasPath is_set types (y ∷ ys) (value.Register r) q
  widen r y ys q n (register e h) = register e (also n h)
  widen r y ys q n (getelementptr h e k) = getelementptr (before n h) e k
  widen r y ys q n (load h e t k l) = load (before n h) e t k l

  by_base : (r : ℕ) (y : Instr) (ys : List Instr) (base : Value) (is : List Index) (q : Path) → is_register y.result r ≡ true → y.op ≡ op.Gep base is
      → ((q' : Path) → path_of is_set types ys base ≡ Some q' → HasPath is_set types ys base q') →
      (o : Option Path) → path_of is_set types ys base ≡ o → option_map (moved is) o ≡ Some q → HasPath is_set types (y ∷ ys) (value.Register r) q
  by_base r y ys base is q s e f None p k = absurd cc
  by_base r y ys base is q s e f (Some q') p k = let t : moved is q' ≡ q = cc in subst (λ (z : Path). HasPath is_set types (y ∷ ys) (value.Register r) z) t (getelementptr (here s) e (f q' p))

  by_address : (r : ℕ) (y : Instr) (ys : List Instr) (w : Width) (from : Value) (q : Path) → is_register y.result r ≡ true → y.op ≡ op.Load w from
      → has_pointer types y.result ≡ true → ((q' : Path) → path_of is_set types ys from ≡ Some q' → HasPath is_set types ys from q') →
      (o : Option Path) → path_of is_set types ys from ≡ o → option_and_then loaded o ≡ Some q → HasPath is_set types (y ∷ ys) (value.Register r) q
  by_address r y ys w from q s e t f None p k = absurd cc
  by_address r y ys w from q s e t f (Some q') p k = load (here s) e t (f q' p) k

  by_op : (r : ℕ) (y : Instr) (ys : List Instr) (q : Path) → is_register y.result r ≡ true
      → ((v : Value) (q' : Path) → path_of is_set types ys v ≡ Some q' → HasPath is_set types ys v q') →
      (o : Op) → y.op ≡ o → (b : Bool) → has_pointer types y.result ≡ b → path_by (register_path is_set types ys) b o ≡ Some q → HasPath is_set types (y ∷ ys) (value.Register r) q
  by_op r y ys q s f (op.Gep base is) e b t k = by_base r y ys base is q s e (f base) (path_of is_set types ys base) refl k
  by_op r y ys q s f (op.Load w from) e true t k = by_address r y ys w from q s e t (f from) (path_of is_set types ys from) refl k
  by_op r y ys q s f (op.Load w from) e false t k = absurd cc
  by_op r y ys q s f _ e b t k = absurd cc

  from : (ys : List Instr) (v : Value) (q : Path) → path_of is_set types ys v ≡ Some q → HasPath is_set types ys v q
  from ys (value.Global g) q e = let t : rooted (root.Global g) ≡ q = cc in subst (λ (z : Path). HasPath is_set types ys (value.Global g) z) t global
  from ys (value.Const n) q e = let t : rooted (root.Const n) ≡ q = cc in subst (λ (z : Path). HasPath is_set types ys (value.Const n) z) t constant
  from ys (value.Function g) q e = absurd cc
  from [] (value.Register r) q e = go (is_set r) refl e
    where
      go : (b : Bool) → is_set r ≡ b → cond b None (Some (rooted (root.Register r))) ≡ Some q → HasPath is_set types [] (value.Register r) q
      go true s k = absurd cc
      go false s k = let t : rooted (root.Register r) ≡ q = cc in subst (λ (z : Path). HasPath is_set types [] (value.Register r) z) t (register s none)
  from (y ∷ ys) (value.Register r) q e = go (is_register y.result r) refl e (λ v q' k. from ys v q' k)
    where
      go : (b : Bool) → is_register y.result r ≡ b → cond b (path_by (register_path is_set types ys) (has_pointer types y.result) y.op) (register_path is_set types ys r) ≡ Some q
          → ((v : Value) (q' : Path) → path_of is_set types ys v ≡ Some q' → HasPath is_set types ys v q') → HasPath is_set types (y ∷ ys) (value.Register r) q
      go true s k f = by_op r y ys q s f y.op refl (has_pointer types y.result) refl k
      go false s k f = widen r y ys q s (f (value.Register r) q k)

  pub cases_exact : (ys : List Instr) (v : Value) (q : Path) → HasPath is_set types ys v q ↔ (path_of is_set types ys v ≡ Some q)
  cases_exact ys v q = (to ys v q, from ys v q)
