-- A likeness of what is known under two sets of decisions, the one within the other, that the operations keep.
use Rattle.std.proofs.Common.{◌≡◌, ℕ, zero, suc, ◌+◌, ◌-◌, ◌<◌, ℤ, Bool, true, false, List, [], ◌∷◌, map, Option, Some, None, refl, sym, ap, ◌∙◌, subst, arith}
use Rattle.std.specs.Prelude.{Contains, slice_index_or, slice_set, ◌||◌, ◌&&◌, if◌then◌else◌}
use Rattle.std.specs.List.{AllZip}
use Rattle.std.proofs.lemmas.Bool.{true≢false}
use Rattle.pg_num.specs.Places.{ByteRange}
use Rattle.pg_ir.specs.declared.value.Index.{Index}
use Rattle.pg_ir.specs.declared.value.Value.{Value}
use Rattle.pg_ir.specs.declared.value.Value.TheVariants as value
use Rattle.pg_ir.specs.declared.instr.Instr.{Instr}
use Rattle.pg_ir.specs.declared.instr.Op.{Op}
use Rattle.pg_ir.specs.declared.instr.Op.TheVariants as op
use Rattle.pg_ir.specs.Program.{NumberedProgram}
use Rattle.pg_ir.specs.Edges.{phis_of}
use Rattle.pg_slice_rules.specs.declared.decision.Decision.{Decision}
use Rattle.pg_slice_rules.specs.Freeable.{FreeAccess, bounds_of}
use Rattle.pg_slice_rules.specs.SymbolicValues.{OnInput, Symbolic, Unknown, cut, from_all, is_within, joined, loaded, moved, result_of, symbolic_of, spoiled, stored, unset, valued, byte_in}
use Rattle.pg_slice_rules.specs.Known.{Taken, along_edge, forgotten_bytes, forgotten_from, has, operand_at, operand_symbolics, optional_symbolic, phi_symbolic, set_phis, set_symbolic}
use Rattle.pg_slice_rules.specs.Rules.{moved_symbolic}
use Rattle.pg_slice_rules.specs.Closed.{AreWithin}
use Rattle.pg_law_least.specs.Keeps.{MaySet, MaySetPhis, may_write}
use Rattle.pg_law_least.specs.Laws.{step_in}
use Rattle.pg_law_least.proofs.AlikeLists.{index_like, map_like, set_like}
use Rattle.pg_region_paths.proofs.Elements.{here, there}

pub record IsLink (d e : Taken) (bound : ℕ) (L : Symbolic → Symbolic → Type 0) : Type 0 where
  pub within : AreWithin d e
  pub known : (f : OnInput) → L (valued f) (valued f)
  pub all : (ss ts : List Symbolic) (F : (List ℤ → List (Option ℕ)) → OnInput) → AllZip L ss ts → L (from_all ss (λ gs. valued (F gs))) (from_all ts (λ gs. valued (F gs)))
  pub cuts : (f : ℕ → ℕ) (s t : Symbolic) → L s t → L (cut f s) (cut f t)
  pub moves : (o : Op) (base : Value) (indices : List Index) → o ≡ op.Gep base indices → (ss ts : List Symbolic) → AllZip L ss ts →
      L (moved (slice_index_or ss 0 unset) (result_of o ss)) (moved (slice_index_or ts 0 unset) (result_of o ts))
  pub shifts : (k : ℕ) (s t : Symbolic) → L s t → L (moved_symbolic k s) (moved_symbolic k t)
  pub both : (x : Decision) → step_in x < bound → has d x ≡ false → L (Unknown x) (Unknown x)
  pub left : (x : Decision) → has d x ≡ false → has e x ≡ true → (t : Symbolic) → L (Unknown x) t

-- ---- registers that are as they were but for some

abbrev pub Outside : ℕ → (ℕ → Bool) → List Symbolic → List Symbolic → Type 0
Outside r sets [] [] = Unit {0}
Outside r sets [] (t ∷ ts) = ⊥
Outside r sets (s ∷ ss) [] = ⊥
Outside r sets (s ∷ ss) (t ∷ ts) = (sets r ≡ false → t ≡ s) × Outside (suc r) sets ss ts

-- and registers of which these are unknown
abbrev pub AreForgotten : ℕ → (ℕ → Bool) → Decision → List Symbolic → Type 0
AreForgotten r sets x [] = Unit {0}
AreForgotten r sets x (s ∷ ss) = (sets r ≡ true → s ≡ Unknown x) × AreForgotten (suc r) sets x ss

pub outside_same : (r : ℕ) (sets : ℕ → Bool) (rs : List Symbolic) → Outside r sets rs rs
outside_same r sets [] = tt
outside_same r sets (s ∷ ss) = (λ e. refl, outside_same (suc r) sets ss)

pub outside_then : (r : ℕ) (sets : ℕ → Bool) (rs rt ru : List Symbolic) → Outside r sets rs rt → Outside r sets rt ru → Outside r sets rs ru
outside_then r sets [] [] [] h k = tt
outside_then r sets [] [] (u ∷ ru) h k = absurd k
outside_then r sets [] (t ∷ rt) ru h k = absurd h
outside_then r sets (s ∷ rs) [] ru h k = absurd h
outside_then r sets (s ∷ rs) (t ∷ rt) [] h k = absurd k
outside_then r sets (s ∷ rs) (t ∷ rt) (u ∷ ru) h k = (λ e. k.0 e ∙ h.0 e, outside_then (suc r) sets rs rt ru h.1 k.1)

outside_set : (r : ℕ) (sets : ℕ → Bool) (rs : List Symbolic) (j : ℕ) (v : Symbolic) → sets (r + j) ≡ true → Outside r sets rs (slice_set rs j v)
outside_set r sets [] j v q = tt
outside_set r sets (s ∷ rs) zero v q =
    let z : r + zero ≡ r = omega arith in
    (λ e. absurd (true≢false (sym q ∙ ap sets z ∙ e)), outside_same (suc r) sets rs)
outside_set r sets (s ∷ rs) (suc j) v q =
    let z : r + suc j ≡ suc r + j = omega arith in
    (λ e. refl, outside_set (suc r) sets rs j v (sym (ap sets z) ∙ q))

pub outside_target : (sets : ℕ → Bool) (o : Option ℕ) (v : Symbolic) (rs : List Symbolic) → MaySet sets o → Outside 0 sets rs (set_symbolic o v rs)
outside_target sets None v rs q = outside_same 0 sets rs
outside_target sets (Some j) v rs q =
    let z : 0 + j ≡ j = omega arith in
    outside_set 0 sets rs j v (ap sets z ∙ q)

outside_phis : (sets : ℕ → Bool) (xs : List Instr) (ss rs : List Symbolic) → ((i : Instr) → Contains xs i → MaySet sets i.result) → Outside 0 sets rs (set_phis rs xs ss)
outside_phis sets [] ss rs h = outside_same 0 sets rs
outside_phis sets (x ∷ xs) [] rs h = outside_same 0 sets rs
outside_phis sets (x ∷ xs) (s ∷ ss) rs h =
    outside_then 0 sets rs (set_symbolic x.result s rs) (set_phis (set_symbolic x.result s rs) xs ss) (outside_target sets x.result s rs (h x (here x xs)))
    (outside_phis sets xs ss (set_symbolic x.result s rs) (λ i c. h i (there x xs i c)))

pub outside_edge : (p : NumberedProgram) (sets : ℕ → Bool) (from : ℕ) (edge : Option ℕ) (rs : List Symbolic) → MaySetPhis p sets edge → Outside 0 sets rs (along_edge p from edge rs)
outside_edge p sets from None rs h = outside_same 0 sets rs
outside_edge p sets from (Some to) rs h = outside_phis sets (phis_of p to) (map (phi_symbolic p rs from) (phis_of p to)) rs h

pub outside_forgotten : (r : ℕ) (sets inner : ℕ → Bool) (x : Decision) (rs : List Symbolic) → ((k : ℕ) → inner k ≡ true → sets k ≡ true) →
    Outside r sets rs (forgotten_from r inner x rs)
outside_forgotten r sets inner x [] h = tt
outside_forgotten r sets inner x (s ∷ rs) h = (go (inner r) refl, outside_forgotten (suc r) sets inner x rs h)
  where
    go : (b : Bool) → inner r ≡ b → sets r ≡ false → (if inner r then Unknown x else s) ≡ s
    go true q e = absurd (true≢false (sym (h r q) ∙ e))
    go false q e = rw q refl

pub are_forgotten : (r : ℕ) (sets : ℕ → Bool) (x : Decision) (rs : List Symbolic) → AreForgotten r sets x (forgotten_from r sets x rs)
are_forgotten r sets x [] = tt
are_forgotten r sets x (s ∷ rs) = (λ q. rw q refl, are_forgotten (suc r) sets x rs)

-- ---- bytes

pub forgotten_byte : (xs : List FreeAccess) (x : Decision) (bytes : ℕ → Symbolic) (b : ℕ) → forgotten_bytes xs x bytes b ≡ (if may_write xs b then Unknown x else bytes b)
forgotten_byte [] x bytes b = refl
forgotten_byte (a ∷ xs) x bytes b = go a.writes (is_within (bounds_of a.at.last) b) (may_write xs b) refl refl refl
    (forgotten_byte xs x (if a.writes then spoiled (bounds_of a.at.last) x bytes else bytes) b)
  where
    go : (w i m : Bool) → a.writes ≡ w → is_within (bounds_of a.at.last) b ≡ i → may_write xs b ≡ m →
        forgotten_bytes xs x (if a.writes then spoiled (bounds_of a.at.last) x bytes else bytes) b ≡
        (if may_write xs b then Unknown x else (if a.writes then spoiled (bounds_of a.at.last) x bytes else bytes) b) →
        forgotten_bytes xs x (if a.writes then spoiled (bounds_of a.at.last) x bytes else bytes) b ≡
        (if (a.writes && is_within (bounds_of a.at.last) b) || may_write xs b then Unknown x else bytes b)
    go true true true e f g h = h ∙ (rw (e, f, g) refl)
    go true true false e f g h = h ∙ (rw (e, f, g) refl)
    go true false true e f g h = h ∙ (rw (e, f, g) refl)
    go true false false e f g h = h ∙ (rw (e, f, g) refl)
    go false i true e f g h = h ∙ (rw (e, g) refl)
    go false i false e f g h = h ∙ (rw (e, g) refl)

-- ---- what the operations keep

module _ (p : NumberedProgram) (d e : Taken) (bound : ℕ) (L : Symbolic → Symbolic → Type 0) (k : IsLink d e bound L) where
  pub register_like : (rs rt : List Symbolic) (i : ℕ) → AllZip L rs rt → L (slice_index_or rs i unset) (slice_index_or rt i unset)
  register_like rs rt i h = index_like L rs rt i unset (k.known (λ input. None)) h

  pub value_like : (rs rt : List Symbolic) (v : Value) → AllZip L rs rt → L (symbolic_of p rs v) (symbolic_of p rt v)
  value_like rs rt (value.Register r) h = register_like rs rt r h
  value_like rs rt v h = k.known _

  pub values_like : (rs rt : List Symbolic) (vs : List Value) → AllZip L rs rt → AllZip L (map (symbolic_of p rs) vs) (map (symbolic_of p rt) vs)
  values_like rs rt vs h = map_like L (symbolic_of p rs) (symbolic_of p rt) vs (λ v. value_like rs rt v h)

  pub optional_like : (rs rt : List Symbolic) (v : Option Value) → AllZip L rs rt → L (optional_symbolic p rs v) (optional_symbolic p rt v)
  optional_like rs rt None h = k.known (λ input. None)
  optional_like rs rt (Some v) h = value_like rs rt v h

  pub operand_like : (rs rt : List Symbolic) (o : Op) (i : ℕ) → AllZip L rs rt → L (operand_at p rs o i) (operand_at p rt o i)
  operand_like rs rt o i h = register_like (operand_symbolics p rs o) (operand_symbolics p rt o) i (values_like rs rt _ h)

  pub target_like : (o : Option ℕ) (s t : Symbolic) (rs rt : List Symbolic) → L s t → AllZip L rs rt → AllZip L (set_symbolic o s rs) (set_symbolic o t rt)
  target_like None s t rs rt q h = h
  target_like (Some r) s t rs rt q h = set_like L rs rt r s t h q

  phis_like : (xs : List Instr) (ss ts rs rt : List Symbolic) → AllZip L ss ts → AllZip L rs rt → AllZip L (set_phis rs xs ss) (set_phis rt xs ts)
  phis_like [] ss ts rs rt q h = h
  phis_like (x ∷ xs) [] [] rs rt q h = h
  phis_like (x ∷ xs) [] (t ∷ ts) rs rt q h = absurd q
  phis_like (x ∷ xs) (s ∷ ss) [] rs rt q h = absurd q
  phis_like (x ∷ xs) (s ∷ ss) (t ∷ ts) rs rt q h = phis_like xs ss ts (set_symbolic x.result s rs) (set_symbolic x.result t rt) q.1 (target_like x.result s t rs rt q.0 h)

  pub edge_like : (from : ℕ) (edge : Option ℕ) (rs rt : List Symbolic) → AllZip L rs rt → AllZip L (along_edge p from edge rs) (along_edge p from edge rt)
  edge_like from None rs rt h = h
  edge_like from (Some to) rs rt h = phis_like (phis_of p to) _ _ rs rt (map_like L (phi_symbolic p rs from) (phi_symbolic p rt from) (phis_of p to) (λ i. optional_like rs rt _ h)) h

  pub forgotten_like : (r : ℕ) (sets : ℕ → Bool) (x : Decision) (rs rt : List Symbolic) → step_in x < bound → has d x ≡ false → AllZip L rs rt →
      AllZip L (forgotten_from r sets x rs) (forgotten_from r sets x rt)
  forgotten_like r sets x [] [] l q h = tt
  forgotten_like r sets x [] (t ∷ rt) l q h = absurd h
  forgotten_like r sets x (s ∷ rs) [] l q h = absurd h
  forgotten_like r sets x (s ∷ rs) (t ∷ rt) l q h = (go (sets r), forgotten_like (suc r) sets x rs rt l q h.1)
    where
      go : (b : Bool) → L (if b then Unknown x else s) (if b then Unknown x else t)
      go true = k.both x l q
      go false = h.0

  -- what is forgotten is like anything
  pub forgotten_left : (r : ℕ) (sets : ℕ → Bool) (x : Decision) (rs rt : List Symbolic) → has d x ≡ false → has e x ≡ true → AllZip L rs rt →
      AllZip L (forgotten_from r sets x rs) rt
  forgotten_left r sets x [] [] q f h = tt
  forgotten_left r sets x [] (t ∷ rt) q f h = absurd h
  forgotten_left r sets x (s ∷ rs) [] q f h = absurd h
  forgotten_left r sets x (s ∷ rs) (t ∷ rt) q f h = (go (sets r), forgotten_left (suc r) sets x rs rt q f h.1)
    where
      go : (b : Bool) → L (if b then Unknown x else s) t
      go true = k.left x q f t
      go false = h.0

  -- and stays so while only what is forgotten changes
  pub changed_like : (r : ℕ) (sets : ℕ → Bool) (x : Decision) (rs rt ru : List Symbolic) → has d x ≡ false → has e x ≡ true → AreForgotten r sets x rs → AllZip L rs rt →
      Outside r sets rt ru → AllZip L rs ru
  changed_like r sets x [] [] [] q f g h o = tt
  changed_like r sets x [] [] (u ∷ ru) q f g h o = absurd o
  changed_like r sets x [] (t ∷ rt) ru q f g h o = absurd h
  changed_like r sets x (s ∷ rs) [] ru q f g h o = absurd h
  changed_like r sets x (s ∷ rs) (t ∷ rt) [] q f g h o = absurd o
  changed_like r sets x (s ∷ rs) (t ∷ rt) (u ∷ ru) q f g h o = (go (sets r) refl, changed_like (suc r) sets x rs rt ru q f g.1 h.1 o.1)
    where
      go : (b : Bool) → sets r ≡ b → L s u
      go true z = subst (λ v. L v u) (sym (g.0 z)) (k.left x q f u)
      go false z = subst (λ v. L s v) (sym (o.0 z)) h.0

  -- ---- bytes

  joined_like : (s t u v : Symbolic) → L s t → L u v → L (joined s u) (joined t v)
  joined_like s t u v g h = k.all (s ∷ u ∷ []) (t ∷ v ∷ []) _ (g, (h, tt))

  pub loaded_like : (bs bt : ℕ → Symbolic) (at n : ℕ) → ((b : ℕ) → L (bs b) (bt b)) → L (loaded bs at n) (loaded bt at n)
  loaded_like bs bt at zero h = k.known _
  loaded_like bs bt at (suc n) h = joined_like (bs at) (bt at) _ _ (h at) (loaded_like bs bt (at + 1) n h)

  pub stored_like : (r : ByteRange) (s t : Symbolic) (bs bt : ℕ → Symbolic) (b : ℕ) → L s t → L (bs b) (bt b) → L (stored r s bs b) (stored r t bt b)
  stored_like r s t bs bt b g h = go (is_within r b)
    where
      go : (i : Bool) → L (if i then byte_in (b - r.start) s else bs b) (if i then byte_in (b - r.start) t else bt b)
      go true = k.cuts _ s t g
      go false = h

  pub spoiled_like : (r : ByteRange) (x : Decision) (bs bt : ℕ → Symbolic) (b : ℕ) → step_in x < bound → has d x ≡ false → L (bs b) (bt b) → L (spoiled r x bs b) (spoiled r x bt b)
  spoiled_like r x bs bt b l q h = go (is_within r b)
    where
      go : (i : Bool) → L (if i then Unknown x else bs b) (if i then Unknown x else bt b)
      go true = k.both x l q
      go false = h

  -- a store that isn't exact in the smaller set and is in the larger
  pub stored_left : (r f : ByteRange) (x : Decision) (t : Symbolic) (bs bt : ℕ → Symbolic) (b : ℕ) → (is_within r b ≡ true → is_within f b ≡ true) → has d x ≡ false →
      has e x ≡ true → L (bs b) (bt b) → L (spoiled f x bs b) (stored r t bt b)
  stored_left r f x t bs bt b w q g h = go (is_within f b) (is_within r b) refl refl
    where
      go : (i j : Bool) → is_within f b ≡ i → is_within r b ≡ j → L (if i then Unknown x else bs b) (if j then byte_in (b - r.start) t else bt b)
      go true j z y = k.left x q g _
      go false true z y = absurd (true≢false (sym (w y) ∙ z))
      go false false z y = h

  pub free_bytes_like : (xs : List FreeAccess) (x : Decision) (bs bt : ℕ → Symbolic) (b : ℕ) → step_in x < bound → has d x ≡ false → L (bs b) (bt b) →
      L (forgotten_bytes xs x bs b) (forgotten_bytes xs x bt b)
  free_bytes_like xs x bs bt b l q h = rw (forgotten_byte xs x bs b, forgotten_byte xs x bt b) (go (may_write xs b))
    where
      go : (i : Bool) → L (if i then Unknown x else bs b) (if i then Unknown x else bt b)
      go true = k.both x l q
      go false = h

  pub free_bytes_left : (xs : List FreeAccess) (x : Decision) (bs bt : ℕ → Symbolic) (b : ℕ) → has d x ≡ false → has e x ≡ true → L (bs b) (bt b) →
      L (forgotten_bytes xs x bs b) (bt b)
  free_bytes_left xs x bs bt b q f h = rw (forgotten_byte xs x bs b) (go (may_write xs b))
    where
      go : (i : Bool) → L (if i then Unknown x else bs b) (bt b)
      go true = k.left x q f _
      go false = h
