-- What is quiet in a set of blocks is quiet in each part of it, with the same accesses: fewer registers are set, so each
-- root stays one.
use Rattle.std.proofs.Common.{◌≡◌, ℕ, zero, suc, ◌+◌, ◌<◌, Bool, true, false, cond, List, [], ◌∷◌, ◌++◌, length, get_or, Option, Some, None, refl, sym, ap}
use Rattle.std.proofs.Common.{◌∙◌, arith, inl, inr, ◌⊎◌}
use Rattle.std.specs.Prelude.{Contains, option_map, option_and_then, slice_get}
use Rattle.std.specs.List.{list_any}
use Rattle.std.proofs.lemmas.Bool.{true≢false}
use Rattle.pg_region_paths.specs.pg_ir.declared.value.Value.{Value}
use Rattle.pg_region_paths.specs.pg_ir.declared.value.Value.TheVariants as value
use Rattle.pg_region_paths.specs.pg_ir.declared.value.Scalar.{Scalar}
use Rattle.pg_region_paths.specs.pg_ir.declared.instr.Instr.{Instr}
use Rattle.pg_region_paths.specs.pg_ir.declared.instr.Op.{Op}
use Rattle.pg_region_paths.specs.pg_ir.declared.instr.Op.TheVariants as op
use Rattle.pg_region_paths.specs.pg_ir.Program.{NumberedProgram, types_of, function_of, first_of}
use Rattle.pg_region_paths.specs.pg_ir.Edges.{instrs_of}
use Rattle.pg_region_paths.specs.declared.path.Root.{Root}
use Rattle.pg_region_paths.specs.declared.path.Root.TheVariants as root
use Rattle.pg_region_paths.specs.declared.path.Path.{Path}
use Rattle.pg_region_paths.specs.Paths.{loaded, rooted}
use Rattle.pg_region_paths.specs.Registers.{value_path, path_by, register_path, is_register, has_pointer, moved}
use Rattle.pg_region_accesses.specs.declared.rooted.Rooted.{Rooted}
use Rattle.pg_region_accesses.specs.Accesses.{RootedList, both, gathered, one_access, behind_path, behind_argument, called_access, called_accesses, op_accesses, accesses_from, block_accesses}
use Rattle.pg_region_accesses.specs.Accesses.{block_sets, sets, set_accesses}
use Rattle.pg_region_paths.proofs.Elements.{cases, here, there, none_in}

-- the larger answer where the smaller one has one
abbrev Grows : {A : Type 0} → Option A → Option A → Type 0
Grows {A} a b = (x : A) → a ≡ Some x → b ≡ Some x

grows_cond : {A : Type 0} (b : Bool) (x y z w : Option A) → Grows x z → Grows y w → Grows (cond b x y) (cond b z w)
grows_cond true x y z w h k = h
grows_cond false x y z w h k = k

grows_map : {A B : Type 0} (f : A → B) (a b : Option A) → Grows a b → Grows (option_map f a) (option_map f b)
grows_map f None b h x e = cc
grows_map f (Some a) b h x e = let q : b ≡ Some a = h a refl in rw q e

grows_then : {A B : Type 0} (f : A → Option B) (a b : Option A) → Grows a b → Grows (option_and_then f a) (option_and_then f b)
grows_then f None b h x e = cc
grows_then f (Some a) b h x e = let q : b ≡ Some a = h a refl in rw q e

value_grows : (f g : ℕ → Option Path) → ((r : ℕ) → Grows (f r) (g r)) → (v : Value) → Grows (value_path f v) (value_path g v)
value_grows f g h (value.Register r) = h r
value_grows f g h (value.Const n) = λ x e. e
value_grows f g h (value.Global n) = λ x e. e
value_grows f g h (value.Function n) = λ x e. e

path_grows : (f g : ℕ → Option Path) → ((r : ℕ) → Grows (f r) (g r)) → (b : Bool) (o : Op) → Grows (path_by f b o) (path_by g b o)
path_grows f g h b (op.Gep base indices) = grows_map (moved indices) (value_path f base) (value_path g base) (value_grows f g h base)
path_grows f g h true (op.Load w from) = grows_then loaded (value_path f from) (value_path g from) (value_grows f g h from)
path_grows f g h false (op.Load w from) = λ x e. e
path_grows f g h b _ = λ x e. e

root_grows : {A : Type 0} (b b' : Bool) (s : Option A) → (b' ≡ true → b ≡ true) → Grows (cond b None s) (cond b' None s)
root_grows true b' s h x e = cc
root_grows false true s h x e = absurd (true≢false (sym (h refl)))
root_grows false false s h x e = e

pub register_grows : (f f' : ℕ → Bool) → ((r : ℕ) → f' r ≡ true → f r ≡ true) → (types : List Scalar) (before : List Instr) (r : ℕ)
    → Grows (register_path f types before r) (register_path f' types before r)
register_grows f f' h types [] r = root_grows (f r) (f' r) (Some (rooted (root.Register r))) (h r)
register_grows f f' h types (x ∷ before) r =
    grows_cond (is_register x.result r) (path_by (register_path f types before) (has_pointer types x.result) x.op) (register_path f types before r)
    (path_by (register_path f' types before) (has_pointer types x.result) x.op) (register_path f' types before r)
    (path_grows (register_path f types before) (register_path f' types before) (λ s. register_grows f f' h types before s) (has_pointer types x.result) x.op)
    (register_grows f f' h types before r)

both_grows : (a b c d : Option RootedList) → Grows a c → Grows b d → Grows (both a b) (both c d)
both_grows None b c d h k x e = cc
both_grows (Some a) None c d h k x e = cc
both_grows (Some a) (Some b) c d h k x e = let q : c ≡ Some a = h a refl in let r : d ≡ Some b = k b refl in rw (q, r) e

gathered_grows : {A : Type 0} (f g : A → Option RootedList) (xs : List A) → ((x : A) → Grows (f x) (g x)) → Grows (gathered f xs) (gathered g xs)
gathered_grows f g [] h = λ x e. e
gathered_grows f g (x ∷ xs) h = both_grows (f x) (gathered f xs) (g x) (gathered g xs) (h x) (gathered_grows f g xs h)

access_grows : (i : ℕ) (w : Bool) (a b : Option Path) → Grows a b → Grows (one_access i w a) (one_access i w b)
access_grows i w None b h x e = cc
access_grows i w (Some a) b h x e = let q : b ≡ Some a = h a refl in rw q e

behind_grows : (a : Rooted) (o q : Option Path) → Grows o q → Grows (behind_path a o) (behind_path a q)
behind_grows a None q h x e = cc
behind_grows a (Some o) q h x e = let t : q ≡ Some o = h o refl in rw t e

argument_grows : (f g : ℕ → Option Path) → ((r : ℕ) → Grows (f r) (g r)) → (a : Rooted) (o : Option Value) → Grows (behind_argument f a o) (behind_argument g a o)
argument_grows f g h a None = λ x e. e
argument_grows f g h a (Some v) = behind_grows a (value_path f v) (value_path g v) (value_grows f g h v)

called_grows : (f g : ℕ → Option Path) → ((r : ℕ) → Grows (f r) (g r)) → (args : List Value) (a : Rooted) (r : Root) → Grows (called_access f args a r) (called_access g args a r)
called_grows f g h args a (root.Param k) = argument_grows f g h a (slice_get args k)
called_grows f g h args a (root.Global n) = λ x e. e
called_grows f g h args a (root.Const n) = λ x e. e
called_grows f g h args a (root.Register n) = λ x e. e

summary_grows : (f g : ℕ → Option Path) → ((r : ℕ) → Grows (f r) (g r)) → (args : List Value) (s : Option RootedList) → Grows (called_accesses f args s) (called_accesses g args s)
summary_grows f g h args None = λ x e. e
summary_grows f g h args (Some xs) = gathered_grows (λ (a : Rooted). called_access f args a a.path.root) (λ (a : Rooted). called_access g args a a.path.root) xs
    (λ a. called_grows f g h args a a.path.root)

same_grows : {A : Type 0} (a : Option A) → Grows a a
same_grows a x e = e

op_grows : (m : Bool) (gated : ℕ → Bool) (sums : ℕ → Option RootedList) (f g : ℕ → Option Path) → ((r : ℕ) → Grows (f r) (g r)) → (i : ℕ) (o : Op)
    → Grows (op_accesses m gated sums f i o) (op_accesses m gated sums g i o)
op_grows m gated sums f g h i (op.Load w from) = grows_cond (gated i) None (one_access i false (value_path f from)) None (one_access i false (value_path g from)) (λ x e. e)
    (access_grows i false (value_path f from) (value_path g from) (value_grows f g h from))
op_grows m gated sums f g h i (op.Store w v at) = grows_cond (gated i) None (one_access i true (value_path f at)) None (one_access i true (value_path g at)) (λ x e. e)
    (access_grows i true (value_path f at) (value_path g at) (value_grows f g h at))
op_grows m gated sums f g h i (op.Call n args) = summary_grows f g h args (sums n)
op_grows m gated sums f g h i _ = λ x e. e

from_grows : (m : Bool) (gated : ℕ → Bool) (sums : ℕ → Option RootedList) (f f' : ℕ → Bool) → ((r : ℕ) → f' r ≡ true → f r ≡ true)
    → (types : List Scalar) (before : List Instr) (i : ℕ) (xs : List Instr) →
    Grows (accesses_from m gated sums f types before i xs) (accesses_from m gated sums f' types before i xs)
from_grows m gated sums f f' h types before i [] = λ x e. e
from_grows m gated sums f f' h types before i (x ∷ xs) =
    both_grows (op_accesses m gated sums (register_path f types before) i x.op) (accesses_from m gated sums f types (x ∷ before) (i + 1) xs)
    (op_accesses m gated sums (register_path f' types before) i x.op) (accesses_from m gated sums f' types (x ∷ before) (i + 1) xs)
    (op_grows m gated sums (register_path f types before) (register_path f' types before) (register_grows f f' h types before) i x.op)
    (from_grows m gated sums f f' h types (x ∷ before) (i + 1) xs)

pub block_grows : (m : Bool) (p : NumberedProgram) (gated : ℕ → Bool) (sums : ℕ → Option RootedList) (f f' : ℕ → Bool) → ((r : ℕ) → f' r ≡ true → f r ≡ true) → (b : ℕ)
    → Grows (block_accesses m p gated sums f b) (block_accesses m p gated sums f' b)
unfolding block_accesses
block_grows m p gated sums f f' h b = from_grows m gated sums f f' h (types_of p (function_of p b)) [] (first_of p b) (instrs_of p b)

-- ---- sets of blocks

pub gathered_each : {A : Type 0} (f : A → Option RootedList) (xs : List A) (listed : RootedList) → gathered f xs ≡ Some listed → (x : A) → Contains xs x
    → (y : RootedList) × (f x ≡ Some y)
gathered_each {A} f xs listed e x c = at xs listed e c.0 c.1 c.2
  where
    parts : (a b : Option RootedList) (ys : RootedList) → both a b ≡ Some ys → ((y : RootedList) × (a ≡ Some y)) × ((z : RootedList) × (b ≡ Some z))
    parts None b ys q = cc
    parts (Some a) None ys q = cc
    parts (Some a) (Some b) ys q = ((a, refl), (b, refl))

    at : (xs : List A) (listed : RootedList) → gathered f xs ≡ Some listed → (k : ℕ) → k < length xs → get_or xs k x ≡ x → (y : RootedList) × (f x ≡ Some y)
    at [] listed e k lt q = absurd (omega arith)
    at (z ∷ zs) listed e zero lt q = let h = parts (f z) (gathered f zs) listed e in (h.0.0, ap f (sym q) ∙ h.0.1)
    at (z ∷ zs) listed e (suc k) lt q = let h = parts (f z) (gathered f zs) listed e in at zs h.1.0 h.1.1 k (omega arith) q

gathered_all : (f : ℕ → Option RootedList) (xs : List ℕ) → ((x : ℕ) → Contains xs x → (y : RootedList) × (f x ≡ Some y)) → (listed : RootedList) × (gathered f xs ≡ Some listed)
gathered_all f [] h = ([], refl)
gathered_all f (x ∷ xs) h = join (h x (here x xs)) (gathered_all f xs (λ z c. h z (there x xs z c)))
  where
    join : (y : RootedList) × (f x ≡ Some y) → (listed : RootedList) × (gathered f xs ≡ Some listed) → (listed : RootedList) × (gathered f (x ∷ xs) ≡ Some listed)
    join y listed = (y.0 ++ listed.0, rw (y.1, listed.1) refl)

any_some : (f : ℕ → Bool) (xs : List ℕ) → list_any f xs ≡ true → (x : ℕ) × Contains xs x × (f x ≡ true)
any_some f [] e = absurd (true≢false (sym e))
any_some f (x ∷ xs) e = go (f x) refl e (λ q. any_some f xs q)
  where
    go : (b : Bool) → f x ≡ b → list_any f (x ∷ xs) ≡ true → (list_any f xs ≡ true → (z : ℕ) × Contains xs z × (f z ≡ true))
        → (z : ℕ) × Contains (x ∷ xs) z × (f z ≡ true)
    go true q e k = (x, here x xs, q)
    go false q e k = let r = k (rw q at e) in (r.0, there x xs r.0 r.1, r.2)

some_any : (f : ℕ → Bool) (xs : List ℕ) (x : ℕ) → Contains xs x → f x ≡ true → list_any f xs ≡ true
some_any f [] x c e = absurd (none_in x c)
some_any f (y ∷ xs) x c e = go (f y) refl (cases y xs x c) (λ d. some_any f xs x d e)
  where
    go : (b : Bool) → f y ≡ b → (y ≡ x) ⊎ Contains xs x → (Contains xs x → list_any f xs ≡ true) → list_any f (y ∷ xs) ≡ true
    go true q d k = rw q refl
    go false q (inl t) k = absurd (true≢false (sym e ∙ ap f (sym t) ∙ q))
    go false q (inr d) k = rw q (k d)

sets_grow : (p : NumberedProgram) (small big : List ℕ) → ((x : ℕ) → Contains small x → Contains big x) → (r : ℕ) → sets p small r ≡ true → sets p big r ≡ true
sets_grow p small big h r e = let s = any_some (block_sets p r) small e in some_any (block_sets p r) big s.0 (h s.0 s.1) s.2

-- a block of a part accesses what it accesses in the whole
pub same_part : (m : Bool) (p : NumberedProgram) (gated : ℕ → Bool) (sums : ℕ → Option RootedList) (big small : List ℕ) (listed : RootedList)
    → set_accesses m p gated sums big ≡ Some listed → ((x : ℕ) → Contains small x → Contains big x) →
    (b : ℕ) → Contains small b → block_accesses m p gated sums (sets p small) b ≡ block_accesses m p gated sums (sets p big) b
same_part m p gated sums big small listed e h b c =
    let y = gathered_each (block_accesses m p gated sums (sets p big)) big listed e b (h b c) in
    block_grows m p gated sums (sets p big) (sets p small) (sets_grow p small big h) b y.0 y.1 ∙ sym y.1

-- what is quiet in a set of blocks is quiet in a part of it
pub quiet_part : (m : Bool) (p : NumberedProgram) (gated : ℕ → Bool) (sums : ℕ → Option RootedList) (big small : List ℕ) (listed : RootedList)
    → set_accesses m p gated sums big ≡ Some listed → ((x : ℕ) → Contains small x → Contains big x) →
    (bs : RootedList) × (set_accesses m p gated sums small ≡ Some bs)
quiet_part m p gated sums big small listed e h = gathered_all (block_accesses m p gated sums (sets p small)) small each
  where
    each : (x : ℕ) → Contains small x → (y : RootedList) × (block_accesses m p gated sums (sets p small) x ≡ Some y)
    each x c =
        let y = gathered_each (block_accesses m p gated sums (sets p big)) big listed e x (h x c) in
        (y.0, block_grows m p gated sums (sets p big) (sets p small) (sets_grow p small big h) x y.0 y.1)

-- a block that isn't quiet where no register is set is quiet in no set
pub loud_anywhere : (m : Bool) (p : NumberedProgram) (gated : ℕ → Bool) (sums : ℕ → Option RootedList) (unset set : ℕ → Bool) (b : ℕ) → ((r : ℕ) → unset r ≡ false)
    → block_accesses m p gated sums unset b ≡ None → block_accesses m p gated sums set b ≡ None
loud_anywhere m p gated sums unset set b none out = go (block_accesses m p gated sums set b) refl
  where
    go : (o : Option RootedList) → block_accesses m p gated sums set b ≡ o → block_accesses m p gated sums set b ≡ None
    go None e = e
    go (Some listed) e =
        let q : block_accesses m p gated sums unset b ≡ Some listed = block_grows m p gated sums set unset (λ r t. absurd (true≢false (sym t ∙ none r))) b listed e in
        cc
