-- Which blocks of a function of an accepted tree go on to which, and which a phi lists.
use Rattle.std.proofs.Common.{◌≡◌, ℕ, zero, suc, ◌+◌, ◌-◌, ◌<◌, List, [], ◌∷◌, length, map, take, Bool, true, refl, sym, ap, ◌∙◌, subst, arith}
use Rattle.std.specs.Prelude.{slice_get, Option, Some, unwrap_or, Contains, sum_by}
use Rattle.std.specs.List.{flat_map, list_any}
use Rattle.std.specs.Str.{bytes_eq}
use Rattle.std.proofs.lemmas.Bool.{or_left, or_right}
use Rattle.std.proofs.lemmas.List.Folds.{list_any-append}
use Rattle.std.proofs.lemmas.Option.{slice_get_within, slice_get-get_or, get_or_from_slice_get, same_Some}
use Rattle.std.proofs.lemmas.Slice.Eq.{bytes_eq-Decides}
use Rattle.pg_ir.specs.declared.edge.Incoming as numbered_incoming
use Rattle.pg_ir.specs.declared.instr.Instr.{Instr}
use Rattle.pg_ir.specs.Program.{end_of}
use Rattle.pg_ir.specs.Edges.{targets_in, successors, sources_of}
use Rattle.pg_read_ast.specs.declared.names.Name.{Name}
use Rattle.pg_read_ast.specs.Syntax.{Ty, Incoming, Line, Block, Op, Binary, Icmp, Cast, Select, Phi, Br, CondBr, Switch, Call, RetVoid, Ret, Unreachable, Alloca, Load, Store, GetElementPtr}
use Rattle.pg_read_ast.specs.Syntax.{Definition, Tree}
use Rattle.pg_check_rules.specs.Names.{labels_of, label_number, first_block, first_line}
use Rattle.pg_check_rules.specs.Written.{label_targets, label_sources, is_phi_op, is_ending}
use Rattle.pg_check_rules.specs.BlockConditions.{phi_word, block_targets, has_text, goes_to}
use Rattle.pg_check_rules.specs.Conditions.{scope_of, IsUnrefused}
use Rattle.pg_check_rules.specs.Numbered.{named_functions, incoming_at, op_at, program_of}
use Rattle.pg_law_numbering.specs.Parsed.{IsInOrder}
use Rattle.pg_law_numbering.proofs.FlattenedLists.{there_at, in_front}
use Rattle.pg_law_numbering.proofs.NumberedPlaces.{lines_in, line_there}
use Rattle.pg_law_numbering.proofs.FirstPassing.{from_any}
use Rattle.pg_law_numbering.proofs.FilteredLists.{piece_found, map_there, map_from}
use Rattle.pg_law_numbering.proofs.AcceptedLines.{IsLine}
use Rattle.pg_law_numbering.proofs.LineOperations.{passes}
use Rattle.pg_law_numbering.proofs.FitsFunctions.{end_is, has_ending}
use Rattle.pg_law_numbering.proofs.Labels.{label_text, labelled, names_from, number_of_label, target, targets_are, targets_end}
use Rattle.pg_law_numbering.proofs.Endings.{ends_where}
use Rattle.pg_law_numbering.proofs.ChoiceTests.{any_from}

-- ---- lists

pub contains_at : {X : Type 0} (xs : List X) (k : ℕ) (x : X) → slice_get xs k ≡ Some x → Contains xs x
contains_at xs k x e = (k, slice_get_within xs k x e, get_or_from_slice_get xs k x x e)

pub contained : {X : Type 0} (xs : List X) (x : X) → Contains xs x → (k : ℕ) × (slice_get xs k ≡ Some x)
contained {X} xs x h = (h.0, slice_get-get_or xs h.0 x h.1 ∙ ap {B = Option X} (λ (q : X). Some q) h.2)

-- a name of a text, where a list has one
pub text_found : (names : List Name) (text : List ℕ) → has_text names text ≡ true → (k : ℕ) × (n : Name) × (slice_get names k ≡ Some n) × (n.text ≡ text)
text_found names text e =
    let r = from_any (λ (n : Name). bytes_eq n.text text) names e in
    (r.0, r.1, r.2.there, (bytes_eq-Decides r.1.text text).0 r.2.passes)

piece_there : {X Y : Type 0} (g : X → List Y) (xs : List X) (i : ℕ) (x : X) (j : ℕ) (y : Y) → slice_get xs i ≡ Some x → slice_get (g x) j ≡ Some y → (p : Y → Bool)
    → p y ≡ true → list_any p (flat_map g xs) ≡ true
piece_there g [] i x j y e h p t = absurd cc
piece_there {X} {Y} g (z ∷ zs) zero x j y e h p t =
    let at : slice_get (g z) j ≡ Some y = subst (λ (q : X). slice_get (g q) j ≡ Some y) (sym (same_Some z x e)) h in
    list_any-append p (g z) (flat_map g zs) ∙ or_left (list_any p (g z)) (list_any p (flat_map g zs)) (any_from p (g z) j y at t)
piece_there g (z ∷ zs) (suc i) x j y e h p t =
    list_any-append p (g z) (flat_map g zs) ∙ or_right (list_any p (g z)) (list_any p (flat_map g zs)) (piece_there g zs i x j y e h p t)

-- ---- phis

pub phi_shown : (o : Op) → is_phi_op o ≡ true → phi_word o ≡ [] → ⊥
phi_shown (Phi s t i all) e h = cc
phi_shown (Binary s o t a b) e h = cc
phi_shown (Icmp s o t a b) e h = cc
phi_shown (Cast s o v t) e h = cc
phi_shown (Select s c a b) e h = cc
phi_shown (Br s b) e h = cc
phi_shown (CondBr s c a b) e h = cc
phi_shown (Switch s v b all) e h = cc
phi_shown (Call s t w f all) e h = cc
phi_shown (RetVoid s v) e h = cc
phi_shown (Ret s v) e h = cc
phi_shown (Unreachable s) e h = cc
phi_shown (Alloca s t n) e h = cc
phi_shown (Load s t v) e h = cc
phi_shown (Store s v at) e h = cc
phi_shown (GetElementPtr s t v all) e h = cc

-- the sources of a phi are the blocks of its labels
sources_list : (m : Tree) (d : Definition) (first : ℕ) (t : Ty) (all : List Incoming)
    → map (λ (i : numbered_incoming.Incoming). i.block.0) (map (incoming_at (scope_of m d) first t) all) ≡ map (target d first) (map (λ (j : Incoming). j.block) all)
sources_list m d first t [] = refl
sources_list m d first t (i ∷ is) = ap (λ (xs : List ℕ). target d first i.block ∷ xs) (sources_list m d first t is)

pub sources_are : (m : Tree) (d : Definition) (first : ℕ) (o : Op) → is_phi_op o ≡ true → sources_of (op_at (scope_of m d) first o) ≡ map (target d first) (label_sources o)
unfolding op_at label_sources
sources_are m d first (Phi s t i all) e = ap (λ (xs : List ℕ). target d first i.block ∷ xs) (sources_list m d first t all)
sources_are m d first (Binary s o t a b) e = absurd cc
sources_are m d first (Icmp s o t a b) e = absurd cc
sources_are m d first (Cast s o v t) e = absurd cc
sources_are m d first (Select s c a b) e = absurd cc
sources_are m d first (Br s b) e = absurd cc
sources_are m d first (CondBr s c a b) e = absurd cc
sources_are m d first (Switch s v b all) e = absurd cc
sources_are m d first (Call s t w f all) e = absurd cc
sources_are m d first (RetVoid s v) e = absurd cc
sources_are m d first (Ret s v) e = absurd cc
sources_are m d first (Unreachable s) e = absurd cc
sources_are m d first (Alloca s t n) e = absurd cc
sources_are m d first (Load s t v) e = absurd cc
sources_are m d first (Store s v at) e = absurd cc
sources_are m d first (GetElementPtr s t v all) e = absurd cc

-- ---- the edges of a function

module _ (m : Tree) (accepted : IsUnrefused m) (order : IsInOrder m) (f : ℕ) (d : Definition) (there : slice_get (named_functions m) f ≡ Some d) where
  pub target_number : (n : Name) (k : ℕ) → label_number (labels_of d) n.text ≡ Some k → target d (first_block m.functions f) n ≡ first_block m.functions f + k
  target_number n k e = ap (λ (o : Option ℕ). first_block m.functions f + unwrap_or o 0) e

  -- the blocks to which a block may go on are those of its last line
  pub successors_are : (i : ℕ) (b : Block) (j : ℕ) (l : Line) → slice_get d.blocks i ≡ Some b → slice_get b.lines j ≡ Some l → j + 1 ≡ length b.lines
      → successors (program_of m) (first_block m.functions f + i) ≡ map (target d (first_block m.functions f)) (label_targets l.op)
  unfolding successors
  successors_are i b j l e h last =
      let at : end_of (program_of m) (first_block m.functions f + i) - 1 ≡ first_line m.functions f + sum_by lines_in (take i d.blocks) + j =
      omega (arith, end_is m accepted f d i b there e, last) in
      ap (λ (q : ℕ). targets_in (slice_get (program_of m).instrs q)) at
      ∙ ap (λ (o : Option Instr). targets_in o) (line_there m f d i b j l there e h)
      ∙ targets_are m d (first_block m.functions f) l.op

  module _ (place : ℕ) (block : Block) (within : slice_get d.blocks place ≡ Some block) where
    -- a block whose lines name the label of another goes on to that
    pub goes_on : (q : ℕ) (c : Block) → slice_get d.blocks q ≡ Some c → goes_to block.label c ≡ true
        → Contains (successors (program_of m) (first_block m.functions f + q)) (first_block m.functions f + place)
    goes_on q c at g =
        let lb = labelled m accepted order f d there place block within in
        let g2 : has_text (block_targets c) lb.0.text ≡ true = subst (λ (o : Option Name). goes_to o c ≡ true) lb.1 g in
        let t = text_found (block_targets c) lb.0.text g2 in
        let p = piece_found (λ (l : Line). label_targets l.op) c.lines t.0 t.1 t.2 in
        let last = (ends_where m accepted order f d there q c at p.place p.whole p.there).0 (targets_end p.whole.op p.inner t.1 p.inside) in
        let number : label_number (labels_of d) t.1.text ≡ Some place = number_of_label m accepted order f d there place block lb.0 t.1.text within lb.1 (sym t.3) in
        let in_list : slice_get (map (target d (first_block m.functions f)) (label_targets p.whole.op)) p.inner ≡ Some (target d (first_block m.functions f) t.1) =
        map_there (target d (first_block m.functions f)) (label_targets p.whole.op) p.inner t.1 p.inside in
        subst (λ (xs : List ℕ). Contains xs (first_block m.functions f + place)) (sym (successors_are q c p.place p.whole at p.there last))
        (subst (Contains (map (target d (first_block m.functions f)) (label_targets p.whole.op))) (target_number t.1 place number)
        (contains_at (map (target d (first_block m.functions f)) (label_targets p.whole.op)) p.inner (target d (first_block m.functions f) t.1) in_list))

    -- and a block that goes on to another names its label
    pub names_label : (q : ℕ) (c : Block) → slice_get d.blocks q ≡ Some c → Contains (successors (program_of m) (first_block m.functions f + q)) (first_block m.functions f + place)
        → goes_to block.label c ≡ true
    names_label q c at h =
        let last = last_of c.lines some_line in
        let l = there_at c.lines last.0 (omega (arith, last.1)) in
        let h2 = subst (λ (xs : List ℕ). Contains xs (first_block m.functions f + place)) (successors_are q c last.0 l.0 at l.1 last.1) h in
        let k = contained (map (target d (first_block m.functions f)) (label_targets l.0.op)) (first_block m.functions f + place) h2 in
        let n = map_from (target d (first_block m.functions f)) (label_targets l.0.op) k.0 (first_block m.functions f + place) k.1 in
        let line : IsLine m d l.0 = record { function = f; there = there; place = q; block = c; within = at; inner = last.0; inside = l.1 } in
        let named = names_from m accepted order f d there n.0 ((passes m accepted d l.0 line).labels k.0 n.0 (in_front (label_targets l.0.op) (label_sources l.0.op) k.0 n.0 n.1)) in
        let same : named.number ≡ place = omega (arith, n.2, target_number n.0 named.number named.is) in
        let lb = labelled m accepted order f d there place block within in
        let text : n.0.text ≡ lb.0.text = label_text d n.0 named place block lb.0 same within lb.1 in
        subst (λ (o : Option Name). goes_to o c ≡ true) (sym lb.1)
        (piece_there (λ (x : Line). label_targets x.op) c.lines last.0 l.0 k.0 n.0 l.1 n.1 (λ (x : Name). bytes_eq x.text lb.0.text) ((bytes_eq-Decides n.0.text lb.0.text).1 text))
      where
        some_line : 0 < length c.lines
        some_line = by c.lines (has_ending m accepted f d q c there at)
          where
            by : (ls : List Line) → list_any (λ (x : Line). is_ending x.op) ls ≡ true → 0 < length ls
            by [] e = absurd cc
            by (x ∷ xs) e = omega arith

        last_of : (ls : List Line) → 0 < length ls → (j : ℕ) × (j + 1 ≡ length ls)
        last_of [] e = absurd (omega (arith, e))
        last_of (x ∷ xs) e = (length xs, omega arith)
