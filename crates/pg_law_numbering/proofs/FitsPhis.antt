-- A phi of an accepted tree stands before its block's other instructions, never in the function's first block, and
-- lists just the blocks that go on to its own.
use Rattle.std.proofs.Common.{◌≡◌, ℕ, suc, ◌+◌, ◌-◌, ◌<◌, ◌≤◌, List, [], ◌∷◌, ◌++◌, length, map, take, Bool, true, false, ◌&&◌, ◌==◌, not, refl}
use Rattle.std.proofs.Common.{sym, ap, ◌∙◌, subst, arith, cond, ◌⊎◌, inl, inr}
use Rattle.std.specs.Prelude.{slice_get, Option, Some, None, is_some, Contains, sum_by}
use Rattle.std.specs.List.{flat_map, list_any, list_all, prefix_len, enumerate_from}
use Rattle.std.proofs.lemmas.Bool.{and_parts, and_from, cases_lt, eq-eqb}
use Rattle.std.proofs.lemmas.List.Sums.{prefix_len_passes}
use Rattle.std.proofs.lemmas.Option.{slice_get_within, get_or_from_slice_get, same_Some}
use Rattle.pg_read_lex.specs.declared.token.Span.{Span}
use Rattle.pg_ir.specs.declared.function.Function.{Function}
use Rattle.pg_ir.specs.declared.function.Block as numbered_block
use Rattle.pg_ir.specs.Program.{first_of, function_of, function_in, first_block_of, first_block_in}
use Rattle.pg_ir.specs.Edges.{is_phi, successors, sources_of}
use Rattle.pg_ir.specs.WellFormed.{FitsPhi, IsPhi, IsInFunction}
use Rattle.pg_read_ast.specs.declared.names.Name.{Name}
use Rattle.pg_read_ast.specs.Syntax.{Line, Block, Definition, Tree}
use Rattle.pg_check_rules.specs.declared.fault.CheckKind.TheVariants.{BadPhi}
use Rattle.pg_check_rules.specs.Names.{labels_of, label_number, first_block, first_line}
use Rattle.pg_check_rules.specs.Written.{label_targets, label_sources, is_phi_op, is_ending}
use Rattle.pg_check_rules.specs.BlockConditions.{phi_span, has_text, goes_to, label_if, predecessors, same_labels, are_labels, wrong_sources, behind_phis, bad_phis}
use Rattle.pg_check_rules.specs.LineConditions.{no_block}
use Rattle.pg_check_rules.specs.Conditions.{scope_of, body_refused, IsUnrefused}
use Rattle.pg_check_rules.specs.Numbered.{named_functions, instr_at, op_at, program_of}
use Rattle.pg_law_numbering.specs.Parsed.{IsInOrder}
use Rattle.pg_law_numbering.proofs.FlattenedLists.{Numbered, enumerate_get, behind_get, there_at, rest_at, in_front}
use Rattle.pg_law_numbering.proofs.UnrefusedParts.{front_none, behind_none, each_none, else_none, bodies_pass}
use Rattle.pg_law_numbering.proofs.NumberedPlaces.{lines_in, block_there, block_found, line_there, function_there}
use Rattle.pg_law_numbering.proofs.FilteredLists.{filter_found, filter_there, map_there, map_from}
use Rattle.pg_law_numbering.proofs.AcceptedLines.{IsLine}
use Rattle.pg_law_numbering.proofs.LineOperations.{passes}
use Rattle.pg_law_numbering.proofs.PhisAndEnds.{op_phi}
use Rattle.pg_law_numbering.proofs.FitsFunctions.{first_is, has_ending, in_function}
use Rattle.pg_law_numbering.proofs.Labels.{labelled, names_from, number_of_label, target}
use Rattle.pg_law_numbering.proofs.Predecessors.{contains_at, contained, text_found, phi_shown, sources_are, target_number, successors_are, goes_on, names_label}
use Rattle.pg_law_numbering.proofs.ChoiceTests.{second_of, all_in}

-- ---- in the program

pub function_is : (m : Tree) (f : ℕ) (d : Definition) (i : ℕ) (b : Block) → slice_get (named_functions m) f ≡ Some d → slice_get d.blocks i ≡ Some b
    → function_of (program_of m) (first_block m.functions f + i) ≡ f
unfolding function_of
function_is m f d i b e h = ap (λ (o : Option numbered_block.Block). function_in o) (block_there m f d i b e h)

pub entry_is : (m : Tree) (f : ℕ) (d : Definition) → slice_get (named_functions m) f ≡ Some d → first_block_of (program_of m) f ≡ first_block m.functions f
unfolding first_block_of
entry_is m f d e = ap (λ (o : Option Function). first_block_in o) (function_there m f d e)

one_function : (f g : ℕ) (o : Option numbered_block.Block) → IsInFunction f o → IsInFunction g o → f ≡ g
one_function f g None h k = absurd h
one_function f g (Some b) h k = sym h ∙ k

in_behind : (xs ys : List Name) (k : ℕ) (n : Name) → slice_get ys k ≡ Some n → slice_get (xs ++ ys) (length xs + k) ≡ Some n
in_behind xs ys k n e = behind_get xs ys k ∙ e

-- ---- tests

shown_or : (c : Bool) (o : List Span) → ◌≡◌ {A = List Span} (cond c o []) [] → (o ≡ [] → ⊥) → c ≡ false
shown_or true o e h = absurd (h e)
shown_or false o e h = refl

all_labels : (labels names : List Name) → ((k : ℕ) (n : Name) → slice_get names k ≡ Some n → no_block labels n ≡ []) → are_labels labels names ≡ true
all_labels labels [] h = refl
all_labels labels (n ∷ ns) h = and_from (is_some (label_number labels n.text)) (are_labels labels ns) (else_none (is_some (label_number labels n.text)) n.span (h 0 n refl))
    (all_labels labels ns (λ (k : ℕ) (x : Name) e. h (suc k) x e))

label_given : (g : Bool) (o : Option Name) (n : Name) → label_if g o ≡ Some n → (g ≡ true) × (o ≡ Some n)
label_given true o n e = (refl, e)
label_given false o n e = absurd cc

module _ (m : Tree) (accepted : IsUnrefused m) (order : IsInOrder m) where
  -- a block that a function's block goes on to is one of the function's
  stays : (f : ℕ) (d : Definition) → slice_get (named_functions m) f ≡ Some d → (q : ℕ) (c : Block) → slice_get d.blocks q ≡ Some c → (t : ℕ)
      → Contains (successors (program_of m) (first_block m.functions f + q)) t → IsInFunction f (slice_get (program_of m).blocks t)
  stays f d there q c at t h =
      let last = last_of c.lines (some_lines c.lines (has_ending m accepted f d q c there at)) in
      let l = there_at c.lines last.0 (omega (arith, last.1)) in
      let k = contained (map (target d (first_block m.functions f)) (label_targets l.0.op)) t
      (subst (λ (xs : List ℕ). Contains xs t) (successors_are m accepted order f d there q c last.0 l.0 at l.1 last.1) h) in
      let n = map_from (target d (first_block m.functions f)) (label_targets l.0.op) k.0 t k.1 in
      let line : IsLine m d l.0 = record { function = f; there = there; place = q; block = c; within = at; inner = last.0; inside = l.1 } in
      let named = names_from m accepted order f d there n.0 ((passes m accepted d l.0 line).labels k.0 n.0 (in_front (label_targets l.0.op) (label_sources l.0.op) k.0 n.0 n.1)) in
      subst (λ (x : ℕ). IsInFunction f (slice_get (program_of m).blocks x)) (sym (target_number m accepted order f d there n.0 named.number named.is) ∙ sym n.2)
      (in_function m accepted f d named.number named.block there named.there)
    where
      some_lines : (ls : List Line) → list_any (λ (x : Line). is_ending x.op) ls ≡ true → 0 < length ls
      some_lines [] e = absurd cc
      some_lines (x ∷ xs) e = omega arith

      last_of : (ls : List Line) → 0 < length ls → (j : ℕ) × (j + 1 ≡ length ls)
      last_of [] e = absurd (omega (arith, e))
      last_of (x ∷ xs) e = (length xs, omega arith)

  module _ (f : ℕ) (d : Definition) (there : slice_get (named_functions m) f ≡ Some d) (place : ℕ) (block : Block) (within : slice_get d.blocks place ≡ Some block) where
    phis_right : bad_phis (labels_of d) d.blocks place block ≡ []
    unfolding body_refused
    phis_right =
        let z : 0 + place ≡ place = omega arith in
        subst (λ (q : ℕ). bad_phis (labels_of d) d.blocks q block ≡ []) z
        (each_none (λ (b : Numbered Block). bad_phis (labels_of d) d.blocks b.0 b.1) (enumerate_from 0 d.blocks) place (0 + place, block) (bodies_pass m accepted f d there BadPhi)
        (enumerate_get 0 d.blocks place block within))

    none_behind : flat_map phi_span (behind_phis block) ≡ []
    unfolding bad_phis
    none_behind = front_none (flat_map phi_span (behind_phis block)) _ phis_right

    none_in_first : cond (place == 0) (flat_map phi_span block.lines) [] ≡ []
    unfolding bad_phis
    none_in_first = front_none (cond (place == 0) (flat_map phi_span block.lines) []) _ (behind_none (flat_map phi_span (behind_phis block)) _ phis_right)

    sources_right : flat_map (wrong_sources (labels_of d) (predecessors d.blocks block.label)) block.lines ≡ []
    unfolding bad_phis
    sources_right = behind_none (cond (place == 0) (flat_map phi_span block.lines) []) _ (behind_none (flat_map phi_span (behind_phis block)) _ phis_right)

    module _ (j : ℕ) (l : Line) (inside : slice_get block.lines j ≡ Some l) (phi : is_phi_op l.op ≡ true) where
      in_prefix : j < prefix_len (λ (x : Line). is_phi_op x.op) block.lines
      in_prefix = by (cases_lt j (prefix_len (λ (x : Line). is_phi_op x.op) block.lines))
        where
          by : (j < prefix_len (λ (x : Line). is_phi_op x.op) block.lines) ⊎ (prefix_len (λ (x : Line). is_phi_op x.op) block.lines ≤ j)
              → j < prefix_len (λ (x : Line). is_phi_op x.op) block.lines
          by (inl h) = h
          by (inr h) =
              let n = prefix_len (λ (x : Line). is_phi_op x.op) block.lines in
              let z : n + (j - n) ≡ j = omega (arith, h) in
              let at : slice_get (behind_phis block) (j - n) ≡ Some l = rest_at n block.lines (j - n) ∙ ap (slice_get block.lines) z ∙ inside in
              absurd (phi_shown l.op phi (each_none phi_span (behind_phis block) (j - n) l none_behind at))

      phi_before : (k : ℕ) (x : Line) → k < j → slice_get block.lines k ≡ Some x → is_phi_op x.op ≡ true
      phi_before k x h e =
          subst (λ (y : Line). is_phi_op y.op ≡ true) (get_or_from_slice_get block.lines k x x e)
          (prefix_len_passes (λ (y : Line). is_phi_op y.op) block.lines k x (omega (arith, h, in_prefix)))

      not_first : place ≡ 0 → ⊥
      not_first e =
          let t : (place == 0) ≡ true = eq-eqb place 0 e in
          let none : flat_map phi_span block.lines ≡ [] = sym (ap (λ (b : Bool). cond b (flat_map phi_span block.lines) []) t) ∙ none_in_first in
          phi_shown l.op phi (each_none phi_span block.lines j l none inside)

      at_line : IsLine m d l
      at_line = record { function = f; there = there; place = place; block = block; within = within; inner = j; inside = inside }

      source_known : (k : ℕ) (n : Name) → slice_get (label_sources l.op) k ≡ Some n → no_block (labels_of d) n ≡ []
      source_known k n e = (passes m accepted d l at_line).labels (length (label_targets l.op) + k) n (in_behind (label_targets l.op) (label_sources l.op) k n e)

      same_sources : same_labels (predecessors d.blocks block.label) (label_sources l.op) ≡ true
      same_sources =
          second_of (are_labels (labels_of d) (label_sources l.op)) (same_labels (predecessors d.blocks block.label) (label_sources l.op)) (all_labels (labels_of d) (label_sources l.op) source_known)
          (shown_or (are_labels (labels_of d) (label_sources l.op) && not (same_labels (predecessors d.blocks block.label) (label_sources l.op))) (phi_span l)
          (each_none (wrong_sources (labels_of d) (predecessors d.blocks block.label)) block.lines j l sources_right inside) (phi_shown l.op phi))

      listed : list_all (λ (n : Name). has_text (predecessors d.blocks block.label) n.text) (label_sources l.op) ≡ true
      listed = (and_parts (list_all (λ (n : Name). has_text (predecessors d.blocks block.label) n.text) (label_sources l.op))
          (list_all (λ (n : Name). has_text (label_sources l.op) n.text) (predecessors d.blocks block.label)) same_sources).0

      all_listed : list_all (λ (n : Name). has_text (label_sources l.op) n.text) (predecessors d.blocks block.label) ≡ true
      all_listed = (and_parts (list_all (λ (n : Name). has_text (predecessors d.blocks block.label) n.text) (label_sources l.op))
          (list_all (λ (n : Name). has_text (label_sources l.op) n.text) (predecessors d.blocks block.label)) same_sources).1

      -- a block that is listed goes on to this one
      listed_goes_on : (b : ℕ) → Contains (sources_of (op_at (scope_of m d) (first_block m.functions f) l.op)) b → Contains (successors (program_of m) b) (first_block m.functions f + place)
      unfolding predecessors
      listed_goes_on b h =
          let k = contained (map (target d (first_block m.functions f)) (label_sources l.op)) b (subst (λ (xs : List ℕ). Contains xs b) (sources_are m d (first_block m.functions f) l.op phi) h) in
          let n = map_from (target d (first_block m.functions f)) (label_sources l.op) k.0 b k.1 in
          let t = text_found (predecessors d.blocks block.label) n.0.text (all_in (λ (x : Name). has_text (predecessors d.blocks block.label) x.text) (label_sources l.op) k.0 n.0 listed n.1) in
          let c = filter_found (λ (x : Block). label_if (goes_to block.label x) x.label) d.blocks t.0 t.1 t.2 in
          let g = label_given (goes_to block.label c.whole) c.whole.label t.1 c.is in
          let number = number_of_label m accepted order f d there c.place c.whole t.1 n.0.text c.there g.1 t.3 in
          let same : first_block m.functions f + c.place ≡ b = sym (n.2 ∙ target_number m accepted order f d there n.0 c.place number) in
          subst (λ (q : ℕ). Contains (successors (program_of m) q) (first_block m.functions f + place)) same
          (goes_on m accepted order f d there place block within c.place c.whole c.there g.0)

      -- a block that goes on to this one is listed
      goes_on_listed : (q : ℕ) (c : Block) → slice_get d.blocks q ≡ Some c → Contains (successors (program_of m) (first_block m.functions f + q)) (first_block m.functions f + place)
          → Contains (sources_of (op_at (scope_of m d) (first_block m.functions f) l.op)) (first_block m.functions f + q)
      unfolding predecessors
      goes_on_listed q c at h =
          let g = names_label m accepted order f d there place block within q c at h in
          let lb = labelled m accepted order f d there q c at in
          let own : label_if (goes_to block.label c) c.label ≡ Some lb.0 = ap (λ (b : Bool). label_if b c.label) g ∙ lb.1 in
          let p = filter_there (λ (x : Block). label_if (goes_to block.label x) x.label) d.blocks q c lb.0 at own in
          let t = text_found (label_sources l.op) lb.0.text (all_in (λ (x : Name). has_text (label_sources l.op) x.text) (predecessors d.blocks block.label) p.0 lb.0 all_listed p.1) in
          let number = number_of_label m accepted order f d there q c lb.0 t.1.text at lb.1 (sym t.3) in
          subst (λ (xs : List ℕ). Contains xs (first_block m.functions f + q)) (sym (sources_are m d (first_block m.functions f) l.op phi))
          (subst (Contains (map (target d (first_block m.functions f)) (label_sources l.op))) (target_number m accepted order f d there t.1 q number)
          (contains_at (map (target d (first_block m.functions f)) (label_sources l.op)) t.0 (target d (first_block m.functions f) t.1)
          (map_there (target d (first_block m.functions f)) (label_sources l.op) t.0 t.1 t.2)))

      from_successor : (b : ℕ) → b < length (program_of m).blocks → Contains (successors (program_of m) b) (first_block m.functions f + place)
          → Contains (sources_of (op_at (scope_of m d) (first_block m.functions f) l.op)) b
      from_successor b below h =
          let x = there_at (program_of m).blocks b below in
          let r = block_found m b x.0 x.1 in
          let h2 = subst (λ (q : ℕ). Contains (successors (program_of m) q) (first_block m.functions f + place)) r.number h in
          let same : r.function ≡ f = one_function r.function f (slice_get (program_of m).blocks (first_block m.functions f + place))
          (stays r.function r.definition r.there r.place r.plain r.within (first_block m.functions f + place) h2) (in_function m accepted f d place block there within) in
          let there2 : slice_get (named_functions m) f ≡ Some r.definition = subst (λ (q : ℕ). slice_get (named_functions m) q ≡ Some r.definition) same r.there in
          let definition : r.definition ≡ d = same_Some r.definition d (sym there2 ∙ there) in
          let at : slice_get d.blocks r.place ≡ Some r.plain = subst (λ (q : Definition). slice_get q.blocks r.place ≡ Some r.plain) definition r.within in
          let number : first_block m.functions f + r.place ≡ b = ap (λ (q : ℕ). first_block m.functions q + r.place) (sym same) ∙ sym r.number in
          subst (Contains (sources_of (op_at (scope_of m d) (first_block m.functions f) l.op))) number
          (goes_on_listed r.place r.plain at (subst (λ (q : ℕ). Contains (successors (program_of m) q) (first_block m.functions f + place)) (sym number) h))

      stands_behind_phis : (k : ℕ) → first_of (program_of m) (first_block m.functions f + place) ≤ k → k < first_line m.functions f + sum_by lines_in (take place d.blocks) + j
          → IsPhi (slice_get (program_of m).instrs k)
      stands_behind_phis k h g =
          let from = first_line m.functions f + sum_by lines_in (take place d.blocks) in
          let e = first_is m accepted f d place block there within in
          let i = k - from in
          let x = there_at block.lines i (omega (arith, h, g, e, slice_get_within block.lines j l inside)) in
          let z : from + i ≡ k = omega (arith, h, e) in
          let t : is_phi (op_at (scope_of m d) (first_block m.functions f) x.0.op) ≡ true =
          op_phi (scope_of m d) (first_block m.functions f) x.0.op ∙ phi_before i x.0 (omega (arith, h, g, e)) x.1 in
          subst (λ (q : ℕ). IsPhi (slice_get (program_of m).instrs q)) z
          (subst IsPhi (sym (line_there m f d place block i x.0 there within x.1)) t)

      pub fits_phi : FitsPhi (program_of m) (first_line m.functions f + sum_by lines_in (take place d.blocks) + j) (instr_at (scope_of m d) (first_block m.functions f) place l)
      fits_phi = record {
        first = stands_behind_phis;
        entered = λ e. not_first (let a = function_is m f d place block there within in let b = ap (first_block_of (program_of m)) a ∙ entry_is m f d there in omega (arith, e, b));
        sources = λ b below. (listed_goes_on b, from_successor b below);
      }
