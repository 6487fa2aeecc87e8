-- In an accepted tree whose ending lines stand last, a line ends its block just where it is its last.
use Rattle.std.proofs.Common.{◌≡◌, ℕ, zero, suc, ◌+◌, List, [], ◌∷◌, length, Bool, true, false, ◌&&◌, ◌||◌, not, refl, sym, ap, ◌∙◌, subst, arith}
use Rattle.std.proofs.Common.{true≢false, ◌↔◌}
use Rattle.std.specs.Prelude.{slice_get, Some}
use Rattle.std.specs.List.{list_any}
use Rattle.std.proofs.lemmas.Bool.{and_parts}
use Rattle.std.proofs.lemmas.Option.{same_Some}
use Rattle.pg_read_ast.specs.Syntax.{Op, Binary, Icmp, Cast, Select, Phi, Br, CondBr, Switch, Call, RetVoid, Ret, Unreachable, Alloca, Load, Store, GetElementPtr, Line, Block, NamedType}
use Rattle.pg_read_ast.specs.Syntax.{Definition, Tree}
use Rattle.pg_read_ast.specs.Numbers.{each_at, line_at, behind_line, block_at, after}
use Rattle.pg_check_rules.specs.Written.{is_ending}
use Rattle.pg_check_rules.specs.Conditions.{IsUnrefused}
use Rattle.pg_check_rules.specs.Numbered.{named_functions}
use Rattle.pg_read_grammar.specs.GrammarItems.{ends_block}
use Rattle.pg_read_grammar.specs.Endings.{ends_last, end_last}
use Rattle.pg_law_numbering.specs.Parsed.{IsInOrder}
use Rattle.pg_law_numbering.proofs.UnrefusedParts.{named_from}
use Rattle.pg_law_numbering.proofs.NamedDefinitions.{block_plain}
use Rattle.pg_law_numbering.proofs.FitsFunctions.{has_ending}
use Rattle.pg_law_numbering.proofs.ChoiceTests.{not_true, all_in}

-- the operations that end a block, as the grammar has them
ending_is : (o : Op) → ends_block o ≡ is_ending o
ending_is (Binary s o t a b) = refl
ending_is (Icmp s o t a b) = refl
ending_is (Cast s o v t) = refl
ending_is (Select s c a b) = refl
ending_is (Phi s t i all) = refl
ending_is (Br s b) = refl
ending_is (CondBr s c a b) = refl
ending_is (Switch s v b all) = refl
ending_is (Call s t w f all) = refl
ending_is (RetVoid s v) = refl
ending_is (Ret s v) = refl
ending_is (Unreachable s) = refl
ending_is (Alloca s t n) = refl
ending_is (Load s t v) = refl
ending_is (Store s v at) = refl
ending_is (GetElementPtr s t v all) = refl

only_last : (ls : List Line) (j : ℕ) (l : Line) → ends_last ls ≡ true → slice_get ls j ≡ Some l → is_ending l.op ≡ true → j + 1 ≡ length ls
only_last [] j l e h t = absurd cc
only_last (k ∷ []) zero l e h t = omega arith
only_last (k ∷ []) (suc j) l e h t = absurd cc
only_last (k ∷ n ∷ ls) zero l e h t =
    let own = sym (ending_is k.op) ∙ not_true (ends_block k.op) (and_parts (not (ends_block k.op)) (ends_last (n ∷ ls)) e).0 in
    absurd (true≢false (sym t ∙ subst (λ (q : Line). is_ending q.op ≡ false) (same_Some k l h) own))
only_last (k ∷ n ∷ ls) (suc j) l e h t = omega (arith, only_last (n ∷ ls) j l (and_parts (not (ends_block k.op)) (ends_last (n ∷ ls)) e).1 h t)

right_of : (a b : Bool) → a ≡ false → (a || b) ≡ true → b ≡ true
right_of true b h e = absurd cc
right_of false b h e = e

the_last : (ls : List Line) (j : ℕ) (l : Line) → ends_last ls ≡ true → list_any (λ (x : Line). is_ending x.op) ls ≡ true → slice_get ls j ≡ Some l → j + 1 ≡ length ls
    → is_ending l.op ≡ true
the_last [] j l e a h t = absurd cc
the_last (k ∷ []) zero l e a h t = subst (λ (q : Line). is_ending q.op ≡ true) (same_Some k l h) (by (is_ending k.op) a)
  where
    by : (b : Bool) → (b || false) ≡ true → b ≡ true
    by true g = refl
    by false g = absurd cc
the_last (k ∷ []) (suc j) l e a h t = absurd cc
the_last (k ∷ n ∷ ls) zero l e a h t = absurd (omega (arith, t))
the_last (k ∷ n ∷ ls) (suc j) l e a h t =
    let p = and_parts (not (ends_block k.op)) (ends_last (n ∷ ls)) e in
    the_last (n ∷ ls) j l p.1 (right_of (is_ending k.op) (list_any (λ (x : Line). is_ending x.op) (n ∷ ls)) (sym (ending_is k.op) ∙ not_true (ends_block k.op) p.0) a) h (omega (arith, t))

-- ---- the lines with their names

lines_kept : (types : List NamedType) (next : ℕ) (ls : List Line) → ends_last (each_at (behind_line types) (line_at types) next ls) ≡ ends_last ls
lines_kept types next [] = refl
lines_kept types next (l ∷ []) = refl
lines_kept types next (l ∷ k ∷ ls) = ap (λ (b : Bool). not (ends_block l.op) && b) (lines_kept types (behind_line types next l) (k ∷ ls))

block_kept : (types : List NamedType) (next : ℕ) (b : Block) → ends_last (block_at types next b).lines ≡ ends_last b.lines
unfolding block_at
block_kept types next b = lines_kept types (after next b.label) b.lines

module _ (m : Tree) (accepted : IsUnrefused m) (order : IsInOrder m) (f : ℕ) (d : Definition) (there : slice_get (named_functions m) f ≡ Some d) (i : ℕ) (b : Block)
    (within : slice_get d.blocks i ≡ Some b) where
  last_here : ends_last b.lines ≡ true
  last_here =
      let n = named_from m f d there in
      let r = block_plain m.types n.plain i b (subst (λ (q : Definition). slice_get q.blocks i ≡ Some b) n.named within) in
      let own = all_in (λ (c : Block). ends_last c.lines) n.plain.blocks i r.plain (all_in (λ (x : Definition). end_last x.blocks) m.functions f n.plain order.endings n.there) r.there in
      ap (λ (q : Block). ends_last q.lines) r.is ∙ block_kept m.types r.next r.plain ∙ own

  pub ends_where : (j : ℕ) (l : Line) → slice_get b.lines j ≡ Some l → (is_ending l.op ≡ true) ↔ (j + 1 ≡ length b.lines)
  ends_where j l e = (only_last b.lines j l last_here e, the_last b.lines j l last_here (has_ending m accepted f d i b there within) e)
