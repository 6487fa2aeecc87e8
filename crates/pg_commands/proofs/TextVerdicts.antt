-- A program text is accepted or refused, and not both; it has one program, and is refused by one name at one place.
use Rattle.std.proofs.Common.{◌≡◌, ℕ, ◌≤◌, List, length, nat_lt, Bool, true, false, refl, sym, ap, ◌∙◌, subst, arith, inl, inr, ◌⊎◌}
use Rattle.std.proofs.lemmas.Bool.Decides.{nat_tests}
use Rattle.pg_num.specs.declared.limits.TheConstants.{PROGRAM_TEXT_LIMIT}
use Rattle.pg_read_lex.specs.declared.token.Span.{Span}
use Rattle.pg_read_ast.specs.Syntax.{Tree}
use Rattle.pg_read_grammar.specs.declared.fault.ReadFault.{ReadFault}
use Rattle.pg_read_grammar.specs.Accepted.{IsModule, IsUnread}
use Rattle.pg_read_grammar.proofs.TextLaws.{module_once, module_or_first, first_not_module, first_once}
use Rattle.pg_ir.specs.Program.{NumberedProgram}
use Rattle.pg_check.specs.pg_check_rules.declared.fault.CheckKind.{CheckKind}
use Rattle.pg_check.specs.pg_check_rules.Conditions.{phases, IsFirstRefusal, IsUnrefused}
use Rattle.pg_check.specs.pg_check_rules.Numbered.{program_of}
use Rattle.pg_commands.specs.declared.refusals.TextRefusal.{TextRefusal}
use Rattle.pg_commands.specs.declared.refusals.TextRefusal.TheVariants.{TooLong, Read, Check}
use Rattle.pg_commands.specs.Refusals.{IsRefusedFor, IsRefused, refusal_name, refusal_place, fault_name, fault_place, kind_name}
use Rattle.pg_commands.specs.Texts.{IsAccepted}
use Rattle.pg_commands.proofs.FirstRefusals.{none_first, AreSame, first_same, none_or_first}

-- ---- a module

unrefused_first : (m : Tree) (k : CheckKind) (s : Span) → IsUnrefused m → IsFirstRefusal m k s → ⊥
unfolding IsUnrefused IsFirstRefusal
unrefused_first m k s a f = none_first (phases m) k s a f

module_same : (m : Tree) (k : CheckKind) (s : Span) (j : CheckKind) (t : Span) → IsFirstRefusal m k s → IsFirstRefusal m j t → AreSame k s j t
unfolding IsFirstRefusal
module_same m k s j t f g = first_same (phases m) k s j t f g

module_either : (m : Tree) → IsUnrefused m ⊎ ((k : CheckKind) × (s : Span) × IsFirstRefusal m k s)
unfolding IsUnrefused IsFirstRefusal
module_either m = none_or_first (phases m)

-- ---- a text

pub one_program : (text : List ℕ) (p q : NumberedProgram) → IsAccepted text p → IsAccepted text q → p ≡ q
one_program text p q a b = a.program ∙ ap program_of (module_once text a.tree b.tree a.is_module b.is_module) ∙ sym b.program

pub not_refused_for : (text : List ℕ) (p : NumberedProgram) (r : TextRefusal) → IsAccepted text p → IsRefusedFor text r → ⊥
not_refused_for text p TooLong a long = let h = a.within in omega (arith, long, h)
not_refused_for text p (Read fault) a r = first_not_module text fault r.refusal a.tree a.is_module
not_refused_for text p (Check kind span) a r =
    unrefused_first a.tree kind span a.unrefused (subst (λ (m : Tree). IsFirstRefusal m kind span) (module_once text r.tree a.tree r.is_module a.is_module) r.refusal)

pub not_refused : (text : List ℕ) (p : NumberedProgram) → IsAccepted text p → IsRefused text → ⊥
not_refused text p a r = not_refused_for text p r.0 a r.1

abbrev AcceptedOrRefused : List ℕ → Type 0
AcceptedOrRefused text = ((p : NumberedProgram) × IsAccepted text p) ⊎ IsRefused text

pub accepted_or_refused : (text : List ℕ) → AcceptedOrRefused text
accepted_or_refused text = by (nat_lt PROGRAM_TEXT_LIMIT (length text)) refl
  where
    checked : length text ≤ PROGRAM_TEXT_LIMIT → (m : Tree) → IsModule text m → IsUnrefused m ⊎ ((k : CheckKind) × (s : Span) × IsFirstRefusal m k s) → AcceptedOrRefused text
    checked within m is (inl none) = inl (program_of m, record { within = within; tree = m; is_module = is; unrefused = none; program = refl })
    checked within m is (inr f) = inr (Check f.0 f.1, record { within = within; tree = m; is_module = is; refusal = f.2 })

    read : length text ≤ PROGRAM_TEXT_LIMIT → ((m : Tree) × IsModule text m) ⊎ ((e : ReadFault) × IsUnread text e) → AcceptedOrRefused text
    read within (inl m) = checked within m.0 m.1 (module_either m.0)
    read within (inr e) = inr (Read e.0, record { within = within; refusal = e.1 })

    by : (b : Bool) → nat_lt PROGRAM_TEXT_LIMIT (length text) ≡ b → AcceptedOrRefused text
    by true e = inr (TooLong, grind (arith, nat_tests))
    by false e = read (grind (arith, nat_tests)) (module_or_first text)

-- ---- one name and one place

record HaveOneLine (r s : TextRefusal) : Type 0 where
  name : refusal_name r ≡ refusal_name s
  place : refusal_place r ≡ refusal_place s

one_line : (text : List ℕ) (r s : TextRefusal) → IsRefusedFor text r → IsRefusedFor text s → HaveOneLine r s
one_line text TooLong TooLong a b = record { name = refl; place = refl }
one_line text TooLong (Read d) a b = let h = b.within in absurd (omega (arith, a, h))
one_line text TooLong (Check j t) a b = let h = b.within in absurd (omega (arith, a, h))
one_line text (Read e) TooLong a b = let h = a.within in absurd (omega (arith, b, h))
one_line text (Read e) (Read d) a b =
    let same = first_once text e d a.refusal b.refusal in
    record { name = ap fault_name same; place = ap fault_place same }
one_line text (Read e) (Check j t) a b = absurd (first_not_module text e a.refusal b.tree b.is_module)
one_line text (Check k s) TooLong a b = let h = a.within in absurd (omega (arith, b, h))
one_line text (Check k s) (Read d) a b = absurd (first_not_module text d b.refusal a.tree a.is_module)
one_line text (Check k s) (Check j t) a b =
    let same = module_same b.tree k s j t (subst (λ (m : Tree). IsFirstRefusal m k s) (module_once text a.tree b.tree a.is_module b.is_module) a.refusal) b.refusal in
    record { name = ap kind_name same.kinds; place = same.places }

pub one_name : (text : List ℕ) (r s : TextRefusal) → IsRefusedFor text r → IsRefusedFor text s → refusal_name r ≡ refusal_name s
one_name text r s a b = (one_line text r s a b).name

pub one_place : (text : List ℕ) (r s : TextRefusal) → IsRefusedFor text r → IsRefusedFor text s → refusal_place r ≡ refusal_place s
one_place text r s a b = (one_line text r s a b).place
