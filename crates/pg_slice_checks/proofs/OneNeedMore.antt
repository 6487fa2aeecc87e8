-- One need more.
use Rattle.std.proofs.Common.{◌≡◌, ℕ, ◌<◌, ◌&&◌, ℤ, Bool, true, false, List, [], ◌∷◌, ◌++◌, length, refl, sym, ap, ◌∙◌, subst, append-nil, append_assoc, map}
use Rattle.std.specs.List.{list_all}
use Rattle.pg_ir.specs.declared.edge.Case.{Case}
use Rattle.pg_precondition.specs.declared.check.Test.TheVariants as test
use Rattle.pg_precondition.specs.Nodes.{NodeList}
use Rattle.pg_precondition.specs.Values.{holds, is_met, numbers_of}
use Rattle.pg_precondition.specs.declared.check.Check.{Check}
use Rattle.pg_slice_memory.specs.pg_slice_rules.declared.decision.Decision.{Decision}
use Rattle.pg_slice_memory.specs.pg_slice_rules.Rules.{Condition, Need, Value, all_of, conditions_with, need_blames, need_conditions}
use Rattle.pg_slice_memory.specs.pg_slice_rules.SymbolicValues.{OnInput, Known}
use Rattle.pg_slice_checks.specs.Asks.{Adds, AreNamed, all_hold, all_met, other_than}
use Rattle.pg_slice_memory.specs.pg_slice_values.SymbolicNodes.{number_by}
use Rattle.pg_slice_checks.specs.declared.asked.Asked.{Asked}

all_both : {A : Type 0} (f : A → Bool) (xs ys : List A) → list_all f (xs ++ ys) ≡ (list_all f xs && list_all f ys)
all_both f [] ys = refl
all_both f (x ∷ xs) ys = go (f x) (all_both f xs ys)
  where
    go : (b : Bool) → list_all f (xs ++ ys) ≡ (list_all f xs && list_all f ys) → (b && list_all f (xs ++ ys)) ≡ ((b && list_all f xs) && list_all f ys)
    go true e = e
    go false e = refl

named_both : (n : ℕ) (xs : List Check) (c : Check) → c.node < n → AreNamed n xs → AreNamed n (xs ++ c ∷ [])
named_both n [] c h a = (h, tt)
named_both n (x ∷ xs) c h a = (a.0, named_both n xs c h a.1)

and_true : (b : Bool) → (b && true) ≡ b
and_true true = refl
and_true false = refl

-- a need whose value is known
pub one_check : (ns : NodeList) (old new : Asked) (need : Need) (c : Check) → new.missing.items ≡ old.missing.items → new.checks.items ≡ old.checks.items ++ c ∷ []
    → c.node < length ns → need_blames need ≡ [] →
    need_conditions need ≡ record { value = number_by ns c.node; test = c.test } ∷ [] → Adds ns (need ∷ []) old new
one_check ns old new need c m k h b q = record {
  missing = m ∙ sym (append-nil old.missing.items) ∙ ap (λ l. old.missing.items ++ (l ++ [])) (sym b);
  checks = λ input.
      ap (λ l. all_hold ns l input) k ∙ all_both (holds (numbers_of input ns)) old.checks.items (c ∷ [])
      ∙ ap (λ l. all_hold ns old.checks.items input && all_met (l ++ []) input) (sym q);
  named = λ a. subst (λ l. AreNamed (length ns) l) (sym k) (named_both (length ns) old.checks.items c h a);
}

-- one for which a decision is missing
pub one_missing : (ns : NodeList) (old new : Asked) (need : Need) (by : Decision) → new.missing.items ≡ old.missing.items ++ by ∷ [] → new.checks.items ≡ old.checks.items
    → need_blames need ≡ by ∷ [] → need_conditions need ≡ [] → Adds ns (need ∷ []) old new
one_missing ns old new need by m k b q = record {
  missing = m ∙ ap (λ l. old.missing.items ++ (l ++ [])) (sym b);
  checks = λ input. ap (λ l. all_hold ns l input) k ∙ sym (and_true (all_hold ns old.checks.items input)) ∙ ap (λ l. all_hold ns old.checks.items input && all_met (l ++ []) input) (sym q);
  named = λ a. subst (λ l. AreNamed (length ns) l) (sym k) a;
}

named_each : (n node : ℕ) (cases : List Case) → node < n → AreNamed n (map (other_than node) cases)
named_each n node [] h = tt
named_each n node (c ∷ cases) h = (h, named_each n node cases h)

named_all : (n : ℕ) (xs ys : List Check) → AreNamed n xs → AreNamed n ys → AreNamed n (xs ++ ys)
named_all n [] ys a b = b
named_all n (x ∷ xs) ys a b = (a.0, named_all n xs ys a.1 b)

met_each : (ns : NodeList) (node : ℕ) (cases : List Case) (input : List ℤ)
    → all_hold ns (map (other_than node) cases) input ≡ all_met (conditions_with (number_by ns node) (map (λ (c : Case). test.Ne c.value) cases)) input
met_each ns node [] input = refl
met_each ns node (c ∷ cases) input = ap (λ b. holds (numbers_of input ns) (other_than node c) && b) (met_each ns node cases input)

-- a value that is none of some cases
pub many_checks : (ns : NodeList) (old new : Asked) (node : ℕ) (f : OnInput) (cases : List Case) → new.missing.items ≡ old.missing.items
    → new.checks.items ≡ old.checks.items ++ map (other_than node) cases → node < length ns →
    Adds ns (Value (Known (number_by ns node) f) (map (λ (c : Case). test.Ne c.value) cases) ∷ []) old new
many_checks ns old new node f cases m k h = record {
  missing = m ∙ sym (append-nil old.missing.items);
  checks = λ input.
      ap (λ l. all_hold ns l input) k ∙ all_both (holds (numbers_of input ns)) old.checks.items (map (other_than node) cases)
      ∙ ap (λ b. all_hold ns old.checks.items input && b)
      (met_each ns node cases input ∙ ap (λ l. all_met l input) (sym (append-nil (conditions_with (number_by ns node) (map (λ (c : Case). test.Ne c.value) cases)))));
  named = λ a. subst (λ l. AreNamed (length ns) l) (sym k) (named_all (length ns) old.checks.items (map (other_than node) cases) a (named_each (length ns) node cases h));
}

-- ---- needs one after another

blames_both : (xs ys : List Need) → all_of need_blames (xs ++ ys) ≡ all_of need_blames xs ++ all_of need_blames ys
blames_both [] ys = refl
blames_both (x ∷ xs) ys = ap (λ l. need_blames x ++ l) (blames_both xs ys) ∙ sym (append_assoc (need_blames x) (all_of need_blames xs) (all_of need_blames ys))

conditions_both : (xs ys : List Need) → all_of need_conditions (xs ++ ys) ≡ all_of need_conditions xs ++ all_of need_conditions ys
conditions_both [] ys = refl
conditions_both (x ∷ xs) ys = ap (λ l. need_conditions x ++ l) (conditions_both xs ys) ∙ sym (append_assoc (need_conditions x) (all_of need_conditions xs) (all_of need_conditions ys))

pub adds_none : (ns : NodeList) (old : Asked) → Adds ns [] old old
adds_none ns old = record { missing = sym (append-nil old.missing.items); checks = λ input. sym (and_true (all_hold ns old.checks.items input)); named = λ a. a }

and_assoc : (a b c : Bool) → ((a && b) && c) ≡ (a && (b && c))
and_assoc true b c = refl
and_assoc false b c = refl

pub adds_then : (ns : NodeList) (xs ys : List Need) (old between new : Asked) → Adds ns xs old between → Adds ns ys between new → Adds ns (xs ++ ys) old new
adds_then ns xs ys old between new a b = record {
  missing = b.missing ∙ ap (λ l. l ++ all_of need_blames ys) a.missing ∙ append_assoc old.missing.items (all_of need_blames xs) (all_of need_blames ys)
      ∙ ap (λ l. old.missing.items ++ l) (sym (blames_both xs ys));
  checks = λ input.
      b.checks input ∙ ap (λ t. t && all_met (all_of need_conditions ys) input) (a.checks input)
      ∙ and_assoc (all_hold ns old.checks.items input) (all_met (all_of need_conditions xs) input) (all_met (all_of need_conditions ys) input)
      ∙ ap (λ t. all_hold ns old.checks.items input && t)
      (sym (all_both (λ (c : Condition). is_met c.test (c.value input)) (all_of need_conditions xs) (all_of need_conditions ys)) ∙ ap (λ l. all_met l input) (sym (conditions_both xs ys)));
  named = λ n. b.named (a.named n);
}
