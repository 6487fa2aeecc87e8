-- The first places of names by their texts.
use Rattle.std.proofs.Common.{◌≡◌, ℕ, ◌+◌, Bool, cond, List, [], ◌∷◌, length, map, Some, refl, sym, ap, ◌∙◌, arith}
use Rattle.std.specs.List.{position_from}
use Rattle.std.specs.Str.{bytes_eq}
use Rattle.std.proofs.lemmas.Iterator.Adapters.{position_from-zero}
use Rattle.pg_read_ast.specs.declared.names.Name.{Name}
use Rattle.pg_read_ast.specs.Syntax.{NamedType}
use Rattle.pg_check_types.specs.NameIndex.{first_place}
use Rattle.pg_check_rules.specs.Names.{Register, is_called, register_number, label_number}
use Rattle.pg_check_names.specs.declared.register_type.RegisterType.{RegisterType}
use Rattle.pg_check_names.specs.Registers.{registers_by}
use Rattle.pg_check_program.specs.LineRows.{name_in}
use Rattle.pg_check_program.specs.FunctionRows.{text_in}

pub position_map : {X Y : Type 0} (t : Y → Bool) (f : X → Y) (xs : List X) (i : ℕ) → position_from t i (map f xs) ≡ position_from (λ x. t (f x)) i xs
position_map t f [] i = refl
position_map t f (x ∷ xs) i = ap (λ o. cond (t (f x)) (Some i) o) (position_map t f xs (i + 1))

pub place_is : (ns : List Name) (text : List ℕ) → first_place (map text_in ns) text ≡ label_number ns text
unfolding label_number
place_is ns text =
    position_map (λ t. bytes_eq t text) text_in ns 0
    ∙ sym (position_from-zero (λ (n : Name). bytes_eq n.text text) ns)

pub register_place : (rs : List Register) (text : List ℕ) → label_number (map name_in rs) text ≡ register_number rs text
unfolding register_number label_number
register_place rs text =
    position_from-zero (λ (n : Name). bytes_eq n.text text) (map name_in rs)
    ∙ position_map (λ (n : Name). bytes_eq n.text text) name_in rs 0
    ∙ sym (position_from-zero (is_called text) rs)

-- registers have the names that they are made of
pub register_names : (types : List NamedType) (ns : List Name) (ts : List RegisterType) → length ts ≡ length ns → map name_in (registers_by types ns ts) ≡ ns
register_names types [] ts e = refl
register_names types (n ∷ ns) [] e = cc
register_names types (n ∷ ns) (t ∷ ts) e = ap (λ ms. n ∷ ms) (register_names types ns ts (omega (arith, e)))
