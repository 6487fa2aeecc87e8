-- Where the first function called main stands.
use Rattle.std.proofs.Common.{◌≡◌, ℕ, ◌+◌, ◌<◌, ◌≤◌, true, false, cond, List, length, drop, get_or, Some, None, refl, ap, ◌∙◌, arith}
use Rattle.std.specs.List.{position_from}
use Rattle.pg_read_ast.specs.declared.nodes.DefineItem.{DefineItem}
use Rattle.pg_check_program.specs.FunctionRows.{is_main_item}
use Rattle.pg_check_program.proofs.LineSteps.{drop_is, dropped}

-- none of the functions before a place is main
pub record Searched (all : List DefineItem) (place : ℕ) : Type 0 where
  pub within : place ≤ length all
  pub same : position_from is_main_item 0 all ≡ position_from is_main_item place (drop place all)

pub main_begin : (all : List DefineItem) → Searched all 0
main_begin all = record { within = omega arith; same = refl }

at_place : (all : List DefineItem) (place : ℕ) (x : DefineItem) → place < length all → x ≡ get_or all place x
    → position_from is_main_item place (drop place all) ≡ cond (is_main_item x) (Some place) (position_from is_main_item (place + 1) (drop (place + 1) all))
at_place all place x l e = ap (λ xs. position_from is_main_item place xs) (drop_is all place x x l e)

pub main_skip : (all : List DefineItem) (place : ℕ) (x : DefineItem) → place < length all → x ≡ get_or all place x → is_main_item x ≡ false → Searched all place
    → Searched all (place + 1)
main_skip all place x l e h s = record {
  within = omega (arith, l);
  same = s.same ∙ at_place all place x l e ∙ ap (λ b. cond b (Some place) (position_from is_main_item (place + 1) (drop (place + 1) all))) h;
}

pub main_here : (all : List DefineItem) (place : ℕ) (x : DefineItem) → place < length all → x ≡ get_or all place x → is_main_item x ≡ true → Searched all place
    → position_from is_main_item 0 all ≡ Some place
main_here all place x l e h s =
    s.same ∙ at_place all place x l e ∙ ap (λ b. cond b (Some place) (position_from is_main_item (place + 1) (drop (place + 1) all))) h

pub main_none : (all : List DefineItem) (place : ℕ) → length all ≤ place → Searched all place → position_from is_main_item 0 all ≡ None
main_none all place l s = s.same ∙ ap (λ xs. position_from is_main_item place xs) (dropped all place l)
