-- Each operation of a text is read again.
use Rattle.std.proofs.Common.{◌≡◌, ap, Option, Some, None}
use Rattle.pg_num.specs.declared.limits.TheConstants.{NESTING_LIMIT}
use Rattle.pg_read_ast.specs.Syntax.{Op}
use Rattle.pg_read_ast.specs.Text.{op_text}
use Rattle.pg_read_grammar.specs.declared.class.Class.TheVariants.{Comma}
use Rattle.pg_read_grammar.specs.Classes.{is}
use Rattle.pg_read_grammar.specs.Language.{give, ◌or◌}
use Rattle.pg_read_grammar.specs.Grammar.{name_of, literal_of}
use Rattle.pg_read_grammar.specs.GrammarOps.{binary_of, predicate_of, cast_of, binary, icmp, cast, select, phi, branch, switch, return, unreachable, alloca, load, store, gep, plain_op, simple_op, op}
use Rattle.pg_law_canonical.specs.Spans as plain
use Rattle.pg_law_canonical.proofs.TokenTexts.{stops}
use Rattle.pg_law_canonical.proofs.ReadAgain.{Again, last_text, left_text, right_text}
use Rattle.pg_law_canonical.proofs.PieceYields.{Yields, yields_give, yields_one, yields_then, yields_or, yields_refused, yields_more, yields_many}
use Rattle.pg_law_canonical.proofs.Types.{type_yields}
use Rattle.pg_law_canonical.proofs.Values.{value_yields, typed_value_yields}
use Rattle.pg_law_canonical.proofs.LeftOutParts.{flags_then}
use Rattle.pg_law_canonical.proofs.Operations.{Reads, binary_row, icmp_row, cast_row, select_row, incoming_yields, phi_rest, phi_row, br_row, cond_row, case_yields, switch_row, ret_void_row}
use Rattle.pg_law_canonical.proofs.Operations.{ret_row, unreachable_row, alloca_row, alloca_count_row, load_row, store_row, gep_row}
use Rattle.pg_law_canonical.proofs.Calls.{CallAgain, call_yields}

binary_yields : Yields binary (Reads binary)
binary_yields = yields_then yields_one (λ o k. flags_then
    (yields_then (type_yields NESTING_LIMIT) (λ t x. yields_then (value_yields NESTING_LIMIT)
    (λ a y. yields_then yields_one (λ c _. yields_then (value_yields NESTING_LIMIT) (λ b z. yields_give (binary_row o.span (binary_of o.class) t a b x y z)))))))

icmp_yields : Yields icmp (Reads icmp)
icmp_yields = yields_then yields_one (λ o k. flags_then
    (yields_then yields_one (λ p k2. yields_then (type_yields NESTING_LIMIT)
    (λ t x. yields_then (value_yields NESTING_LIMIT) (λ a y. yields_then yields_one
    (λ c _. yields_then (value_yields NESTING_LIMIT) (λ b z. yields_give (icmp_row o.span (predicate_of p.class) t a b x y z))))))))

cast_yields : Yields cast (Reads cast)
cast_yields = yields_then yields_one (λ o k. flags_then
    (yields_then (type_yields NESTING_LIMIT) (λ t1 x1. yields_then (value_yields NESTING_LIMIT)
    (λ v1 y1. yields_then yields_one (λ c _. yields_then (type_yields NESTING_LIMIT)
    (λ t x. yields_give (cast_row o.span (cast_of o.class) (record { ty = t1; value = v1 }) t (record { ty = x1; value = y1 }) x)))))))

select_yields : Yields select (Reads select)
select_yields = yields_then yields_one (λ o _. yields_then (type_yields NESTING_LIMIT)
    (λ t1 x1. yields_then (value_yields NESTING_LIMIT) (λ v1 y1. yields_then yields_one
    (λ c _. yields_then (type_yields NESTING_LIMIT) (λ t2 x2. yields_then (value_yields NESTING_LIMIT)
    (λ v2 y2. yields_then yields_one (λ d _. yields_then (type_yields NESTING_LIMIT)
    (λ t3 x3. yields_then (value_yields NESTING_LIMIT) (λ v3 y3. yields_give
    (select_row o.span (record { ty = t1; value = v1 }) (record { ty = t2; value = v2 }) (record { ty = t3; value = v3 }) (record { ty = x1; value = y1 }) (record { ty = x2; value = y2 })
    (record { ty = x3; value = y3 })))))))))))

phi_yields : Yields phi (Reads phi)
phi_yields = yields_then yields_one (λ o _. yields_then (type_yields NESTING_LIMIT)
    (λ t x. yields_then {h = phi_rest o t} incoming_yields
    (λ i y. yields_then (yields_many (yields_then (yields_one {test = is Comma}) (λ c _. incoming_yields))) (λ all z. yields_give (phi_row o.span t i all x y z)))))

branch_yields : Yields branch (Reads branch)
branch_yields = yields_then yields_one (λ o _. yields_or (yields_then yields_one (λ l _. yields_then yields_one (λ b k. yields_give (br_row o.span (name_of b) k.formed.bytes))))
    (yields_then (type_yields NESTING_LIMIT) (λ t1 x1. yields_then (value_yields NESTING_LIMIT)
    (λ v1 y1. yields_then yields_one (λ c _. yields_then yields_one
    (λ l _. yields_then yields_one (λ a k. yields_then yields_one
    (λ d _. yields_then yields_one (λ l2 _. yields_then yields_one
    (λ b k2. yields_give (cond_row o.span (record { ty = t1; value = v1 }) (name_of a) (name_of b) (record { ty = x1; value = y1 }) k.formed.bytes k2.formed.bytes)))))))))))

switch_yields : Yields switch (Reads switch)
switch_yields = yields_then yields_one (λ o _. yields_then (type_yields NESTING_LIMIT)
    (λ t1 x1. yields_then (value_yields NESTING_LIMIT) (λ v1 y1. yields_then yields_one
    (λ c _. yields_then yields_one (λ l _. yields_then yields_one
    (λ b k. yields_then yields_one (λ q _. yields_then (yields_many case_yields)
    (λ all z. yields_then yields_one (λ r _. yields_give (switch_row o.span (record { ty = t1; value = v1 }) (name_of b) all (record { ty = x1; value = y1 }) k.formed.bytes z))))))))))

return_yields : Yields return (Reads return)
return_yields = yields_then yields_one (λ o _. yields_or (yields_then yields_one (λ v _. yields_give (ret_void_row o.span v.span)))
    (yields_then (type_yields NESTING_LIMIT) (λ t1 x1. yields_then (value_yields NESTING_LIMIT)
    (λ v1 y1. yields_give (ret_row o.span (record { ty = t1; value = v1 }) (record { ty = x1; value = y1 }))))))

unreachable_yields : Yields unreachable (Reads unreachable)
unreachable_yields = yields_then yields_one (λ o _. yields_give (unreachable_row o.span))

alloca_yields : Yields alloca (Reads alloca)
alloca_yields = yields_then yields_one (λ o _. yields_then (type_yields NESTING_LIMIT)
    (λ t x. yields_or (yields_then yields_one (λ c _. yields_then (type_yields NESTING_LIMIT)
    (λ u y. yields_or (yields_then yields_one (λ n k. yields_or
    (yields_then yields_one (λ c9 _. yields_then yields_one
    (λ a9 _. yields_then yields_one (λ n9 _. yields_give (alloca_count_row o.span t u (literal_of n) x y (k.formed.decimal k.class_is))))))
    (yields_give (alloca_count_row o.span t u (literal_of n) x y (k.formed.decimal k.class_is))))) (yields_refused _ _))))
    (yields_or (yields_then yields_one (λ c9 _. yields_then yields_one (λ a9 _. yields_then yields_one (λ n9 _. yields_give (alloca_row o.span t x))))) (yields_give (alloca_row o.span t x)))))

load_yields : Yields load (Reads load)
load_yields = yields_then yields_one (λ o _. yields_or
    (yields_then yields_one (λ v _. yields_then (type_yields NESTING_LIMIT)
    (λ t x. yields_then yields_one (λ c _. yields_then (type_yields NESTING_LIMIT)
    (λ t1 x1. yields_then (value_yields NESTING_LIMIT) (λ v1 y1. yields_or
    (yields_then yields_one (λ c9 _. yields_then yields_one
    (λ a9 _. yields_then yields_one (λ n9 _. yields_give (load_row o.span t (record { ty = t1; value = v1 }) x (record { ty = x1; value = y1 }))))))
    (yields_give (load_row o.span t (record { ty = t1; value = v1 }) x (record { ty = x1; value = y1 })))))))))
    (yields_then (type_yields NESTING_LIMIT) (λ t x. yields_then yields_one
    (λ c _. yields_then (type_yields NESTING_LIMIT) (λ t1 x1. yields_then (value_yields NESTING_LIMIT)
    (λ v1 y1. yields_or (yields_then yields_one (λ c9 _. yields_then yields_one
    (λ a9 _. yields_then yields_one (λ n9 _. yields_give (load_row o.span t (record { ty = t1; value = v1 }) x (record { ty = x1; value = y1 }))))))
    (yields_give (load_row o.span t (record { ty = t1; value = v1 }) x (record { ty = x1; value = y1 })))))))))

store_yields : Yields store (Reads store)
store_yields = yields_then yields_one (λ o _. yields_or
    (yields_then yields_one (λ v _. yields_then (type_yields NESTING_LIMIT)
    (λ t1 x1. yields_then (value_yields NESTING_LIMIT) (λ v1 y1. yields_then yields_one
    (λ c _. yields_then (type_yields NESTING_LIMIT) (λ t2 x2. yields_then (value_yields NESTING_LIMIT)
    (λ v2 y2. yields_or (yields_then yields_one (λ c9 _. yields_then yields_one
    (λ a9 _. yields_then yields_one (λ n9 _. yields_give
    (store_row o.span (record { ty = t1; value = v1 }) (record { ty = t2; value = v2 }) (record { ty = x1; value = y1 }) (record { ty = x2; value = y2 }))))))
    (yields_give (store_row o.span (record { ty = t1; value = v1 }) (record { ty = t2; value = v2 }) (record { ty = x1; value = y1 }) (record { ty = x2; value = y2 }))))))))))
    (yields_then (type_yields NESTING_LIMIT) (λ t1 x1. yields_then (value_yields NESTING_LIMIT)
    (λ v1 y1. yields_then yields_one (λ c _. yields_then (type_yields NESTING_LIMIT)
    (λ t2 x2. yields_then (value_yields NESTING_LIMIT) (λ v2 y2. yields_or
    (yields_then yields_one (λ c9 _. yields_then yields_one
    (λ a9 _. yields_then yields_one (λ n9 _. yields_give
    (store_row o.span (record { ty = t1; value = v1 }) (record { ty = t2; value = v2 }) (record { ty = x1; value = y1 }) (record { ty = x2; value = y2 }))))))
    (yields_give (store_row o.span (record { ty = t1; value = v1 }) (record { ty = t2; value = v2 }) (record { ty = x1; value = y1 }) (record { ty = x2; value = y2 }))))))))))

gep_yields : Yields gep (Reads gep)
gep_yields = yields_then yields_one (λ o _. flags_then
    (yields_then (type_yields NESTING_LIMIT) (λ t x. yields_then yields_one
    (λ c _. yields_then (type_yields NESTING_LIMIT) (λ t1 x1. yields_then (value_yields NESTING_LIMIT)
    (λ v1 y1. yields_then (yields_many (yields_then (yields_one {test = is Comma}) (λ c2 _. typed_value_yields NESTING_LIMIT)))
    (λ all z. yields_give (gep_row o.span t (record { ty = t1; value = v1 }) all x (record { ty = x1; value = y1 }) z))))))))

plain_yields : Yields plain_op (Reads plain_op)
plain_yields = yields_or (yields_more (λ p e. left_text e) binary_yields)
    (yields_or (yields_more (λ p e. right_text (left_text e)) icmp_yields)
    (yields_or (yields_more (λ p e. right_text (right_text (left_text e))) select_yields)
    (yields_or (yields_more (λ p e. right_text (right_text (right_text (left_text e)))) phi_yields)
    (yields_or (yields_more (λ p e. right_text (right_text (right_text (right_text (left_text e))))) branch_yields)
    (yields_or (yields_more (λ p e. right_text (right_text (right_text (right_text (right_text (left_text e)))))) switch_yields)
    (yields_or (yields_more (λ p e. right_text (right_text (right_text (right_text (right_text (right_text (left_text e))))))) unreachable_yields)
    (yields_or (yields_more (λ p e. right_text (right_text (right_text (right_text (right_text (right_text (right_text (left_text e)))))))) alloca_yields)
    (yields_or (yields_more (λ p e. right_text (right_text (right_text (right_text (right_text (right_text (right_text (right_text (left_text e))))))))) load_yields)
    (yields_more (λ p e. right_text (right_text (right_text (right_text (right_text (right_text (right_text (right_text (right_text e))))))))) store_yields)))))))))

simple_yields : Yields simple_op (Reads simple_op)
simple_yields = yields_or (yields_more (λ p e. left_text e) gep_yields)
    (yields_or (yields_more (λ p e. right_text (left_text e)) cast_yields) (yields_more (λ p e. right_text (right_text e)) plain_yields))

either_yields : Yields (return or simple_op) (Reads (return or simple_op))
either_yields = yields_or (yields_more (λ p e. left_text e) return_yields) (yields_more (λ p e. right_text e) simple_yields)

-- an operation that isn't dropped is read again
abbrev pub OpAgain : Op → Type 1
OpAgain p = Again stops op (op_text p) (λ q. plain.plain_option plain.plain_op q ≡ Some (plain.plain_op p))

abbrev pub OptionAgain : Option Op → Type 1
OptionAgain None = Unit {1}
OptionAgain (Some p) = OpAgain p

call_is : (c : Option Op) → CallAgain c → OptionAgain c
call_is None h = tt
call_is (Some p) h = left_text (left_text h)

pub op_yields : Yields op OptionAgain
op_yields = yields_or (yields_or (yields_more call_is call_yields)
    (yields_then {h = λ o. give (Some o)} either_yields (λ p e. yields_give (left_text (right_text (last_text {f = λ q. Some q} e (λ q x. ap Some x))))))) (yields_refused _ _)
