-- What is read again is read again with the numbers of unnamed things as their names.
use Rattle.std.proofs.Common.{◌≡◌, ℕ, ◌+◌, ◌<◌, List, [], ◌∷◌, refl, ap, ap₂, Option, Some, None, Bool, true, false, ◌&&◌, ◌==◌, not, if◌then◌else◌}
use Rattle.std.proofs.Common.{codes, map, arith, lt-ltb}
use Rattle.std.specs.List.{list_all}
use Rattle.std.specs.Int.Digits.{digits_of, AllBelowBase}
use Rattle.std.proofs.lemmas.Int.Digits.{all_below_base_digits_of}
use Rattle.pg_num.specs.declared.limits.TheConstants.{NESTING_LIMIT}
use Rattle.pg_read_ast.specs.declared.names.Name.{Name}
use Rattle.pg_read_ast.specs.Syntax.{Line, Block, Param, NamedType}
use Rattle.pg_read_ast.specs.Numbers.{digits_text, decimal_text, name_at, each_at, param_at, behind_param, result_at, line_at, behind_line, block_at, behind_block, gives}
use Rattle.pg_read_grammar.specs.GrammarItems.{ends_block}
use Rattle.pg_read_grammar.specs.Endings.{ends_last, end_last}
use Rattle.pg_law_canonical.proofs.FirstTokens.{both}
use Rattle.pg_law_canonical.proofs.Names.{is_byte}
use Rattle.pg_law_canonical.proofs.ReadAgain.{Every}
use Rattle.pg_law_canonical.proofs.Types.{TypeAgain}
use Rattle.pg_law_canonical.proofs.Operations.{IsNameText}
use Rattle.pg_law_canonical.proofs.BodyParts.{NameOption, LineAgain}
use Rattle.pg_law_canonical.proofs.Bodies.{BlockAgain, are_labelled}

pub record ParamAgain (p : Param) : Type 1 where
  pub ty : TypeAgain NESTING_LIMIT p.ty
  pub name : NameOption p.name

-- ---- names of digits

digit_bytes : (ds : List ℕ) → AllBelowBase 10 ds → list_all is_byte (map (λ d. 48 + d) ds) ≡ true
digit_bytes [] h = refl
digit_bytes (d ∷ ds) h = both (is_byte (48 + d)) (list_all is_byte (map (λ d. 48 + d) ds)) (lt-ltb (48 + d) 256 (let l : d < 10 = h.0 in omega (arith, l))) (digit_bytes ds h.1)

number_text : (n : ℕ) → IsNameText (decimal_text n)
unfolding decimal_text digits_text
number_text n = by (n == 0)
  where
    by : (c : Bool) → list_all is_byte (if c then codes "0" else digits_text n) ≡ true
    by true = refl
    by false = digit_bytes (digits_of 10 n) (all_below_base_digits_of 10 n (omega arith))

name_again : (next : ℕ) (n : Option Name) → NameOption n → IsNameText (name_at next n).text
name_again next (Some n) h = h
name_again next None h = number_text next

result_again : (c : Bool) (next : ℕ) (n : Option Name) → NameOption n → NameOption (result_at c next n)
result_again c next (Some n) h = h
result_again true next None h = number_text next
result_again false next None h = tt

-- ---- lists

every_at : {X : Type 0} (P Q : X → Type 1) (behind : ℕ → X → ℕ) (give : ℕ → X → X) → ((next : ℕ) (x : X) → P x → Q (give next x)) → (next : ℕ) (xs : List X)
    → Every P xs → Every Q (each_at behind give next xs)
every_at P Q behind give f next [] h = tt
every_at P Q behind give f next (x ∷ xs) h = (f next x h.0, every_at P Q behind give f (behind next x) xs h.1)

pub params_again : (next : ℕ) (ps : List Param) → Every ParamAgain ps → Every ParamAgain (each_at behind_param param_at next ps)
params_again next ps h = every_at ParamAgain ParamAgain behind_param param_at (λ n p e. record { ty = e.ty; name = name_again n p.name e.name }) next ps h

line_again_at : (types : List NamedType) (next : ℕ) (l : Line) → LineAgain l → LineAgain (line_at types next l)
line_again_at types next l e = record { name = result_again (gives types l.op) next l.name e.name; op = e.op }

pub blocks_again : (types : List NamedType) (next : ℕ) (bs : List Block) → Every BlockAgain bs → Every BlockAgain (each_at (behind_block types) (block_at types) next bs)
unfolding block_at
blocks_again types next bs h = every_at BlockAgain BlockAgain (behind_block types) (block_at types)
    (λ n b e. record { label = name_again n b.label e.label; lines = every_at LineAgain LineAgain (behind_line types) (line_at types) (line_again_at types) _ b.lines e.lines }) next bs h

pub blocks_labelled : (types : List NamedType) (next : ℕ) (bs : List Block) → are_labelled (each_at (behind_block types) (block_at types) next bs) ≡ true
unfolding block_at
blocks_labelled types next [] = refl
blocks_labelled types next (b ∷ bs) = blocks_labelled types (behind_block types next b) bs

lines_end : (types : List NamedType) (next : ℕ) (ls : List Line) → ends_last (each_at (behind_line types) (line_at types) next ls) ≡ ends_last ls
lines_end types next [] = refl
lines_end types next (l ∷ []) = refl
lines_end types next (l ∷ m ∷ ls) = ap (λ c. not (ends_block l.op) && c) (lines_end types (behind_line types next l) (m ∷ ls))

pub blocks_end : (types : List NamedType) (next : ℕ) (bs : List Block) → end_last (each_at (behind_block types) (block_at types) next bs) ≡ end_last bs
unfolding block_at
blocks_end types next [] = refl
blocks_end types next (b ∷ bs) = ap₂ (λ x y. x && y) (lines_end types _ b.lines) (blocks_end types (behind_block types next b) bs)
