use Rattle.std.proofs.Common.{◌≡◌, ◌≢◌, ℕ, List, [], Result, Ok, Err, IfOk, IfErr, ap, subst, ◌∙◌}
use Rattle.pg_read_lex.specs.declared.token.Token.{Token as Lexed}
use Rattle.pg_read_lex.specs.Tokens.{tokens}
use Rattle.pg_read_ast.specs.declared.nodes.Module.{Module}
use Rattle.pg_read_ast.specs.Views.{tree_of}
use Rattle.pg_read_grammar.specs.declared.token.Token.{Token}
use Rattle.pg_read_grammar.specs.declared.fault.ReadFault.{ReadFault}
use Rattle.pg_read_grammar.specs.declared.fault.ReadFault.TheVariants.{OutOfMemory}
use Rattle.pg_read_grammar.specs.Reading.{Good}
use Rattle.pg_read_grammar.specs.ReaderItems.{program_at}
use Rattle.pg_read_grammar.specs.Answers.{ended}
use Rattle.pg_read_grammar.specs.Words.{classified}
use Rattle.pg_read_grammar.specs.Accepted.{IsModule, IsUnread}
use Rattle.pg_read_grammar.specs.Told.{IsTold}
use Rattle.pg_read_grammar.proofs.TextLaws.{text_found, told_first}
use Rattle.pg_read.proofs.text.parse.Goals as goal

found : (text : List ℕ) (ts : List Lexed) (us : List Token) (r : Result Module ReadFault) → tokens text ≡ Ok ts → us ≡ classified text ts
    → IfOk r (λ m. ended (program_at us) ≡ Good (tree_of m) []) → IfOk r (λ m. IsModule text (tree_of m))
found text ts us (Ok m) w s e = text_found text ts [] (tree_of m) w (subst (λ xs. ended (program_at xs) ≡ Good (tree_of m) []) s e)
found text ts us (Err f) w s e = tt

refused : (text : List ℕ) (ts : List Lexed) (us : List Token) (r : Result Module ReadFault) → tokens text ≡ Ok ts → us ≡ classified text ts
    → IfErr r (λ e. e ≢ OutOfMemory → IsTold text us e) → IfErr r (λ e. e ≢ OutOfMemory → IsUnread text e)
refused text ts us (Ok m) w s i = tt
refused text ts us (Err f) w s i = λ n. told_first text ts f w (subst (λ xs. IsTold text xs f) s (i n))

pub returns-clause-found : goal.returns-clause-found
returns-clause-found c = found c.args.text.now c.in_ok-lexed.lexed.items c.as_slice-2.result.now c.whole.result c.in_ok-lexed.ensures.found
    (c.as_slice-2.ensures.value ∙ c.in_ok-tokens.ensures ∙ ap (λ ts. classified c.args.text.now ts) c.as_slice.ensures.value) c.whole.ensures.found

pub returns-clause-refused : goal.returns-clause-refused
returns-clause-refused c = refused c.args.text.now c.in_ok-lexed.lexed.items c.as_slice-2.result.now c.whole.result c.in_ok-lexed.ensures.found
    (c.as_slice-2.ensures.value ∙ c.in_ok-tokens.ensures ∙ ap (λ ts. classified c.args.text.now ts) c.as_slice.ensures.value) c.whole.ensures.refused
