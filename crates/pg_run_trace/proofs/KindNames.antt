-- A kind and its name tell each other.
use Rattle.std.proofs.Common.{◌≡◌, ℕ, List, [], ◌∷◌, Bool, true, false, Some, refl, sym, subst, ap, ◌∙◌}
use Rattle.std.specs.Prelude.{cond}
use Rattle.std.specs.List.{find}
use Rattle.std.specs.Str.{bytes_eq}
use Rattle.std.proofs.lemmas.Option.{same_Some}
use Rattle.std.proofs.lemmas.Slice.Eq.{bytes_eq-Decides}
use Rattle.pg_run_trace.specs.declared.turn.TurnKind.{TurnKind}
use Rattle.pg_run_trace.specs.declared.turn.TurnKind.TheVariants as kinds
use Rattle.pg_run_trace.specs.KindNames.{all_kinds, kind_named, kind_text}

pub found : (k : TurnKind) → kind_named (kind_text k) ≡ Some k
unfolding kind_named
found kinds.Start = refl
found kinds.Exit = refl
found kinds.Create = refl
found kinds.Join = refl
found kinds.MutexInit = refl
found kinds.Lock = refl
found kinds.Trylock = refl
found kinds.Unlock = refl
found kinds.MutexDestroy = refl
found kinds.CondInit = refl
found kinds.Wait = refl
found kinds.Wake = refl
found kinds.Signal = refl
found kinds.Broadcast = refl
found kinds.CondDestroy = refl
found kinds.BarrierInit = refl
found kinds.Arrive = refl
found kinds.Leave = refl
found kinds.BarrierDestroy = refl
found kinds.Out = refl
found kinds.Putchar = refl
found kinds.Load = refl
found kinds.Store = refl

-- what is found passes the test
passes : (test : TurnKind → Bool) (xs : List TurnKind) (k : TurnKind) → find test xs ≡ Some k → test k ≡ true
passes test [] k e = absurd cc
passes test (x ∷ xs) k e = go (λ h. passes test xs k h) (test x) refl e
  where
    go : (find test xs ≡ Some k → test k ≡ true) → (b : Bool) → test x ≡ b → cond b (Some x) (find test xs) ≡ Some k → test k ≡ true
    go more true h q = let same : x ≡ k = same_Some _ _ q in subst (λ (y : TurnKind). test y ≡ true) same h
    go more false h q = more q

pub named : (text : List ℕ) (k : TurnKind) → kind_named text ≡ Some k → kind_text k ≡ text
unfolding kind_named
named text k e = (bytes_eq-Decides (kind_text k) text).0 (passes (λ x. bytes_eq (kind_text x) text) all_kinds k e)

pub one : (a b : TurnKind) → kind_text a ≡ kind_text b → a ≡ b
one a b e = same_Some _ _ (sym (found a) ∙ ap kind_named e ∙ found b)
