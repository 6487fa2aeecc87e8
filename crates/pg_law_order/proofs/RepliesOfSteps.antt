-- The replies of steps.
use Rattle.std.proofs.Common.{◌≡◌, ℕ, Bool, true, false, cond, List, [], ◌∷◌, ◌++◌, map, Option, Some, None, refl, sym, ap, ◌∙◌}
use Rattle.std.specs.Prelude.{filter, is_some, if◌then◌else◌}
use Rattle.std.specs.List.{cons_option, filter_map}
use Rattle.std.proofs.lemmas.List.Elements.{filter_map-append}
use Rattle.pg_run_trace.specs.declared.step.Happening.{Happening}
use Rattle.pg_run_trace.specs.declared.step.Step.{Step}
use Rattle.pg_run_trace.specs.declared.step.StepKind.{StepKind}
use Rattle.pg_run_trace.specs.declared.step.StepKind.TheVariants as kinds
use Rattle.pg_run_trace.specs.Races.{recorded, reply_in}
use Rattle.pg_run_trace.specs.Steps.{happening_in}
use Rattle.pg_law_runs.specs.Answered.{Answered, AreFirst, answered, answers}
use Rattle.pg_law_runs.specs.Cuts.{IsFrontOf}
use Rattle.pg_law_order.specs.Good.{replies_of}

-- a step that is no event has no reply
pub no_reply : (k : StepKind) → happening_in k ≡ None → reply_in k ≡ None
no_reply kinds.Other e = refl
no_reply (kinds.Branch c) e = refl
no_reply (kinds.Allocation m n) e = refl
no_reply (kinds.Event v) e = absurd cc
no_reply (kinds.Access a) e = go a.event _ e
  where
    go : (b : Bool) (v : Happening) → Path (Option Happening) (if b then Some v else None) None → Path (Option ℕ) (if b then Some 0 else None) None
    go true v h = absurd cc
    go false v h = refl

abbrev pub given : Answered → Option ℕ
given a = a.reply

pub replies_are : (xs : List Step) → replies_of xs ≡ filter_map given (answers xs)
replies_are [] = refl
replies_are (x ∷ xs) = go (happening_in x.kind) refl (replies_are xs)
  where
    go : (o : Option Happening) → happening_in x.kind ≡ o → replies_of xs ≡ filter_map given (answers xs)
        → replies_of (x ∷ xs) ≡ filter_map given (map answered (cond (is_some (happening_in x.kind)) (x ∷ filter recorded.is_event xs) (filter recorded.is_event xs)))
    go None e ih = rw (e, no_reply x.kind e) ih
    go (Some h) e ih = rw e (ap (λ (l : List ℕ). cons_option (reply_in x.kind) l) ih)

pub first_replies : (xs ys : List Step) → AreFirst (answers xs) (answers ys) → IsFrontOf (replies_of xs) (replies_of ys)
first_replies xs ys f = (
  filter_map given f.0,
  ap (λ (l : List ℕ). l ++ filter_map given f.0) (replies_are xs) ∙ sym (filter_map-append given (answers xs) f.0) ∙ ap (filter_map given) f.1 ∙ sym (replies_are ys),
)
