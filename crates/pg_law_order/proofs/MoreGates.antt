-- More gates keep the order.
use Rattle.std.proofs.Common.{◌≡◌, ◌⊎◌, ℕ, [], ◌∷◌, Bool, true, false, List, map, refl, sym, ap, subst, inl}
use Rattle.std.specs.Prelude.{is_some}
use Rattle.pg_ir.specs.declared.ids.InstrId.{InstrId}
use Rattle.pg_law_threads.specs.Chains.{IsFiner}
use Rattle.pg_law_threads.specs.Intervals.{AreOrdered, IsOrdered, Timed, owners, times}
use Rattle.pg_law_threads.specs.Steps.{Conflict, EachPair}
use Rattle.pg_law_threads.proofs.EventChains.{ordered_finer}
use Rattle.pg_law_threads.proofs.DoneLists.{all_map}
use Rattle.pg_law_threads.proofs.OwnTurns.{own_turns}
use Rattle.pg_run_trace.specs.declared.step.Step.{Step}
use Rattle.pg_run_trace.specs.declared.step.StepKind.{StepKind}
use Rattle.pg_run_trace.specs.declared.step.StepKind.TheVariants as kinds
use Rattle.pg_run_trace.specs.Races.{is_one_of, kind_gated, recorded, with_gated}
use Rattle.pg_run_trace.specs.Steps.{happening_in}
use Rattle.pg_law_order.proofs.GatedSteps.{as_gated, gated_event, order_gated, order_read, owners_gated}

event_grows : (b d : Bool) (k : StepKind) → (b ≡ true → d ≡ true) → is_some (happening_in (kind_gated b k)) ≡ true → is_some (happening_in (kind_gated d k)) ≡ true
event_grows true d (kinds.Access a) g h = ap (λ (c : Bool). is_some (happening_in (kind_gated c (kinds.Access a)))) (g refl)
event_grows false d (kinds.Access a) g h = absurd cc
event_grows b d (kinds.Event e) g h = refl
event_grows b d (kinds.Branch c) g h = absurd cc
event_grows b d (kinds.Allocation m n) g h = absurd cc
event_grows b d kinds.Other g h = absurd cc

pub more_gates : (gated more : List InstrId) (xs : List Step) → ((i : ℕ) → is_one_of gated i ≡ true → is_one_of more i ≡ true) →
    IsOrdered recorded (owners recorded (map (with_gated gated) xs)) (map (with_gated gated) xs) → IsOrdered recorded (owners recorded (map (with_gated more) xs)) (map (with_gated more) xs)
more_gates gated more xs h o =
    subst (λ (T : List ℕ). IsOrdered recorded T (map (with_gated more) xs)) (owners_gated more xs)
    (order_gated more (owners (as_gated more) xs) xs (own_turns (as_gated more) xs)
    (ordered_finer (as_gated gated) (as_gated more) finer (owners (as_gated gated) xs) (owners (as_gated more) xs) xs (own_turns (as_gated gated) xs) (own_turns (as_gated more) xs)
    (either (times (as_gated gated) (owners (as_gated gated) xs) 0 xs)
    (order_read gated (owners (as_gated gated) xs) xs (own_turns (as_gated gated) xs)
    (subst (λ (T : List ℕ). IsOrdered recorded T (map (with_gated gated) xs)) (sym (owners_gated gated xs)) o)))))
  where
    finer : IsFiner (as_gated gated) (as_gated more)
    finer = record { threads = λ x. refl; reads = λ x b. refl; writes = λ x b. refl; events = λ x e. event_grows (is_one_of gated x.instr.0) (is_one_of more x.instr.0) x.kind (h x.instr.0) e }

    either : (ys : List (Timed Step)) → EachPair (λ x y. Conflict (as_gated gated) x.did y.did → AreOrdered x y) ys
        → EachPair (λ x y. Conflict (as_gated gated) x.did y.did → AreOrdered x y ⊎ ((gated_event more x.did ≡ true) × (gated_event more y.did ≡ true))) ys
    either [] k = tt
    either (y ∷ ys) k = (all_map (λ z f c. inl (f c)) ys k.0, either ys k.1)
