use Rattle.std.proofs.Common.{◌≡◌, ◌<◌, ℕ, suc, List, [], ◌∷◌, ◌++◌, Option, Some, sym, ◌∙◌, ap, subst, arith}
use Rattle.std.specs.Prelude.{slice_index_or}
use Rattle.std.specs.Option.{option_to_list}
use Rattle.pg_slice_rules.specs.Known.{Taken}
use Rattle.pg_slice_back.specs.pg_slice_decisions.Steps.{taken_by}
use Rattle.pg_slice_walk.specs.Chains.{AreOlder}
use Rattle.pg_slice_walk.specs.Settled.{ArePinned, AreSettled, Leads}
use Rattle.pg_slice_walk.proofs.SettledWithMore.{pinned_here, pinned_more, settled_set, settled_stays}
use Rattle.pg_slice_walk.proofs.SettledExtents.{decided, leads_down, leads_last, passed_over, skip_words}
use Rattle.pg_slice_walk.proofs.walk.settle_open.Goals as goal

-- the oldest of those that are left
record Last (hs : List ℕ) (d : Taken) (n : ℕ) (bs : List ℕ) (b : ℕ) : Type 0 where
  leads : Leads hs (slice_index_or hs n 0) bs (suc b)
  older : ArePinned hs d (slice_index_or hs b 0)
  earlier : b < n

last_of : (hs : List ℕ) (d : Taken) (n : ℕ) (old new : List ℕ) (o : Option ℕ) (b : ℕ) → AreOlder hs → o ≡ Some b → old ≡ new ++ option_to_list o →
    (rest : ℕ) × Leads hs (slice_index_or hs n 0) old rest × ArePinned hs d rest → Last hs d n new b
last_of hs d n old new o b k e p v =
    let q : old ≡ new ++ b ∷ [] = p ∙ ap (λ (z : Option ℕ). new ++ option_to_list z) e in
    let a = leads_last hs (slice_index_or hs n 0) new b v.0 (subst (λ (bs : List ℕ). Leads hs (slice_index_or hs n 0) bs v.0) q v.1) in
    let l = leads_down hs (slice_index_or hs n 0) new (suc b) k a.0 in
    let f = k.by n in
    record { leads = a.0; older = subst (λ (h : ℕ). ArePinned hs d h) (sym a.1) v.2; earlier = omega (arith, l, f) }

pub loop-b-init : goal.loop-b-init
loop-b-init c =
    let u = c.in_ok-open.ensures in
    record {
      left_open = (u.0, u.1, u.2 (taken_by c.args.decisions.now) (subst (λ l. AreSettled c.args.walk.now.holders.now (taken_by c.args.decisions.now) l) (sym c.as_slice.ensures.value) c.requires.settled));
      settled = c.requires.settled;
      size = c.requires.size;
      left = omega arith;
      behind = λ R e m told q own a. a;
    }

pub decide-requires : goal.decide-requires
decide-requires c =
    let v = c.loop-b.invariant in
    let l = last_of c.args.walk.now.holders.now (taken_by c.loop-b.decisions) c.args.number c.loop-b.open.items c.pop.new.self.items c.pop.result c.in-Some.b c.requires.older c.in-Some.is c.pop.ensures.items v.left_open in
    let a = l.earlier in
    (_, v.size, omega (arith, a, c.requires.number))

pub loop-b-preserved : goal.loop-b-preserved
loop-b-preserved c =
    let v = c.loop-b.invariant in
    let hs = c.args.walk.now.holders.now in
    let old = taken_by c.loop-b.decisions in
    let new = taken_by c.decide.new.decisions in
    let b = c.in-Some.b in
    let k = c.decide.ensures in
    let l = last_of hs old c.args.number c.loop-b.open.items c.pop.new.self.items c.pop.result b c.requires.older c.in-Some.is c.pop.ensures.items v.left_open in
    let here = pinned_more hs old new (slice_index_or hs b 0) k.kept l.older in
    let p = k.pinned c.if-decide.false in
    let a = v.left in
    let z = k.left in
    record {
      left_open = (suc b, l.leads, pinned_here hs new b p here);
      settled = settled_set hs new c.loop-b.settled.items c.set_mark.new.marks.items b p here c.set_mark.ensures.only (settled_stays hs old new c.loop-b.settled.items k.kept v.settled);
      size = k.size _ v.size;
      left = omega (arith, a, z);
      behind = λ R e m told q own w. decided R c.args.walk.now.reference.now hs c.args.walk.now.counts.now told c.args.number m q c.args.thread.0 own c.pop.new.self.items b l.leads c.loop-b.demanded c.decide.new.demanded old new e k.less
          k.owed l.older (v.behind R e m told q own w);
    }

pub returns-then-decide-clause-size : goal.returns-then-decide-clause-size
returns-then-decide-clause-size c = c.decide.ensures.size _ c.loop-b.invariant.size

pub returns-then-decide-clause-left : goal.returns-then-decide-clause-left
returns-then-decide-clause-left c = let a = c.loop-b.invariant.left in let b = c.decide.ensures.left in omega (arith, a, b)

pub returns-then-decide-clause-settled : goal.returns-then-decide-clause-settled
returns-then-decide-clause-settled c = settled_stays c.args.walk.now.holders.now (taken_by c.loop-b.decisions) (taken_by c.decide.new.decisions) c.loop-b.settled.items c.decide.ensures.kept c.loop-b.invariant.settled

pub returns-then-decide-clause-earlier : goal.returns-then-decide-clause-earlier
returns-then-decide-clause-earlier c =
    (last_of c.args.walk.now.holders.now (taken_by c.loop-b.decisions) c.args.number c.loop-b.open.items c.pop.new.self.items c.pop.result c.in-Some.b c.requires.older c.in-Some.is c.pop.ensures.items
    c.loop-b.invariant.left_open).earlier

pub returns-then-decide-clause-behind : goal.returns-then-decide-clause-behind
returns-then-decide-clause-behind c = λ R e m told q own w.
    let v = c.loop-b.invariant in
    let k = c.decide.ensures in
    let l = last_of c.args.walk.now.holders.now (taken_by c.loop-b.decisions) c.args.number c.loop-b.open.items c.pop.new.self.items c.pop.result c.in-Some.b c.requires.older c.in-Some.is c.pop.ensures.items v.left_open in
    decided R c.args.walk.now.reference.now c.args.walk.now.holders.now c.args.walk.now.counts.now told c.args.number m q c.args.thread.0 own c.pop.new.self.items c.in-Some.b l.leads c.loop-b.demanded c.decide.new.demanded
    (taken_by c.loop-b.decisions) (taken_by c.decide.new.decisions) e k.less k.owed l.older
    (v.behind R e m told q own w)

pub returns-then-decide-clause-passed : goal.returns-then-decide-clause-passed
returns-then-decide-clause-passed c = λ R e m told q own w.
    let v = c.loop-b.invariant in
    let k = c.decide.ensures in
    let l = last_of c.args.walk.now.holders.now (taken_by c.loop-b.decisions) c.args.number c.loop-b.open.items c.pop.new.self.items c.pop.result c.in-Some.b c.requires.older c.in-Some.is c.pop.ensures.items v.left_open in
    passed_over R c.args.walk.now.reference.now c.args.walk.now.holders.now c.args.walk.now.counts.now told c.args.number m q c.args.thread.0 own c.pop.new.self.items c.in-Some.b l.leads c.loop-b.demanded c.decide.new.demanded (taken_by c.loop-b.decisions)
    (taken_by c.decide.new.decisions) e k.less k.owed l.older
    (k.passes c.if-decide.true) (v.behind R e m told q own w)

pub returns-then-decide-clause-words : goal.returns-then-decide-clause-words
returns-then-decide-clause-words c = λ R e m told q own words a.
    let l = last_of c.args.walk.now.holders.now (taken_by c.loop-b.decisions) c.args.number c.loop-b.open.items c.pop.new.self.items c.pop.result c.in-Some.b c.requires.older c.in-Some.is c.pop.ensures.items
    c.loop-b.invariant.left_open in
    skip_words R c.args.walk.now.reference.now c.args.walk.now.holders.now c.args.walk.now.counts.now told c.args.number m q c.pop.new.self.items c.in-Some.b l.leads e words a
