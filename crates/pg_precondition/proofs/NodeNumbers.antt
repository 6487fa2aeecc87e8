-- The numbers of nodes, one node at a time.
use Rattle.std.proofs.Common.{◌≡◌, ℕ, zero, suc, ◌<◌, ◌++◌, ℤ, List, [], ◌∷◌, length, drop, Option, Some, None, slice_get, arith, refl, ap, sym, ◌∙◌}
use Rattle.std.proofs.lemmas.List.{get_or_append_left, length_push}
use Rattle.pg_precondition.specs.declared.check.Check.{Check}
use Rattle.pg_precondition.specs.declared.node.Node.{Node}
use Rattle.pg_precondition.specs.Scratches.{AreFirst}
use Rattle.pg_precondition.specs.Values.{holds, is_met, number_of, numbers_behind, numbers_of, node_number}

dropped : (xs : List Node) (i : ℕ) (x : Node) → slice_get xs i ≡ Some x → drop i xs ≡ x ∷ drop (suc i) xs
dropped [] i x h = absurd cc
dropped (y ∷ ys) zero x h = let e : y ≡ x = cc in rw e refl
dropped (y ∷ ys) (suc i) x h = dropped ys i x h

next_of : (input : List ℤ) (known : List (Option ℕ)) (n : Node) (nodes : List Node)
    → numbers_behind input known (n ∷ nodes) ≡ numbers_behind input (known ++ node_number input known n ∷ []) nodes
unfolding numbers_behind
next_of input known n nodes = refl

-- no number is known yet
pub none_known : (input : List ℤ) (nodes : List Node) → AreFirst input nodes []
none_known input nodes = record { first = refl }

-- one number more
pub next_known : (input : List ℤ) (nodes : List Node) (known : List (Option ℕ)) (n : Node) → AreFirst input nodes known → slice_get nodes (length known) ≡ Some n
    → AreFirst input nodes (known ++ node_number input known n ∷ [])
next_known input nodes known n h at =
    let l : length (known ++ node_number input known n ∷ []) ≡ suc (length known) = (let p = length_push known (node_number input known n) in omega (arith, p)) in
    record {
      first = ap (λ i. numbers_behind input (known ++ node_number input known n ∷ []) (drop i nodes)) l
          ∙ sym (next_of input known n (drop (suc (length known)) nodes)) ∙ ap (numbers_behind input known) (sym (dropped nodes (length known) n at)) ∙ h.first;
    }

-- the numbers of more nodes leave a known number as it is
stands : (input : List ℤ) (known : List (Option ℕ)) (nodes : List Node) (i : ℕ) → i < length known → number_of (numbers_behind input known nodes) i ≡ number_of known i
unfolding numbers_behind
stands input known [] i l = refl
stands input known (n ∷ nodes) i l =
    let p = length_push known (node_number input known n) in
    stands input (known ++ node_number input known n ∷ []) nodes i (omega (arith, l, p)) ∙ get_or_append_left known (node_number input known n ∷ []) None i l

-- a check of a known number holds where it holds of the numbers of all nodes
pub known_holds : (input : List ℤ) (nodes : List Node) (known : List (Option ℕ)) (c : Check) → AreFirst input nodes known → c.node < length known
    → holds known c ≡ holds (numbers_of input nodes) c
known_holds input nodes known c h l = ap (is_met c.test) (sym (stands input known (drop (length known) nodes) c.node l) ∙ ap (λ ns. number_of ns c.node) h.first)
