-- Renamed nodes.
use Rattle.std.proofs.Common.{◌≡◌, ℕ, zero, suc, ◌+◌, ◌<◌, ◌≤◌, ◌⊎◌, inl, inr, Bool, true, false, List, [], ◌∷◌, ◌++◌, length, map, take, drop, Some}
use Rattle.std.proofs.Common.{refl, sym, ap, arith}
use Rattle.std.specs.Prelude.{slice_get, slice_index, slice_set}
use Rattle.std.proofs.lemmas.Bool.{true≢false}
use Rattle.pg_precondition.specs.declared.node.Node.{Node}
use Rattle.pg_precondition.specs.declared.node.Node.TheVariants as node
use Rattle.pg_precondition.specs.Nodes.{IsNode, NamesParts}
use Rattle.pg_precondition.specs.Kept.{HasParts, kept, renamed}
use Rattle.pg_precondition.specs.Marks.{is_set, place}
use Rattle.pg_precondition.specs.Names.{is_among, names_of}
use Rattle.pg_precondition.proofs.NumberedLists.{among_cases, among_first, among_rest}

module _ (f : ℕ → ℕ) where
  -- the names of a renamed node
  one_renamed : (a i : ℕ) (xs ys : List ℕ) → (is_among i xs ≡ true → is_among (f i) ys ≡ true) → is_among i (a ∷ xs) ≡ true → is_among (f i) (f a ∷ ys) ≡ true
  one_renamed a i xs ys g h = go (among_cases i a xs h)
    where
      go : (a ≡ i) ⊎ (is_among i xs ≡ true) → is_among (f i) (f a ∷ ys) ≡ true
      go (inl e) = among_first (f i) (f a) ys (ap f e)
      go (inr e) = among_rest (f i) (f a) ys (g e)

  none_renamed : (i : ℕ) → is_among i [] ≡ true → is_among (f i) [] ≡ true
  none_renamed i h = absurd (true≢false (sym h))

  parts_renamed : (i n : ℕ) (xs : List ℕ) → is_among i (take n xs) ≡ true → is_among (f i) (take n (map f (take n xs) ++ drop n xs)) ≡ true
  parts_renamed i zero xs h = absurd (true≢false (sym h))
  parts_renamed i (suc n) [] h = absurd (true≢false (sym h))
  parts_renamed i (suc n) (x ∷ xs) h = one_renamed x i (take n xs) (take n (map f (take n xs) ++ drop n xs)) (parts_renamed i n xs) h

  pub names_renamed : (i : ℕ) (n : Node) → is_among i (names_of n) ≡ true → is_among (f i) (names_of (renamed f n)) ≡ true
  names_renamed i (node.Const m) h = absurd (true≢false (sym h))
  names_renamed i (node.In a) h = one_renamed a i [] [] (none_renamed i) h
  names_renamed i node.InLen h = absurd (true≢false (sym h))
  names_renamed i (node.Op op w a b) h = one_renamed a i (b ∷ []) (f b ∷ []) (one_renamed b i [] [] (none_renamed i)) h
  names_renamed i (node.Cast cast from to a) h = one_renamed a i [] [] (none_renamed i) h
  names_renamed i (node.Select c a b) h = one_renamed c i (a ∷ b ∷ []) (f a ∷ f b ∷ []) (one_renamed a i (b ∷ []) (f b ∷ []) (one_renamed b i [] [] (none_renamed i))) h
  names_renamed i (node.Gep base delta) h = one_renamed base i (delta ∷ []) (f delta ∷ []) (one_renamed delta i [] [] (none_renamed i)) h
  names_renamed i (node.Byte a at) h = one_renamed a i [] [] (none_renamed i) h
  names_renamed i (node.Join parts count) h = parts_renamed i count parts h

  -- the first parts of a renamed join
  part_renamed : (n j : ℕ) (xs : List ℕ) → j < n → n ≤ length xs → slice_index (map f (take n xs) ++ drop n xs) j ≡ f (slice_index xs j)
  part_renamed zero j xs l h = absurd (omega (arith, l))
  part_renamed (suc n) j [] l h = absurd (omega (arith, h))
  part_renamed (suc n) zero (x ∷ xs) l h = refl
  part_renamed (suc n) (suc j) (x ∷ xs) l h = part_renamed n j xs (omega (arith, l)) (omega (arith, h))

  part_among : (n j : ℕ) (xs : List ℕ) → j < n → n ≤ length xs → is_among (slice_index xs j) (take n xs) ≡ true
  part_among zero j xs l h = absurd (omega (arith, l))
  part_among (suc n) j [] l h = absurd (omega (arith, h))
  part_among (suc n) zero (x ∷ xs) l h = among_first x x (take n xs) refl
  part_among (suc n) (suc j) (x ∷ xs) l h = among_rest (slice_index xs j) x (take n xs) (part_among n j xs (omega (arith, l)) (omega (arith, h)))

  pub parts_named : (m n : ℕ) (xs : List ℕ) → n ≤ length xs → ((a : ℕ) → is_among a (take n xs) ≡ true → f a < m) → NamesParts m (map f (take n xs) ++ drop n xs) n
  parts_named m n xs h g = record { names = λ j l. let e = part_renamed n j xs l h in let b = g (slice_index xs j) (part_among n j xs l h) in omega (arith, e, b) }

  -- a renamed node names what its names are renamed to
  pub renamed_is_node : (k m : ℕ) (n : Node) → IsNode k n → HasParts n → ((a : ℕ) → is_among a (names_of n) ≡ true → f a < m) → IsNode m (renamed f n)
  renamed_is_node k m (node.Const x) h p g = tt
  renamed_is_node k m (node.In a) h p g = g a (among_first a a [] refl)
  renamed_is_node k m node.InLen h p g = tt
  renamed_is_node k m (node.Op op w a b) h p g = (g a (among_first a a (b ∷ []) refl), g b (among_rest b a (b ∷ []) (among_first b b [] refl)))
  renamed_is_node k m (node.Cast cast from to a) h p g = (g a (among_first a a [] refl), h.1)
  renamed_is_node k m (node.Select c a b) h p g = (
    g c (among_first c c (a ∷ b ∷ []) refl),
    g a (among_rest a c (a ∷ b ∷ []) (among_first a a (b ∷ []) refl)),
    g b (among_rest b c (a ∷ b ∷ []) (among_rest b a (b ∷ []) (among_first b b [] refl))),
  )
  renamed_is_node k m (node.Gep base delta) h p g = (g base (among_first base base (delta ∷ []) refl), g delta (among_rest delta base (delta ∷ []) (among_first delta delta [] refl)))
  renamed_is_node k m (node.Byte a at) h p g = (g a (among_first a a [] refl), h.1)
  renamed_is_node k m (node.Join parts count) h p g = (parts_named m count parts p g, h.1, h.2)

  -- one part more is renamed
  pub part_next : (i : ℕ) (xs : List ℕ) → i < length xs → slice_set (map f (take i xs) ++ drop i xs) i (f (slice_index xs i)) ≡ map f (take (i + 1) xs) ++ drop (i + 1) xs
  part_next i [] l = absurd (omega (arith, l))
  part_next zero (x ∷ xs) l = refl
  part_next (suc i) (x ∷ xs) l = let e : suc i + 1 ≡ suc (i + 1) = omega arith in let ih = part_next i xs (omega (arith, l)) in rw e (ap (λ l. f x ∷ l) ih)

  -- ---- the kept nodes by number

  pub kept_get : (marks : List Bool) (nodes : List Node) (j : ℕ) (n : Node) → slice_get nodes j ≡ Some n → is_set marks j ≡ true
      → slice_get (kept f marks nodes) (place marks j) ≡ Some (renamed f n)
  kept_get [] nodes j n h s = absurd (true≢false (sym s))
  kept_get (m ∷ marks) [] j n h s = absurd (cc)
  kept_get (true ∷ marks) (x ∷ nodes) zero n h s = let q : x ≡ n = cc in ap (λ z. Some (renamed f z)) q
  kept_get (false ∷ marks) (x ∷ nodes) zero n h s = absurd (true≢false (sym s))
  kept_get (true ∷ marks) (x ∷ nodes) (suc j) n h s = kept_get marks nodes j n h s
  kept_get (false ∷ marks) (x ∷ nodes) (suc j) n h s = kept_get marks nodes j n h s

  pub record From (marks : List Bool) (nodes : List Node) (i : ℕ) : Type 0 where
    pub number : ℕ
    pub set' : is_set marks number ≡ true
    pub within : number < length nodes
    pub at : place marks number ≡ i

  pub kept_from : (marks : List Bool) (nodes : List Node) (i : ℕ) → i < length (kept f marks nodes) → From marks nodes i
  kept_from [] nodes i h = absurd (omega (arith, h))
  kept_from (m ∷ marks) [] i h = absurd (omega (arith, h))
  kept_from (true ∷ marks) (x ∷ nodes) zero h = record { number = 0; set' = refl; within = omega arith; at = refl }
  kept_from (true ∷ marks) (x ∷ nodes) (suc i) h =
      let r = kept_from marks nodes i (omega (arith, h)) in
      let w = r.within in
      record { number = suc r.number; set' = r.set'; within = omega (arith, w); at = ap suc r.at }
  kept_from (false ∷ marks) (x ∷ nodes) i h =
      let r = kept_from marks nodes i h in
      let w = r.within in
      record { number = suc r.number; set' = r.set'; within = omega (arith, w); at = r.at }

-- a node of a list is one of a longer one
pub node_up : (k m : ℕ) (n : Node) → k ≤ m → IsNode k n → IsNode m n
node_up k m (node.Const x) l h = tt
node_up k m (node.In a) l h = omega (arith, l, h)
node_up k m node.InLen l h = tt
node_up k m (node.Op op w a b) l h = let x = h.0 in let y = h.1 in (omega (arith, l, x), omega (arith, l, y))
node_up k m (node.Cast cast from to a) l h = let x = h.0 in (omega (arith, l, x), h.1)
node_up k m (node.Select c a b) l h = let x = h.0 in let y = h.1 in let z = h.2 in (omega (arith, l, x), omega (arith, l, y), omega (arith, l, z))
node_up k m (node.Gep base delta) l h = let x = h.0 in let y = h.1 in (omega (arith, l, x), omega (arith, l, y))
node_up k m (node.Byte a at) l h = let x = h.0 in (omega (arith, l, x), h.1)
node_up k m (node.Join parts count) l h = (record { names = λ i b. let x = h.0.names i b in omega (arith, l, x) }, h.1, h.2)
