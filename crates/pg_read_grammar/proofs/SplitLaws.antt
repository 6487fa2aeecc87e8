-- The parts of a body are split into blocks in one way, and the blocks are those of the grammar.
use Rattle.std.proofs.Common.{◌≡◌, List, [], ◌∷◌, ◌++◌, Bool, true, false, ◌||◌, refl, sym, ap, ◌∙◌, map, inl, inr, ◌⊎◌, if◌then◌else◌}
use Rattle.pg_read_grammar.specs.GrammarItems.{Part, LabelPart, LinePart, DroppedPart, ends, has_label, with_front, alone, before, blocks_of}
use Rattle.pg_read_grammar.specs.Splits.{is_label, IsBlock, is_ended, AreBlocks, joined, block_of}
use Rattle.pg_read_ast.specs.Syntax.{Block}

alone_is : (p : Part) → alone p ≡ block_of (p ∷ [])
alone_is (LabelPart n) = refl
alone_is (LinePart l) = refl
alone_is DroppedPart = refl

-- a part before a block that has no label
front_is : (p q : Part) (ps : List Part) → is_label q ≡ false → with_front p (block_of (q ∷ ps)) ≡ block_of (p ∷ q ∷ ps)
front_is p (LabelPart n) ps h = absurd cc
front_is (LabelPart n) (LinePart l) ps h = refl
front_is (LinePart k) (LinePart l) ps h = refl
front_is DroppedPart (LinePart l) ps h = refl
front_is (LabelPart n) DroppedPart ps h = refl
front_is (LinePart k) DroppedPart ps h = refl
front_is DroppedPart DroppedPart ps h = refl

label_is : (q : Part) (ps : List Part) → has_label (block_of (q ∷ ps)).label ≡ is_label q
label_is (LabelPart n) ps = refl
label_is (LinePart l) ps = refl
label_is DroppedPart ps = refl

join : (p : Part) (b : Block) (bs : List Block) → ends p ≡ false → has_label b.label ≡ false → before p (b ∷ bs) ≡ with_front p b ∷ bs
join p b bs h k = ap (λ c. if c || has_label b.label then alone p ∷ b ∷ bs else with_front p b ∷ bs) h ∙ ap (λ c. if c then alone p ∷ b ∷ bs else with_front p b ∷ bs) k

apart_by_end : (p : Part) (b : Block) (bs : List Block) → ends p ≡ true → before p (b ∷ bs) ≡ alone p ∷ b ∷ bs
apart_by_end p b bs h = ap (λ c. if c || has_label b.label then alone p ∷ b ∷ bs else with_front p b ∷ bs) h

apart_by_label : (p : Part) (b : Block) (bs : List Block) → has_label b.label ≡ true → before p (b ∷ bs) ≡ alone p ∷ b ∷ bs
apart_by_label p b bs k = by (ends p) refl
  where
    by : (e : Bool) → ends p ≡ e → before p (b ∷ bs) ≡ alone p ∷ b ∷ bs
    by true h = apart_by_end p b bs h
    by false h = ap (λ c. if c || has_label b.label then alone p ∷ b ∷ bs else with_front p b ∷ bs) h ∙ ap (λ c. if c then alone p ∷ b ∷ bs else with_front p b ∷ bs) k

-- the blocks of one more in front
one_more : (c : List Part) (bs : List (List Part)) → IsBlock c → (bs ≡ [])
    ⊎ ((q : Part) × (ps : List Part) × (cs : List (List Part)) × (bs ≡ (q ∷ ps) ∷ cs) × ((is_ended c ≡ true) ⊎ (is_label q ≡ true)))
    → blocks_of (joined bs) ≡ map block_of bs → blocks_of (c ++ joined bs) ≡ block_of c ∷ map block_of bs
unfolding blocks_of
one_more [] bs i k e = absurd i
one_more (p ∷ []) bs i (inl w) e = ap (before p) e ∙ ap (λ xs. before p (map block_of xs)) w ∙ ap (λ b. b ∷ []) (alone_is p) ∙ ap (λ xs. block_of (p ∷ []) ∷ map block_of xs) (sym w)
one_more (p ∷ []) bs i (inr (q, ps, cs, w, d)) e = ap (before p) e ∙ ap (λ xs. before p (map block_of xs)) w ∙ cut d
    ∙ ap (λ b. b ∷ block_of (q ∷ ps) ∷ map block_of cs) (alone_is p) ∙ ap (λ xs. block_of (p ∷ []) ∷ map block_of xs) (sym w)
  where
    cut : ((ends p ≡ true) ⊎ (is_label q ≡ true)) → before p (block_of (q ∷ ps) ∷ map block_of cs) ≡ alone p ∷ block_of (q ∷ ps) ∷ map block_of cs
    cut (inl h) = apart_by_end p (block_of (q ∷ ps)) (map block_of cs) h
    cut (inr h) = apart_by_label p (block_of (q ∷ ps)) (map block_of cs) (label_is q ps ∙ h)
one_more (p ∷ q ∷ ps) bs i k e = ap (before p) (one_more (q ∷ ps) bs i.2 k e) ∙ join p (block_of (q ∷ ps)) (map block_of bs) i.0 (label_is q ps ∙ i.1)
    ∙ ap (λ b. b ∷ map block_of bs) (front_is p q ps i.1)

pub blocks_are : (bs : List (List Part)) → AreBlocks bs → blocks_of (joined bs) ≡ map block_of bs
unfolding blocks_of
blocks_are [] i = refl
blocks_are (b ∷ []) i = one_more b [] i (inl refl) refl
blocks_are (b ∷ [] ∷ bs) i = absurd (none bs i.2)
  where
    none : (bs : List (List Part)) → AreBlocks ([] ∷ bs) → ⊥
    none [] i = i
    none (c ∷ bs) i = i.0
blocks_are (b ∷ (q ∷ ps) ∷ bs) i = one_more b ((q ∷ ps) ∷ bs) i.0 (inr (q, ps, bs, refl, i.1)) (blocks_are ((q ∷ ps) ∷ bs) i.2)

-- each list of parts is split so
abbrev Split : List Part → Type 0
Split ps = (bs : List (List Part)) × AreBlocks bs × (joined bs ≡ ps)

one_in_front : (p : Part) (ps : List Part) → Split ps → Split (p ∷ ps)
one_in_front p ps ([], i, e) = ((p ∷ []) ∷ [], tt, ap (λ xs. p ∷ xs) e)
one_in_front p ps ([] ∷ [], i, e) = absurd i
one_in_front p ps ([] ∷ c ∷ bs, i, e) = absurd i.0
one_in_front p ps ((q ∷ qs) ∷ bs, i, e) = by (ends p) (is_label q) refl refl
  where
    block : (bs : List (List Part)) → AreBlocks ((q ∷ qs) ∷ bs) → IsBlock (q ∷ qs)
    block [] i = i
    block (c ∷ bs) i = i.0

    longer : (bs : List (List Part)) → AreBlocks ((q ∷ qs) ∷ bs) → ends p ≡ false → is_label q ≡ false → AreBlocks ((p ∷ q ∷ qs) ∷ bs)
    longer [] i h k = (h, k, i)
    longer (c ∷ bs) i h k = ((h, k, i.0), i.1, i.2)

    by : (h k : Bool) → ends p ≡ h → is_label q ≡ k → Split (p ∷ ps)
    by true k h x = ((p ∷ []) ∷ (q ∷ qs) ∷ bs, (tt, inl h, i), ap (λ xs. p ∷ xs) e)
    by false true h x = ((p ∷ []) ∷ (q ∷ qs) ∷ bs, (tt, inr x, i), ap (λ xs. p ∷ xs) e)
    by false false h x = ((p ∷ q ∷ qs) ∷ bs, longer bs i h x, ap (λ xs. p ∷ xs) e)

pub some_split : (ps : List Part) → (bs : List (List Part)) × AreBlocks bs × (joined bs ≡ ps)
some_split [] = ([], tt, refl)
some_split (p ∷ ps) = one_in_front p ps (some_split ps)
