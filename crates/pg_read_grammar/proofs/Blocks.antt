-- The blocks of parts, a part at a time from the left.
use Rattle.std.proofs.Common.{◌≡◌, List, [], ◌∷◌, ◌++◌, Bool, true, false, ◌||◌, refl, sym, ap, ◌∙◌, if◌then◌else◌, append-nil, append_assoc}
use Rattle.pg_read_grammar.specs.GrammarItems.{Part, LabelPart, LinePart, DroppedPart, ends_block, ends, has_label, with_front, alone, before, blocks_of}
use Rattle.pg_read_grammar.specs.ReaderItems.{is_closed, begins_block, with_back, add_part}
use Rattle.pg_read_ast.specs.Syntax.{Block, Line}
use Rattle.pg_read_grammar.proofs.Gathered.{added}

closed_front : (p : Part) (b : Block) → ends p ≡ false → is_closed (with_front p b).lines ≡ is_closed b.lines
closed_front (LabelPart n) b h = refl
closed_front (LinePart l) b h = by b.lines
  where
    by : (ls : List Line) → is_closed (l ∷ ls) ≡ is_closed ls
    by [] = h
    by (m ∷ ls) = refl
closed_front DroppedPart b h = refl

labelled_back : (b : Block) (q : Part) → has_label (with_back b q).label ≡ has_label b.label
labelled_back b (LabelPart n) = refl
labelled_back b (LinePart l) = refl
labelled_back b DroppedPart = refl

front_back : (p : Part) (b : Block) (q : Part) → with_front p (with_back b q) ≡ with_back (with_front p b) q
front_back p b (LabelPart n) = refl
front_back (LabelPart n) b (LinePart l) = refl
front_back (LinePart k) b (LinePart l) = refl
front_back DroppedPart b (LinePart l) = refl
front_back p b DroppedPart = refl

ends_or : (p : Part) (c : Bool) → (ends p || c) ≡ false → ends p ≡ false
ends_or p c h = by (ends p) h
  where
    by : (e : Bool) → (e || c) ≡ false → e ≡ false
    by true h = absurd cc
    by false h = refl

before_cons : (p : Part) (b : Block) (bs : List Block) (e : Bool) → (ends p || has_label b.label) ≡ e → before p (b ∷ bs) ≡ (if e then alone p ∷ b ∷ bs else with_front p b ∷ bs)
before_cons p b bs e x = ap (λ c. if c then alone p ∷ b ∷ bs else with_front p b ∷ bs) x

add_one : (b : Block) (q : Part) (c : Bool) → (is_closed b.lines || begins_block q) ≡ c → add_part (b ∷ []) q ≡ (if c then b ∷ alone q ∷ [] else with_back b q ∷ [])
unfolding add_part
add_one b q c y = ap (λ d. if d then b ∷ alone q ∷ [] else with_back b q ∷ []) y

-- two parts
two : (p q : Part) → before p (alone q ∷ []) ≡ add_part (alone p ∷ []) q
unfolding add_part
two (LabelPart n) (LabelPart k) = refl
two (LabelPart n) (LinePart l) = refl
two (LabelPart n) DroppedPart = refl
two (LinePart k) (LabelPart n) = by (ends_block k.op)
  where
    by : (e : Bool) → (if e || true then alone (LinePart k) ∷ alone (LabelPart n) ∷ [] else with_front (LinePart k) (alone (LabelPart n)) ∷ [])
        ≡ (if e || true then alone (LinePart k) ∷ alone (LabelPart n) ∷ [] else with_back (alone (LinePart k)) (LabelPart n) ∷ [])
    by true = refl
    by false = refl
two (LinePart k) (LinePart l) = refl
two (LinePart k) DroppedPart = refl
two DroppedPart (LabelPart n) = refl
two DroppedPart (LinePart l) = refl
two DroppedPart DroppedPart = refl

-- a part in front and one behind
before_add : (p : Part) (bs : List Block) (q : Part) → before p (add_part bs q) ≡ add_part (before p bs) q
unfolding add_part
before_add p [] q = two p q
before_add p (b ∷ []) q = by (ends p || has_label b.label) (is_closed b.lines || begins_block q) refl refl
  where
    behind : (c : Bool) → (is_closed b.lines || begins_block q) ≡ c → before p (add_part (b ∷ []) q) ≡ before p (if c then b ∷ alone q ∷ [] else with_back b q ∷ [])
    behind c y = ap (before p) (add_one b q c y)

    back : (e : Bool) → (ends p || has_label b.label) ≡ e → (ends p || has_label (with_back b q).label) ≡ e
    back e x = ap (λ h. ends p || h) (labelled_back b q) ∙ x

    front : (c : Bool) → (ends p || has_label b.label) ≡ false → (is_closed b.lines || begins_block q) ≡ c → (is_closed (with_front p b).lines || begins_block q) ≡ c
    front c x y = ap (λ h. h || begins_block q) (closed_front p b (ends_or p (has_label b.label) x)) ∙ y

    by : (e c : Bool) → (ends p || has_label b.label) ≡ e → (is_closed b.lines || begins_block q) ≡ c → before p (add_part (b ∷ []) q) ≡ add_part (before p (b ∷ [])) q
    by true true x y = behind true y ∙ before_cons p b (alone q ∷ []) true x ∙ sym (ap (λ bs. add_part bs q) (before_cons p b [] true x) ∙ ap (λ bs. alone p ∷ bs) (add_one b q true y))
    by true false x y = behind false y ∙ before_cons p (with_back b q) [] true (back true x)
        ∙ sym (ap (λ bs. add_part bs q) (before_cons p b [] true x) ∙ ap (λ bs. alone p ∷ bs) (add_one b q false y))
    by false true x y = behind true y ∙ before_cons p b (alone q ∷ []) false x ∙ sym (ap (λ bs. add_part bs q) (before_cons p b [] false x) ∙ add_one (with_front p b) q true (front true x y))
    by false false x y = behind false y ∙ before_cons p (with_back b q) [] false (back false x) ∙ ap (λ c. c ∷ []) (front_back p b q)
        ∙ sym (ap (λ bs. add_part bs q) (before_cons p b [] false x) ∙ add_one (with_front p b) q false (front false x y))
before_add p (b ∷ c ∷ bs) q = by (ends p || has_label b.label) refl
  where
    by : (e : Bool) → (ends p || has_label b.label) ≡ e → before p (b ∷ add_part (c ∷ bs) q) ≡ add_part (before p (b ∷ c ∷ bs)) q
    by true x = before_cons p b (add_part (c ∷ bs) q) true x ∙ sym (ap (λ bs. add_part bs q) (before_cons p b (c ∷ bs) true x))
    by false x = before_cons p b (add_part (c ∷ bs) q) false x ∙ sym (ap (λ bs. add_part bs q) (before_cons p b (c ∷ bs) false x))

-- one more part at the end
pub blocks_snoc : (ps : List Part) (q : Part) → blocks_of (ps ++ q ∷ []) ≡ add_part (blocks_of ps) q
unfolding add_part blocks_of
blocks_snoc [] q = refl
blocks_snoc (p ∷ ps) q = ap (before p) (blocks_snoc ps q) ∙ before_add p (blocks_of ps) q

blocks_added : (ps qs : List Part) → added add_part (blocks_of ps) qs ≡ blocks_of (ps ++ qs)
blocks_added ps [] = ap blocks_of (sym (append-nil ps))
blocks_added ps (q ∷ qs) = ap (λ bs. added add_part bs qs) (sym (blocks_snoc ps q)) ∙ blocks_added (ps ++ q ∷ []) qs ∙ ap blocks_of (append_assoc ps (q ∷ []) qs)

pub blocks_from_left : (ps : List Part) → added add_part [] ps ≡ blocks_of ps
unfolding blocks_of
blocks_from_left ps = blocks_added [] ps
