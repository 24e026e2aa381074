-- What a piece comes to depends on its own elements, on whether its name is doubled, and on what the names that it uses come to. Assumes
-- nothing.
use Prim.Native.Nat.{ℕ, zero, suc, ◌<◌}
use mathlib.Core.Path.{◌≡◌, refl, sym, ap, ap₂, subst, ◌∙◌}
use mathlib.Core.Logic.{◌⊎◌, inl, inr}
use mathlib.Core.Bool.{Bool, true, false, cond}
use mathlib.Core.List.{List, [], ◌∷◌, ◌++◌, append_assoc}
use native.Mathlib.Omega.{arith}
use borrow.Author.Tests.{eqb-true}
use lib.Dec.{eqb}
use lib.ListN.{length}
use Rattle.forms.specs.Tree.{Row}
use Rattle.tree.specs.code.PieceRows.{rows_of_piece}
use Rattle.tree.proofs.ItemRows.{piece_forest}
use Rattle.folding.specs.declared.Outcome.{Outcome}
use Rattle.operands.specs.code.Operands.{literal_by}
use Rattle.forms.specs.Tree.{behind}
use Rattle.expressions.specs.code.Expressions.{row_outcome, outcome_in, outcome_of}
use Rattle.pieces.specs.Kinds.{any_down}
use Rattle.marks.specs.code.Marks.{operand_of, constant_of, ranged_of}
use Rattle.values.specs.declared.Value.{Value}
use Rattle.meaning.specs.Elements.{Element, Piece, at}
use Rattle.meaning.specs.Pieces.{kinds_in_piece, class_of}
use Rattle.meaning.specs.Names.{own_name, claims, own_doubled, Done, use_of}
use Rattle.meaning.specs.code.PieceValues.{valued, bounded, marked, formed, unless_doubled, value_of}
use Rattle.meaning.proofs.Sameness.{same_on}
use Rattle.meaning.proofs.Trees.{tree_is}
use Rattle.meaning.proofs.Begun.{names_by_class}
use Rattle.meaning.proofs.Claimed.{claims_class, claims_name_lem, claims_by_lem}
use Rattle.records.specs.Records.{is_claim}
use Rattle.damage.specs.PlacedElements.{In}
use Rattle.damage.specs.Damage.{NotWithin, UsesName, OwnName}
use Rattle.damage.proofs.Nesting.{not_append, Nests, nests_rest, nests_behind}
use Rattle.damage.proofs.Ranges.{item_forms, third_form}

-- a piece's own name is the one that it claims
pub own_among : (p : Piece) → is_claim (class_of p) ≡ true → OwnName p (own_name p)
own_among p h = subst (λ (l : List Element). In (own_name p) l) (sym (names_by_class p)) (rw h (inl refl))

pub own_is : (p : Piece) (x : Element) → OwnName p x → x ≡ own_name p
own_is p x h = go (is_claim (class_of p)) (subst (λ (l : List Element). In x l) (names_by_class p) h)
  where
    go : (b : Bool) → In x (cond b (own_name p ∷ []) []) → x ≡ own_name p
    go true (inl h) = sym h
    go true (inr h) = absurd h
    go false h = absurd h

-- who claims the name of a piece that claims x claims x
pub claims_on : (x : Element) (q r : Piece) → claims x q ≡ true → claims (own_name q) r ≡ true → claims x r ≡ true
claims_on x q r h k = claims_by_lem x r (claims_class (own_name q) r k) (same_on (own_name r) (own_name q) x (claims_name_lem (own_name q) r k) (claims_name_lem x q h))

-- an expression: what the names in it come to that are inside no form 25 or 26 is all that counts
module _ (name name' literal : ℕ → Outcome) (kind : ℕ → ℕ) where
  abbrev Agree : List Row → Type 0
  Agree rs = (c : List Row) (r : Row) (d : List Row) → rs ≡ c ++ r ∷ d → NotWithin c → r.form ≡ 24 → name r.first ≡ name' r.first

  -- after a row that is no form 25 or 26, and after a subtree
  agree_rest : (r : Row) (rs : List Row) → ((r.form ≡ 25) ⊎ (r.form ≡ 26) → ⊥) → Agree (r ∷ rs) → Agree rs
  agree_rest r rs n h c q d e w f = h (r ∷ c) q d (ap (λ (l : List Row). r ∷ l) e) ((λ k. absurd (n k)), w) f

  agree_behind : (rs : List Row) → Nests rs → Agree rs → Agree (behind rs)
  agree_behind rs m h c q d e w f =
      let b = (nests_behind rs m).1 in
      h (b.0 ++ c) q d (b.1 ∙ ap (λ (l : List Row). b.0 ++ l) e ∙ sym (append_assoc b.0 c (q ∷ d))) (not_append b.0 c b.2 w) f

  row_on : (r : Row) (x y x' y' : Outcome) → (r.form ≡ 24 → name r.first ≡ name' r.first) → (((r.form ≡ 25) ⊎ (r.form ≡ 26) → ⊥) → (x ≡ x') × (y ≡ y'))
      → row_outcome name literal kind r x y ≡ row_outcome name' literal kind r x' y'
  unfolding row_outcome
  row_on r x y x' y' h g = go (eqb r.form 24) (eqb r.form 27) (eqb r.form 28) (eqb r.form 29) refl refl refl refl
    where
      other : (n : ℕ) → r.form ≡ n → 26 < n → (r.form ≡ 25) ⊎ (r.form ≡ 26) → ⊥
      other n e l (inl k) = omega arith
      other n e l (inr k) = omega arith

      go : (a b c d : Bool) → eqb r.form 24 ≡ a → eqb r.form 27 ≡ b → eqb r.form 28 ≡ c → eqb r.form 29 ≡ d → row_outcome name literal kind r x y ≡ row_outcome name' literal kind r x' y'
      go true b c d e e₁ e₂ e₃ = rw (e, h (eqb-true r.form 24 e))
      go false true c d e e₁ e₂ e₃ = rw (e, e₁)
      go false false true d e e₁ e₂ e₃ = let z = g (other 28 (eqb-true r.form 28 e₂) (omega arith)) in rw (e, e₁, e₂, z.0)
      go false false false true e e₁ e₂ e₃ = let z = g (other 29 (eqb-true r.form 29 e₃) (omega arith)) in rw (e, e₁, e₂, e₃, z.0, z.1)
      go false false false false e e₁ e₂ e₃ = rw (e, e₁, e₂, e₃)

  outcome_in_lem : (f : ℕ) (rs : List Row) → Nests rs → Agree rs → outcome_in name literal kind f rs ≡ outcome_in name' literal kind f rs
  unfolding outcome_in
  outcome_in_lem zero rs m h = refl
  outcome_in_lem (suc f) [] m h = refl
  outcome_in_lem (suc f) (r ∷ rs) m h =
      row_on r (outcome_in name literal kind f rs) (outcome_in name literal kind f (behind rs)) (outcome_in name' literal kind f rs) (outcome_in name' literal kind f (behind rs))
      (h [] r rs refl tt)
      (λ n. let k = nests_rest r rs m in
      let g = agree_rest r rs n h in
      (outcome_in_lem f rs k g, outcome_in_lem f (behind rs) (nests_behind rs k).0 (agree_behind rs k g)))

  pub outcome_on : (rs : List Row) → Nests rs → Agree rs → outcome_of name literal kind rs ≡ outcome_of name' literal kind rs
  outcome_on rs m h = outcome_in_lem (length rs) rs m h

-- a piece, and what the names used in it come to in each of two ways
module _ (p : Piece) (used used' : Element → Value) where
  abbrev NamesAgree : List Row → Type 0
  NamesAgree rs = (c : List Row) (r : Row) (d : List Row) → rs ≡ c ++ r ∷ d → NotWithin c → r.form ≡ 24 → used (at p r.first) ≡ used' (at p r.first)

  names_rest : (r : Row) (rs : List Row) → ((r.form ≡ 25) ⊎ (r.form ≡ 26) → ⊥) → NamesAgree (r ∷ rs) → NamesAgree rs
  names_rest r rs n h c q d e w f = h (r ∷ c) q d (ap (λ (l : List Row). r ∷ l) e) ((λ k. absurd (n k)), w) f

  names_behind : (rs : List Row) → Nests rs → NamesAgree rs → NamesAgree (behind rs)
  names_behind rs m h c q d e w f =
      let b = (nests_behind rs m).1 in
      h (b.0 ++ c) q d (b.1 ∙ ap (λ (l : List Row). b.0 ++ l) e ∙ sym (append_assoc b.0 c (q ∷ d))) (not_append b.0 c b.2 w) f

  valued_on : (rs : List Row) → Nests rs → NamesAgree rs → valued p used rs ≡ valued p used' rs
  unfolding valued
  valued_on rs m h =
      outcome_on (λ i. operand_of (used (at p i))) (λ i. operand_of (used' (at p i))) (λ i. literal_by (at p i).kind (at p i).bytes) (λ i. (at p i).kind) rs m
      (λ c r d e w f. ap operand_of (h c r d e w f))

  bounded_on : (v : Value) (rs : List Row) → ((range : Row) (more : List Row) → rs ≡ range ∷ more → range.form ≡ 10) → Nests rs → NamesAgree rs → bounded p used v rs ≡ bounded p used' v rs
  bounded_on v [] g m h = refl
  bounded_on v (range ∷ rs) g m h =
      let k = nests_rest range rs m in
      let l = names_rest range rs (is_range (g range rs refl)) h in
      ap₂ (λ (a b : Outcome). ranged_of v a b (any_down (kinds_in_piece p))) (valued_on rs k l) (valued_on (behind rs) (nests_behind rs k).0 (names_behind rs k l))
    where
      is_range : range.form ≡ 10 → (range.form ≡ 25) ⊎ (range.form ≡ 26) → ⊥
      is_range e (inl k) = omega arith
      is_range e (inr k) = omega arith

  marked_on : (v : Value) (rs : List Row) → (eqb (class_of p) 3 ≡ false → (range : Row) (more : List Row) → rs ≡ range ∷ more → range.form ≡ 10) → Nests rs → NamesAgree rs → marked p used v rs ≡ marked p used' v rs
  marked_on v rs g m h = go (eqb (class_of p) 3) refl
    where
      go : (b : Bool) → eqb (class_of p) 3 ≡ b → cond b (constant_of v (valued p used rs)) (bounded p used v rs) ≡ cond b (constant_of v (valued p used' rs)) (bounded p used' v rs)
      go true e = ap (constant_of v) (valued_on rs m h)
      go false e = bounded_on v rs (g e) m h

  formed_on : (all : List Row) → rows_of_piece (kinds_in_piece p) ≡ all → ((x : Element) → UsesName p x → used x ≡ used' x) → formed p used all ≡ formed p used' all
  formed_on [] e h = refl
  formed_on (item ∷ []) e h = refl
  formed_on (item ∷ mark ∷ rs) e h =
      ap (λ (v : Value). marked p used v rs)
      (h (at p mark.first) (record { above = item ∷ []; row = mark; below = rs; tree = tree_is p item (mark ∷ rs) e; looked_up = inr firsts.1; named = refl }))
      ∙ marked_on (used' (at p mark.first)) rs
      (λ n range more q. third_form p n item mark range more (e ∙ ap (λ (l : List Row). item ∷ mark ∷ l) q))
      (nests_rest mark rs (nests_rest item (mark ∷ rs) (subst Nests e (0, length (kinds_in_piece p), piece_forest (kinds_in_piece p)))))
      (λ c r d q w f. h (at p r.first)
      (record { above = item ∷ mark ∷ c; row = r; below = d; tree = tree_is p item (mark ∷ (c ++ r ∷ d)) (e ∙ ap (λ (l : List Row). item ∷ mark ∷ l) q); looked_up = inl (f, ((λ k. absurd (no_item firsts.0 k)), ((λ k. absurd (no_mark k)), w))); named = refl }))
    where
      firsts : ((item.form ≡ 4) ⊎ (item.form ≡ 5)) × (mark.form ≡ 31)
      firsts = item_forms p item mark rs e

      no_item : (item.form ≡ 4) ⊎ (item.form ≡ 5) → (item.form ≡ 25) ⊎ (item.form ≡ 26) → ⊥
      no_item (inl a) (inl k) = omega arith
      no_item (inl a) (inr k) = omega arith
      no_item (inr a) (inl k) = omega arith
      no_item (inr a) (inr k) = omega arith

      no_mark : (mark.form ≡ 25) ⊎ (mark.form ≡ 26) → ⊥
      no_mark (inl k) = omega (arith, firsts.1)
      no_mark (inr k) = omega (arith, firsts.1)

-- the value of a piece in two texts
pub value_on : (all all' : List Piece) (ds ds' : List Done) (p : Piece) → own_doubled all p ≡ own_doubled all' p
    → ((x : Element) → UsesName p x → use_of all ds x ≡ use_of all' ds' x) → value_of all ds p ≡ value_of all' ds' p
unfolding value_of
value_on all all' ds ds' p e h =
    ap₂ (λ (b : Bool) (v : Value). unless_doubled b (rows_of_piece (kinds_in_piece p)) v) e (formed_on p (use_of all ds) (use_of all' ds') (rows_of_piece (kinds_in_piece p)) refl h)
