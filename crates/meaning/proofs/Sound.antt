-- What folding keeps is kept by expressions; names used and pieces come to what is sound, so that a claim's value fits its record. Assumes
-- nothing.
use mathlib.Core.Path.{◌≡◌, refl, sym, subst}
use mathlib.Core.Logic.{inl, inr}
use mathlib.Core.Bool.{Bool, true, false, cond, ◌||◌}
use mathlib.Core.List.{List, [], ◌∷◌, ◌++◌}
use Prim.Native.Nat.{ℕ, zero, suc}
use native.Mathlib.Omega.{arith}
use borrow.Author.Tests.{eqb-true}
use lib.Dec.{eqb}
use Rattle.laws.proofs.Laws.{clash}
use Rattle.forms.specs.Tree.{Row}
use Rattle.records.specs.Records.{is_claim}
use Rattle.tree.specs.code.PieceRows.{rows_of_piece}
use Rattle.folding.specs.declared.Outcome.{Outcome}
use Rattle.operands.specs.SpelledOperators.{operator_of, sign_of}
use Rattle.operands.specs.code.Operands.{literal_by}
use Rattle.values.specs.Values.{language_value, lean_of}
use Rattle.values.specs.declared.Value.{Value}
use Rattle.values.specs.declared.Value.TheVariants.{Without}
use Rattle.marks.proofs.Sound.{Keeps, small, SoundOutcome, Sound, wrong_leaf_sound, literal_sound, combined_sound, signed_sound, operand_sound, lean_sound, language_sound, choose_sound}
use Rattle.marks.proofs.Laws.{Constant, Subtype, Fits, fits_sound, constant_fits, subtype_fits, ranged_fits}
use Rattle.forms.specs.Tree.{behind}
use Rattle.expressions.specs.code.Expressions.{row_outcome, outcome_in}
use Rattle.pieces.specs.Kinds.{any_down}
use Rattle.states.specs.States as state
use Rattle.meaning.proofs.Claimed.{claims_class}
use Rattle.meaning.specs.Elements.{Element, Piece, at}
use Rattle.meaning.specs.Pieces.{kinds_in_piece, class_of}
use Rattle.meaning.specs.Names.{language, claims, is_doubled, own_doubled, Done, claimed_above, first_above, use_of}
use Rattle.meaning.specs.code.PieceValues.{valued, bounded, formed, unless_doubled, value_of, done_of}
use Rattle.meaning.proofs.Good.{GoodDone, Good}

-- ---- expressions, and what is kept of them

module _ (K : Keeps) where
  choose_outcome : (t : Bool) (x y : Outcome) → SoundOutcome K x → SoundOutcome K y → SoundOutcome K (cond t x y)
  choose_outcome true x y h k = h
  choose_outcome false x y h k = k

  pub literal_by_sound : (kind : ℕ) (bytes : List ℕ) → SoundOutcome K (literal_by kind bytes)
  unfolding literal_by
  literal_by_sound kind bytes = choose_outcome (eqb kind 3) _ _ (literal_sound K bytes) (wrong_leaf_sound K 3 K.three)

  module _ (name literal : ℕ → Outcome) (kind : ℕ → ℕ) (n : (i : ℕ) → SoundOutcome K (name i)) (l : (i : ℕ) → SoundOutcome K (literal i)) where
    row_sound : (r : Row) (x y : Outcome) → SoundOutcome K x → SoundOutcome K y → SoundOutcome K (row_outcome name literal kind r x y)
    unfolding row_outcome
    row_sound r x y h k =
        choose_outcome (eqb r.form 24) _ _ (n r.first)
        (choose_outcome (eqb r.form 27) _ _ (l r.first)
        (choose_outcome (eqb r.form 28) _ _ (signed_sound K (sign_of (kind r.operator)) x h)
        (choose_outcome (eqb r.form 29) _ _ (combined_sound K (operator_of (kind r.operator)) x y h k) (wrong_leaf_sound K 3 K.three))))

    pub outcome_sound : (f : ℕ) (rs : List Row) → SoundOutcome K (outcome_in name literal kind f rs)
    unfolding outcome_in
    outcome_sound zero rs = wrong_leaf_sound K 3 K.three
    outcome_sound (suc f) [] = wrong_leaf_sound K 3 K.three
    outcome_sound (suc f) (r ∷ rs) = row_sound r (outcome_in name literal kind f rs) (outcome_in name literal kind f (behind rs)) (outcome_sound f rs) (outcome_sound f (behind rs))

  -- names that come to what is sound
  abbrev pub SoundUse : (Element → Value) → Type 0
  SoundUse used = (x : Element) → Sound K (used x)

  module _ (p : Piece) (used : Element → Value) (u : SoundUse used) where
    pub valued_sound : (rs : List Row) → SoundOutcome K (valued p used rs)
    unfolding valued
    valued_sound rs = outcome_sound _ _ _ (λ i. operand_sound K (used (at p i)) (u (at p i))) (λ i. literal_by_sound (at p i).kind (at p i).bytes) _ rs

    pub bounded_fits : (mark : Value) → Sound K mark → (rs : List Row) → Subtype K (bounded p used mark rs)
    bounded_fits mark m [] = subtype_fits K mark m
    bounded_fits mark m (range ∷ rs) = ranged_fits K mark (valued p used rs) (valued p used (behind rs)) (any_down (kinds_in_piece p)) m (valued_sound rs) (valued_sound (behind rs))

module _ (p : Piece) (used : Element → Value) (u : SoundUse small used) where
  formed_constant : class_of p ≡ 3 → (rs : List Row) → Constant small (formed p used rs)
  formed_constant c [] = omega arith
  formed_constant c (item ∷ []) = omega arith
  formed_constant c (item ∷ mark ∷ rs) = rw c (constant_fits small (used (at p mark.first)) (valued p used rs) (u (at p mark.first)) (valued_sound small p used u rs))

  formed_subtype : class_of p ≡ 4 → (rs : List Row) → Subtype small (formed p used rs)
  formed_subtype c [] = omega arith
  formed_subtype c (item ∷ []) = omega arith
  formed_subtype c (item ∷ mark ∷ rs) = rw c (bounded_fits small p used u (used (at p mark.first)) (u (at p mark.first)) rs)

-- ---- names used

is_claim_lem : (c : ℕ) → is_claim c ≡ true → (P : ℕ → Type 0) → P 3 → P 4 → P c
is_claim_lem c e P x y = go (eqb c 3) (eqb c 4) refl refl e
  where
    go : (a b : Bool) → eqb c 3 ≡ a → eqb c 4 ≡ b → (a || b) ≡ true → P c
    go true b q r e = subst P (sym (eqb-true c 3 q)) x
    go false true q r e = subst P (sym (eqb-true c 4 r)) y
    go false false q r e = let z : ◌≡◌ {A = ℕ} 0 1 = cc in clash z

first_sound : (all : List Piece) (ds : List Done) → Good all ds → (x : Element) → Sound small (lean_of (first_above x ds))
unfolding first_above
first_sound all [] g x = lean_sound small (language_value (language x)) (language_sound (language x))
first_sound all (d ∷ ds) g x = go (claims x d.piece) refl (first_sound all ds g.1 x)
  where
    go : (b : Bool) → claims x d.piece ≡ b → Sound small (lean_of (first_above x ds)) → Sound small (lean_of (elim b [ true ↦ d.value | false ↦ first_above x ds ]))
    go true e h = fits_sound (class_of d.piece) d.value (g.0 (claims_class x d.piece e)).0
    go false e h = h

pub use_sound : (all : List Piece) (ds : List Done) → Good all ds → SoundUse small (use_of all ds)
unfolding use_of
use_sound all ds g x =
    choose_sound small (claimed_above x ds) _ _ (choose_sound small (is_doubled all x) (Without state.leans) _ (omega arith) (first_sound all ds g x)) (omega arith)

-- ---- pieces

unless_constant : (d : Bool) (rs : List Row) (v : Value) → Constant small v → Constant small (unless_doubled d rs v)
unless_constant d [] v h = omega arith
unless_constant true (r ∷ rs) v h = omega arith
unless_constant false (r ∷ rs) v h = h

unless_subtype : (d : Bool) (rs : List Row) (v : Value) → Subtype small v → Subtype small (unless_doubled d rs v)
unless_subtype d [] v h = omega arith
unless_subtype true (r ∷ rs) v h = omega arith
unless_subtype false (r ∷ rs) v h = h

unless_lean : (d : Bool) (rs : List Row) (v : Value) → d ≡ true → lean_of (unless_doubled d rs v) ≡ Without state.leans
unless_lean d [] v e = refl
unless_lean true (r ∷ rs) v e = refl
unless_lean false (r ∷ rs) v e = let z : ◌≡◌ {A = ℕ} 0 1 = cc in clash z

module _ (all : List Piece) (ds : List Done) (g : Good all ds) (p : Piece) where
  pub constant_value : class_of p ≡ 3 → Constant small (value_of all ds p)
  unfolding value_of
  constant_value c = unless_constant (own_doubled all p) (rows_of_piece (kinds_in_piece p)) _ (formed_constant p (use_of all ds) (use_sound all ds g) c (rows_of_piece (kinds_in_piece p)))

  pub subtype_value : class_of p ≡ 4 → Subtype small (value_of all ds p)
  unfolding value_of
  subtype_value c = unless_subtype (own_doubled all p) (rows_of_piece (kinds_in_piece p)) _ (formed_subtype p (use_of all ds) (use_sound all ds g) c (rows_of_piece (kinds_in_piece p)))

  pub value_fits : is_claim (class_of p) ≡ true → Fits (class_of p) (value_of all ds p)
  value_fits e =
      is_claim_lem (class_of p) e (λ c. class_of p ≡ c → Fits c (value_of all ds p)) (λ q. inl (refl, constant_value q)) (λ q. inr (refl, subtype_value q)) refl

  -- a doubled name's item gives nothing
  pub doubled_lean : own_doubled all p ≡ true → lean_of (value_of all ds p) ≡ Without state.leans
  unfolding value_of
  doubled_lean e = unless_lean (own_doubled all p) (rows_of_piece (kinds_in_piece p)) _ e

  pub good_done : GoodDone all (done_of all ds p)
  good_done e = (value_fits e, doubled_lean)

pub good_append : (all : List Piece) (ds : List Done) (d : Done) → Good all ds → GoodDone all d → Good all (ds ++ d ∷ [])
good_append all [] d g h = (h, tt)
good_append all (c ∷ ds) d g h = (g.0, good_append all ds d g.1 h)

-- one piece more
pub good_more : (all : List Piece) (ds : List Done) (p : Piece) → Good all ds → Good all (ds ++ done_of all ds p ∷ [])
good_more all ds p g = good_append all ds (done_of all ds p) g (good_done all ds g p)
