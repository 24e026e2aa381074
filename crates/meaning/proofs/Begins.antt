-- How a piece begins that has a form: with its word, constant or subtype, and then a name. So its class is that of its form. Assumes nothing.
use Prim.Native.Nat.{ℕ}
use mathlib.Core.Path.{◌≡◌, refl, sym, ap, subst, ◌∙◌}
use mathlib.Core.Logic.{◌⊎◌, inl, inr, ⊎_elim}
use mathlib.Core.Bool.{Bool, true, false}
use mathlib.Core.List.{List, [], ◌∷◌, ◌++◌}
use borrow.Author.Tests.{eq-eqb, ltb-true, ltb-false}
use lib.Dec.{T, eqb, ltb, eqb→eq}
use Rattle.laws.proofs.Laws.{clash}
use Rattle.grammars.specs.code.Grammar.{Sym, tok}
use Rattle.grammars.specs.code.Actions.{Reads, eat, acts, grow}
use Rattle.grammars.proofs.Check.{below, below_at, imp, imp_at}
use Rattle.grammars.proofs.Theory.{or_cases}
use Rattle.forms.specs.code.Kinds.{number_of, identifier, other, terminal_of}
use Rattle.forms.specs.code.Kinds as kind
use Rattle.forms.specs.code.RuleNames.{constant, subtype, name_number, opens}
use Rattle.forms.specs.code.Rules.{forms, body, rule_of}
use Rattle.forms.specs.Tree.{Row}
use Rattle.forms.specs.code.RuleActions.{State, Refusal, does, start}
use Rattle.forms.specs.code.ItemReading.{ItemReading}
use Rattle.form_table.proofs.Tables.{picks_at, kind_past}
use Rattle.pieces.specs.Kinds.{word_constant, word_subtype, claim_of, claim_class, piece_class}
use Rattle.places.specs.Kinds.{is_name}
use Rattle.pieces.specs.declared.PieceClass.{PieceClass}
use Rattle.one_tree.specs.Trees.{IsConstant, IsSubtype}
use Rattle.tree.specs.code.Answers.{terminals_in}
use Rattle.tree.specs.code.PieceRows.{unlike}
use Rattle.meaning.specs.Elements.{Piece, at}
use Rattle.meaning.specs.Pieces.{kinds_in_piece, class_of}
use Rattle.meaning.specs.ItemForms.{Tree}
use Rattle.meaning.proofs.Begun.{no_heading, no_closing}
use Rattle.meaning.proofs.Readings.{constant_reading, subtype_reading}
use Rattle.forms.proofs.Shapes.{only}

-- ---- kinds by what they are to the forms

-- where a test holds of each kind that the forms tell apart, it holds of any that is not `other` to them
module _ (t : Sym) (test : ℕ → Bool) (d : eqb (number_of other) (number_of t) ≡ false) (h : T (below picks_at (λ k. imp (eqb (terminal_of k) (number_of t)) (test k)))) where
  pub told : (k : ℕ) → terminal_of k ≡ number_of t → T (test k)
  told k e = go (ltb k picks_at) refl
    where
      go : (b : Bool) → ltb k picks_at ≡ b → T (test k)
      go true l =
          imp_at (eqb (terminal_of k) (number_of t)) (test k) (below_at picks_at (λ k. imp (eqb (terminal_of k) (number_of t)) (test k)) h k (ltb-true k picks_at l)) (subst T (sym (eq-eqb (terminal_of k) (number_of t) e)) tt)
      go false l =
          let z = kind_past k (ltb-false k picks_at l) ∙ e in
          let y : true ≡ false = sym (eq-eqb (number_of other) (number_of t) z) ∙ d in
          let x : ◌≡◌ {A = ℕ} 0 1 = cc in
          clash x

is_constant_word : (k : ℕ) → terminal_of k ≡ number_of kind.word_constant → k ≡ word_constant
unfolding terminal_of
is_constant_word k e = eqb→eq k word_constant (told kind.word_constant (λ k. eqb k word_constant) refl tt k e)

is_subtype_word : (k : ℕ) → terminal_of k ≡ number_of kind.word_subtype → k ≡ word_subtype
unfolding terminal_of
is_subtype_word k e = eqb→eq k word_subtype (told kind.word_subtype (λ k. eqb k word_subtype) refl tt k e)

is_name_kind : (k : ℕ) → terminal_of k ≡ number_of identifier → (k ≡ 1) ⊎ (k ≡ 2)
unfolding terminal_of
is_name_kind k e = ⊎_elim (λ h. inl (eqb→eq k 1 h)) (λ h. inr (eqb→eq k 2 h)) (or_cases (eqb k 1) (eqb k 2) (told identifier is_name refl tt k e))

-- ---- the first two elements

-- the kinds of a piece that is read so begin with these two
abbrev Two : Sym → Piece → Type 0
Two word p = (k : ℕ) × (j : ℕ) × (ks : List ℕ) × (kinds_in_piece p ≡ k ∷ (j ∷ ks)) × (terminal_of k ≡ number_of word) × (terminal_of j ≡ number_of identifier)

two_kinds : (ks : List ℕ) (a b : ℕ) (v : List ℕ) → terminals_in ks ≡ a ∷ (b ∷ v) → (k : ℕ) × (j : ℕ) × (l : List ℕ) × (ks ≡ k ∷ (j ∷ l)) × (terminal_of k ≡ a) × (terminal_of j ≡ b)
two_kinds [] a b v e = let z : ◌≡◌ {A = ℕ} 0 1 = cc in clash z
two_kinds (k ∷ []) a b v e = let z : ◌≡◌ {A = ℕ} 0 1 = cc in clash z
two_kinds (k ∷ j ∷ l) a b v e = (k, j, l, refl, cc, cc)

read_two : (a b k : ℕ) {α : List Sym} {s t : State} {w : List ℕ} → Reads State Refusal forms (does unlike) (opens ∷ tok a ∷ tok b ∷ α) k s w t → (v : List ℕ) × (w ≡ a ∷ (b ∷ v))
read_two a b k (acts e (eat (eat {w = v} r))) = (v, refl)

constant_two : (p : Piece) (s : State) → ItemReading constant unlike (terminals_in (kinds_in_piece p)) s → Two kind.word_constant p
constant_two p s (grow q l e r) =
    let w = terminals_in (kinds_in_piece p) in
    let h = read_two (number_of kind.word_constant) (number_of identifier) 0 (subst (λ (x : ℕ). Reads State Refusal forms (does unlike) (body x ++ []) 0 start w s) (only (name_number constant) (rule_of (name_number constant)) tt q l e) r) in
    two_kinds (kinds_in_piece p) _ _ h.0 h.1

subtype_two : (p : Piece) (s : State) → ItemReading subtype unlike (terminals_in (kinds_in_piece p)) s → Two kind.word_subtype p
subtype_two p s (grow q l e r) =
    let w = terminals_in (kinds_in_piece p) in
    let h = read_two (number_of kind.word_subtype) (number_of identifier) 0 (subst (λ (x : ℕ). Reads State Refusal forms (does unlike) (body x ++ []) 0 start w s) (only (name_number subtype) (rule_of (name_number subtype)) tt q l e) r) in
    two_kinds (kinds_in_piece p) _ _ h.0 h.1

-- ---- the class

claimed : (k j : ℕ) (l : List ℕ) → (j ≡ 1) ⊎ (j ≡ 2) → claim_class (k ∷ (j ∷ l)) ≡ claim_of k
unfolding claim_class
claimed k j l (inl e) = rw e
claimed k j l (inr e) = rw e

class_by : (k j : ℕ) (l : List ℕ) → eqb k 98 ≡ false → eqb k 61 ≡ false → (j ≡ 1) ⊎ (j ≡ 2) → piece_class (k ∷ (j ∷ l)) ≡ claim_of k
unfolding piece_class
class_by k j l a b h = rw (no_heading (k ∷ (j ∷ l)) a, no_closing (k ∷ (j ∷ l)) b) (claimed k j l h)

-- the first kind of a piece, and its class
pub record Begun (p : Piece) (word class : ℕ) : Type 0 where
  pub first : (at p 0).kind ≡ word
  pub classed : class_of p ≡ class

first_kind : (p : Piece) (k : ℕ) (l : List ℕ) → kinds_in_piece p ≡ k ∷ l → (at p 0).kind ≡ k
unfolding kinds_in_piece at
first_kind [] k l e = let z : ◌≡◌ {A = ℕ} 0 1 = cc in clash z
first_kind (x ∷ p) k l e = cc

pub constant_begins : (p : Piece) (s : State) → ItemReading constant unlike (terminals_in (kinds_in_piece p)) s → Begun p word_constant 3
constant_begins p s r =
    let t = constant_two p s r in
    let e = t.3 ∙ ap (λ (k : ℕ). k ∷ (t.1 ∷ t.2)) (is_constant_word t.0 t.4) in
    record { first = first_kind p 53 (t.1 ∷ t.2) e; classed = ap (λ (ks : List ℕ). (piece_class ks).class) e ∙ ap (λ (m : PieceClass). m.class) (class_by 53 t.1 t.2 refl refl (is_name_kind t.1 t.5)) }

pub subtype_begins : (p : Piece) (s : State) → ItemReading subtype unlike (terminals_in (kinds_in_piece p)) s → Begun p word_subtype 4
subtype_begins p s r =
    let t = subtype_two p s r in
    let e = t.3 ∙ ap (λ (k : ℕ). k ∷ (t.1 ∷ t.2)) (is_subtype_word t.0 t.4) in
    record { first = first_kind p 129 (t.1 ∷ t.2) e; classed = ap (λ (ks : List ℕ). (piece_class ks).class) e ∙ ap (λ (m : PieceClass). m.class) (class_by 129 t.1 t.2 refl refl (is_name_kind t.1 t.5)) }

-- so by its tree
pub constant_tree_begins : (p : Piece) (l : List Row) → Tree IsConstant p l → Begun p word_constant 3
constant_tree_begins p l t = let r = (constant_reading p l).0 t in constant_begins p r.0 r.1.0

pub subtype_tree_begins : (p : Piece) (l : List Row) → Tree IsSubtype p l → Begun p word_subtype 4
subtype_tree_begins p l t = let r = (subtype_reading p l).0 t in subtype_begins p r.0 r.1.0
