-- The direction of a subtype's range is that of its own to or downto: its elements have no other. Assumes nothing.
use Prim.Native.Nat.{ℕ, zero, suc}
use mathlib.Core.Path.{◌≡◌, refl, sym, ap, subst, ◌∙◌}
use mathlib.Core.Bool.{Bool, true, false, ◌||◌}
use mathlib.Core.List.{List, [], ◌∷◌}
use native.Mathlib.Omega.{arith}
use borrow.Author.Tests.{eqb-true}
use lib.Dec.{eqb, eqb→eq}
use lib.ListN.{get_or}
use Rattle.forms.specs.code.Kinds.{number_of, terminal_of}
use Rattle.forms.specs.code.Kinds as kind
use Rattle.forms.specs.FormLines.{OwnItem}
use Rattle.forms.specs.Tree.{Row}
use Rattle.one_tree.specs.Trees.{IsSubtype}
use Rattle.one_tree.proofs.Alone.{one_direction}
use Rattle.pieces.specs.Kinds.{word_downto, any_down}
use Rattle.tree.specs.code.Answers.{terminals_in}
use Rattle.meaning.specs.Elements.{Piece}
use Rattle.meaning.specs.Pieces.{kinds_in_piece}
use Rattle.meaning.specs.ItemForms.{to_forms, Goes, to, downto}
use Rattle.meaning.proofs.Readings.{to_forms_lem}
use Rattle.meaning.proofs.Begins.{told}

is_downto_word : (k : ℕ) → terminal_of k ≡ number_of kind.word_downto → k ≡ word_downto
unfolding terminal_of
is_downto_word k e = eqb→eq k word_downto (told kind.word_downto (λ k. eqb k word_downto) refl tt k e)

downto_is : terminal_of word_downto ≡ number_of kind.word_downto
unfolding terminal_of
downto_is = refl

-- where downto stands, it is among these kinds
found : (ks : List ℕ) (i : ℕ) → get_or (terminals_in ks) i 0 ≡ number_of kind.word_downto → any_down ks ≡ true
unfolding any_down
found [] zero e = absurd (omega arith)
found [] (suc i) e = absurd (omega arith)
found (k ∷ ks) zero e = rw (is_downto_word k e)
found (k ∷ ks) (suc i) e = or_true (eqb k word_downto) (any_down ks) (found ks i e)
  where
    or_true : (a b : Bool) → b ≡ true → a || b ≡ true
    or_true true b e = refl
    or_true false b e = e

-- and where it is among them, it stands somewhere
stands : (ks : List ℕ) → any_down ks ≡ true → (i : ℕ) × (get_or (terminals_in ks) i 0 ≡ number_of kind.word_downto)
unfolding any_down
stands [] e = let z : ◌≡◌ {A = ℕ} 0 1 = cc in absurd (omega arith)
stands (k ∷ ks) e = by (eqb k word_downto) refl e (λ h. stands ks h)
  where
    by : (b : Bool) → eqb k word_downto ≡ b → b || any_down ks ≡ true → (any_down ks ≡ true → (i : ℕ) × (get_or (terminals_in ks) i 0 ≡ number_of kind.word_downto))
        → (i : ℕ) × (get_or (terminals_in (k ∷ ks)) i 0 ≡ number_of kind.word_downto)
    by true q h more = (0, ap terminal_of (eqb-true k word_downto q) ∙ downto_is)
    by false q h more = let s = more h in (suc s.0, s.1)

pub direction : (p : Piece) (l : List Row) → IsSubtype (to_forms p) l → {own : List OwnItem} {down : Bool} → Goes (to_forms p) own down → down ≡ any_down (kinds_in_piece p)
direction p l t (to i m e) = by (any_down (kinds_in_piece p)) refl
  where
    there : (i : ℕ) → get_or (to_forms p) i 0 ≡ number_of kind.word_to → get_or (terminals_in (kinds_in_piece p)) i 0 ≡ number_of kind.word_to
    there i e = subst (λ (w : List ℕ). get_or w i 0 ≡ number_of kind.word_to) (to_forms_lem p) e

    by : (b : Bool) → any_down (kinds_in_piece p) ≡ b → false ≡ b
    by true q = let s = stands (kinds_in_piece p) q in absurd (one_direction (terminals_in (kinds_in_piece p)) l (subst (λ (w : List ℕ). IsSubtype w l) (to_forms_lem p) t) i s.0 (there i e) s.1)
    by false q = refl
direction p l t (downto i m e) = sym (found (kinds_in_piece p) i (subst (λ (w : List ℕ). get_or w i 0 ≡ number_of kind.word_downto) (to_forms_lem p) e))
