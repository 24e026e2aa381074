-- The ways that a piece is told by its kinds, in the code's terms: each premise is what a call or a test gives. Assumes nothing.
use mathlib.Core.Path.{◌≡◌, sym, ◌∙◌}
use mathlib.Core.Bool.{Bool, true, false, not, ◌&&◌}
use mathlib.Core.List.{List}
use Prim.Native.Nat.{ℕ, ◌+◌, ◌*◌, ◌≤◌, ◌<◌}
use native.Mathlib.Omega.{arith}
use borrow.Author.Tests.{eq-eqb, ne_eqb, not-true, not-false}
use mir.Syntax.{w64}
use mir.Val.{Fits}
use lib.Dec.{eqb}
use lib.ListN.{length, get_or, drop, length-drop, get_or-eq_default}
use lib.Seq.{get_or-drop, get_or-take, length-take-le}
use Rattle.classes.proofs.Laws.{by_test}
use Rattle.pieces.specs.Classes as class
use Rattle.pieces.specs.Kinds.{class_at, kinds_at, is_heading, behind_word, has_name, ends_at, is_closing, claim_class, piece_class, semicolon, word_constant, word_end, word_is, word_package, word_subtype}
use Rattle.places.specs.Kinds.{is_name}
use Rattle.places.specs.Places.{row_words, cell_at, kinds_of}
use Rattle.pieces.specs.declared.PieceClass.{PieceClass}
use Rattle.places.proofs.Laws.{kinds_length, kind_at}

module _ (n : ℕ) (t : List ℕ) (from count : ℕ) (r : from + count ≤ n) where
  pub piece_length : length (kinds_at n t from count) ≡ count
  unfolding kinds_at
  piece_length = length-take-le count (drop from (kinds_of n t)) (omega (arith, length-drop from (kinds_of n t), kinds_length n t))

  pub piece_kind : (i k : ℕ) → row_words * n ≤ length t → i < count → k ≡ cell_at t (from + i) 0 → k ≡ get_or (kinds_at n t from count) i 0
  unfolding kinds_at
  piece_kind i k l h e = rw (get_or-take, get_or-drop) (e ∙ kind_at t n (from + i) l (omega arith))

  pub piece_past : (i : ℕ) → count ≤ i → ◌≡◌ {A = ℕ} 0 (get_or (kinds_at n t from count) i 0)
  piece_past i h = sym (get_or-eq_default (kinds_at n t from count) 0 {n = i} (omega (arith, piece_length)))

  pub heading_other : (count ≡ 3 → ⊥) → false ≡ is_heading (kinds_at n t from count)
  unfolding is_heading
  heading_other h = rw (piece_length, ne_eqb count 3 h)

  pub heading_is : (a b c : ℕ) (x : Bool) → a ≡ get_or (kinds_at n t from count) 0 0 → b ≡ get_or (kinds_at n t from count) 1 0 → c ≡ get_or (kinds_at n t from count) 2 0
      → x ≡ is_name b → count ≡ 3 → ((eqb a word_package && x) && eqb c word_is) ≡ is_heading (kinds_at n t from count)
  unfolding is_heading
  heading_is a b c x p q k y h = rw (piece_length, eq-eqb count 3 h, ← p, ← q, ← k, y)

  pub ends_at_lem : (at a b : ℕ) → a ≡ get_or (kinds_at n t from count) 0 0 → b ≡ get_or (kinds_at n t from count) at 0
      → ((eqb a word_end && eqb b semicolon) && eqb count (at + 1)) ≡ ends_at (kinds_at n t from count) at
  unfolding ends_at
  ends_at_lem at a b p q = rw (piece_length, ← p, ← q)

module _ (p : List ℕ) where
  pub behind_two : (k : ℕ) → k ≡ get_or p 1 0 → k ≡ word_package → ◌≡◌ {A = ℕ} 2 (behind_word p)
  unfolding behind_word
  behind_two k e h = rw (← e, eq-eqb k word_package h)

  pub behind_one : (k : ℕ) → k ≡ get_or p 1 0 → (k ≡ word_package → ⊥) → ◌≡◌ {A = ℕ} 1 (behind_word p)
  unfolding behind_word
  behind_one k e h = rw (← e, ne_eqb k word_package h)

  pub behind_small : behind_word p ≤ 2
  unfolding behind_word
  behind_small = by_test (λ (m : ℕ). m ≤ 2) (eqb (get_or p 1 0) word_package) (λ _. omega arith) (λ _. omega arith)

  pub word_room : (w : ℕ) → w ≡ behind_word p → w ≤ 3
  word_room w e = omega (arith, behind_small)

  pub next_room : (w : ℕ) → w ≡ behind_word p → w + 1 ≤ 3
  next_room w e = omega (arith, behind_small)

  pub next_fits : (w : ℕ) → w ≡ behind_word p → Fits w64 (w + 1)
  next_fits w e = omega (arith, behind_small)

  module _ (k : ℕ) (x : Bool) (e : k ≡ get_or p 1 0) (q : x ≡ is_name k) where
    pub claim_none : not x ≡ true → class_at class.unclaimed 0 ≡ claim_class p
    unfolding claim_class
    claim_none h = rw (← e, ← q, not-true x h)

    module _ (j : ℕ) (h : not x ≡ false) (f : j ≡ get_or p 0 0) where
      pub claim_constant : j ≡ word_constant → class_at class.constant 1 ≡ claim_class p
      unfolding claim_class
      claim_constant g = rw (← e, ← q, not-false x h, ← f, eq-eqb j word_constant g)

      pub claim_subtype : (j ≡ word_constant → ⊥) → j ≡ word_subtype → class_at class.subtype 1 ≡ claim_class p
      unfolding claim_class
      claim_subtype g g' = rw (← e, ← q, not-false x h, ← f, ne_eqb j word_constant g, eq-eqb j word_subtype g')

      pub claim_other : (j ≡ word_constant → ⊥) → (j ≡ word_subtype → ⊥) → class_at class.unclaimed 0 ≡ claim_class p
      unfolding claim_class
      claim_other g g' = rw (← e, ← q, not-false x h, ← f, ne_eqb j word_constant g, ne_eqb j word_subtype g')

  module _ (x : Bool) (e : x ≡ is_heading p) where
    pub mark_heading : x ≡ true → class_at class.heading 1 ≡ piece_class p
    unfolding piece_class
    mark_heading h = rw (← e, h)

    module _ (w k : ℕ) (y z : Bool) (h : x ≡ false) (f : w ≡ behind_word p) (g : k ≡ get_or p w 0) (q : y ≡ is_name k) where
      named : has_name p ≡ y
      unfolding has_name
      named = rw (← f, ← g, ← q)

      pub mark_named : y ≡ true → z ≡ ends_at p (w + 1) → z ≡ true → class_at class.closing w ≡ piece_class p
      unfolding piece_class is_closing
      mark_named o i l = rw (← e, h, named, o, ← f, ← i, l)

      pub mark_named_other : (m : PieceClass) → y ≡ true → z ≡ ends_at p (w + 1) → z ≡ false → m ≡ claim_class p → m ≡ piece_class p
      unfolding piece_class is_closing
      mark_named_other m o i l c = rw (← e, h, named, o, ← f, ← i, l) c

      pub mark_plain : y ≡ false → z ≡ ends_at p w → z ≡ true → class_at class.closing 0 ≡ piece_class p
      unfolding piece_class is_closing
      mark_plain o i l = rw (← e, h, named, o, ← f, ← i, l)

      pub mark_plain_other : (m : PieceClass) → y ≡ false → z ≡ ends_at p w → z ≡ false → m ≡ claim_class p → m ≡ piece_class p
      unfolding piece_class is_closing
      mark_plain_other m o i l c = rw (← e, h, named, o, ← f, ← i, l) c
