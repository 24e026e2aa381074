-- The ways of an item, in the code's terms: each premise is what a call or a test gives. Assumes nothing.
use mathlib.Core.Path.{◌≡◌, sym, ap, ◌∙◌}
use mathlib.Core.Bool.{Bool, true, false, not, cond, ◌||◌}
use mathlib.Core.List.{List}
use Prim.Native.Nat.{ℕ, zero, suc, ◌+◌, ◌-◌, ◌*◌, ◌/◌, ◌≤◌, ◌<◌, min}
use native.Mathlib.Nat.{add-zero}
use native.Mathlib.Omega.{arith}
use native.Mathlib.Numerals.{add-one}
use borrow.Author.Tests.{eq-eqb, ne_eqb, lt-ltb, le-ltb, not-true, not-false}
use lib.Dec.{eqb}
use lib.ListN.{length, get_or, drop, take, set, length-drop}
use lib.Seq.{drop-drop, drop-cons, get_or-drop, sets}
use Rattle.laws.proofs.Laws.{cut}
use Rattle.classes.proofs.Laws.{by_test}
use Rattle.places.specs.Places.{rows_in, cell_at, kinds_of}
use Rattle.places.proofs.Laws.{kinds_length, kind_at}
use Rattle.records.specs.Records.{word_at, is_item, is_claim}
use Rattle.names.specs.code.Language.{language_of}
use Rattle.folding.specs.declared.Outcome.{Outcome}
use Rattle.expressions.specs.Folds.{name_value, fold_of}
use Rattle.marks.specs.code.Marks.{constant_of, subtype_of, ranged_of}
use Rattle.values.specs.declared.Value.{Value}
use Rattle.values.specs.declared.Value.TheVariants.{Without}
use Rattle.pieces.specs.Columns as column
use Rattle.pieces.specs.Columns.{record_words}
use Rattle.states.specs.States as state
use Rattle.forms.specs.RowWords.{row_numbers, row_at}
use Rattle.pieces.specs.Classes as classes
use Rattle.items.specs.code.Items.{rows_until, rows_held, goes_down_in, doubled_in, expression_at, range_at, bounded_at, mark_in, formed_at, value_at, completed_at, completed_from, completed, after_mark, bound_at}
use Rattle.values.specs.ValueWords.{state_of, value_kind, low_of, high_of, value_words}
use Rattle.pieces.specs.Kinds.{any_down, word_downto}

-- ---- the rows of a piece

held_le : (n : ℕ) (words : List ℕ) → rows_until n words ≤ n
unfolding rows_until
held_le zero words = omega arith
held_le (suc n) words = by_test (λ (m : ℕ). m ≤ suc n) (eqb (get_or words 0 0) 0) (λ _. omega arith) (λ _. omega (arith, held_le n (drop row_numbers words)))

module _ (rows items : List ℕ) (i : ℕ) where
  -- a piece's rows lie in the table
  pub held_room : (m : ℕ) → 1 ≤ m → m ≡ rows_held rows items i → row_numbers * (word_at items i column.first + m) ≤ length rows
  unfolding rows_held
  held_room m h e = omega (arith, held_le (min (word_at items i column.count) (length rows / row_numbers - word_at items i column.first)) (drop (row_numbers * word_at items i column.first) rows))

-- of m rows counted, the rest with them are the whole
abbrev pub Left : (rows items : List ℕ) (i from most m : ℕ) → Type 0
Left rows items i from most m = m + rows_until (most - m) (drop (row_numbers * (from + m)) rows) ≡ rows_held rows items i

pub held_start : (rows items : List ℕ) (i from count most space : ℕ) → from ≡ word_at items i column.first → count ≡ word_at items i column.count → space ≡ length rows / row_numbers - from → most ≡ min count space → Left rows items i from most 0
unfolding rows_held
held_start rows items i from count most space p q w g =
    let a : most - 0 ≡ min (word_at items i column.count) (length rows / row_numbers - word_at items i column.first) = omega arith in
    let b : row_numbers * (from + 0) ≡ row_numbers * word_at items i column.first = omega arith in
    rw (a, b) (omega arith)

module _ (rows items : List ℕ) (i from most m : ℕ) (inv : Left rows items i from most m) where
  module _ (l : m < most) where
    opened : rows_until (most - m) (drop (row_numbers * (from + m)) rows)
        ≡ cond (eqb (row_at rows (from + m)).form 0) 0 (suc (rows_until (most - (m + 1)) (drop (row_numbers * (from + (m + 1))) rows)))
    unfolding rows_until
    opened =
        let a : most - m ≡ suc (most - (m + 1)) = omega arith in
        let b : row_numbers * (from + m) + 0 ≡ row_numbers * (from + m) = omega arith in
        let c : row_numbers * (from + m) + row_numbers ≡ row_numbers * (from + (m + 1)) = omega arith in
        rw (a, get_or-drop (row_numbers * (from + m)) rows 0 0, b, drop-drop row_numbers (row_numbers * (from + m)) rows, c)

    pub held_stop : (row_at rows (from + m)).form ≡ 0 → m ≡ rows_held rows items i
    held_stop h = let z : rows_until (most - m) (drop (row_numbers * (from + m)) rows) ≡ 0 = opened ∙ rw (eq-eqb (row_at rows (from + m)).form 0 h) in omega (arith, inv, z)

    pub held_turn : ((row_at rows (from + m)).form ≡ 0 → ⊥) → Left rows items i from most (m + 1)
    held_turn h =
        let z : rows_until (most - m) (drop (row_numbers * (from + m)) rows) ≡ suc (rows_until (most - (m + 1)) (drop (row_numbers * (from + (m + 1))) rows)) = opened ∙ rw (ne_eqb (row_at rows (from + m)).form 0 h) in
        omega (arith, inv, z)

  pub held_end : most ≤ m → m ≡ rows_held rows items i
  unfolding rows_until
  held_end l = let a : most - m ≡ 0 = omega arith in rw (a, add-zero m) at inv

  pub held_all : most ≤ m → m ≤ most → most ≡ rows_held rows items i
  held_all l k = let b : most ≡ m = omega arith in b ∙ held_end l

-- ---- the word downto

-- past m kinds without it
abbrev pub Down : (table items : List ℕ) (i from most m : ℕ) → Type 0
Down table items i from most m = any_down (take (most - m) (drop (from + m) (kinds_of (rows_in table) table))) ≡ goes_down_in table items i

pub down_start : (table items : List ℕ) (i n from count most space : ℕ) → n ≡ rows_in table → from ≡ word_at items i column.first → count ≡ word_at items i column.count → space ≡ n - from → most ≡ min count space → Down table items i from most 0
unfolding goes_down_in
down_start table items i n from count most space o p q w g =
    let a : most - 0 ≡ min count (length (drop from (kinds_of (rows_in table) table))) = omega (arith, length-drop from (kinds_of (rows_in table) table), kinds_length (rows_in table) table) in
    let b : from + 0 ≡ from = omega arith in
    rw (a, b, cut count (drop from (kinds_of (rows_in table) table)), p, q)

module _ (table items : List ℕ) (i from most m : ℕ) (inv : Down table items i from most m) where
  abbrev ks : List ℕ
  ks = kinds_of (rows_in table) table

  module _ (n space count k : ℕ) (l : m < most) (o : n ≡ rows_in table) (w : space ≡ n - from) (g : most ≡ min count space) (e : k ≡ cell_at table (from + m) 0) where
    opened_down : any_down (take (most - m) (drop (from + m) ks)) ≡ (eqb k word_downto || any_down (take (most - (m + 1)) (drop (from + (m + 1)) ks)))
    unfolding any_down
    opened_down =
        let a : most - m ≡ suc (most - (m + 1)) = omega arith in
        let b : suc (from + m) ≡ from + (m + 1) = omega arith in
        let h : from + m < length ks = omega (arith, kinds_length (rows_in table) table) in
        rw (a, drop-cons ks (from + m) 0 h, b, ← kind_at table (rows_in table) (from + m) (omega arith) (omega arith), ← e)

    pub down_hit : k ≡ word_downto → true ≡ goes_down_in table items i
    down_hit h = sym (opened_down ∙ rw (eq-eqb k word_downto h)) ∙ inv

    pub down_turn : (k ≡ word_downto → ⊥) → Down table items i from most (m + 1)
    down_turn h = sym (opened_down ∙ rw (ne_eqb k word_downto h)) ∙ inv

  pub down_end : most ≤ m → false ≡ goes_down_in table items i
  unfolding any_down
  down_end l = let a : most - m ≡ 0 = omega arith in rw a at inv

-- ---- the name claimed again

module _ (text table twins items : List ℕ) (i class : ℕ) (x : Bool) (p : class ≡ word_at items i column.class) (q : x ≡ is_claim class) where
  pub no_claim : not x ≡ true → false ≡ doubled_in text table twins items i
  unfolding doubled_in
  no_claim h = rw (← p, ← q, not-true x h)

  module _ (h : not x ≡ false) (twin : ℕ) (w : twin ≡ get_or twins i 0) where
    pub twin_there : (twin ≡ 0 → ⊥) → true ≡ doubled_in text table twins items i
    unfolding doubled_in
    twin_there k = rw (← p, ← q, not-false x h, ← w, ne_eqb twin 0 k)

    pub by_language : (e language : ℕ) → twin ≡ 0 → e ≡ word_at items i column.name → language ≡ language_of text table e → not (eqb language 0) ≡ doubled_in text table twins items i
    unfolding doubled_in
    by_language e language k f g = rw (← p, ← q, not-false x h, ← w, eq-eqb twin 0 k, ← f, ← g)

-- ---- expressions and marks

pub part_is : (text table items links rows : List ℕ) (i from a m : ℕ) (r : Outcome) → from ≡ word_at items i column.first → r ≡ fold_of text table items links i (take (row_numbers * (from + m) - row_numbers * (from + a)) (drop (row_numbers * (from + a)) rows))
    → r ≡ expression_at text table items links i rows a m
unfolding expression_at
part_is text table items links rows i from a m r p z =
    let e : row_numbers * (from + m) - row_numbers * (from + a) ≡ row_numbers * (m - a) = omega arith in
    rw (← p, ← e) z

module _ (items rows : List ℕ) (i m : ℕ) (h : bound_at ≤ m) where
  pub second_none : m ≡ bound_at → m ≡ range_at items i rows m
  unfolding range_at
  second_none e = omega arith

module _ (text table items links rows : List ℕ) (i m : ℕ) (mark r : Value) where
  pub unbounded : m ≡ after_mark → r ≡ subtype_of mark → r ≡ bounded_at text table items links i rows m mark
  unfolding bounded_at
  unbounded h z = rw (eq-eqb m after_mark h) z

  pub ranged : (b : ℕ) (x y : Outcome) (down : Bool) → (m ≡ after_mark → ⊥) → b ≡ range_at items i rows m → x ≡ expression_at text table items links i rows bound_at m
      → y ≡ expression_at text table items links i rows b m → down ≡ goes_down_in table items i → r ≡ ranged_of mark x y down → r ≡ bounded_at text table items links i rows m mark
  unfolding bounded_at
  ranged b x y down h e f g d z = rw (ne_eqb m after_mark h, ← e, ← f, ← g, ← d) z

pub mark_is : (text table items links rows : List ℕ) (i from j : ℕ) (r : Value) → from ≡ word_at items i column.first → j ≡ (row_at rows (from + 1)).first
    → r ≡ name_value text table items links i j → r ≡ mark_in text table items links i rows
unfolding mark_in
mark_is text table items links rows i from j r p q z = rw (← p, ← q) z

module _ (text table items links rows : List ℕ) (i m : ℕ) where
  pub formed_not : m < after_mark → Without state.broken ≡ formed_at text table items links i rows m
  unfolding formed_at
  formed_not h = rw (lt-ltb m after_mark h)

  module _ (class : ℕ) (mark r : Value) (h : after_mark ≤ m) (p : class ≡ word_at items i column.class) (q : mark ≡ mark_in text table items links i rows) where
    pub is_constant : (x : Outcome) → class ≡ classes.constant → x ≡ expression_at text table items links i rows after_mark m → r ≡ constant_of mark x → r ≡ formed_at text table items links i rows m
    unfolding formed_at
    is_constant x c e z = rw (le-ltb m after_mark h, ← p, eq-eqb class classes.constant c, ← q, ← e) z

    pub is_subtype : (class ≡ classes.constant → ⊥) → r ≡ bounded_at text table items links i rows m mark → r ≡ formed_at text table items links i rows m
    unfolding formed_at
    is_subtype c z = rw (le-ltb m after_mark h, ← p, ne_eqb class classes.constant c, ← q) z

module _ (text table links twins rows items : List ℕ) (i m : ℕ) (e : m ≡ rows_held rows items i) where
  pub is_broken : m ≡ 0 → Without state.broken ≡ value_at text table links twins rows items i
  unfolding value_at
  is_broken h = rw (← e, eq-eqb m 0 h)

  module _ (d : Bool) (h : m ≡ 0 → ⊥) (f : d ≡ doubled_in text table twins items i) where
    pub is_twice : d ≡ true → Without state.doubled ≡ value_at text table links twins rows items i
    unfolding value_at
    is_twice k = rw (← e, ne_eqb m 0 h, ← f, k)

    pub is_formed : (r : Value) → d ≡ false → r ≡ formed_at text table items links i rows m → r ≡ value_at text table links twins rows items i
    unfolding value_at
    is_formed r k z = rw (← e, ne_eqb m 0 h, ← f, k) z

-- ---- records completed

module _ (text table links twins rows items : List ℕ) (i class : ℕ) (x : Bool) (p : class ≡ word_at items i column.class) (q : x ≡ is_item class) where
  pub completed_item : (v : Value) (items' : List ℕ) → x ≡ true → v ≡ value_at text table links twins rows items i → items' ≡ sets items (record_words * i + column.state) (value_words v)
      → items' ≡ completed_at text table links twins rows items i
  unfolding completed_at
  completed_item v items' h e z = rw (← p, ← q, h, ← e) z

  pub completed_other : x ≡ false → items ≡ completed_at text table links twins rows items i
  unfolding completed_at
  completed_other h = rw (← p, ← q, h)

module _ (text table links twins rows whole : List ℕ) (most i : ℕ) where
  pub completed_turn : (items items' : List ℕ) → completed_from text table links twins rows items i (most - i) ≡ whole → i < most → items' ≡ completed_at text table links twins rows items i
      → completed_from text table links twins rows items' (i + 1) (most - (i + 1)) ≡ whole
  unfolding completed_from
  completed_turn items items' inv l e =
      let a : most - i ≡ suc (most - (i + 1)) = omega arith in
      let z : completed_from text table links twins rows (completed_at text table links twins rows items i) (suc i) (most - (i + 1)) ≡ whole = rw a at inv in
      ap (λ (l : List ℕ). completed_from text table links twins rows l (i + 1) (most - (i + 1))) e ∙ ap (λ (k : ℕ). completed_from text table links twins rows (completed_at text table links twins rows items i) k (most - (i + 1))) (add-one i) ∙ z

  pub completed_end : (items : List ℕ) → completed_from text table links twins rows items i (most - i) ≡ whole → most ≤ i → items ≡ whole
  unfolding completed_from
  completed_end items inv l = let a : most - i ≡ 0 = omega arith in rw a at inv

pub completed_start : (text table links twins rows items : List ℕ) (n most : ℕ) → most ≡ min n (length items / record_words)
    → completed_from text table links twins rows items 0 (most - 0) ≡ completed text table links twins rows items n
unfolding completed
completed_start text table links twins rows items n most e = let a : most - 0 ≡ min n (length items / record_words) = omega arith in rw a

-- four words, one after the other
pub four_stored : (l : List ℕ) (at : ℕ) (v : Value) (a b c d : ℕ) → a ≡ state_of v → b ≡ value_kind v → c ≡ low_of v → d ≡ high_of v
    → set (set (set (set l (at + column.state) a) (at + column.kind) b) (at + column.low) c) (at + column.high) d ≡ sets l (at + column.state) (value_words v)
four_stored l at v a b c d p q r s =
    let x : at + row_numbers ≡ suc (at + column.state) = omega arith in
    let y : at + column.low ≡ suc (suc (at + column.state)) = omega arith in
    let z : at + column.high ≡ suc (suc (suc (at + column.state))) = omega arith in
    rw (p, q, r, s, x, y, z)

pub range_le : (items rows : List ℕ) (i m b : ℕ) → b ≡ range_at items i rows m → b ≤ m
unfolding range_at
range_le items rows i m b e = omega arith
